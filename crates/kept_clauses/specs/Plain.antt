-- What calls need of a clause: the name of its head, and its goals. A goal that makes one call, whatever a program declares, is known by its name.
use Rattle.std.specs.Prelude.{ℕ, zero, suc, ◌&&◌, nat_le, not, List, [], ◌∷◌, ◌++◌, Option, Some, None, Bool, true, false, if◌then◌else◌, codes}
use Rattle.std.specs.List.{list_any}
use Rattle.std.specs.Str.{bytes_eq}
use Rattle.prolog_terms.specs.declared.term.Span.{Span}
use Rattle.prolog_terms.specs.declared.term.Form.TheVariants.{Functional, Infix}
use Rattle.prolog_terms.specs.Tree.{Tree, Trees, variable, constant, atom, compound, listed, tailed, curly, paren, none, more, count}
use Rattle.prolog_terms.specs.Tree.{span_of}
use Rattle.prolog_terms.specs.Views.{inside, sides_of, Named, name_and_arity}

-- whether the name is one of them
abbrev pub is_one_of : List (List ℕ) → List ℕ → Bool
is_one_of names name = list_any (λ word. bytes_eq word name) names

-- control constructs of two goals
abbrev pub control_names : List (List ℕ)
control_names = codes "," ∷ codes ";" ∷ codes "|" ∷ codes "->" ∷ []

-- names with a meaning of their own, as heads or as goals with arguments: control constructs, modules, clauses, and what is no head
abbrev pub reserved_names : List (List ℕ)
reserved_names =
    codes "," ∷ codes ";" ∷ codes "|" ∷ codes "->" ∷ codes "\\+" ∷ codes "!" ∷ codes ":" ∷ codes ":-" ∷ codes "?-" ∷ codes "-->" ∷ codes "[]" ∷ codes "{}" ∷ []

-- any other name
abbrev pub is_free : List ℕ → Bool
is_free name = not (is_one_of reserved_names name)

-- an offset and a number of arguments that fit in 29 bits together: each offset of a text, and at most 63 arguments
abbrev pub last_offset : ℕ
last_offset = 8388607

abbrev pub most_arguments : ℕ
most_arguments = 63

abbrev pub fits : ℕ → ℕ → Bool
fits at arity = nat_le at last_offset && nat_le arity most_arguments

abbrev pub is_plain_name : ℕ → List ℕ → ℕ → Bool
is_plain_name at name arity = is_free name && fits at arity

-- a variable or a list, in any brackets: it is no goal and has none within, whatever a program declares
abbrev pub silent : Tree → Bool
silent (variable span) = true
silent (listed items span) = true
silent (tailed items tail span) = true
silent (paren inner span) = silent inner
silent _ = false

abbrev pub all_silent : Trees → Bool
all_silent none = true
all_silent (more tree trees) = silent tree && all_silent trees

-- a call of a name in the module of the clause, with the offset at which its goal starts
pub record PlainCall : Type 0 where
  pub at : ℕ
  pub name : List ℕ
  pub arity : ℕ

-- a goal: one call, whatever a program declares, or a term that may call more
pub data PlainGoal : Type 0 where
  called : PlainCall → PlainGoal
  whole : Tree → PlainGoal

-- a compound that is no control construct: a call, if its name is free and nothing in its arguments can be a goal
abbrev pub compound_goal : ℕ → List ℕ → Trees → Tree → PlainGoal
compound_goal at name args tree =
    if is_plain_name at name (count args) && all_silent args then called (record { at = at; name = name; arity = count args }) else whole tree

-- an atom is a call, whatever its name
abbrev pub atom_goal : ℕ → List ℕ → Tree → PlainGoal
atom_goal at name tree = if fits at 0 then called (record { at = at; name = name; arity = 0 }) else whole tree

-- the goals of a body, in order: those within control constructs of two goals and brackets; a negation is one goal, and a variable, a list and curly brackets
-- have none
abbrev pub body_goals : Tree → List PlainGoal
body_goals (variable span) = []
body_goals (constant kind minus value span) = whole (constant kind minus value span) ∷ []
body_goals (atom name span) = atom_goal span.from name (atom name span) ∷ []
body_goals (compound name (more left (more right none)) form span) =
    if is_one_of control_names name then body_goals left ++ body_goals right
    else compound_goal span.from name (more left (more right none)) (compound name (more left (more right none)) form span) ∷ []
body_goals (compound name args form span) = compound_goal span.from name args (compound name args form span) ∷ []
body_goals (listed items span) = []
body_goals (tailed items tail span) = []
body_goals (curly inner span) = []
body_goals (paren inner span) = body_goals inner

-- a clause: its position, which predicate of the module it defines, and the goals of its body, if it is a rule
pub record PlainClause : Type 0 where
  pub span : Span
  pub name : List ℕ
  pub arity : ℕ
  pub body : Option (List PlainGoal)

-- the position of a clause, inside its brackets
abbrev pub clause_span : Tree → Span
clause_span tree = span_of (inside tree)

-- the clause with that head, if the head has a free name
abbrev pub clause_named : Span → Option (List PlainGoal) → Option Named → Option PlainClause
clause_named span body (Some head) =
    if is_plain_name span.from head.name head.arity then Some (record { span = span; name = head.name; arity = head.arity; body = body }) else None
clause_named span body None = None

-- a rule by its two sides; any other term is its own head
abbrev pub clause_by : Tree → Option (Tree × Tree) → Option PlainClause
clause_by tree (Some rule) = clause_named (clause_span tree) (Some (body_goals rule.1)) (name_and_arity rule.0)
clause_by tree None = clause_named (clause_span tree) None (name_and_arity tree)

-- the plain form of a rule or a fact; directives, grammar rules and heads of another module have none
abbrev pub plain_clause : Tree → Option PlainClause
plain_clause tree = clause_by tree (sides_of (codes ":-") tree)

-- plain forms as terms, with variables for arguments

abbrev pub span_at : ℕ → Span
span_at at = record { from = at; to = at }

abbrev pub variables : ℕ → Trees
variables zero = none
variables (suc n) = more (variable (span_at 0)) (variables n)

-- an atom, or a compound of so many variables
abbrev pub named_tree : Span → List ℕ → ℕ → Tree
named_tree span name zero = atom name span
named_tree span name (suc n) = compound name (variables (suc n)) Functional span

abbrev pub infix_tree : Span → List ℕ → Tree → Tree → Tree
infix_tree span name left right = compound name (more left (more right none)) Infix span

abbrev pub goal_tree : PlainGoal → Tree
goal_tree (called call) = named_tree (span_at call.at) call.name call.arity
goal_tree (whole tree) = tree

-- a goal and those after it, joined by commas
abbrev pub goals_from : PlainGoal → List PlainGoal → Tree
goals_from goal [] = goal_tree goal
goals_from goal (next ∷ goals) = infix_tree (span_at 0) (codes ",") (goal_tree goal) (goals_from next goals)

-- a body without goals is a variable
abbrev pub body_tree : List PlainGoal → Tree
body_tree [] = variable (span_at 0)
body_tree (goal ∷ goals) = goals_from goal goals

abbrev pub written_as : PlainClause → Option (List PlainGoal) → Tree
written_as clause (Some goals) = infix_tree clause.span (codes ":-") (named_tree (span_at 0) clause.name clause.arity) (body_tree goals)
written_as clause None = named_tree clause.span clause.name clause.arity

-- a plain form as a clause
abbrev pub written : PlainClause → Tree
written clause = written_as clause clause.body

-- the plain tree of a clause: that of its plain form, if it has one
abbrev pub plain : Tree → Tree
plain tree = elim (plain_clause tree) [ Some clause ↦ written clause | None ↦ tree ]
