-- Heads of clauses: what they define.
use Rattle.std.specs.Prelude.{ℕ, ◌==◌, List, [], ◌∷◌, Option, Some, None, Result, Ok, Err, Bool, true, false, if◌then◌else◌, codes}
use Rattle.std.specs.List.{list_any}
use Rattle.std.specs.Str.{bytes_eq}
use Rattle.prolog_terms.specs.Tree.{Tree, constant, atom, compound, listed, tailed, paren, more, none}
use Rattle.prolog_terms.specs.Views.{inside, sides_of, Named, name_and_arity, atom_name}
use Rattle.prolog_terms.specs.declared.term.ConstKind.{ConstKind}
use Rattle.prolog_terms.specs.declared.term.ConstKind.TheVariants.{Str}
use Rattle.clause_text.specs.declared.cause.Cause.TheVariants.{ControlHead, BadHead}
use Rattle.module_table.specs.Said.{Refusal, refused}

abbrev pub is_among : List (List ℕ) → List ℕ → Bool
is_among names name = list_any (λ word. bytes_eq word name) names

-- the control constructs of so many arguments, and the clauses of other kinds
abbrev pub control_names : ℕ → List (List ℕ)
control_names arity =
    if arity == 0 then codes "!" ∷ []
    else if arity == 1 then codes "\\+" ∷ codes ":-" ∷ codes "?-" ∷ []
    else if arity == 2 then codes "," ∷ codes ";" ∷ codes "|" ∷ codes "->" ∷ codes ":-" ∷ codes "-->" ∷ []
    else []

-- the empty list, the empty curly brackets, and what names no module
abbrev pub headless_names : ℕ → List (List ℕ)
headless_names arity =
    if arity == 0 then codes "[]" ∷ codes "{}" ∷ []
    else if arity == 2 then codes ":" ∷ []
    else []

-- what a head of this name defines
abbrev pub named_head : Tree → List ℕ → ℕ → Result Named Refusal
named_head tree name arity =
    if is_among (control_names arity) name then refused ControlHead tree
    else if is_among (headless_names arity) name then refused BadHead tree
    else Ok (record { name = name; arity = arity })

abbrev pub head_named : Tree → Option Named → Result Named Refusal
head_named tree (Some named) = named_head tree named.name named.arity
head_named tree None = refused BadHead tree

-- what a head without modules defines, an atom or a compound
abbrev pub plain_head : Tree → Result Named Refusal
plain_head tree = head_named tree (name_and_arity tree)

-- a term in a module
pub record Within : Type 0 where
  pub module_ : List ℕ
  pub tree : Tree

abbrev pub within : List ℕ → Tree → Within
within owner tree = record { module_ = owner; tree = tree }

-- the term behind the names of modules, in the innermost of these, and in the module of the file where none is named
abbrev pub behind_modules : List ℕ → Tree → Within
behind_modules owner (compound name (more left (more right none)) form span) =
    if bytes_eq name (codes ":") then
    elim (atom_name left) [ Some own ↦ behind_modules own right | None ↦ within owner (compound name (more left (more right none)) form span) ]
    else within owner (compound name (more left (more right none)) form span)
behind_modules owner (paren inner span) = behind_modules owner inner
behind_modules owner tree = within owner tree

-- the module, name and number of arguments of a predicate
pub record Owned : Type 0 where
  pub module_ : List ℕ
  pub name : List ℕ
  pub arity : ℕ

abbrev pub owned_by : List ℕ → Result Named Refusal → Result Owned Refusal
owned_by owner (Ok named) = Ok (record { module_ = owner; name = named.name; arity = named.arity })
owned_by owner (Err refusal) = Err refusal

abbrev pub head_within : Within → Result Owned Refusal
head_within own = owned_by own.module_ (plain_head own.tree)

-- what a head defines in a file of the module
abbrev pub head : List ℕ → Tree → Result Owned Refusal
head owner tree = head_within (behind_modules owner tree)

abbrev is_string : ConstKind → Bool
is_string Str = true
is_string _ = false

abbrev pub pushback_at : Tree → Bool
pushback_at (listed items span) = true
pushback_at (tailed items tail span) = true
pushback_at (constant kind minus value span) = is_string kind
pushback_at (atom name span) = bytes_eq name (codes "[]")
pushback_at tree = false

-- what may stand behind the comma in the head of a grammar rule: a list or a string
abbrev pub is_pushback : Tree → Bool
is_pushback tree = pushback_at (inside tree)

abbrev pub before_pushback : Tree → Option (Tree × Tree) → Tree
before_pushback tree (Some sides) = if is_pushback sides.1 then sides.0 else tree
before_pushback tree None = tree

-- the head of a grammar rule without its pushback
abbrev pub grammar_head : Tree → Tree
grammar_head tree = before_pushback tree (sides_of (codes ",") tree)
