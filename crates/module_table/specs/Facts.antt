-- What the clauses of a file say, and the facts of the file.
use Rattle.std.specs.Prelude.{ℕ, ◌≡◌, List, [], ◌∷◌, Option, Some, None, Result, Ok, Err, Bool, true, false, if◌then◌else◌, codes}
use Rattle.std.specs.Prelude.{map, flat_map, ◌+◌, ◌&&◌, nat_eq}
use Rattle.std.specs.Arc.{arc_value}
use Rattle.std.specs.List.{filter_map}
use Rattle.std.specs.Str.{bytes_eq}
use Rattle.prolog_terms.specs.Tree.{Tree}
use Rattle.prolog_terms.specs.Terms.{tree_in}
use Rattle.prolog_terms.specs.Views.{Binary, binary, sides_of, atom_name}
use Rattle.clause_text.specs.Items.{directive_of}
use Rattle.module_table.specs.declared.indicator.Indicator.{Indicator}
use Rattle.module_table.specs.declared.file_facts.FileFacts.{FileFacts}
use Rattle.module_table.specs.declared.file_facts.DirectiveGoals.{DirectiveGoals}
use Rattle.module_table.specs.Defined.{Predicate, AreDefined, see_defined}
use Rattle.module_table.specs.Metas.{Declaration, see_meta}
use Rattle.module_table.specs.Marks.{Marked, see_mark}
use Rattle.module_table.specs.Said.{Said, Part, Loads, defines, nothing, only, Refusal, in_turn, each_said, see_load}
use Rattle.module_table.specs.Heads.{Owned, head, grammar_head}
use Rattle.module_table.specs.Directives.{Home, home, directive_said}
use Rattle.module_table.specs.Kinds.{declared_part, load_part, defined_part, goal_part, first_of, IsModule, takes_part, marks_part}

abbrev pub with_added : ℕ → Result Owned Refusal → Result Owned Refusal
with_added added (Ok own) = Ok (record { module_ = own.module_; name = own.name; arity = own.arity + added })
with_added added (Err refusal) = Err refusal

-- a rule by the head before its `:-`, a grammar rule by the head before its `-->`, whose predicate has two arguments more
abbrev pub head_with : List ℕ → Tree → Option Binary → Result Owned Refusal
head_with owner tree (Some pair) =
    if bytes_eq pair.name (codes ":-") then head owner pair.left
    else if bytes_eq pair.name (codes "-->") then with_added 2 (head owner (grammar_head pair.left))
    else head owner tree
head_with owner tree None = head owner tree

-- the predicate that a clause defines which is no directive, in a file of the module
abbrev pub clause_head : List ℕ → Tree → Result Owned Refusal
clause_head owner tree = head_with owner tree (binary tree)

-- whether that is the predicate of the module, name and arity
abbrev pub is_headed : List ℕ → List ℕ → ℕ → Result Owned Refusal → Bool
is_headed owner name arity (Ok own) = bytes_eq owner own.module_ && (bytes_eq name own.name && nat_eq arity own.arity)
is_headed owner name arity (Err refusal) = false

-- whether the term is a clause of the predicate, in a file of the module `own`
abbrev pub is_clause_of : List ℕ → List ℕ → List ℕ → ℕ → Tree → Bool
is_clause_of own owner name arity tree = elim (directive_of tree) [ Some term ↦ false | None ↦ is_headed owner name arity (clause_head own tree) ]

abbrev pub headed : Result Owned Refusal → Tree → Said
headed (Ok own) tree = only (defines (record { module_ = own.module_; name = own.name; arity = own.arity; clause = Some tree }))
headed (Err refusal) tree = Err refusal

-- what a clause says; first tells whether it is the first of the file
abbrev pub clause_said : Home → Bool → Tree → Said
clause_said user first tree = elim (directive_of tree) [ Some term ↦ directive_said user first term | None ↦ headed (clause_head user.module_ tree) tree ]

abbrev pub named_module : Option (Tree × Tree) → List ℕ
named_module (Some sides) = elim (atom_name sides.0) [ Some own ↦ own | None ↦ codes "user" ]
named_module None = codes "user"

-- the module of a file that begins with the clause
abbrev pub module_by : Tree → List ℕ
module_by tree = elim (directive_of tree) [ Some term ↦ named_module (sides_of (codes "module") term) | None ↦ codes "user" ]

-- the module of a file with these clauses
abbrev pub module_of : List Tree → List ℕ
module_of [] = codes "user"
module_of (tree ∷ trees) = module_by tree

-- what clauses say in a file of that name and module, in order
abbrev pub trees_said : Home → List Tree → Said
trees_said user [] = nothing
trees_said user (tree ∷ trees) = in_turn (clause_said user true tree) (each_said (clause_said user false) trees)

-- what the clauses of a file say, in order
abbrev pub file_said : List ℕ → List Tree → Said
file_said file trees = trees_said (home file (module_of trees)) trees

-- the facts of a file, with the clauses as trees
pub record Facts : Type 0 where
  pub file : List ℕ
  pub module_ : List ℕ
  pub is_module : Bool
  pub module_from : ℕ
  pub exports : List Indicator
  pub loads : List Loads
  pub defined : List Predicate
  pub metas : List Declaration
  pub marks : List Marked
  pub goals : List Tree

-- the goals of a directive, whose names are numbers in these names
abbrev pub goal_trees : List (List ℕ) → DirectiveGoals → List Tree
goal_trees names goals = map (tree_in names (arc_value goals.list).1) goals.ends.items

abbrev pub see_facts : FileFacts → Facts
see_facts f = record {
  file = f.file;
  module_ = f.module;
  is_module = f.is_module;
  module_from = f.module_from;
  exports = f.exports.items;
  loads = map see_load f.loads.items;
  defined = map (see_defined f.names) f.defined.items;
  metas = map see_meta f.metas.items;
  marks = map (see_mark f.names) f.marks.items;
  goals = flat_map (goal_trees f.names) f.goals.items;
}

-- the facts that the parts are
pub record AreFactsOf (user : List ℕ) (parts : List Part) (facts : Facts) : Type 0 where
  pub file : facts.file ≡ user
  pub of_module : IsModule (first_of (filter_map declared_part parts)) facts.module_ facts.is_module facts.module_from facts.exports
  pub loads : facts.loads ≡ filter_map load_part parts
  pub defined : AreDefined (filter_map defined_part parts) facts.defined
  pub metas : facts.metas ≡ filter_map takes_part parts
  pub marks : facts.marks ≡ filter_map marks_part parts
  pub goals : facts.goals ≡ filter_map goal_part parts

-- the facts of a file with these clauses
pub record AreFacts (user : List ℕ) (trees : List Tree) (facts : Facts) : Type 0 where
  pub parts : List Part
  pub said : file_said user trees ≡ Ok parts
  pub are : AreFactsOf user parts facts
