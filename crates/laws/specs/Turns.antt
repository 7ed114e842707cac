-- What the single clauses of a file say, and the first of them that is refused.
use Rattle.std.specs.Prelude.{ℕ, ◌≡◌, List, [], ◌∷◌, ◌++◌, Option, None, Ok, Err, true, false, map, flat_map}
use Rattle.std.specs.List.{filter_map}
use Rattle.prolog_terms.specs.Tree.{Tree}
use Rattle.module_table.specs.Defined.{AreDefined}
use Rattle.module_table.specs.Said.{Said, Part, Declares, Refusal}
use Rattle.module_table.specs.Kinds.{declared_part, load_part, defined_part, goal_part, first_of, IsModule, takes_part, marks_part}
use Rattle.module_table.specs.Directives.{Home, home}
use Rattle.module_table.specs.Facts.{Facts, module_by, module_of, clause_said}

-- what each of the clauses of a file says, in order
abbrev pub clauses_said : Home → List Tree → List Said
clauses_said user [] = []
clauses_said user (tree ∷ trees) = clause_said user true tree ∷ map (clause_said user false) trees

-- what a clause says behind these
abbrev pub said_behind : Home → List Tree → Tree → Said
said_behind user [] tree = clause_said user true tree
said_behind user (first ∷ before) tree = clause_said user false tree

abbrev pub told : List Part → Said
told parts = Ok parts

-- each clause says the parts of its list, and none is refused
abbrev pub AreTold : Home → List Tree → List (List Part) → Type 0
AreTold user trees lists = clauses_said user trees ≡ map told lists

-- those of each list, in order
abbrev pub all_of : List (List Part) → List Part
all_of lists = flat_map (λ parts. parts) lists

-- the refusal is that of a clause before which none is refused
pub record IsFirstRefusal (user : Home) (trees : List Tree) (refusal : Refusal) : Type 0 where
  pub before : List Tree
  pub tree : Tree
  pub after : List Tree
  pub are : trees ≡ before ++ tree ∷ after
  pub lists : List (List Part)
  pub told_before : AreTold user before lists
  pub refused : said_behind user before tree ≡ Err refusal

-- each clause says the parts of its list, and the facts are these: each load, definition, declaration of goal arguments,
-- declared property and goal of a clause in its turn, and no others
pub record AreFactsOfEach (user : List ℕ) (trees : List Tree) (facts : Facts) : Type 0 where
  pub lists : List (List Part)
  pub are : AreTold (home user (module_of trees)) trees lists
  pub of_module : IsModule (first_of (flat_map (filter_map declared_part) lists)) facts.module_ facts.is_module facts.module_from facts.exports
  pub loads : facts.loads ≡ flat_map (filter_map load_part) lists
  pub defined : AreDefined (flat_map (filter_map defined_part) lists) facts.defined
  pub metas : facts.metas ≡ flat_map (filter_map takes_part) lists
  pub marks : facts.marks ≡ flat_map (filter_map marks_part) lists
  pub goals : facts.goals ≡ flat_map (filter_map goal_part) lists

-- the module that a clause declares
abbrev pub module_in : Said → Option Declares
module_in (Ok parts) = first_of (filter_map declared_part parts)
module_in (Err refusal) = None

-- the module that the first clause of a file declares
abbrev pub first_module : List ℕ → List Tree → Option Declares
first_module user [] = None
first_module user (tree ∷ trees) = module_in (clause_said (home user (module_by tree)) true tree)
