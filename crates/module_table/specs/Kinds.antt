-- The parts of a file by kind.
use Rattle.std.specs.Prelude.{ℕ, ◌≡◌, List, [], ◌∷◌, ◌++◌, Option, Some, None, Result, Ok, Err, Bool, true, false, codes}
use Rattle.prolog_terms.specs.Tree.{Tree}
use Rattle.module_table.specs.declared.indicator.Indicator.{Indicator}
use Rattle.module_table.specs.Defined.{Defines}
use Rattle.module_table.specs.Metas.{Declaration}
use Rattle.module_table.specs.Marks.{Marked, defined_bare}
use Rattle.module_table.specs.Said.{Part, Said, Refusal, Declares, Loads, declares, loads, defines, takes, marks, goal}

abbrev pub declared_part : Part → Option Declares
declared_part (declares own) = Some own
declared_part part = None

abbrev pub load_part : Part → Option Loads
load_part (loads own) = Some own
load_part part = None

-- a property is declared of what is thereby defined
abbrev pub defined_part : Part → Option Defines
defined_part (defines own) = Some own
defined_part (marks own) = Some (defined_bare own)
defined_part part = None

abbrev pub takes_part : Part → Option Declaration
takes_part (takes own) = Some own
takes_part part = None

abbrev pub marks_part : Part → Option Marked
marks_part (marks own) = Some own
marks_part part = None

abbrev pub goal_part : Part → Option Tree
goal_part (goal own) = Some own
goal_part part = None

abbrev pub first_of : {A : Type 0} → List A → Option A
first_of [] = None
first_of (x ∷ xs) = Some x

-- the first one stays
abbrev pub first_module_seen : Option Declares → Declares → Option Declares
first_module_seen (Some first) own = Some first
first_module_seen None own = Some own

-- the module of a file, whether it is declared, where, and what it exports; a file that declares none belongs to `user`
abbrev pub IsModule : Option Declares → List ℕ → Bool → ℕ → List Indicator → Type 0
IsModule (Some own) name is_declared from exports = (name ≡ own.name) × (is_declared ≡ true) × (from ≡ own.from) × (exports ≡ own.exports)
IsModule None name is_declared from exports = (name ≡ codes "user") × (is_declared ≡ false) × (from ≡ 0) × (exports ≡ [])

-- what is said, by kind
pub record ByKind : Type 0 where
  pub declared : Option Declares
  pub loads : List Loads
  pub definitions : List Defines
  pub takes : List Declaration
  pub marks : List Marked
  pub goals : List Tree

abbrev pub none_said : ByKind
none_said = record { declared = None; loads = []; definitions = []; takes = []; marks = []; goals = [] }

-- one part more
abbrev pub with_part : ByKind → Part → ByKind
with_part k (declares own) = record k { declared = first_module_seen k.declared own }
with_part k (loads own) = record k { loads = k.loads ++ own ∷ [] }
with_part k (defines own) = record k { definitions = k.definitions ++ own ∷ [] }
with_part k (takes own) = record k { takes = k.takes ++ own ∷ [] }
with_part k (marks own) = record k { definitions = k.definitions ++ defined_bare own ∷ []; marks = k.marks ++ own ∷ [] }
with_part k (goal own) = record k { goals = k.goals ++ own ∷ [] }

abbrev pub with_parts : ByKind → List Part → ByKind
with_parts k [] = k
with_parts k (part ∷ parts) = with_parts (with_part k part) parts

-- these, and what is said behind them
abbrev pub with_said : ByKind → Said → Result ByKind Refusal
with_said k (Ok parts) = Ok (with_parts k parts)
with_said k (Err refusal) = Err refusal
