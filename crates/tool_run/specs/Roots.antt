-- Where reach begins: at the roots of a program, or at those that a list names.
use Rattle.std.specs.Prelude.{◌≡◌, ℕ, ◌↔◌, List, [], ◌∷◌, ◌++◌, Option, Some, None, All, Contains, slice_get}
use Rattle.std.specs.List.Sorted.{IsStrictlyIncreasing}
use Rattle.import_rules.specs.declared.names.PredName.{PredName}
use Rattle.import_rules.specs.Program.{Seen}
use Rattle.call_edges.specs.Calls.{IsAmong}
use Rattle.call_edges.specs.Roots.{IsRoot}
use Rattle.tool_run.specs.declared.roots.RootStop.{RootStop}
use Rattle.tool_run.specs.declared.roots.RootStop.TheVariants.{NoPredicate, NoMemory}

-- the predicate of that number has the name
abbrev pub IsNamed : List PredName → PredName → ℕ → Type 0
IsNamed predicates name q = slice_get predicates q ≡ Some name

-- reach begins at the predicate of that number
abbrev pub IsRootBy : Option (List PredName) → Seen → ℕ → Type 0
IsRootBy None seen q = IsRoot seen q
IsRootBy (Some list) seen q = IsAmong (IsNamed seen.predicates) list q

-- the numbers of the predicates at which reach begins, ascending and each once
pub record AreRootNumbers (list : Option (List PredName)) (seen : Seen) (roots : List ℕ) : Type 0 where
  pub ascending : IsStrictlyIncreasing roots
  pub are : (q : ℕ) → Contains roots q ↔ IsRootBy list seen q

-- the first name of the list that is no name of a predicate
pub record IsFirstMissing (predicates list : List PredName) (name : PredName) : Type 0 where
  pub before : List PredName
  pub after : List PredName
  pub is : list ≡ before ++ name ∷ after
  pub there : All (Contains predicates) before
  pub missing : Contains predicates name → ⊥

-- the names that are asked for: those of the list, and the two ends of a path behind them
abbrev pub asked_names : Option (PredName × PredName) → Option (List PredName) → Option (List PredName)
asked_names None roots = roots
asked_names (Some both) None = Some (both.0 ∷ both.1 ∷ [])
asked_names (Some both) (Some list) = Some (list ++ both.0 ∷ both.1 ∷ [])

-- the list names a predicate that the program does not have, and this is the first such name
abbrev pub LacksRoot : Option (List PredName) → Seen → PredName → Type 0
LacksRoot None seen name = ⊥
LacksRoot (Some list) seen name = IsFirstMissing seen.predicates list name

-- the program has all predicates that the list names
abbrev pub HasRoots : Option (List PredName) → Seen → Type 0
HasRoots None seen = Unit {0}
HasRoots (Some list) seen = All (Contains seen.predicates) list

-- the numbers of the two ends of a path
abbrev pub AreEnds : Option (PredName × PredName) → Seen → Option (ℕ × ℕ) → Type 0
AreEnds None seen None = Unit {0}
AreEnds (Some both) seen (Some ends) = IsNamed seen.predicates both.0 ends.0 × IsNamed seen.predicates both.1 ends.1
AreEnds both seen ends = ⊥

-- why a name has no number: none of the predicates has it, or memory was wanting
abbrev pub IsEndStop : List PredName → PredName → RootStop → Type 0
IsEndStop predicates name (NoPredicate root) = (root ≡ name) × (Contains predicates name → ⊥)
IsEndStop predicates name NoMemory = Unit {0}

-- why there are no roots: one is missing, or memory was wanting
abbrev pub IsRootStop : Option (List PredName) → Seen → RootStop → Type 0
IsRootStop list seen (NoPredicate root) = LacksRoot list seen root
IsRootStop list seen NoMemory = Unit {0}
