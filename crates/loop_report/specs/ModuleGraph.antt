-- What the import loops are found by: the modules by their places, and the calls between them as lists.
use Rattle.std.specs.Prelude.{◌≡◌, ◌≢◌, ℕ, ◌<◌, ◌↔◌, ◌⊎◌, List, [], ◌∷◌, Some, slice_get, slice_index, length, map, All, AllPairs, Contains, codes}
use Rattle.std.specs.Borrow.{Bor}
use Rattle.std.specs.Ordering.{nat_cmp}
use Rattle.std.specs.Cmp.Lexicographic.{slice_cmp}
use Rattle.std.specs.declared.cmp.Ordering.TheVariants.{Less}
use Rattle.std.specs.List.Sorted.{IsStrictlyIncreasing}
use Rattle.graph_law.specs.Graph.{Calls}
use Rattle.graph_law.specs.Classes.{IsClass, IsRecursive, least_member}
use Rattle.module_table.specs.Facts.{Facts}
use Rattle.loop_report.specs.ImportLoops.{PlaceLoads, names_at}

-- texts that are lent
abbrev pub texts_of : List (Bor (List ℕ)) → List (List ℕ)
texts_of lent = map (λ text. text.now) lent

abbrev pub file_names : List Facts → List (List ℕ)
file_names files = map (λ (f : Facts). f.file) files

-- each is less than all that come after it
abbrev pub AreRising : List (List ℕ) → Type 0
AreRising names = AllPairs (λ m n. slice_cmp nat_cmp m n ≡ Less) names

-- for each file the place of its module
pub record AreModulePlaces (files : List Facts) (modules : List (List ℕ)) (places : List ℕ) : Type 0 where
  pub each : length places ≡ length files
  pub at : (k : ℕ) (f : Facts) → slice_get files k ≡ Some f → slice_get modules (slice_index places k) ≡ Some f.module_

-- one of these is the name of a file, for which that number stands
pub record HasLoad (names : List (List ℕ)) (places : List ℕ) (loads : List (List ℕ)) (q : ℕ) : Type 0 where
  pub file : ℕ
  pub name : List ℕ
  pub is_load : Contains loads name
  pub at : slice_get names file ≡ Some name
  pub place : slice_get places file ≡ Some q

-- the new list holds what the old one does, and the numbers that stand for the loaded files
abbrev pub AddsLoads : List (List ℕ) → List ℕ → List (List ℕ) → List ℕ → List ℕ → Type 0
AddsLoads names places loads old new = (q : ℕ) → Contains new q ↔ (Contains old q ⊎ HasLoad names places loads q)

-- there is a list for each module, and it holds the places of the modules that it loads
pub record AreLoadLists (files : List Facts) (modules : List (List ℕ)) (lists : List (List ℕ)) : Type 0 where
  pub each : length lists ≡ length modules
  pub calls : (i j : ℕ) → Calls lists i j ↔ PlaceLoads files modules i j

-- the class is an import loop by these lists
pub record IsRing (modules : List (List ℕ)) (lists : List (List ℕ)) (class : List ℕ) : Type 0 where
  pub within : All (λ i. i < length modules) class
  pub is_class : IsClass (Calls lists) class
  pub recursive : IsRecursive (Calls lists) class
  pub not_user : names_at modules class ≢ codes "user" ∷ []

-- all import loops by these lists, in order of their least members
pub record AreRings (modules : List (List ℕ)) (lists : List (List ℕ)) (classes : List (List ℕ)) : Type 0 where
  pub each : All (IsRing modules lists) classes
  pub all : (class : List ℕ) → IsRing modules lists class → Contains classes class
  pub in_order : IsStrictlyIncreasing (map least_member classes)
