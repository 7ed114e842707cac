-- Modules that import each other in a ring.
use Rattle.std.specs.Prelude.{◌≡◌, ◌≢◌, ℕ, ◌<◌, List, [], ◌∷◌, Some, slice_get, slice_index_or, length, map, All, AllPairs, Contains, codes}
use Rattle.std.specs.Ordering.{nat_cmp}
use Rattle.std.specs.Cmp.Lexicographic.{slice_cmp}
use Rattle.std.specs.declared.cmp.Ordering.TheVariants.{Less}
use Rattle.std.specs.List.Sorted.{IsStrictlyIncreasing}
use Rattle.graph_law.specs.Classes.{IsClass, IsRecursive, least_member}
use Rattle.module_table.specs.Said.{Loads}
use Rattle.module_table.specs.Facts.{Facts}

-- a file of the module has a load of a file of the other one
pub record LoadsModule (files : List Facts) (own other : List ℕ) : Type 0 where
  pub user : Facts
  pub load : Loads
  pub file : Facts
  pub is_reached : Contains files user
  pub has_load : Contains user.loads load
  pub is_loaded : Contains files file
  pub named : file.file ≡ load.file
  pub of_own : user.module_ ≡ own
  pub of_other : file.module_ ≡ other

-- the modules of the files, in order and each once
pub record AreModules (files : List Facts) (modules : List (List ℕ)) : Type 0 where
  pub in_order : AllPairs (λ m n. slice_cmp nat_cmp m n ≡ Less) modules
  pub each : All (λ m. (f : Facts) × Contains files f × (f.module_ ≡ m)) modules
  pub all : All (λ (f : Facts). Contains modules f.module_) files

-- the module at a place loads the one at the other
pub record PlaceLoads (files : List Facts) (modules : List (List ℕ)) (i j : ℕ) : Type 0 where
  pub own : List ℕ
  pub other : List ℕ
  pub at : slice_get modules i ≡ Some own
  pub at_other : slice_get modules j ≡ Some other
  pub loads : LoadsModule files own other

abbrev pub names_at : List (List ℕ) → List ℕ → List (List ℕ)
names_at modules class = map (λ i. slice_index_or modules i []) class

-- a class of two modules or more, or of one that isn't `user` and loads itself
pub record IsLoop (files : List Facts) (modules : List (List ℕ)) (class : List ℕ) : Type 0 where
  pub within : All (λ i. i < length modules) class
  pub is_class : IsClass (PlaceLoads files modules) class
  pub recursive : IsRecursive (PlaceLoads files modules) class
  pub not_user : names_at modules class ≢ codes "user" ∷ []

-- the loops, in order of their least names
pub record AreImportLoops (files : List Facts) (loops : List (List (List ℕ))) : Type 0 where
  pub modules : List (List ℕ)
  pub are_modules : AreModules files modules
  pub classes : List (List ℕ)
  pub each : All (IsLoop files modules) classes
  pub all : (class : List ℕ) → IsLoop files modules class → Contains classes class
  pub in_order : IsStrictlyIncreasing (map least_member classes)
  pub are : loops ≡ map (names_at modules) classes
