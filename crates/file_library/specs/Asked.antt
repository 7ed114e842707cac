-- Which files are asked for, and in what order, over any relation of files that load files: `loads p q` says that p is there, reads without fault and loads q.
use Rattle.std.specs.Prelude.{ℕ, zero, suc, ◌<◌, List, [], length, Contains, slice_index_or}
use Rattle.std.specs.List.{flat_map}
use Rattle.std.specs.List.Sorted.{IsStrictlySortedBy}
use Rattle.std.specs.Ordering.{nat_cmp}
use Rattle.std.specs.Cmp.Lexicographic.{slice_cmp}

-- so many loads lead from a root to the file
abbrev pub LeadsIn : (List ℕ → List ℕ → Type 0) → List (List ℕ) → ℕ → List ℕ → Type 0
LeadsIn loads roots zero name = Contains roots name
LeadsIn loads roots (suc n) name = (user : List ℕ) × LeadsIn loads roots n user × loads user name

-- some loads lead from a root to the file
abbrev pub IsAsked : (List ℕ → List ℕ → Type 0) → List (List ℕ) → List ℕ → Type 0
IsAsked loads roots name = (n : ℕ) × LeadsIn loads roots n name

-- so many loads lead to the file, and no fewer
pub record IsInWave (loads : List ℕ → List ℕ → Type 0) (roots : List (List ℕ)) (n : ℕ) (name : List ℕ) : Type 0 where
  pub there : LeadsIn loads roots n name
  pub first : (k : ℕ) → k < n → LeadsIn loads roots k name → ⊥

abbrev pub wave_at : List (List (List ℕ)) → ℕ → List (List ℕ)
wave_at waves n = slice_index_or waves n []

-- in order, each once
abbrev pub AreInOrder : List (List ℕ) → Type 0
AreInOrder names = IsStrictlySortedBy (slice_cmp nat_cmp) names

-- the names to which so many loads lead and no fewer, in order
pub record IsWave (loads : List ℕ → List ℕ → Type 0) (roots : List (List ℕ)) (n : ℕ) (wave : List (List ℕ)) : Type 0 where
  pub ordered : AreInOrder wave
  pub sound : (name : List ℕ) → Contains wave name → IsInWave loads roots n name
  pub all : (name : List ℕ) → IsInWave loads roots n name → Contains wave name

-- the first waves, one after another
abbrev pub AreFirstWaves : (List ℕ → List ℕ → Type 0) → List (List ℕ) → List (List (List ℕ)) → Type 0
AreFirstWaves loads roots waves = (n : ℕ) → n < length waves → IsWave loads roots n (wave_at waves n)

-- the waves, all of them
abbrev pub AreWaves : (List ℕ → List ℕ → Type 0) → List (List ℕ) → List (List (List ℕ)) → Type 0
AreWaves loads roots waves = (n : ℕ) → IsWave loads roots n (wave_at waves n)

-- the names of the waves, wave by wave
abbrev pub names_in : List (List (List ℕ)) → List (List ℕ)
names_in waves = flat_map (λ wave. wave) waves
