-- Counts of faults and misses: a count that rises stands still at the end of its type.
use Rattle.std.specs.Prelude.{◌≡◌, ℕ, ◌+◌, ◌<◌, ◌≤◌, ◌⊎◌, min}
use Rattle.file_library.specs.declared.library.Read.{Read}
use Rattle.file_library.specs.declared.library.Read.TheVariants.{Absent, Failed}

-- the count rose, or stands at its end and can't
abbrev pub Rose : ℕ → ℕ → Type 0
Rose old new = (old < new) ⊎ (18446744073709551615 ≤ old)

-- one more, or the end of the type
abbrev pub one_more : ℕ → ℕ
one_more count = min (count + 1) 18446744073709551615

-- an answer `Failed` counts one fault, an answer `Absent` one miss, and nothing else is counted
abbrev pub CountsAre : ℕ → ℕ → ℕ → ℕ → Read → Type 0
CountsAre faults faults' misses misses' Failed = (faults' ≡ one_more faults) × (misses' ≡ misses)
CountsAre faults faults' misses misses' Absent = (faults' ≡ faults) × (misses' ≡ one_more misses)
CountsAre faults faults' misses misses' _ = (faults' ≡ faults) × (misses' ≡ misses)
