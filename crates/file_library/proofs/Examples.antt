-- What some answers of a library are, and what they aren't.
use Rattle.std.proofs.Common.{◌≡◌, inl, inr, ℕ, List, [], ◌∷◌, length, Option, Some, None, codes, if◌then◌else◌, refl, ap, subst, ◌∙◌, arith}
use Rattle.std.proofs.lemmas.List.{length-take}
use Rattle.std.specs.Prelude.{take}
use Rattle.std.specs.Str.{bytes_eq}
use Rattle.file_library.specs.Counts.{Rose, CountsAre}
use Rattle.file_library.specs.Library.{Files, Answered, LibrarySeen, library_seen, IsFound, ReadIs, AskedIs, AnsweredIs}
use Rattle.file_library.specs.declared.library.Read.TheVariants.{Found, Absent, Failed, NoMemory}

-- a count rises by one, or stands at its end; but not elsewhere

rises : Rose 3 4
rises = inl (omega arith)

stands_at_its_end : Rose 18446744073709551615 18446744073709551615
stands_at_its_end = inr (omega arith)

still : Rose 3 3 → ⊥
still (inl more) = omega (arith, more)
still (inr end) = omega (arith, end)

fault_counted : CountsAre 3 4 7 7 Failed
fault_counted = (refl, refl)

miss_counted : CountsAre 3 3 18446744073709551615 18446744073709551615 Absent
miss_counted = (refl, refl)

found_counts_nothing : CountsAre 3 3 7 7 Found
found_counts_nothing = (refl, refl)

miss_taken_for_a_fault : CountsAre 3 4 7 7 Absent → ⊥
miss_taken_for_a_fault counts = omega (arith, counts.0)

-- a library of one file of three bytes

abbrev one_file : Files
one_file name = if bytes_eq name (codes "f") then Some (codes "abc") else None

-- the bytes at the name f, or none
abbrev held : Option (List ℕ) → ℕ
held (Some bytes) = length bytes
held None = 0

-- fewer than two bytes are not the first two of three
short : (bytes : List ℕ) → 3 ≡ length bytes → 1 ≡ length (take 2 bytes) → ⊥
short bytes three one = omega (arith, one ∙ length-take 2 bytes, three)

-- what is told of the map is true of the one that was told
as_told : (P : Files → Type 0) → P one_file → (files : Files) → Some one_file ≡ Some files → P files
as_told P holds files told = let Q : Option Files → Type 0 = λ some. elim some [ Some map ↦ P map | None ↦ Unit {0} ] in subst Q told holds

-- a library that has counted so many faults and misses
abbrev counted : Option Files → ℕ → ℕ → LibrarySeen
counted told faults misses = library_seen told [] [] faults misses

whole_file : ReadIs (counted (Some one_file) 0 0) (counted (Some one_file) 0 0) (codes "f") 3 (codes "abc") Found
whole_file =
    (omega arith, as_told (λ files. IsFound files (codes "f") 3 (codes "abc")) (record { bytes = codes "abc"; has = refl; is = refl }))

-- a longer one is read to one byte past the limit
first_bytes : ReadIs (counted (Some one_file) 0 0) (counted (Some one_file) 0 0) (codes "f") 1 (codes "ab") Found
first_bytes =
    (omega arith, as_told (λ files. IsFound files (codes "f") 1 (codes "ab")) (record { bytes = codes "abc"; has = refl; is = refl }))

no_such_file : ReadIs (counted (Some one_file) 0 0) (counted (Some one_file) 0 1) (codes "g") 3 [] Absent
no_such_file = (refl, inl (omega arith), as_told (λ files. files (codes "g") ≡ None) refl)

there_all_the_same : ReadIs (counted (Some one_file) 0 0) (counted (Some one_file) 0 1) (codes "f") 3 [] Absent → ⊥
there_all_the_same is = omega (arith, ap held (is.2 one_file refl))

cut_at_the_limit : ReadIs (counted (Some one_file) 0 0) (counted (Some one_file) 0 0) (codes "f") 1 (codes "a") Found → ⊥
cut_at_the_limit is =
    let found : IsFound one_file (codes "f") 1 (codes "a") = is.1 one_file refl in
    omega (arith, short found.bytes (ap held found.has) (ap length found.is))

failed_for_nothing : ReadIs (counted None 5 0) (counted None 5 0) (codes "f") 3 [] Failed → ⊥
failed_for_nothing is = elim is.1 [ inl more ↦ omega (arith, more) | inr end ↦ omega (arith, end) ]

-- the name stands last among those that were asked for

asked_last : AskedIs (codes "a" ∷ []) (codes "a" ∷ codes "f" ∷ []) (codes "f") Found
asked_last = refl

not_asked : AskedIs (codes "a" ∷ []) (codes "a" ∷ []) (codes "f") Failed → ⊥
not_asked is = omega (arith, ap length is)

as_before : AskedIs (codes "a" ∷ []) (codes "a" ∷ []) (codes "f") NoMemory
as_before = inl refl

-- an absent name is an answer too, and a read that failed is none

absent_told : AnsweredIs [] (record { name = codes "g"; text = None } ∷ []) (codes "g") [] Absent
absent_told = refl

absent_forgotten : AnsweredIs [] [] (codes "g") [] Absent → ⊥
absent_forgotten is = omega (arith, ap length is)

failed_told : AnsweredIs [] (record { name = codes "g"; text = None } ∷ []) (codes "g") [] Failed → ⊥
failed_told is = omega (arith, ap length is)
