-- What the files up to one define, and the predicates of a file up to one.
use Rattle.std.proofs.Common.{◌≡◌, ℕ, zero, suc, ◌+◌, ◌<◌, ◌≤◌, List, [], ◌∷◌, ◌++◌, Some, length, map, take, flat_map, get_or, refl, sym, ap, subst, ◌∙◌, arith, append_assoc, append-nil}
use Rattle.std.specs.Prelude.{slice_get}
use Rattle.std.specs.List.{enumerate_from, range_with_len}
use Rattle.std.proofs.lemmas.Grind.{flat_map-append}
use Rattle.std.proofs.lemmas.List.{take_more, take_all, map-append, get_or-map, length-map}
use Rattle.std.proofs.lemmas.List.FromFn.{length-enumerate_from, get_or-enumerate_from}
use Rattle.std.proofs.lemmas.Option.{slice_get-get_or, get_or_from_slice_get}
use Rattle.module_table.specs.declared.defined.Defined.{Defined}
use Rattle.module_table.specs.declared.file_facts.FileFacts.{FileFacts}
use Rattle.module_table.specs.Defined.{Predicate, see_defined}
use Rattle.module_table.specs.Facts.{Facts, see_facts}
use Rattle.import_rules.specs.Files.{name_in}
use Rattle.import_rules.specs.Numbers.{DefinedAt, parts_of_file, parts_in}
use Rattle.import_rules.specs.Parts.{name_of_defined, name_in_file, part_at, parts_to, see_part}
use Rattle.import_rules.proofs.Ranges.{range_more}

enumerate_more : {X : Type 0} (xs : List X) (n : ℕ) (x : X) → n < length xs → x ≡ get_or xs n x
    → take (n + 1) (enumerate_from 0 xs) ≡ take n (enumerate_from 0 xs) ++ (n, x) ∷ []
enumerate_more {X} xs n x within is =
    let counted : 0 + n ≡ n = omega arith in
    take_more (enumerate_from 0 xs) n (n, x) (omega (arith, within, length-enumerate_from 0 xs))
    ∙ ap (λ (y : ℕ × X). take n (enumerate_from 0 xs) ++ y ∷ []) (get_or-enumerate_from 0 xs n (n, x) within ∙ (λ i. (counted i, sym is i)))

enumerate_all : {X : Type 0} (xs : List X) (n : ℕ) → length xs ≤ n → take n (enumerate_from 0 xs) ≡ enumerate_from 0 xs
enumerate_all {X} xs n past = take_all n (enumerate_from 0 xs) (omega (arith, past, length-enumerate_from 0 xs))

abbrev pub part_of : ℕ → Facts → ℕ × Predicate → DefinedAt
part_of place file part = record { name = name_in part.1; at = (place, part.0) }

-- the first predicates of a file
abbrev pub parts_below : ℕ → Facts → ℕ → List DefinedAt
parts_below place file n = map (part_of place file) (take n (enumerate_from 0 file.defined))

pub more_part : (place : ℕ) (file : FileFacts) (n : ℕ) (d : Defined) (old now new : List DefinedAt) → n < length file.defined.items
    → d ≡ get_or file.defined.items n d → now ≡ old ++ parts_below place (see_facts file) n
    → new ≡ now ++ part_of place (see_facts file) (n, see_defined file.names d) ∷ [] → new ≡ old ++ parts_below place (see_facts file) (n + 1)
more_part place file n d old now new within is so_far pushed =
    let defined = map (see_defined file.names) file.defined.items in
    let seen : see_defined file.names d ≡ get_or defined n (see_defined file.names d) =
    ap (see_defined file.names) is ∙ sym (get_or-map (see_defined file.names) file.defined.items n d (see_defined file.names d) within) in
    let one = part_of place (see_facts file) (n, see_defined file.names d) in
    pushed
    ∙ ap (λ xs. xs ++ one ∷ []) so_far
    ∙ append_assoc old (parts_below place (see_facts file) n) (one ∷ [])
    ∙ ap (λ xs. old ++ xs)
    (sym
    (ap (map (part_of place (see_facts file))) (enumerate_more defined n (see_defined file.names d) (omega (arith, within, length-map file.defined.items (see_defined file.names))) seen)
    ∙ map-append (part_of place (see_facts file)) (take n (enumerate_from 0 defined)) ((n, see_defined file.names d) ∷ [])))

pub all_parts : (place : ℕ) (file : FileFacts) (n : ℕ) → length file.defined.items ≤ n → parts_below place (see_facts file) n ≡ parts_of_file place (see_facts file)
all_parts place file n past =
    ap (map (part_of place (see_facts file)))
    (enumerate_all (map (see_defined file.names) file.defined.items) n (omega (arith, past, length-map file.defined.items (see_defined file.names))))

-- what is defined at the places of a file is seen as what the file defines

pub element_at : {X : Type 0} (xs : List X) (n : ℕ) → n < length xs → (x : X) × (slice_get xs n ≡ Some x)
element_at {X} [] n within = absurd (omega (arith, within))
element_at {X} (x ∷ xs) n within = (get_or (x ∷ xs) n x, slice_get-get_or (x ∷ xs) n x within)

seen_at : (files : List FileFacts) (place n : ℕ) (file : FileFacts) (d : Defined) → slice_get files place ≡ Some file → slice_get file.defined.items n ≡ Some d
    → see_part files (part_at place n) ≡ part_of place (see_facts file) (n, see_defined file.names d)
seen_at files place n file d here is =
    ap (λ f. record { name = name_in_file n f; at = (place, n) }) here ∙ ap (λ x. record { name = name_of_defined file.names x; at = (place, n) }) is

seen_below : (files : List FileFacts) (place : ℕ) (file : FileFacts) → slice_get files place ≡ Some file → (n : ℕ) → n ≤ length file.defined.items
    → map (see_part files) (parts_to place n) ≡ parts_below place (see_facts file) n
seen_below files place file here zero within = refl
seen_below files place file here (suc n) within =
    let next : n + 1 ≡ suc n = omega arith in
    let below : n < length file.defined.items = omega (arith, within) in
    let at = element_at file.defined.items n below in
    subst (λ k. map (see_part files) (parts_to place k) ≡ parts_below place (see_facts file) k) next
    (more_part place file n at.0 [] (map (see_part files) (parts_to place n)) (map (see_part files) (parts_to place (n + 1))) below
    (sym (get_or_from_slice_get file.defined.items n at.0 at.0 at.1)) (seen_below files place file here n (omega (arith, within)))
    (ap (λ ks. map (see_part files) (map (part_at place) ks)) (range_more n)
    ∙ ap (map (see_part files)) (map-append (part_at place) (range_with_len 0 n) (n ∷ []))
    ∙ map-append (see_part files) (parts_to place n) (part_at place n ∷ [])
    ∙ ap (λ d. map (see_part files) (parts_to place n) ++ d ∷ []) (seen_at files place n file at.0 here at.1)))

pub seen_all : (files : List FileFacts) (place : ℕ) (file : FileFacts) → slice_get files place ≡ Some file
    → map (see_part files) (parts_to place (length file.defined.items)) ≡ parts_of_file place (see_facts file)
seen_all files place file here =
    let n = length file.defined.items in
    let all : n ≤ n = omega arith in
    seen_below files place file here n all ∙ all_parts place file n all

abbrev pub of_file : ℕ × Facts → List DefinedAt
of_file at = parts_of_file at.0 at.1

-- what the first files define
abbrev pub files_below : List Facts → ℕ → List DefinedAt
files_below files n = flat_map of_file (take n (enumerate_from 0 files))

pub more_file : (files : List FileFacts) (n : ℕ) (file : FileFacts) (now new : List DefinedAt) → n < length files → file ≡ get_or files n file
    → now ≡ files_below (map see_facts files) n → new ≡ now ++ parts_of_file n (see_facts file) → new ≡ files_below (map see_facts files) (n + 1)
more_file files n file now new within is so_far pushed =
    let facts = map see_facts files in
    let seen : see_facts file ≡ get_or facts n (see_facts file) = ap see_facts is ∙ sym (get_or-map see_facts files n file (see_facts file) within) in
    pushed
    ∙ ap (λ xs. xs ++ parts_of_file n (see_facts file)) so_far
    ∙ ap (λ ys. files_below facts n ++ ys) (sym (append-nil (parts_of_file n (see_facts file))))
    ∙ sym
    (ap (flat_map of_file) (enumerate_more facts n (see_facts file) (omega (arith, within, length-map files see_facts)) seen)
    ∙ flat_map-append of_file (take n (enumerate_from 0 facts)) ((n, see_facts file) ∷ []))

pub all_files : (files : List FileFacts) (n : ℕ) → length files ≤ n → files_below (map see_facts files) n ≡ parts_in (map see_facts files)
all_files files n past = ap (flat_map of_file) (enumerate_all (map see_facts files) n (omega (arith, past, length-map files see_facts)))
