-- The declarations of the files up to one, and of a file up to one.
use Rattle.std.proofs.Common.{◌≡◌, ℕ, ◌+◌, ◌<◌, ◌≤◌, List, [], ◌∷◌, ◌++◌, length, map, take, flat_map, get_or, sym, ap, ◌∙◌, arith, append-nil}
use Rattle.std.specs.List.{enumerate_from}
use Rattle.std.proofs.lemmas.Grind.{flat_map-append}
use Rattle.std.proofs.lemmas.List.{take_more, take_all, map-append, get_or-map, length-map}
use Rattle.std.proofs.lemmas.List.FromFn.{length-enumerate_from, get_or-enumerate_from}
use Rattle.module_table.specs.declared.meta.Meta.{Meta}
use Rattle.module_table.specs.declared.file_facts.FileFacts.{FileFacts}
use Rattle.module_table.specs.Metas.{see_meta}
use Rattle.module_table.specs.Facts.{Facts, see_facts}
use Rattle.import_rules.specs.Metas.{MetaAt, meta_at, metas_of_file, metas_in}

enumerate_more : {X : Type 0} (xs : List X) (n : ℕ) (x : X) → n < length xs → x ≡ get_or xs n x
    → take (n + 1) (enumerate_from 0 xs) ≡ take n (enumerate_from 0 xs) ++ (n, x) ∷ []
enumerate_more {X} xs n x within is =
    let counted : 0 + n ≡ n = omega arith in
    take_more (enumerate_from 0 xs) n (n, x) (omega (arith, within, length-enumerate_from 0 xs))
    ∙ ap (λ (y : ℕ × X). take n (enumerate_from 0 xs) ++ y ∷ []) (get_or-enumerate_from 0 xs n (n, x) within ∙ (λ i. (counted i, sym is i)))

enumerate_all : {X : Type 0} (xs : List X) (n : ℕ) → length xs ≤ n → take n (enumerate_from 0 xs) ≡ enumerate_from 0 xs
enumerate_all {X} xs n past = take_all n (enumerate_from 0 xs) (omega (arith, past, length-enumerate_from 0 xs))

-- the first declarations of a file
abbrev pub metas_below : ℕ → Facts → ℕ → List MetaAt
metas_below place file n = map (meta_at place) (take n (enumerate_from 0 file.metas))

pub more_meta : (place : ℕ) (file : FileFacts) (n : ℕ) (m : Meta) → n < length file.metas.items → m ≡ get_or file.metas.items n m
    → metas_below place (see_facts file) (n + 1) ≡ metas_below place (see_facts file) n ++ meta_at place (n, see_meta m) ∷ []
more_meta place file n m within is =
    let metas = map see_meta file.metas.items in
    let seen : see_meta m ≡ get_or metas n (see_meta m) = ap see_meta is ∙ sym (get_or-map see_meta file.metas.items n m (see_meta m) within) in
    ap (map (meta_at place)) (enumerate_more metas n (see_meta m) (omega (arith, within, length-map file.metas.items see_meta)) seen)
    ∙ map-append (meta_at place) (take n (enumerate_from 0 metas)) ((n, see_meta m) ∷ [])

pub all_metas : (place : ℕ) (file : FileFacts) (n : ℕ) → length file.metas.items ≤ n → metas_below place (see_facts file) n ≡ metas_of_file place (see_facts file)
all_metas place file n past =
    ap (map (meta_at place)) (enumerate_all (map see_meta file.metas.items) n (omega (arith, past, length-map file.metas.items see_meta)))

abbrev of_file : ℕ × Facts → List MetaAt
of_file at = metas_of_file at.0 at.1

-- those of the first files
abbrev pub files_below : List Facts → ℕ → List MetaAt
files_below files n = flat_map of_file (take n (enumerate_from 0 files))

pub more_file : (files : List FileFacts) (n : ℕ) (file : FileFacts) → n < length files → file ≡ get_or files n file
    → files_below (map see_facts files) (n + 1) ≡ files_below (map see_facts files) n ++ metas_of_file n (see_facts file)
more_file files n file within is =
    let facts = map see_facts files in
    let seen : see_facts file ≡ get_or facts n (see_facts file) = ap see_facts is ∙ sym (get_or-map see_facts files n file (see_facts file) within) in
    ap (flat_map of_file) (enumerate_more facts n (see_facts file) (omega (arith, within, length-map files see_facts)) seen)
    ∙ (flat_map-append of_file (take n (enumerate_from 0 facts)) ((n, see_facts file) ∷ [])
    ∙ ap (λ ys. files_below facts n ++ ys) (append-nil (metas_of_file n (see_facts file))))

pub all_files : (files : List FileFacts) (n : ℕ) → length files ≤ n → files_below (map see_facts files) n ≡ metas_in (map see_facts files)
all_files files n past = ap (flat_map of_file) (enumerate_all (map see_facts files) n (omega (arith, past, length-map files see_facts)))
