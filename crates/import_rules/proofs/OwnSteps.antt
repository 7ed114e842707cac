-- What is kept of names, one after another.
use Rattle.std.proofs.Common.{◌≡◌, ◌⊎◌, inl, inr, ℕ, Bool, true, false, not, ◌<◌, List, [], ◌∷◌, Vec, Some, AllPairs, length, get_or, set, slice_get, ◌+◌, refl, sym, ap, ◌∙◌, arith, get_or-set_same, get_or-set_other}
use Rattle.std.specs.declared.alloc.Global.{Global}
use Rattle.std.specs.declared.cmp.Ordering.TheVariants.{Less}
use Rattle.std.proofs.lemmas.Bool.{cases_eq}
use Rattle.std.proofs.lemmas.List.{map-set, get_or-map, length-map, with_items_is}
use Rattle.std.proofs.lemmas.Option.{slice_get-get_or}
use Rattle.std.proofs.lemmas.Slice.Eq.{bytes_eq-Decides}
use Rattle.std.specs.Str.{bytes_eq}
use Rattle.std.specs.Vec.{with_items}
use Rattle.prolog_names.specs.Names.{name_at}
use Rattle.module_table.specs.declared.defined.Defined.{Defined}
use Rattle.module_table.specs.declared.file_facts.FileFacts.{FileFacts}
use Rattle.import_rules.specs.declared.names.PredName.{PredName}
use Rattle.import_rules.specs.declared.places.Places.{Places}
use Rattle.import_rules.specs.Find.{number_of}
use Rattle.import_rules.specs.Names.{pred_cmp, pred_name}
use Rattle.import_rules.specs.Numbers.{see_places}
use Rattle.import_rules.specs.Parts.{first_name, name_in_file, name_of_defined, name_of_part, name_of_places, names_at, part_at}
use Rattle.import_rules.proofs.NumberLemmas.{number_at}
use Rattle.import_rules.specs.declared.own_names.OwnName.{OwnName}
use Rattle.import_rules.specs.OwnNames.{kept_in, kept_at, lists_in, own_name, AreKept, AreNothing}

-- one of the lists is written anew
pub one_kept : (lists : List (Vec OwnName Global)) (file number : ℕ) (own : OwnName) (list d : Vec OwnName Global) (new : List OwnName) → file < length lists → length new ≡ length list.items
    → list ≡ get_or lists file d → ((n : ℕ) → (kept_in new n ≡ kept_in list.items n) ⊎ ((n ≡ number) × (kept_in new n ≡ own)))
    → (f n : ℕ) → (kept_at (set lists file (with_items list new)) f n ≡ kept_at lists f n)
    ⊎ ((f ≡ file) × (n ≡ number) × (kept_at (set lists file (with_items list new)) f n ≡ own))
one_kept lists file number own list d new within long here each f n =
    let after = set lists file (with_items list new) in
    let items : (with_items list new).items ≡ new = with_items_is list new (long ∙ sym list.ok.0) in
    let anew : lists_in after ≡ set (lists_in lists) file new =
    map-set (λ (v : Vec OwnName Global). v.items) lists file (with_items list new) ∙ ap (set (lists_in lists) file) items in
    elim (cases_eq f file) [
      | inl same ↦
          let inside : file < length (lists_in lists) = omega (arith, within, length-map lists (λ (v : Vec OwnName Global). v.items)) in
          let now : kept_at after f n ≡ kept_in new n =
          ap (λ ls. kept_in (get_or ls f []) n) anew ∙ ap (λ k. kept_in (get_or (set (lists_in lists) file new) k []) n) same
          ∙ ap (λ l. kept_in l n) (get_or-set_same (lists_in lists) file new [] inside) in
          let before : kept_at lists f n ≡ kept_in list.items n =
          ap (λ k. kept_in (get_or (lists_in lists) k []) n) same
          ∙ ap (λ l. kept_in l n) (get_or-map (λ (v : Vec OwnName Global). v.items) lists file d [] within ∙ ap (λ (v : Vec OwnName Global). v.items) (sym here)) in
          elim (each n) [
            | inl kept ↦ inl (now ∙ kept ∙ sym before)
            | inr is ↦ inr (same, is.0, now ∙ is.1)
          ]
      | inr other ↦
          inl (ap (λ ls. kept_in (get_or ls f []) n) anew ∙ ap (λ l. kept_in l n) (get_or-set_other (lists_in lists) file f new [] other))
    ]

-- the predicate that is defined at a place is kept for its name
pub place_kept : (files : List FileFacts) (predicates : List PredName) (old new : List (Vec OwnName Global)) (place part node : ℕ) (file : FileFacts) (d : Defined)
    → slice_get files place ≡ Some file → slice_get file.defined.items part ≡ Some d → name_at file.names d.module ≡ file.module
    → ((f n : ℕ) → (kept_at new f n ≡ kept_at old f n) ⊎ ((f ≡ place) × (n ≡ d.name) × (kept_at new f n ≡ record { arity = d.arity; after = node + 1 })))
    → number_of predicates (name_of_part files (part_at place part)) ≡ Some node → AreKept files predicates old → AreKept files predicates new
place_kept files predicates old new place part node file d at_place at_part home each numbered so_far p number n f is after =
    elim (each p number) [
      | inl same ↦
          ap (λ (e : OwnName). number_of predicates (own_name f number e.arity)) same
          ∙ so_far p number n f is (ap (λ (e : OwnName). e.after) (sym same) ∙ after)
      | inr own ↦
          let there : slice_get files place ≡ Some f = ap (slice_get files) (sym own.0) ∙ is in
          let both : Some f ≡ Some file = sym there ∙ at_place in
          let same : f ≡ file = cc in
          let count : node ≡ n = omega (arith, ap (λ (e : OwnName). e.after) own.2, after) in
          let read : name_of_part files (part_at place part) ≡ pred_name (name_at file.names d.module) (name_at file.names d.name) d.arity =
          ap (name_in_file part) at_place ∙ ap (name_of_defined file.names) at_part in
          let name : own_name f number (kept_at new p number).arity ≡ name_of_part files (part_at place part) =
          (λ i. own_name (same i) (own.1 i) (own.2 i).arity) ∙ (λ i. pred_name (sym home i) (name_at file.names d.name) d.arity) ∙ sym read in
          ap (number_of predicates) name ∙ numbered ∙ ap (λ k. Some k) count
    ]

-- where nothing is kept, all is right
pub none_kept : (files : List FileFacts) (predicates : List PredName) (lists : List (Vec OwnName Global)) → AreNothing lists → AreKept files predicates lists
none_kept files predicates lists none p number n f is after =
    let zero : 0 ≡ n + 1 = ap (λ (e : OwnName). e.after) (sym (none p number)) ∙ after in
    absurd (omega (arith, zero))

first_at : (files : List FileFacts) (places : List (ℕ × ℕ)) (at : ℕ × ℕ) → slice_get places 0 ≡ Some at → first_name files places ≡ name_of_part files (part_at at.0 at.1)
first_at files [] at is = cc
first_at files (one ∷ more) at is =
    let same : one ≡ at = cc in
    ap (λ (a : ℕ × ℕ). name_of_part files (part_at a.0 a.1)) same

-- the first place of a predicate has its number
pub first_numbered : (files : List FileFacts) (all : List Places) (node : ℕ) (places : Places) (at : ℕ × ℕ)
    → AllPairs (λ p q. pred_cmp p q ≡ Less) (names_at files all) → node < length all → places ≡ get_or all node places → slice_get (see_places places) 0 ≡ Some at
    → number_of (names_at files all) (name_of_part files (part_at at.0 at.1)) ≡ Some node
first_numbered files all node places at rising below is first =
    let own = name_of_places files in
    let name : own places ≡ name_of_part files (part_at at.0 at.1) = first_at files (see_places places) at first in
    let there : slice_get (names_at files all) node ≡ Some (own places) =
    slice_get-get_or (names_at files all) node (own places) (omega (arith, below, length-map all own))
    ∙ ap (λ q. Some q) (get_or-map own all node places (own places) below ∙ ap own (sym is)) in
    ap (number_of (names_at files all)) (sym name) ∙ number_at (names_at files all) (own places) node rising there

holds_from : (x : Bool) → false ≡ not x → x ≡ true
holds_from true e = refl
holds_from false e = cc

pub same_bytes : (a b : List ℕ) → bytes_eq a b ≡ true → a ≡ b
same_bytes a b e = (bytes_eq-Decides a b).0 e

-- texts that aren't other ones are the same
pub same_from_not : (a b : List ℕ) → false ≡ not (bytes_eq a b) → a ≡ b
same_from_not a b e = same_bytes a b (holds_from (bytes_eq a b) e)
