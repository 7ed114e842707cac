-- The places of a predicate are just those at which it is defined.
use Rattle.std.proofs.Common.{◌≡◌, ℕ, ◌+◌, ◌<◌, List, Some, length, get_or, filter, slice_get, sym, ◌∙◌, subst, refl, arith}
use Rattle.std.specs.Prelude.{Contains}
use Rattle.std.specs.List.{enumerate_from}
use Rattle.std.proofs.lemmas.List.FromFn.{length-enumerate_from, get_or-enumerate_from}
use Rattle.std.proofs.lemmas.Option.{slice_get-get_or, slice_get_within, get_or_from_slice_get}
use Rattle.module_table.specs.Facts.{Facts}
use Rattle.import_rules.specs.declared.names.PredName.{PredName}
use Rattle.import_rules.specs.Names.{is_same}
use Rattle.import_rules.specs.Files.{IsDefinedAt}
use Rattle.import_rules.specs.Numbers.{DefinedAt, parts_in, places_for}
use Rattle.import_rules.proofs.NameOrder.{same_parts, same_from}
use Rattle.import_rules.proofs.PlacesTold.{part_from, part_has}
use Rattle.call_edges.proofs.AmongLemmas.{map_has, filter_has}

-- an element with its place
pub enumerated : {X : Type 0} (xs : List X) (p : ℕ × X) → Contains (enumerate_from 0 xs) p → slice_get xs p.0 ≡ Some p.1
enumerated {X} xs p (k, lt, is) =
    let within : k < length xs = omega (arith, lt, length-enumerate_from 0 xs) in
    let count : k ≡ 0 + k = omega arith in
    let read : (k, get_or xs k p.1) ≡ p = (λ i. (count i, get_or xs k p.1)) ∙ (sym (get_or-enumerate_from 0 xs k p within) ∙ is) in
    let P : ℕ × X → Type 0 = λ q. slice_get xs q.0 ≡ Some q.1 in
    subst P read (slice_get-get_or xs k p.1 within)

pub numbered : {X : Type 0} (xs : List X) (k : ℕ) (x : X) → slice_get xs k ≡ Some x → Contains (enumerate_from 0 xs) (k, x)
numbered xs k x is =
    let within = slice_get_within xs k x is in
    let count : 0 + k ≡ k = omega arith in
    let read : get_or xs k x ≡ x = get_or_from_slice_get xs k x x is in
    (k, omega (arith, within, length-enumerate_from 0 xs), get_or-enumerate_from 0 xs k (k, x) within ∙ (λ i. (count i, read i)))

-- the places of a predicate are just those at which it is defined

pub place_stands : (files : List Facts) (p : PredName) (at : ℕ × ℕ) → Contains (places_for (parts_in files) p) at → IsDefinedAt files p at.0 at.1
place_stands files p at has =
    let among = (map_has (λ (d : DefinedAt). d.at) (filter (λ (d : DefinedAt). is_same p d.name) (parts_in files)) at).0 has in
    let kept = (filter_has (λ (d : DefinedAt). is_same p d.name) (parts_in files) among.one).0 among.has in
    let same : p ≡ among.one.name = same_parts p among.one.name kept.1 in
    let P : ℕ × ℕ → Type 0 = λ x. IsDefinedAt files p x.0 x.1 in
    let Q : PredName → Type 0 = λ q. IsDefinedAt files q among.one.at.0 among.one.at.1 in
    subst P among.is (subst Q (sym same) (part_from files among.one kept.0))

pub stands_place : (files : List Facts) (p : PredName) (place part : ℕ) → IsDefinedAt files p place part → Contains (places_for (parts_in files) p) (place, part)
stands_place files p place part is =
    let d : DefinedAt = record { name = p; at = (place, part) } in
    (map_has (λ (x : DefinedAt). x.at) (filter (λ (x : DefinedAt). is_same p x.name) (parts_in files)) (place, part)).1
    (record {
      one = d;
      has = (filter_has (λ (x : DefinedAt). is_same p x.name) (parts_in files) d).1 (part_has files p place part is, same_from p p refl);
      is = refl;
    })
