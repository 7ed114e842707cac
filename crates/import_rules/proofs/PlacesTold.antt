-- The places of a predicate are all at which it is defined, ascending.
use Rattle.std.proofs.Common.{◌≡◌, ℕ, ◌+◌, ◌<◌, List, [], ◌∷◌, Some, AllPairs, Contains, flat_map, filter, sym, ap, subst, ◌∙◌, arith}
use Rattle.std.specs.Prelude.{slice_get}
use Rattle.std.specs.List.{enumerate_from}
use Rattle.std.specs.Ordering.{nat_cmp, ordering_then}
use Rattle.std.specs.declared.cmp.Ordering.TheVariants.{Less}
use Rattle.std.proofs.lemmas.Cmp.{nat_cmp_total, tied_itself}
use Rattle.std.proofs.lemmas.List.Kept.{AllPairs-filter}
use Rattle.module_table.specs.Defined.{Predicate}
use Rattle.module_table.specs.Facts.{Facts}
use Rattle.file_library.proofs.Lookups.{all_pairs_append}
use Rattle.import_rules.specs.declared.names.PredName.{PredName}
use Rattle.import_rules.specs.Files.{name_in, IsDefinedAt, ArePlaces, pair_cmp}
use Rattle.import_rules.specs.Names.{is_same}
use Rattle.import_rules.specs.Numbers.{DefinedAt, parts_of_file, parts_in, places_for}
use Rattle.import_rules.specs.Program.{Seen, places_in, places_at}
use Rattle.list_laws.proofs.Members.{kept_in as kept}
use Rattle.import_rules.proofs.Lists.{all_by, all_pairs_map, kept_there, kept_passes, map_from, map_has}
use Rattle.import_rules.proofs.Members.{flat_map_from, flat_map_has, counted_from, counted_has, counted_rise}
use Rattle.import_rules.proofs.NameOrder.{same_parts, same_itself}
use Rattle.import_rules.proofs.PartsSoFar.{part_of, of_file}

-- a part stands at its place among the files

file_of_part : (n place : ℕ) (file : Facts) (d : DefinedAt) → Contains (parts_of_file place file) d
    → (predicate : Predicate) × (d.at.0 ≡ place) × (slice_get file.defined d.at.1 ≡ Some predicate) × (name_in predicate ≡ d.name)
file_of_part n place file d has =
    let from = map_from (part_of place file) (enumerate_from 0 file.defined) d has in
    let counted = counted_from 0 file.defined from.0 from.1 in
    let here : counted.0 ≡ d.at.1 = omega (arith, counted.1, ap (λ (e : DefinedAt). e.at.1) from.2) in
    (from.0.1, ap (λ (e : DefinedAt). e.at.0) (sym from.2), subst (λ k. slice_get file.defined k ≡ Some from.0.1) here counted.2, ap (λ (e : DefinedAt). e.name) from.2)

pub part_from : (files : List Facts) (d : DefinedAt) → Contains (parts_in files) d → IsDefinedAt files d.name d.at.0 d.at.1
part_from files d has =
    let outer = flat_map_from of_file (enumerate_from 0 files) d has in
    let counted = counted_from 0 files outer.0 outer.1 in
    let part = file_of_part 0 outer.0.0 outer.0.1 d outer.2 in
    let here : counted.0 ≡ d.at.0 = omega (arith, counted.1, part.1) in record {
      file = outer.0.1;
      predicate = part.0;
      at_place = subst (λ k. slice_get files k ≡ Some outer.0.1) here counted.2;
      at_part = part.2;
      is = part.3;
    }

pub part_has : (files : List Facts) (p : PredName) (place part : ℕ) → IsDefinedAt files p place part
    → Contains (parts_in files) (record { name = p; at = (place, part) })
part_has files p place part is =
    let whole : 0 + place ≡ place = omega arith in
    let inner : 0 + part ≡ part = omega arith in
    let file_there : Contains (enumerate_from 0 files) (place, is.file) =
    subst (λ k. Contains (enumerate_from 0 files) (k, is.file)) whole (counted_has 0 files place is.file is.at_place) in
    let part_there : Contains (enumerate_from 0 is.file.defined) (part, is.predicate) =
    subst (λ k. Contains (enumerate_from 0 is.file.defined) (k, is.predicate)) inner (counted_has 0 is.file.defined part is.predicate is.at_part) in
    flat_map_has of_file (enumerate_from 0 files) (place, is.file) (record { name = p; at = (place, part) }) file_there
    (subst (λ q. Contains (parts_of_file place is.file) (record { name = q; at = (place, part) })) is.is
    (map_has (part_of place is.file) (enumerate_from 0 is.file.defined) (part, is.predicate) part_there))

-- the parts stand in order of their places

abbrev is_less : ℕ × ℕ → ℕ × ℕ → Type 0
is_less a b = pair_cmp a b ≡ Less

less_first : (a b : ℕ × ℕ) → a.0 < b.0 → is_less a b
less_first a b less = ap (λ r. ordering_then r (nat_cmp a.1 b.1)) (nat_cmp_less a.0 b.0 less)
  where
    nat_cmp_less : (m n : ℕ) → m < n → nat_cmp m n ≡ Less
    nat_cmp_less m n lt = search (arith, lt)

less_second : (place i j : ℕ) → i < j → is_less (place, i) (place, j)
less_second place i j less =
    ap (λ r. ordering_then r (nat_cmp i j)) (tied_itself nat_cmp_total place) ∙ nat_cmp_less i j less
  where
    nat_cmp_less : (m n : ℕ) → m < n → nat_cmp m n ≡ Less
    nat_cmp_less m n lt = search (arith, lt)

abbrev rise : DefinedAt → DefinedAt → Type 0
rise a b = is_less a.at b.at

own_rise : (place : ℕ) (file : Facts) → AllPairs rise (parts_of_file place file)
own_rise place file =
    all_pairs_map rise (part_of place file) (enumerate_from 0 file.defined)
    (λ i j d before within. less_second place _ _ (counted_rise 0 file.defined i j d before within))

all_rise : (n : ℕ) (files : List Facts) → AllPairs rise (flat_map of_file (enumerate_from n files))
all_rise n [] = λ i j d before within. absurd (omega (arith, within))
all_rise n (file ∷ files) =
    all_pairs_append rise (parts_of_file n file) (flat_map of_file (enumerate_from (n + 1) files)) (own_rise n file) (all_rise (n + 1) files)
    (λ a b own later.
    let first = file_of_part 0 n file a own in
    let outer = flat_map_from of_file (enumerate_from (n + 1) files) b later in
    let second = file_of_part 0 outer.0.0 outer.0.1 b outer.2 in
    less_first a.at b.at (omega (arith, first.1, second.1, (counted_from (n + 1) files outer.0 outer.1).1)))

pub places_are : (files : List Facts) (p : PredName) → ArePlaces files p (places_for (parts_in files) p)
places_are files p = record {
  ascending =
      all_pairs_map is_less (λ (d : DefinedAt). d.at) (filter (λ (d : DefinedAt). is_same p d.name) (parts_in files))
      (AllPairs-filter rise (λ (d : DefinedAt). is_same p d.name) (parts_in files) (all_rise 0 files));
  each = all_by (λ (at : ℕ × ℕ). IsDefinedAt files p at.0 at.1) (places_for (parts_in files) p) (λ at has.
      let from = map_from (λ (d : DefinedAt). d.at) (filter (λ (d : DefinedAt). is_same p d.name) (parts_in files)) at has in
      let d = from.0 in
      let same : p ≡ d.name = same_parts p d.name (kept_passes (λ (d : DefinedAt). is_same p d.name) (parts_in files) d from.1) in
      subst (λ (at : ℕ × ℕ). IsDefinedAt files p at.0 at.1) from.2
      (subst (λ q. IsDefinedAt files q d.at.0 d.at.1) (sym same) (part_from files d (kept_there (λ (d : DefinedAt). is_same p d.name) (parts_in files) d from.1))));
  all = λ place part is.
      map_has (λ (d : DefinedAt). d.at) (filter (λ (d : DefinedAt). is_same p d.name) (parts_in files)) (record { name = p; at = (place, part) })
      (kept (λ (d : DefinedAt). is_same p d.name) (parts_in files) (record { name = p; at = (place, part) }) (part_has files p place part is) (same_itself p));
}

pub places_told : (seen : Seen) (node : ℕ) (p : PredName) → slice_get seen.predicates node ≡ Some p → ArePlaces seen.loaded.files p (places_in seen node)
unfolding places_in
places_told seen node p is = subst (ArePlaces seen.loaded.files p) (ap (places_at seen.loaded.files) (sym is)) (places_are seen.loaded.files p)
