-- What is found is what a name means.
use Rattle.std.proofs.Common.{◌≡◌, ℕ, ◌<◌, inl, inr, List, [], ◌∷◌, ◌++◌, Option, Some, None, Bool, true, false, not, ◌&&◌, nat_eq, Contains, length, map, flat_map, filter, refl, sym, ap, subst, ◌∙◌}
use Rattle.std.specs.Prelude.{slice_get, option_map, if◌then◌else◌}
use Rattle.std.specs.Str.{bytes_eq}
use Rattle.std.proofs.lemmas.Bool.{and_parts, false_from_ne_true, not-false}
use Rattle.std.proofs.lemmas.Bool.Decides.{Decides-eqb}
use Rattle.std.proofs.lemmas.Option.{slice_get_within, get_or_from_slice_get, slice_get-get_or}
use Rattle.std.proofs.lemmas.Slice.Eq.{bytes_eq-Decides}
use Rattle.module_table.specs.declared.indicator.Indicator.{Indicator}
use Rattle.module_table.specs.declared.load.LoadKind.{LoadKind}
use Rattle.module_table.specs.declared.load.LoadKind.TheVariants.{UseAll, UseSome, Ensure}
use Rattle.module_table.specs.Facts.{Facts}
use Rattle.module_table.specs.Kinds.{first_of}
use Rattle.module_table.specs.Said.{Loads}
use Rattle.list_laws.proofs.OneOrder.{nothing_in, in_first}
use Rattle.import_rules.specs.declared.names.PredName.{PredName}
use Rattle.import_rules.specs.Clashes.{Imports, items_for}
use Rattle.import_rules.specs.Files.{is_local, file_named, has_export, AreNumbered}
use Rattle.import_rules.specs.Find.{source, first_source, number_of, or_found, found_in, Means}
use Rattle.import_rules.specs.Flaws.{AreFlaws, exported, module_flaws, export_flaws, load_flaws, file_flaws}
use Rattle.import_rules.specs.Items.{item, taken, gives, given, items_of_load, items, foreign_items}
use Rattle.import_rules.specs.Names.{is_same}
use Rattle.import_rules.proofs.Faultless.{no_clashes, no_flaws}
use Rattle.list_laws.proofs.Members.{kept_in as kept}
use Rattle.import_rules.proofs.Lists.{any_there, any_from, kept_there, kept_passes, map_from}
use Rattle.import_rules.proofs.Members.{flat_map_from, empty_at}
use Rattle.import_rules.proofs.NameOrder.{same_parts, same_itself}
use Rattle.import_rules.proofs.NumberLemmas.{number_at, number_none, number_there, numbered_is_local}
use Rattle.import_rules.proofs.Targets.{one_source, source_first, foreign_there, first_is}

-- an item gives what a file exports

-- the name is that of an export of a file
pub record IsExport (files : List Facts) (q : PredName) : Type 0 where
  pub file : Facts
  pub export_ : Indicator
  pub stands : Contains files file
  pub has : Contains file.exports export_
  pub is : q ≡ exported file export_

pub found_there : (files : List Facts) (name : List ℕ) (file : Facts) → file_named files name ≡ Some file → Contains files file
found_there files name file is =
    kept_there (λ (f : Facts). bytes_eq name f.file) files file (led (filter (λ (f : Facts). bytes_eq name f.file) files) is)
  where
    led : (fs : List Facts) → first_of fs ≡ Some file → Contains fs file
    led [] e = cc
    led (f ∷ fs) e = let same : f ≡ file = cc in subst (Contains (f ∷ fs)) same (in_first f fs)

listed : (files : List Facts) (user file : Facts) (load : Loads) (i : Imports) → Contains files file
    → Contains (map (λ (e : Indicator). item user file e.from e) (filter (has_export file) load.items)) i → IsExport files (source i)
listed files user file load i stands has =
    let from = map_from (λ (e : Indicator). item user file e.from e) (filter (has_export file) load.items) i has in
    let e = from.0 in
    let by = any_from (λ (x : Indicator). bytes_eq e.name x.name && nat_eq e.arity x.arity) file.exports (kept_passes (has_export file) load.items e from.1) in
    let x = by.0 in
    let parts = and_parts (bytes_eq e.name x.name) (nat_eq e.arity x.arity) by.2 in
    let name_is : e.name ≡ x.name = (bytes_eq-Decides e.name x.name).0 parts.0 in
    let arity_is : e.arity ≡ x.arity = (Decides-eqb e.arity x.arity).0 parts.1 in record {
      file = file;
      export_ = x;
      stands = stands;
      has = by.1;
      is = ap source (sym from.2) ∙ (λ at. record { «module» = file.module_; name = name_is at; arity = arity_is at });
    }

whole : (files : List Facts) (user file : Facts) (offset : ℕ) (i : Imports) → Contains files file → Contains (map (item user file offset) file.exports) i
    → IsExport files (source i)
whole files user file offset i stands has =
    let from = map_from (item user file offset) file.exports i has in
    record { file = file; export_ = from.0; stands = stands; has = from.1; is = ap source (sym from.2) }

of_taken : (files : List Facts) (user file : Facts) (load : Loads) (kind : LoadKind) (i : Imports) → Contains files file → Contains (taken user file load kind) i
    → IsExport files (source i)
of_taken files user file load UseSome i stands has = listed files user file load i stands has
of_taken files user file load UseAll i stands has = whole files user file load.from i stands has
of_taken files user file load Ensure i stands has = whole files user file load.from i stands has

of_given : (files : List Facts) (user file : Facts) (load : Loads) (i : Imports) (b : Bool) → Contains files file
    → Contains (if b then taken user file load load.kind else []) i → IsExport files (source i)
of_given files user file load i true stands has = of_taken files user file load load.kind i stands has
of_given files user file load i false stands has = absurd (nothing_in i has)

of_load : (files : List Facts) (user : Facts) (load : Loads) (i : Imports) → Contains (items_of_load files user load) i → IsExport files (source i)
of_load files user load i has = at (file_named files load.file) refl has
  where
    at : (r : Option Facts) → file_named files load.file ≡ r → Contains (elim r [ Some file ↦ given files user load file | None ↦ [] ]) i → IsExport files (source i)
    at (Some file) is there = of_given files user file load i (gives files user file) (found_there files load.file file is) there
    at None is there = absurd (nothing_in i there)

pub item_export : (files : List Facts) (i : Imports) → Contains (items files) i → IsExport files (source i)
item_export files i has =
    let outer = flat_map_from (λ (user : Facts). flat_map (items_of_load files user) user.loads) files i has in
    let inner = flat_map_from (items_of_load files outer.0) outer.0.loads i outer.2 in
    of_load files outer.0 inner.0 i inner.2

-- where no export is at fault, each is local

front_empty : {X : Type 0} (xs ys : List X) → xs ++ ys ≡ [] → xs ≡ []
front_empty {X} [] ys none = refl
front_empty {X} (x ∷ xs) ys none = cc

rest_empty : {X : Type 0} (xs ys : List X) → xs ++ ys ≡ [] → ys ≡ []
rest_empty {X} [] ys none = none
rest_empty {X} (x ∷ xs) ys none = cc

map_empty : {X Y : Type 0} (f : X → Y) (xs : List X) → map f xs ≡ [] → xs ≡ []
map_empty {X} {Y} f [] none = refl
map_empty {X} {Y} f (x ∷ xs) none = cc

export_local : (files : List Facts) (absent : List (List ℕ)) (q : PredName) → AreFlaws files absent [] → IsExport files q → is_local files q ≡ true
export_local files absent q sound by =
    let file = by.file in
    let none : file_flaws files absent file ≡ [] = empty_at (file_flaws files absent) files file (no_flaws files absent sound) by.stands in
    let before : module_flaws files file ++ export_flaws files file ≡ [] =
    front_empty (module_flaws files file ++ export_flaws files file) (flat_map (load_flaws files absent file) file.loads) none in
    let empty : filter (λ (e : Indicator). not (is_local files (exported file e))) file.exports ≡ [] =
    map_empty _ (filter (λ (e : Indicator). not (is_local files (exported file e))) file.exports)
    (rest_empty (module_flaws files file) (export_flaws files file) before) in
    ap (is_local files) by.is
    ∙ not-false (is_local files (exported file by.export_))
    (false_from_ne_true (not (is_local files (exported file by.export_)))
    (λ is. nothing_in by.export_ (subst (λ es. Contains es by.export_) empty (kept (λ (e : Indicator). not (is_local files (exported file e))) file.exports by.export_ by.has is))))

-- the meaning of a name

pub one_meaning : (files : List Facts) (absent : List (List ℕ)) → AreFlaws files absent [] → (p q r : PredName) → Means files p q → Means files p r → q ≡ r
one_meaning files absent sound p q r (inl own) (inl also) = own.1 ∙ sym also.1
one_meaning files absent sound p q r (inl own) (inr import) = let both : true ≡ false = sym own.0 ∙ import.0 in cc
one_meaning files absent sound p q r (inr import) (inl own) = let both : true ≡ false = sym own.0 ∙ import.0 in cc
one_meaning files absent sound p q r (inr import) (inr also) =
    let foreign : (i : Imports) → Contains (items files) i → i.into ≡ p → Contains (foreign_items files) i =
    λ i has into. foreign_there files i has (ap (is_local files) into ∙ import.0) in
    import.1.is
    ∙ one_source (foreign_items files) (no_clashes files absent sound) import.1.by also.1.by (foreign import.1.by import.1.stands import.1.into)
    (foreign also.1.by also.1.stands also.1.into) (import.1.into ∙ sym also.1.into)
    ∙ sym also.1.is

module _ (files : List Facts) (absent : List (List ℕ)) (predicates : List PredName) (numbered : AreNumbered files predicates) (sound : AreFlaws files absent []) where
  local_there : (p : PredName) → is_local files p ≡ true → (n : ℕ) × (slice_get predicates n ≡ Some p)
  local_there p own =
      let by = any_from (is_same p) predicates (numbered_is_local files predicates numbered p ∙ own) in
      let same : by.0 ≡ p = sym (same_parts p by.0 by.2) in
      let k = by.1.0 in
      (k, slice_get-get_or predicates k by.0 by.1.1 ∙ ap (λ x. Some x) (by.1.2 ∙ same))

  foreign_unnumbered : (p : PredName) → is_local files p ≡ false → number_of predicates p ≡ None
  foreign_unnumbered p other = number_none predicates p (numbered_is_local files predicates numbered p ∙ other)

  stands_local : (p : PredName) (n : ℕ) → slice_get predicates n ≡ Some p → is_local files p ≡ true
  stands_local p n is =
      sym (numbered_is_local files predicates numbered p)
      ∙ any_there (is_same p) predicates p (n, slice_get_within predicates n p is, get_or_from_slice_get predicates n p p is) (same_itself p)

  -- a name that means a predicate is found as its number
  pub meant_found : (p q : PredName) (n : ℕ) → Means files p q → slice_get predicates n ≡ Some q → found_in files predicates p ≡ Some n
  meant_found p q n (inl own) at =
      ap (λ found. or_found predicates found (first_source files p)) (number_at predicates p n numbered.in_order (at ∙ ap (λ x. Some x) own.1))
  meant_found p q n (inr import) at =
      let i = import.1.by in
      let other : is_local files i.into ≡ false = ap (is_local files) import.1.into ∙ import.0 in
      let has : Contains (foreign_items files) i = foreign_there files i import.1.stands other in
      ap (found_in files predicates) (sym import.1.into)
      ∙ ap (λ found. or_found predicates found (first_source files i.into)) (foreign_unnumbered i.into other)
      ∙ ap (or_found predicates None) (source_first files (no_clashes files absent sound) i has)
      ∙ number_at predicates (source i) n numbered.in_order (at ∙ ap (λ x. Some x) import.1.is)

  -- and there is such a number
  pub meant_there : (p q : PredName) → Means files p q → (n : ℕ) × (slice_get predicates n ≡ Some q)
  meant_there p q (inl own) = let there = local_there p own.0 in (there.0, there.1 ∙ ap (λ x. Some x) (sym own.1))
  meant_there p q (inr import) =
      let own : is_local files (source import.1.by) ≡ true =
      export_local files absent (source import.1.by) sound (item_export files import.1.by import.1.stands) in
      let there = local_there (source import.1.by) own in
      (there.0, there.1 ∙ ap (λ x. Some x) (sym import.1.is))

  -- what is found is meant
  pub found_meant : (p : PredName) (n : ℕ) → found_in files predicates p ≡ Some n → (q : PredName) × Means files p q × (slice_get predicates n ≡ Some q)
  found_meant p n found = at (number_of predicates p) refl found
    where
      via : (is_local files p ≡ false) → (r : Option Imports) → first_of (items_for p (items files)) ≡ r → or_found predicates None (option_map source r) ≡ Some n
          → (q : PredName) × Means files p q × (slice_get predicates n ≡ Some q)
      via other (Some i) is given =
          let i_is = first_is p (items files) i is in (
            source i,
            inr (other, record { by = i; stands = i_is.0; into = sym i_is.1; is = refl }),
            number_there predicates (source i) n given,
          )
      via other None is given = cc

      at : (r : Option ℕ) → number_of predicates p ≡ r → or_found predicates r (first_source files p) ≡ Some n
          → (q : PredName) × Means files p q × (slice_get predicates n ≡ Some q)
      at (Some m) is given =
          let same : m ≡ n = cc in
          let here : slice_get predicates n ≡ Some p = number_there predicates p n (is ∙ ap (λ k. Some k) same) in
          (p, inl (stands_local p n here, refl), here)
      at None is given =
          let other : is_local files p ≡ false =
          false_from_ne_true (is_local files p)
          (λ own.
          let there = local_there p own in
          let both : Some there.0 ≡ None = sym (number_at predicates p there.0 numbered.in_order there.1) ∙ is in
          cc) in
          via other (first_of (items_for p (items files))) refl given

-- what is found stands among the predicates
pub found_below : (files : List Facts) (predicates : List PredName) (p : PredName) (n : ℕ) → found_in files predicates p ≡ Some n → n < length predicates
found_below files predicates p n found = at (number_of predicates p) refl (first_source files p) found
  where
    at : (r : Option ℕ) → number_of predicates p ≡ r → (s : Option PredName) → or_found predicates r s ≡ Some n → n < length predicates
    at (Some m) is s given = let same : m ≡ n = cc in slice_get_within predicates n p (number_there predicates p n (is ∙ ap (λ k. Some k) same))
    at None is (Some q) given = slice_get_within predicates n q (number_there predicates q n given)
    at None is None given = cc
