-- Lists of lists of which one is written anew, and the marks of a table.
use Rattle.std.proofs.Math.ListN.{replicate}
use Rattle.std.proofs.Common.{◌≡◌, ◌≢◌, ℕ, ◌+◌, ◌<◌, refl, take, Bool, true, false, inl, inr, List, [], ◌∷◌, ◌++◌, Some, AllPairs, Contains, length, map, get_or, set, sym, ap, subst, ◌∙◌, arith}
use Rattle.std.specs.Prelude.{Vec, slice_get}
use Rattle.std.specs.List.{list_any, All}
use Rattle.std.specs.Vec.{with_items}
use Rattle.std.specs.declared.alloc.Global.{Global}
use Rattle.std.specs.declared.cmp.Ordering.TheVariants.{Less}
use Rattle.std.proofs.lemmas.Bool.{cases_eq, cases_lt}
use Rattle.std.proofs.lemmas.List.{get_or-map, get_or-replicate, get_or-set_same, get_or-set_other, get_or_past, length-map, length-replicate, length-set, map-set, with_items_is}
use Rattle.std.proofs.lemmas.List.Elements.{Contains-append_left, Contains-push, Contains-push_cases}
use Rattle.std.proofs.lemmas.Option.{slice_get-get_or}
use Rattle.list_laws.proofs.Members.{stands_in}
use Rattle.list_laws.proofs.OneOrder.{nothing_in}
use Rattle.prolog_terms.proofs.ViewLemmas.{some_once}
use Rattle.import_rules.specs.declared.names.PredName.{PredName}
use Rattle.import_rules.specs.declared.item.Item.{Item}
use Rattle.import_rules.specs.Clashes.{Imports, see_item}
use Rattle.import_rules.specs.Names.{is_same, pred_cmp}
use Rattle.import_rules.specs.TakenModules.{AreMarked, HaveSize, marked_at, marked_in, module_name, rows_in}
use Rattle.import_rules.proofs.Lists.{any_there}
use Rattle.import_rules.proofs.NameOrder.{same_itself}
use Rattle.import_rules.proofs.NumberLemmas.{number_at}
use Rattle.import_rules.proofs.SourceLemmas.{next_item}

-- the index of an element
pub index_of : {X : Type 0} (xs : List X) (x : X) → Contains xs x → (n : ℕ) × (slice_get xs n ≡ Some x)
index_of xs x (n, within, is) = (n, slice_get-get_or xs n x within ∙ ap (λ y. Some y) is)

-- of names in order each has one index
pub one_index : (names : List PredName) (p : PredName) (m n : ℕ) → AllPairs (λ p q. pred_cmp p q ≡ Less) names → slice_get names m ≡ Some p → slice_get names n ≡ Some p → m ≡ n
one_index names p m n up is so = some_once (sym (number_at names p m up is) ∙ number_at names p n up so)

-- and none where it isn't there
pub no_index : (names : List PredName) (p : PredName) (n : ℕ) → list_any (is_same p) names ≡ false → slice_get names n ≡ Some p → ⊥
no_index names p n none is =
    let both : true ≡ false = sym (any_there (is_same p) names p (stands_in names n p is) (same_itself p)) ∙ none in
    cc

-- one of the lists is written anew

module _ {X : Type 0} where
  abbrev pub inner : List (Vec X Global) → List (List X)
  inner lists = map (λ (list : Vec X Global). list.items) lists

  pub list_at : (lists : List (Vec X Global)) (n : ℕ) (d : Vec X Global) → n < length lists → get_or (inner lists) n [] ≡ (get_or lists n d).items
  list_at lists n d within = get_or-map (λ (list : Vec X Global). list.items) lists n d [] within

  pub list_anew : (lists : List (Vec X Global)) (k : ℕ) (new : Vec X Global) → k < length lists → get_or (inner (set lists k new)) k [] ≡ new.items
  list_anew lists k new within =
      ap (λ ls. get_or ls k []) (map-set (λ (list : Vec X Global). list.items) lists k new)
      ∙ get_or-set_same (inner lists) k new.items [] (omega (arith, within, length-map lists (λ (list : Vec X Global). list.items)))

  pub list_other : (lists : List (Vec X Global)) (k n : ℕ) (new : Vec X Global) → n ≢ k → get_or (inner (set lists k new)) n [] ≡ get_or (inner lists) n []
  list_other lists k n new other =
      ap (λ ls. get_or ls n []) (map-set (λ (list : Vec X Global). list.items) lists k new)
      ∙ get_or-set_other (inner lists) k n new.items [] other

-- rows of which no mark is set

abbrev pub AreEmptyRows : ℕ → List (Vec Bool Global) → Type 0
AreEmptyRows size rows = All (λ (row : Vec Bool Global). (length row.items ≡ size) × ((n : ℕ) → marked_in row.items n ≡ false)) rows

pub empty_row : (size : ℕ) (row : List Bool) → row ≡ replicate size false → (length row ≡ size) × ((n : ℕ) → marked_in row n ≡ false)
empty_row size row is = (ap length is ∙ length-replicate size false, λ n. ap (λ r. marked_in r n) is ∙ at n)
  where
    at : (n : ℕ) → get_or (replicate size false) n false ≡ false
    at n =
        elim (cases_lt n size) [
          | inl within ↦ get_or-replicate size n false false within
          | inr past ↦ get_or_past (replicate size false) n false (omega (arith, past, length-replicate size false))
        ]

pub empty_size : (size : ℕ) (rows : List (Vec Bool Global)) → length rows ≡ size → AreEmptyRows size rows → HaveSize size rows
empty_size size [] long each = record { long = long; wide = λ n within. absurd (omega (arith, within, long)) }
empty_size size (row ∷ rows) long each = record {
  long = long;
  wide = λ n within.
      let inside : n < length (row ∷ rows) = omega (arith, within, long) in
      ap length (list_at (row ∷ rows) n row inside) ∙ (each n row inside).0;
}

pub empty_none : (size : ℕ) (rows : List (Vec Bool Global)) → AreEmptyRows size rows → (user from : ℕ) → marked_at rows user from ≡ false
empty_none size [] each user from = refl
empty_none size (row ∷ rows) each user from =
    elim (cases_lt user (length (row ∷ rows))) [
      | inl within ↦ ap (λ r. marked_in r from) (list_at (row ∷ rows) user row within) ∙ (each user row within).1 from
      | inr past ↦ ap (λ r. marked_in r from) (get_or_past (inner (row ∷ rows)) user [] (omega (arith, past, length-map (row ∷ rows) (λ (list : Vec Bool Global). list.items))))
    ]

-- one more mark

pub row_long : (rows : List (Vec Bool Global)) (size user from : ℕ) (d : Vec Bool Global) → HaveSize size rows → user < size → from < size → from < length (get_or rows user d).items
row_long rows size user from d have below inside =
    let same : length (get_or (rows_in rows) user []) ≡ length (get_or rows user d).items = ap length (list_at rows user d (omega (arith, below, have.long))) in
    omega (arith, inside, have.wide user below, same)

module _ (rows : List (Vec Bool Global)) (size user from : ℕ) (row d : Vec Bool Global) (new : List Bool) (have : HaveSize size rows) (below : user < size)
    (long : length new ≡ length row.items) (is : row ≡ get_or rows user d) where
  abbrev after : List (Vec Bool Global)
  after = set rows user (with_items row new)

  inside : user < length rows
  inside = omega (arith, below, have.long)

  anew : get_or (rows_in after) user [] ≡ new
  anew = list_anew rows user (with_items row new) inside ∙ with_items_is row new (long ∙ sym row.ok.0)

  before : get_or (rows_in rows) user [] ≡ row.items
  before = list_at rows user d inside ∙ ap (λ (v : Vec Bool Global). v.items) (sym is)

  pub size_kept : HaveSize size (set rows user (with_items row new))
  size_kept = record {
    long = length-set rows user (with_items row new) ∙ have.long;
    wide = λ n within.
        elim (cases_eq n user) [
          | inl same ↦ ap (λ k. length (get_or (rows_in after) k [])) same ∙ ap length anew ∙ long ∙ sym (ap length before) ∙ have.wide user below
          | inr other ↦ ap length (list_other rows user n (with_items row new) other) ∙ have.wide n within
        ];
  }

  pub mark_here : marked_in new from ≡ true → marked_at (set rows user (with_items row new)) user from ≡ true
  mark_here here = ap (λ r. marked_in r from) anew ∙ here

  pub mark_others : ((n : ℕ) → n ≢ from → marked_in new n ≡ marked_in row.items n) → (u n : ℕ) → ((u ≡ user) × (n ≡ from) → ⊥)
      → marked_at (set rows user (with_items row new)) u n ≡ marked_at rows u n
  mark_others others u n apart =
      elim (cases_eq u user) [
        | inl same ↦
            ap (λ k. marked_at after k n) same ∙ ap (λ r. marked_in r n) anew ∙ others n (λ so. apart (same, so))
            ∙ sym (ap (λ k. marked_at rows k n) same ∙ ap (λ r. marked_in r n) before)
        | inr other ↦ ap (λ r. marked_in r n) (list_other rows user u (with_items row new) other)
      ]

-- marks of no pair
pub none_marked : (modules : List PredName) (rows : List (Vec Bool Global)) → ((user from : ℕ) → marked_at rows user from ≡ false) → AreMarked modules [] rows
none_marked modules rows none = record {
  each = λ user from marked. let both : true ≡ false = sym marked ∙ none user from in cc;
  all = λ k user from has. absurd (nothing_in k has);
}

-- marks of one more pair

module _ (modules : List PredName) (pairs : List Imports) (k : Imports) where
  -- one of whose modules isn't there
  pub pair_passed : (rows : List (Vec Bool Global)) → AreMarked modules pairs rows
      → ((user from : ℕ) → slice_get modules user ≡ Some (module_name k.into.module) → slice_get modules from ≡ Some (module_name k.into.name) → ⊥)
      → AreMarked modules (pairs ++ k ∷ []) rows
  pair_passed rows are absent = record {
    each = λ user from marked.
        let by = are.each user from marked in
        (by.0, Contains-append_left pairs (k ∷ []) by.0 by.1, by.2, by.3);
    all = λ j user from has is so.
        elim (Contains-push_cases pairs k j has) [
          | inl old ↦ are.all j user from old is so
          | inr same ↦
              absurd
              (absent user from (is ∙ ap (λ (i : Imports). Some (module_name i.into.module)) (sym same))
              (so ∙ ap (λ (i : Imports). Some (module_name i.into.name)) (sym same)))
        ];
  }

  pub pair_marked : (old new : List (Vec Bool Global)) (user from : ℕ) → AllPairs (λ p q. pred_cmp p q ≡ Less) modules
      → slice_get modules user ≡ Some (module_name k.into.module) → slice_get modules from ≡ Some (module_name k.into.name)
      → marked_at new user from ≡ true → ((u n : ℕ) → ((u ≡ user) × (n ≡ from) → ⊥) → marked_at new u n ≡ marked_at old u n)
      → AreMarked modules pairs old → AreMarked modules (pairs ++ k ∷ []) new
  pair_marked old new user from up is so here others are = record {
    each = λ u n marked.
        let elsewhere : ((u ≡ user) × (n ≡ from) → ⊥) → (j : Imports) × Contains (pairs ++ k ∷ []) j
        × (slice_get modules u ≡ Some (module_name j.into.module)) × (slice_get modules n ≡ Some (module_name j.into.name)) =
        λ apart.
        let by = are.each u n (sym (others u n apart) ∙ marked) in
        (by.0, Contains-append_left pairs (k ∷ []) by.0 by.1, by.2, by.3) in
        elim (cases_eq u user) [
          | inl same ↦
              elim (cases_eq n from) [
                | inl alike ↦ (k, Contains-push pairs k, ap (slice_get modules) same ∙ is, ap (slice_get modules) alike ∙ so)
                | inr other ↦ elsewhere (λ both. other both.1)
              ]
          | inr other ↦ elsewhere (λ both. other both.0)
        ];
    all = λ j u n has j_is j_so.
        elim (Contains-push_cases pairs k j has) [
          | inl earlier ↦
              let elsewhere : ((u ≡ user) × (n ≡ from) → ⊥) → marked_at new u n ≡ true = λ apart. others u n apart ∙ are.all j u n earlier j_is j_so in
              elim (cases_eq u user) [
                | inl same ↦
                    elim (cases_eq n from) [
                      | inl alike ↦ (λ i. marked_at new (same i) (alike i)) ∙ here
                      | inr other ↦ elsewhere (λ both. other both.1)
                    ]
                | inr other ↦ elsewhere (λ both. other both.0)
              ]
          | inr same ↦
              let first : u ≡ user = one_index modules (module_name k.into.module) u user up (j_is ∙ ap (λ (i : Imports). Some (module_name i.into.module)) (sym same)) is in
              let second : n ≡ from = one_index modules (module_name k.into.name) n from up (j_so ∙ ap (λ (i : Imports). Some (module_name i.into.name)) (sym same)) so in
              (λ i. marked_at new (first i) (second i)) ∙ here
        ];
  }

-- the marks of items up to the next one

module _ (modules : List PredName) (pairs : List Item) (n : ℕ) (d : Item) (within : n < length pairs) where
  pub user_passed : (rows : List (Vec Bool Global)) → list_any (is_same (module_name (get_or pairs n d).module.now)) modules ≡ false
      → AreMarked modules (map see_item (take n pairs)) rows → AreMarked modules (map see_item (take (n + 1) pairs)) rows
  user_passed rows none are =
      subst (λ ks. AreMarked modules ks rows) (next_item pairs n d within)
      (pair_passed modules (map see_item (take n pairs)) (see_item (get_or pairs n d)) rows are
      (λ user from is so. no_index modules (module_name (get_or pairs n d).module.now) user none is))

  pub from_passed : (rows : List (Vec Bool Global)) → list_any (is_same (module_name (get_or pairs n d).name.now)) modules ≡ false
      → AreMarked modules (map see_item (take n pairs)) rows → AreMarked modules (map see_item (take (n + 1) pairs)) rows
  from_passed rows none are =
      subst (λ ks. AreMarked modules ks rows) (next_item pairs n d within)
      (pair_passed modules (map see_item (take n pairs)) (see_item (get_or pairs n d)) rows are
      (λ user from is so. no_index modules (module_name (get_or pairs n d).name.now) from none so))

  pub next_marked : (old new : List (Vec Bool Global)) (user from : ℕ) → AllPairs (λ p q. pred_cmp p q ≡ Less) modules
      → slice_get modules user ≡ Some (module_name (get_or pairs n d).module.now) → slice_get modules from ≡ Some (module_name (get_or pairs n d).name.now)
      → marked_at new user from ≡ true → ((u m : ℕ) → ((u ≡ user) × (m ≡ from) → ⊥) → marked_at new u m ≡ marked_at old u m)
      → AreMarked modules (map see_item (take n pairs)) old → AreMarked modules (map see_item (take (n + 1) pairs)) new
  next_marked old new user from up is so here others are =
      subst (λ ks. AreMarked modules ks new) (next_item pairs n d within)
      (pair_marked modules (map see_item (take n pairs)) (see_item (get_or pairs n d)) old new user from up is so here others are)
