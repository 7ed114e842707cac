-- Import items of which some were left out: what they give, and that a second load of a file gives nothing more.
use Rattle.std.proofs.Common.{◌≡◌, ◌≢◌, ℕ, Bool, true, false, not, ◌&&◌, List, [], ◌∷◌, ◌++◌, Option, Some, None, Contains, map, filter, refl, sym, ap, subst, ◌∙◌, inl, inr, ◌+◌, ◌<◌, cond, length, take, get_or, append_assoc}
use Rattle.std.specs.List.{flat_map}
use Rattle.std.specs.Prelude.{if◌then◌else◌, nat_eq}
use Rattle.std.specs.Str.{bytes_eq}
use Rattle.std.specs.Cmp.Lexicographic.{slice_cmp, texts_ties}
use Rattle.std.specs.Ordering.{nat_cmp, is_eq}
use Rattle.std.proofs.lemmas.List.{take_more}
use Rattle.std.proofs.lemmas.Bool.{cases_Bool, false_from_ne_true}
use Rattle.std.proofs.lemmas.Slice.Eq.{bytes_eq-Decides}
use Rattle.std.proofs.lemmas.List.Elements.{All-contains, Contains-append_cases, Contains-append_left, Contains-append_right, filter-append}
use Rattle.module_table.specs.declared.indicator.Indicator.{Indicator}
use Rattle.module_table.specs.declared.load.LoadKind.{LoadKind}
use Rattle.module_table.specs.declared.load.LoadKind.TheVariants.{UseAll, UseSome, Ensure}
use Rattle.module_table.specs.Facts.{Facts}
use Rattle.module_table.specs.Kinds.{first_of}
use Rattle.module_table.specs.Said.{Loads}
use Rattle.import_rules.specs.declared.names.PredName.{PredName}
use Rattle.import_rules.specs.Clashes.{Imports, items_for, first_other, clash, AreClashes, AreFirsts}
use Rattle.import_rules.specs.Enough.{AreEnough, AreGathered, IsDouble}
use Rattle.import_rules.specs.Files.{file_named, has_export, is_first, is_local}
use Rattle.import_rules.specs.Items.{gives, is_foreign, item, taken}
use Rattle.import_rules.specs.Names.{is_same}
use Rattle.import_rules.specs.Offers.{is_shared, kept, kept_given, kept_of_load}
use Rattle.import_rules.proofs.Lists.{any_from, filter_none, filter_map_agrees, kept_next, kept_passes}
use Rattle.import_rules.proofs.Members.{flat_map_has}
use Rattle.import_rules.proofs.NameOrder.{same_itself, same_parts}
use Rattle.list_laws.proofs.Members.{all_by, kept_in, kept_there, map_from, map_has}
use Rattle.list_laws.proofs.OneOrder.{nothing_in, first_or_rest, in_first}

-- the first of one list, else of another
abbrev or_first : Option Imports → List Imports → Option Imports
or_first (Some i) ys = Some i
or_first None ys = first_of ys

first_append : (xs ys : List Imports) → first_of (xs ++ ys) ≡ or_first (first_of xs) ys
first_append [] ys = refl
first_append (x ∷ xs) ys = refl

-- whether an item is from another module than that of the first
abbrev differs : Imports → Imports → Bool
differs f i = not (bytes_eq i.from_module f.from_module)

abbrev second_of : Option Imports → Option Imports → List Imports → Option Imports
second_of None second ys = first_other ys
second_of (Some f) second ys = or_first second (filter (differs f) ys)

second_append : (xs ys : List Imports) → first_other (xs ++ ys) ≡ second_of (first_of xs) (first_other xs) ys
second_append [] ys = refl
second_append (f ∷ xs) ys = ap first_of (filter-append (differs f) xs ys) ∙ first_append (filter (differs f) xs) (filter (differs f) ys)

-- what all give and some give stays the same with more of both

pub enough_more : (all some more : List Imports) → AreEnough all some → AreEnough (all ++ more) (some ++ more)
enough_more all some more enough = record {
  each = all_by (Contains (all ++ more)) (some ++ more)
      (λ i has. elim (Contains-append_cases some more i has) [
        | inl old ↦ Contains-append_left all more i (All-contains (Contains all) some i enough.each old)
        | inr new ↦ Contains-append_right all more i new
      ]);
  first = λ p.
      ap first_of (split p some)
      ∙ first_append (items_for p some) (items_for p more)
      ∙ ap (λ o. or_first o (items_for p more)) (enough.first p)
      ∙ sym (first_append (items_for p all) (items_for p more))
      ∙ ap first_of (sym (split p all));
  second = λ p.
      ap first_other (split p some)
      ∙ second_append (items_for p some) (items_for p more)
      ∙ ap (λ o. second_of o (clash some p) (items_for p more)) (enough.first p)
      ∙ ap (λ o. second_of (first_of (items_for p all)) o (items_for p more)) (enough.second p)
      ∙ sym (second_append (items_for p all) (items_for p more))
      ∙ ap first_other (sym (split p all));
}
  where
    split : (p : PredName) (is : List Imports) → items_for p (is ++ more) ≡ items_for p is ++ items_for p more
    split p is = filter-append (λ (i : Imports). is_same p i.into) is more

-- doubles change neither the first nor the first one from another module

module _ (xs ds : List Imports) (doubles : (i : Imports) → Contains ds i → (j : Imports) × Contains xs j × (j.from_module ≡ i.from_module)) where
  none_first : xs ≡ [] → ds ≡ []
  none_first nil = elim ds as (λ es. ds ≡ es → es ≡ []) [
    | [] ↦ λ is. refl
    | d ∷ es ↦ λ is. let double = doubles d (subst (λ fs. Contains fs d) (sym is) (in_first d es)) in
        absurd (nothing_in double.0 (subst (λ fs. Contains fs double.0) nil double.1))
  ] refl

no_first : (xs ds : List Imports) → ((i : Imports) → Contains ds i → (j : Imports) × Contains xs j × (j.from_module ≡ i.from_module)) → first_of xs ≡ first_of (xs ++ ds)
no_first [] ds doubles = ap first_of (sym (none_first [] ds doubles refl))
no_first (x ∷ xs) ds doubles = refl

no_second : (xs ds : List Imports) → ((i : Imports) → Contains ds i → (j : Imports) × Contains xs j × (j.from_module ≡ i.from_module)) → first_other xs ≡ first_other (xs ++ ds)
no_second [] ds doubles = ap first_other (sym (none_first [] ds doubles refl))
no_second (f ∷ xs) ds doubles =
    at (filter (differs f) xs) refl ∙ sym (ap first_of (filter-append (differs f) xs ds))
  where
    own : bytes_eq f.from_module f.from_module ≡ true
    own = (bytes_eq-Decides f.from_module f.from_module).1 refl

    like_other : filter (differs f) xs ≡ [] → (j : Imports) → Contains (f ∷ xs) j → differs f j ≡ false
    like_other nil j has =
        elim (first_or_rest f j xs has) [
          | inl same ↦ ap (λ k. differs f k) (sym same) ∙ ap not own
          | inr later ↦ false_from_ne_true (differs f j) (λ other. nothing_in j (subst (λ es. Contains es j) nil (kept_in (differs f) xs j later other)))
        ]

    all_like : filter (differs f) xs ≡ [] → filter (differs f) ds ≡ []
    all_like nil =
        filter_none (differs f) ds
        (all_by (λ i. differs f i ≡ false) ds
        (λ i has.
        let double = doubles i has in
        ap (λ m. not (bytes_eq m f.from_module)) (sym double.2) ∙ like_other nil double.0 double.1))

    at : (ks : List Imports) → filter (differs f) xs ≡ ks → first_of (filter (differs f) xs) ≡ first_of (filter (differs f) xs ++ filter (differs f) ds)
    at [] is = ap first_of is ∙ sym (ap first_of (ap (λ es. es ++ filter (differs f) ds) is ∙ all_like is))
    at (k ∷ ks) is = ap first_of is ∙ sym (ap first_of (ap (λ es. es ++ filter (differs f) ds) is))

pub enough_without : (all some more : List Imports) → AreEnough all some → ((i : Imports) → Contains more i → IsDouble all i) → AreEnough (all ++ more) some
enough_without all some more enough doubles = record {
  each = all_by (Contains (all ++ more)) some (λ i has. Contains-append_left all more i (All-contains (Contains all) some i enough.each has));
  first = λ p. enough.first p ∙ no_first (items_for p all) (items_for p more) (for_one p) ∙ ap first_of (sym (split p));
  second = λ p. enough.second p ∙ no_second (items_for p all) (items_for p more) (for_one p) ∙ ap first_other (sym (split p));
}
  where
    split : (p : PredName) → items_for p (all ++ more) ≡ items_for p all ++ items_for p more
    split p = filter-append (λ (i : Imports). is_same p i.into) all more

    for_one : (p : PredName) (i : Imports) → Contains (items_for p more) i → (j : Imports) × Contains (items_for p all) j × (j.from_module ≡ i.from_module)
    for_one p i has =
        let double = doubles i (kept_there (λ (k : Imports). is_same p k.into) more i has) in
        let named : is_same p double.0.into ≡ true = ap (is_same p) double.2 ∙ kept_passes (λ (k : Imports). is_same p k.into) more i has in
        (double.0, kept_in (λ (k : Imports). is_same p k.into) all double.0 double.1 named, double.3)

-- enough items give what all give

some_for : (all some : List Imports) → AreEnough all some → (i : Imports) → Contains all i → (j : Imports) × Contains some j × (j.into ≡ i.into)
some_for all some enough i has =
    at (items_for i.into some) refl
  where
    there : Contains (items_for i.into all) i
    there = kept_in (λ (k : Imports). is_same i.into k.into) all i has (same_itself i.into)

    nonempty : (ks : List Imports) → Contains ks i → first_of ks ≡ None → ⊥
    nonempty [] h none = nothing_in i h
    nonempty (k ∷ ks) h none = cc

    at : (ks : List Imports) → items_for i.into some ≡ ks → (j : Imports) × Contains some j × (j.into ≡ i.into)
    at [] is = absurd (nonempty (items_for i.into all) there (sym (enough.first i.into) ∙ ap first_of is))
    at (j ∷ ks) is =
        let kept : Contains (items_for i.into some) j = subst (λ es. Contains es j) (sym is) (in_first j ks) in (
          j,
          kept_there (λ (k : Imports). is_same i.into k.into) some j kept,
          sym (same_parts i.into j.into (kept_passes (λ (k : Imports). is_same i.into k.into) some j kept)),
        )

pub enough_firsts : (all some firsts : List Imports) → AreEnough all some → AreFirsts some firsts → AreFirsts all firsts
enough_firsts all some firsts enough are = record {
  in_order = are.in_order;
  each = all_by (Contains all) firsts (λ i has. All-contains (Contains all) some i enough.each (All-contains (Contains some) firsts i are.each has));
  all = all_by (λ (i : Imports). Contains (map (λ (f : Imports). f.into) firsts) i.into) all
      (λ i has.
      let j = some_for all some enough i has in
      subst (Contains (map (λ (f : Imports). f.into) firsts)) j.2
      (All-contains (λ (k : Imports). Contains (map (λ (f : Imports). f.into) firsts) k.into) some j.0 are.all j.1));
}

pub enough_clashes : (all some clashes : List Imports) → AreEnough all some → AreClashes some clashes → AreClashes all clashes
enough_clashes all some clashes enough are = record {
  predicates = are.predicates;
  in_order = are.in_order;
  each = all_by (Contains (map (λ (i : Imports). i.into) all)) are.predicates
      (λ p has.
      let from = map_from (λ (i : Imports). i.into) some p (All-contains (Contains (map (λ (i : Imports). i.into) some)) are.predicates p are.each has) in
      subst (Contains (map (λ (i : Imports). i.into) all)) from.2
      (map_has (λ (i : Imports). i.into) all from.0 (All-contains (Contains all) some from.0 enough.each from.1)));
  all = all_by (λ (i : Imports). Contains are.predicates i.into) all
      (λ i has.
      let j = some_for all some enough i has in
      subst (Contains are.predicates) j.2 (All-contains (λ (k : Imports). Contains are.predicates k.into) some j.0 are.all j.1));
  are = are.are ∙ filter_map_agrees (clash some) (clash all) enough.second are.predicates;
}

pub enough_none : AreEnough [] []
enough_none = record { each = all_by (Contains []) [] (λ i has. has); first = λ p. refl; second = λ p. refl }

-- what a load gives is given where the file was taken whole

export_of : (file : Facts) (i : Indicator) → has_export file i ≡ true → (e : Indicator) × Contains file.exports e × (e.name ≡ i.name) × (e.arity ≡ i.arity)
export_of file i has =
    let from = any_from (λ (e : Indicator). bytes_eq i.name e.name && nat_eq i.arity e.arity) file.exports has in
    let same : is_same (record { «module» = []; name = i.name; arity = i.arity }) (record { «module» = []; name = from.0.name; arity = from.0.arity }) ≡ true = from.2 in
    let is = same_parts (record { «module» = []; name = i.name; arity = i.arity }) (record { «module» = []; name = from.0.name; arity = from.0.arity }) same in
    (from.0, from.1, sym (ap (λ (p : PredName). p.name) is), sym (ap (λ (p : PredName). p.arity) is))

-- the item of the export is among those that a load of the whole file takes
pub whole_has : (user file : Facts) (load : Loads) (kind : LoadKind) → kind ≢ UseSome → (e : Indicator) → Contains file.exports e
    → Contains (taken user file load kind) (item user file load.from e)
whole_has user file load UseSome whole e has = absurd (whole refl)
whole_has user file load UseAll whole e has = map_has (item user file load.from) file.exports e has
whole_has user file load Ensure whole e has = map_has (item user file load.from) file.exports e has

-- each item that a load takes is that of an export
pub taken_from : (user file : Facts) (load : Loads) (kind : LoadKind) (i : Imports) → Contains (taken user file load kind) i
    → (e : Indicator) × Contains file.exports e × (record { «module» = user.module_; name = e.name; arity = e.arity } ≡ i.into) × (file.module_ ≡ i.from_module)
taken_from user file load UseAll i has =
    let from = map_from (item user file load.from) file.exports i has in
    (from.0, from.1, ap (λ (k : Imports). k.into) from.2, ap (λ (k : Imports). k.from_module) from.2)
taken_from user file load Ensure i has =
    let from = map_from (item user file load.from) file.exports i has in
    (from.0, from.1, ap (λ (k : Imports). k.into) from.2, ap (λ (k : Imports). k.from_module) from.2)
taken_from user file load UseSome i has =
    let from = map_from (λ (x : Indicator). item user file x.from x) (filter (has_export file) load.items) i has in
    let export = export_of file from.0 (kept_passes (has_export file) load.items from.0 from.1) in (
      export.0,
      export.1,
      ap (λ n. record { «module» = user.module_; name = n; arity = export.0.arity }) export.2
          ∙ ap (λ a. record { «module» = user.module_; name = from.0.name; arity = a }) export.3
          ∙ ap (λ (k : Imports). k.into) from.2,
      ap (λ (k : Imports). k.from_module) from.2,
    )

-- what a load of a whole file keeps is what each other one keeps

whole_from : (shared : List Imports) (user file : Facts) (load : Loads) (kind : LoadKind) (i : Imports) → kind ≢ UseSome → Contains (kept shared user file load kind) i
    → (e : Indicator) × Contains (filter (is_shared shared) file.exports) e × (item user file load.from e ≡ i)
whole_from shared user file load UseSome i whole has = absurd (whole refl)
whole_from shared user file load UseAll i whole has = map_from (item user file load.from) (filter (is_shared shared) file.exports) i has
whole_from shared user file load Ensure i whole has = map_from (item user file load.from) (filter (is_shared shared) file.exports) i has

whole_keeps : (shared : List Imports) (user file : Facts) (load : Loads) (kind : LoadKind) (e : Indicator) → kind ≢ UseSome → Contains (filter (is_shared shared) file.exports) e
    → Contains (kept shared user file load kind) (item user file load.from e)
whole_keeps shared user file load UseSome e whole has = absurd (whole refl)
whole_keeps shared user file load UseAll e whole has = map_has (item user file load.from) (filter (is_shared shared) file.exports) e has
whole_keeps shared user file load Ensure e whole has = map_has (item user file load.from) (filter (is_shared shared) file.exports) e has

load_doubles : (files : List Facts) (shared : List Imports) (user new : Facts) (one other : Loads) → user.module_ ≡ new.module_ → one.file ≡ other.file → one.kind ≢ UseSome → other.kind ≢ UseSome
    → (i : Imports) → Contains (kept_of_load files shared new other) i → IsDouble (kept_of_load files shared user one) i
load_doubles files shared user new one other home same whole also i has =
    let found = at (file_named files other.file) has in (
      found.0,
      subst (λ name. Contains (elim (file_named files name) [ Some file ↦ kept_given files shared user one file | None ↦ [] ]) found.0) (sym same) found.1,
      found.2,
      found.3,
    )
  where
    in_file : (file : Facts) (b : Bool) → Contains (if b then kept shared new file other other.kind else []) i → IsDouble (if b then kept shared user file one one.kind else []) i
    in_file file false h = absurd (nothing_in i h)
    in_file file true h =
        let from = whole_from shared new file other other.kind i also h in (
          item user file one.from from.0,
          whole_keeps shared user file one one.kind from.0 whole from.1,
          ap (λ own. record { «module» = own; name = from.0.name; arity = from.0.arity }) home ∙ ap (λ (k : Imports). k.into) from.2,
          ap (λ (k : Imports). k.from_module) from.2,
        )

    at : (named : Option Facts) → Contains (elim named [ Some file ↦ kept_given files shared new other file | None ↦ [] ]) i
        → IsDouble (elim named [ Some file ↦ kept_given files shared user one file | None ↦ [] ]) i
    at None h = absurd (nothing_in i h)
    at (Some file) h =
        subst (λ own. IsDouble (if file.is_module && (is_first files file && not (bytes_eq file.module_ own)) then kept shared user file one one.kind else []) i) (sym home)
        (in_file file (gives files new file) h)

-- what users of one module give

module _ (files : List Facts) (shared : List Imports) (own : List ℕ) where
  abbrev all_of : Facts → Loads → List Imports
  all_of user load = filter (is_foreign files) (kept_of_load files shared user load)

  wider : (all more : List Imports) (i : Imports) → IsDouble all i → IsDouble (all ++ more) i
  wider all more i double = (double.0, Contains-append_left all more double.0 double.1, double.2, double.3)

  pub gathered_none : (has : List ℕ → Bool) → ((name : List ℕ) → has name ≡ false) → AreGathered files shared own [] [] has
  gathered_none has none = record {
    enough = enough_none;
    whole = λ user load i home there. let both : true ≡ false = sym there ∙ none load.file in cc;
  }

  -- more items
  pub gathered_more : (all some more : List Imports) (has : List ℕ → Bool) → AreGathered files shared own all some has → AreGathered files shared own (all ++ more) (some ++ more) has
  gathered_more all some more has are = record {
    enough = enough_more all some more are.enough;
    whole = λ user load i home there kind given. wider all more i (are.whole user load i home there kind given);
  }

  -- a load of a whole file that was taken whole before is left out
  pub gathered_skip : (user : Facts) (load : Loads) (all some : List Imports) (has : List ℕ → Bool) → user.module_ ≡ own → has load.file ≡ true → load.kind ≢ UseSome
      → AreGathered files shared own all some has → AreGathered files shared own (all ++ filter (is_foreign files) (kept_of_load files shared user load)) some has
  gathered_skip user load all some has home there kind are = record {
    enough = enough_without all some (all_of user load) are.enough (λ i given. are.whole user load i home there kind given);
    whole = λ other one i at named whole given. wider all (all_of user load) i (are.whole other one i at named whole given);
  }

  -- a load of a whole file is taken
  pub gathered_take : (user : Facts) (load : Loads) (all some : List Imports) (has now : List ℕ → Bool) → user.module_ ≡ own → load.kind ≢ UseSome
      → ((name : List ℕ) → now name ≡ cond (is_eq (slice_cmp nat_cmp load.file name)) true (has name)) → AreGathered files shared own all some has
      → AreGathered files shared own (all ++ filter (is_foreign files) (kept_of_load files shared user load)) (some ++ filter (is_foreign files) (kept_of_load files shared user load)) now
  gathered_take user load all some has now home kind is are = record {
    enough = enough_more all some (all_of user load) are.enough;
    whole = λ other one i at named whole given.
        elim (cases_Bool (is_eq (slice_cmp nat_cmp load.file one.file))) [
          | inl tie ↦
              let same : load.file ≡ one.file = (bytes_eq-Decides load.file one.file).0 (texts_ties load.file one.file ∙ tie) in
              let double = load_doubles files shared user other load one (home ∙ sym at) same kind whole i (kept_there (is_foreign files) (kept_of_load files shared other one) i given) in
              let foreign : is_foreign files double.0 ≡ true =
              ap (λ p. not (is_local files p)) double.2 ∙ kept_passes (is_foreign files) (kept_of_load files shared other one) i given in (
                double.0,
                Contains-append_right all (all_of user load) double.0 (kept_in (is_foreign files) (kept_of_load files shared user load) double.0 double.1 foreign),
                double.2,
                double.3,
              )
          | inr apart ↦ wider all (all_of user load) i (are.whole other one i at (sym (is one.file ∙ ap (λ b. cond b true (has one.file)) apart) ∙ named) whole given)
        ];
  }

-- the loads up to the next one
pub grown : (files : List Facts) (shared : List Imports) (user : Facts) (loads : List Loads) (i : ℕ) (load : Loads) (before : List Imports) → i < length loads → load ≡ get_or loads i load
    → (before ++ filter (is_foreign files) (flat_map (kept_of_load files shared user) (take i loads))) ++ filter (is_foreign files) (kept_of_load files shared user load)
    ≡ before ++ filter (is_foreign files) (flat_map (kept_of_load files shared user) (take (i + 1) loads))
grown files shared user loads i load before within here =
    append_assoc before (filter (is_foreign files) (flat_map (kept_of_load files shared user) (take i loads))) (filter (is_foreign files) (kept_of_load files shared user load))
    ∙ ap (λ ys. before ++ ys) (sym (kept_next (is_foreign files) (kept_of_load files shared user) loads i load within here))

-- a load of a whole file lists nothing
pub unlisted : (files : List Facts) (user : Facts) (load : Loads) → load.kind ≢ UseSome → kept_of_load files [] user load ≡ []
unlisted files user load whole = at (file_named files load.file)
  where
    none_shared : (es : List Indicator) → filter (is_shared []) es ≡ []
    none_shared es = filter_none (is_shared []) es (all_by (λ e. is_shared [] e ≡ false) es (λ e has. refl))

    of_kind : (file : Facts) (kind : LoadKind) → kind ≢ UseSome → kept [] user file load kind ≡ []
    of_kind file UseSome apart = absurd (apart refl)
    of_kind file UseAll apart = ap (map (item user file load.from)) (none_shared file.exports)
    of_kind file Ensure apart = ap (map (item user file load.from)) (none_shared file.exports)

    in_file : (file : Facts) (b : Bool) → ◌≡◌ {A = List Imports} (if b then kept [] user file load load.kind else []) []
    in_file file true = of_kind file load.kind whole
    in_file file false = refl

    at : (r : Option Facts) → ◌≡◌ {A = List Imports} (elim r [ Some file ↦ kept_given files [] user load file | None ↦ [] ]) []
    at (Some file) = in_file file (gives files user file)
    at None = refl
