-- Items that are kept: they clash where all items do, and what isn't kept is taken with all that its file offers.
use Rattle.std.proofs.Common.{◌≡◌, Bool, true, false, List, [], ◌∷◌, ◌++◌, Option, Some, None, AllPairs, Contains, map, filter, flat_map, refl, sym, ap, subst, ◌∙◌, inl, inr, ◌⊎◌, cond, arith}
use Rattle.std.specs.Prelude.{if◌then◌else◌}
use Rattle.std.specs.List.{filter_map, cons_option}
use Rattle.std.specs.Ordering.{is_eq, ordering_reverse}
use Rattle.std.specs.declared.cmp.Ordering.{Ordering}
use Rattle.std.specs.declared.cmp.Ordering.TheVariants.{Less, Equal, Greater}
use Rattle.std.proofs.lemmas.Bool.{cases_Bool, false_from_ne_true}
use Rattle.std.proofs.lemmas.List.Elements.{All-contains, filter-append}
use Rattle.std.proofs.lemmas.List.Kept.{AllPairs-cons}
use Rattle.list_laws.proofs.Members.{kept_in as kept_by}
use Rattle.list_laws.proofs.OneOrder.{nothing_in, first_or_rest, in_first, in_rest, before_rest, rest_in_order}
use Rattle.module_table.specs.declared.indicator.Indicator.{Indicator}
use Rattle.module_table.specs.declared.load.LoadKind.{LoadKind}
use Rattle.module_table.specs.declared.load.LoadKind.TheVariants.{UseAll, UseSome, Ensure}
use Rattle.module_table.specs.Facts.{Facts}
use Rattle.module_table.specs.Said.{Loads}
use Rattle.import_rules.specs.declared.names.PredName.{PredName}
use Rattle.import_rules.specs.Clashes.{Imports, items_for, first_other, clash, AreClashes}
use Rattle.import_rules.specs.Files.{file_named}
use Rattle.import_rules.specs.Items.{foreign_items, given, gives, is_foreign, item, items, items_of_load, taken}
use Rattle.import_rules.specs.Names.{is_same, pred_cmp, pred_name}
use Rattle.import_rules.specs.Offers.{all_pairs, is_shared, kept, kept_given, kept_items, kept_of_load, offers, pair, pairs, pairs_of_load}
use Rattle.import_rules.proofs.Lists.{all_by, filter_map_agrees, kept_passes, kept_there, map_from, map_has}
use Rattle.import_rules.proofs.Members.{flat_map_from, flat_map_has}
use Rattle.import_rules.proofs.NameOrder.{pred_cmp_total, same_parts, same_ties}
use Rattle.import_rules.proofs.Offered.{clash_is, is_shared_name, IsTakenBy, items_alike, none_of_one, taken_by}

-- filters

filter_parts : {X Y : Type 0} (p : Y → Bool) (f g : X → List Y) (xs : List X) → ((x : X) → filter p (f x) ≡ filter p (g x)) → filter p (flat_map f xs) ≡ filter p (flat_map g xs)
filter_parts {X} {Y} p f g [] same = refl
filter_parts {X} {Y} p f g (x ∷ xs) same =
    filter-append p (f x) (flat_map f xs) ∙ (λ i. same x i ++ filter_parts p f g xs same i) ∙ sym (filter-append p (g x) (flat_map g xs))

filter_swap : {X : Type 0} (p q : X → Bool) (xs : List X) → filter p (filter q xs) ≡ filter q (filter p xs)
filter_swap {X} p q [] = refl
filter_swap {X} p q (x ∷ xs) = at (p x) refl (q x) refl (filter_swap p q xs)
  where
    at : (a : Bool) → p x ≡ a → (b : Bool) → q x ≡ b → filter p (filter q xs) ≡ filter q (filter p xs)
        → filter p (cond b (x ∷ filter q xs) (filter q xs)) ≡ filter q (cond a (x ∷ filter p xs) (filter p xs))
    at true is true so rest =
        ap (λ c. cond c (x ∷ filter p (filter q xs)) (filter p (filter q xs))) is ∙ ap (λ ys. x ∷ ys) rest
        ∙ sym (ap (λ c. cond c (x ∷ filter q (filter p xs)) (filter q (filter p xs))) so)
    at true is false so rest = rest ∙ sym (ap (λ c. cond c (x ∷ filter q (filter p xs)) (filter q (filter p xs))) so)
    at false is true so rest = ap (λ c. cond c (x ∷ filter p (filter q xs)) (filter p (filter q xs))) is ∙ rest
    at false is false so rest = rest

-- kept items are items, and those of a shared name are all that there are

module _ (files : List Facts) (shared : List Imports) where
  in_exports : (user file : Facts) (load : Loads) (i : Imports) → Contains (map (item user file load.from) (filter (is_shared shared) file.exports)) i
      → Contains (map (item user file load.from) file.exports) i
  in_exports user file load i has =
      let from = map_from (item user file load.from) (filter (is_shared shared) file.exports) i has in
      subst (Contains (map (item user file load.from) file.exports)) from.2
      (map_has (item user file load.from) file.exports from.0 (kept_there (is_shared shared) file.exports from.0 from.1))

  in_taken : (user file : Facts) (load : Loads) (kind : LoadKind) (i : Imports) → Contains (kept shared user file load kind) i → Contains (taken user file load kind) i
  in_taken user file load UseSome i has = has
  in_taken user file load UseAll i has = in_exports user file load i has
  in_taken user file load Ensure i has = in_exports user file load i has

  in_given : (user file : Facts) (load : Loads) (i : Imports) (b : Bool) → Contains (if b then kept shared user file load load.kind else []) i
      → Contains (if b then taken user file load load.kind else []) i
  in_given user file load i true has = in_taken user file load load.kind i has
  in_given user file load i false has = has

  in_load : (user : Facts) (load : Loads) (i : Imports) → Contains (kept_of_load files shared user load) i → Contains (items_of_load files user load) i
  in_load user load i has = at (file_named files load.file) has
    where
      at : (r : Option Facts) → Contains (elim r [ Some file ↦ kept_given files shared user load file | None ↦ [] ]) i
          → Contains (elim r [ Some file ↦ given files user load file | None ↦ [] ]) i
      at (Some file) there = in_given user file load i (gives files user file) there
      at None there = there

  pub kept_foreign : (i : Imports) → Contains (kept_items files shared) i → Contains (foreign_items files) i
  kept_foreign i has =
      let all = flat_map (λ (user : Facts). flat_map (kept_of_load files shared user) user.loads) files in
      let outer = flat_map_from (λ (user : Facts). flat_map (kept_of_load files shared user) user.loads) files i (kept_there (is_foreign files) all i has) in
      let user = outer.0 in
      let inner = flat_map_from (kept_of_load files shared user) user.loads i outer.2 in
      kept_by (is_foreign files) (items files) i
      (flat_map_has (λ (u : Facts). flat_map (items_of_load files u) u.loads) files user i outer.1
      (flat_map_has (items_of_load files user) user.loads inner.0 i inner.1 (in_load user inner.0 i inner.2)))
      (kept_passes (is_foreign files) all i has)

  module _ (p : PredName) (is : is_shared_name shared p ≡ true) where
    abbrev for_it : Imports → Bool
    for_it i = is_same p i.into

    apart : (user file : Facts) (offset : _) (e : Indicator) → is_shared shared e ≡ false → for_it (item user file offset e) ≡ false
    apart user file offset e other =
        false_from_ne_true (for_it (item user file offset e))
        (λ same.
        let named : p ≡ (item user file offset e).into = same_parts p (item user file offset e).into same in
        let both : true ≡ false = sym is ∙ ap (is_shared_name shared) named ∙ other in
        cc)

    for_exports : (user file : Facts) (offset : _) (es : List Indicator) → filter for_it (map (item user file offset) (filter (is_shared shared) es)) ≡ filter for_it (map (item user file offset) es)
    for_exports user file offset [] = refl
    for_exports user file offset (e ∷ es) = at (is_shared shared e) refl (for_exports user file offset es)
      where
        at : (b : Bool) → is_shared shared e ≡ b → filter for_it (map (item user file offset) (filter (is_shared shared) es)) ≡ filter for_it (map (item user file offset) es)
            → filter for_it (map (item user file offset) (cond b (e ∷ filter (is_shared shared) es) (filter (is_shared shared) es))) ≡ cond (for_it (item user file offset e)) (item user file offset e ∷ filter for_it (map (item user file offset) es)) (filter for_it (map (item user file offset) es))
        at true so rest = ap (λ ys. cond (for_it (item user file offset e)) (item user file offset e ∷ ys) ys) rest
        at false so rest = rest ∙ sym (ap (λ b. cond b (item user file offset e ∷ filter for_it (map (item user file offset) es)) (filter for_it (map (item user file offset) es))) (apart user file offset e so))

    for_kind : (user file : Facts) (load : Loads) (kind : LoadKind) → filter for_it (kept shared user file load kind) ≡ filter for_it (taken user file load kind)
    for_kind user file load UseSome = refl
    for_kind user file load UseAll = for_exports user file load.from file.exports
    for_kind user file load Ensure = for_exports user file load.from file.exports

    for_given : (user file : Facts) (load : Loads) (b : Bool) → filter for_it (if b then kept shared user file load load.kind else []) ≡ filter for_it (if b then taken user file load load.kind else [])
    for_given user file load true = for_kind user file load load.kind
    for_given user file load false = refl

    for_load : (user : Facts) (load : Loads) → filter for_it (kept_of_load files shared user load) ≡ filter for_it (items_of_load files user load)
    for_load user load = at (file_named files load.file)
      where
        at : (r : Option Facts) → filter for_it (elim r [ Some file ↦ kept_given files shared user load file | None ↦ [] ])
            ≡ filter for_it (elim r [ Some file ↦ given files user load file | None ↦ [] ])
        at (Some file) = for_given user file load (gives files user file)
        at None = refl

    for_name : items_for p (kept_items files shared) ≡ items_for p (foreign_items files)
    for_name =
        filter_swap for_it (is_foreign files) (flat_map (λ (user : Facts). flat_map (kept_of_load files shared user) user.loads) files)
        ∙ ap (filter (is_foreign files))
        (filter_parts for_it (λ (user : Facts). flat_map (kept_of_load files shared user) user.loads) (λ (user : Facts). flat_map (items_of_load files user) user.loads) files
        (λ user. filter_parts for_it (kept_of_load files shared user) (items_of_load files user) user.loads (for_load user)))
        ∙ sym (filter_swap for_it (is_foreign files) (items files))

  -- kept items clash where all do
  pub same_clash : AreClashes (offers files) shared → (p : PredName) → clash (kept_items files shared) p ≡ clash (foreign_items files) p
  same_clash are p =
      elim (cases_Bool (is_shared_name shared p)) [
        | inl is ↦ ap first_other (for_name p is)
        | inr other ↦
            none_of_one (kept_items files shared) p
            (λ i j has also. items_alike files shared are p i j other (there i (kept_foreign i has)) (there j (kept_foreign j also)))
            ∙ sym (none_of_one (foreign_items files) p (λ i j has also. items_alike files shared are p i j other (there i has) (there j also)))
      ]
    where
      there : (i : Imports) → Contains (foreign_items files) i → Contains (items files) i
      there i has = kept_there (is_foreign files) (items files) i has

  -- an item is kept, or its name isn't shared and its module takes all exports
  abbrev pub IsPaired : Imports → Type 0
  IsPaired i = (is_shared_name shared i.into ≡ false) × (q : Imports) × Contains (all_pairs files) q × (q.into ≡ pred_name i.into.module i.from_module 0)

  pub kept_or_paired : (i : Imports) → Contains (foreign_items files) i → Contains (kept_items files shared) i ⊎ IsPaired i
  kept_or_paired i has =
      elim (in_kind load.kind by.is) [
        | inl there ↦
            inl
            (kept_by (is_foreign files) (flat_map (λ (u : Facts). flat_map (kept_of_load files shared u) u.loads) files) i
            (flat_map_has (λ (u : Facts). flat_map (kept_of_load files shared u) u.loads) files user i by.has_user
            (flat_map_has (kept_of_load files shared user) user.loads load i by.has_load
            (subst (λ r. Contains (elim r [ Some f ↦ kept_given files shared user load f | None ↦ [] ]) i) (sym by.named)
            (subst (λ b. Contains (if b then kept shared user file load load.kind else []) i) (sym by.gives_it) there))))
            (kept_passes (is_foreign files) (items files) i has))
        | inr apart ↦
            inr (
              apart.0,
              pair user load file,
              flat_map_has (λ (u : Facts). flat_map (pairs_of_load files u) u.loads) files user (pair user load file) by.has_user
                  (flat_map_has (pairs_of_load files user) user.loads load (pair user load file) by.has_load
                  (subst (λ r. Contains (elim r [ Some f ↦ pairs files user load f load.kind | None ↦ [] ]) (pair user load file)) (sym by.named) apart.1)),
              apart.2,
            )
      ]
    where
      by : IsTakenBy files i
      by = taken_by files i (kept_there (is_foreign files) (items files) i has)

      user : Facts
      user = by.user

      file : Facts
      file = by.file

      load : Loads
      load = by.load

      paired : Contains (if gives files user file then pair user load file ∷ [] else []) (pair user load file)
      paired = subst (λ b. Contains (if b then pair user load file ∷ [] else []) (pair user load file)) (sym by.gives_it) (in_first (pair user load file) [])

      of_all : (there : Contains (map (item user file load.from) file.exports) i)
          → Contains (map (item user file load.from) (filter (is_shared shared) file.exports)) i
          ⊎ ((is_shared_name shared i.into ≡ false) × (pred_name user.module_ file.module_ 0 ≡ pred_name i.into.module i.from_module 0))
      of_all there =
          let from = map_from (item user file load.from) file.exports i there in
          elim (cases_Bool (is_shared shared from.0)) [
            | inl is ↦
                inl
                (subst (Contains (map (item user file load.from) (filter (is_shared shared) file.exports))) from.2
                (map_has (item user file load.from) (filter (is_shared shared) file.exports) from.0 (kept_by (is_shared shared) file.exports from.0 from.1 is)))
            | inr other ↦
                inr (
                  ap (λ (k : Imports). is_shared_name shared k.into) (sym from.2) ∙ other,
                  ap (λ (k : Imports). pred_name k.into.module k.from_module 0) from.2,
                )
          ]

      in_kind : (kind : LoadKind) → Contains (taken user file load kind) i
          → Contains (kept shared user file load kind) i
          ⊎ ((is_shared_name shared i.into ≡ false) × Contains (pairs files user load file kind) (pair user load file)
          × (pred_name user.module_ file.module_ 0 ≡ pred_name i.into.module i.from_module 0))
      in_kind UseSome there = inl there
      in_kind UseAll there =
          elim (of_all there) [ inl here ↦ inl here | inr apart ↦ inr (apart.0, paired, apart.1) ]
      in_kind Ensure there =
          elim (of_all there) [ inl here ↦ inl here | inr apart ↦ inr (apart.0, paired, apart.1) ]

-- more items that clash as some do

-- a list of names with one more of which nothing is given
record IsPut (f : PredName → Option Imports) (p : PredName) (ps : List PredName) : Type 0 where
  names : List PredName
  in_order : AllPairs (λ p q. pred_cmp p q ≡ Less) names
  same : filter_map f names ≡ filter_map f ps
  more : (q : PredName) → Contains ps q → Contains names q
  there : Contains names p
  only : (q : PredName) → Contains names q → (p ≡ q) ⊎ Contains ps q

put : (f : PredName → Option Imports) (p : PredName) (ps : List PredName) → f p ≡ None → AllPairs (λ p q. pred_cmp p q ≡ Less) ps → IsPut f p ps
put f p [] none up = record {
  names = p ∷ [];
  in_order = λ i j d lt within. absurd (omega (arith, lt, within));
  same = ap (λ r. cons_option r []) none;
  more = λ q has. absurd (nothing_in q has);
  there = in_first p [];
  only = λ q has. elim (first_or_rest p q [] has) [ inl is ↦ inl is | inr later ↦ inr later ];
}
put f p (x ∷ xs) none up = at (put f p xs none (rest_in_order (λ p q. pred_cmp p q ≡ Less) x xs up)) (pred_cmp p x) refl
  where
    at : IsPut f p xs → (r : Ordering) → pred_cmp p x ≡ r → IsPut f p (x ∷ xs)
    at rest Less is = record {
      names = p ∷ x ∷ xs;
      in_order = AllPairs-cons (λ p q. pred_cmp p q ≡ Less) p (x ∷ xs)
          (all_by (λ q. pred_cmp p q ≡ Less) (x ∷ xs)
          (λ q has.
          elim (first_or_rest x q xs has) [
            | inl same ↦ subst (λ y. pred_cmp p y ≡ Less) same is
            | inr later ↦ pred_cmp_total.trans p x q is (before_rest (λ p q. pred_cmp p q ≡ Less) x q xs up later)
          ]))
          up;
      same = ap (λ r. cons_option r (filter_map f (x ∷ xs))) none;
      more = λ q has. in_rest p q (x ∷ xs) has;
      there = in_first p (x ∷ xs);
      only = λ q has. first_or_rest p q (x ∷ xs) has;
    }
    at rest Equal is = record {
      names = x ∷ xs;
      in_order = up;
      same = refl;
      more = λ q has. has;
      there = subst (Contains (x ∷ xs)) (sym (same_parts p x (same_ties p x ∙ ap (λ r. is_eq r) is))) (in_first x xs);
      only = λ q has. inr has;
    }
    at rest Greater is =
        record {
          names = x ∷ rest.names;
          in_order = AllPairs-cons (λ p q. pred_cmp p q ≡ Less) x rest.names
              (all_by (λ q. pred_cmp x q ≡ Less) rest.names
              (λ q has.
              elim (rest.only q has) [
                | inl same ↦ subst (λ y. pred_cmp x y ≡ Less) same (pred_cmp_total.antisymm x p ∙ ap ordering_reverse is)
                | inr later ↦ before_rest (λ p q. pred_cmp p q ≡ Less) x q xs up later
              ]))
              rest.in_order;
          same = ap (cons_option (f x)) rest.same;
          more = λ q has.
              elim (first_or_rest x q xs has) [
                | inl same ↦ subst (Contains (x ∷ rest.names)) same (in_first x rest.names)
                | inr later ↦ in_rest x q rest.names (rest.more q later)
              ];
          there = in_rest x p rest.names rest.there;
          only = λ q has.
              elim (first_or_rest x q rest.names has) [
                | inl same ↦ inr (subst (Contains (x ∷ xs)) same (in_first x xs))
                | inr later ↦ elim (rest.only q later) [ inl it ↦ inl it | inr behind ↦ inr (in_rest x q xs behind) ]
              ];
        }

-- names with those of some more items
record AreGrown (f : PredName → Option Imports) (base : List PredName) (todo : List Imports) : Type 0 where
  names : List PredName
  in_order : AllPairs (λ p q. pred_cmp p q ≡ Less) names
  same : filter_map f names ≡ filter_map f base
  more : (q : PredName) → Contains base q → Contains names q
  all : (i : Imports) → Contains todo i → Contains names i.into
  only : (q : PredName) → Contains names q → Contains base q ⊎ ((i : Imports) × Contains todo i × (i.into ≡ q))

later_name : (base : List PredName) (i : Imports) (todo : List Imports) (q : PredName) → Contains base q ⊎ ((j : Imports) × Contains todo j × (j.into ≡ q))
    → Contains base q ⊎ ((j : Imports) × Contains (i ∷ todo) j × (j.into ≡ q))
later_name base i todo q (inl has) = inl has
later_name base i todo q (inr from) = inr (from.0, in_rest i from.0 todo from.1, from.2)

without : (f : PredName → Option Imports) (base : List PredName) (i : Imports) (todo : List Imports) → AreGrown f base todo → Contains base i.into → AreGrown f base (i ∷ todo)
without f base i todo rest there = record {
  names = rest.names;
  in_order = rest.in_order;
  same = rest.same;
  more = rest.more;
  all = λ j has.
      elim (first_or_rest i j todo has) [
        | inl same ↦ subst (λ (k : Imports). Contains rest.names k.into) same (rest.more i.into there)
        | inr behind ↦ rest.all j behind
      ];
  only = λ q has. later_name base i todo q (rest.only q has);
}

with_it : (f : PredName → Option Imports) (base : List PredName) (i : Imports) (todo : List Imports) → AreGrown f base todo → f i.into ≡ None → AreGrown f base (i ∷ todo)
with_it f base i todo rest none =
    let it = put f i.into rest.names none rest.in_order in record {
      names = it.names;
      in_order = it.in_order;
      same = it.same ∙ rest.same;
      more = λ q has. it.more q (rest.more q has);
      all = λ j has.
          elim (first_or_rest i j todo has) [
            | inl same ↦ subst (λ (k : Imports). Contains it.names k.into) same it.there
            | inr behind ↦ it.more j.into (rest.all j behind)
          ];
      only = λ q has.
          elim (it.only q has) [
            | inl same ↦ inr (i, in_first i todo, same)
            | inr behind ↦ later_name base i todo q (rest.only q behind)
          ];
    }

grown : (f : PredName → Option Imports) (base : List PredName) (todo : List Imports) → AllPairs (λ p q. pred_cmp p q ≡ Less) base
    → ((i : Imports) → Contains todo i → (f i.into ≡ None) ⊎ Contains base i.into) → AreGrown f base todo
grown f base [] up known = record {
  names = base;
  in_order = up;
  same = refl;
  more = λ q has. has;
  all = λ i has. absurd (nothing_in i has);
  only = λ q has. inl has;
}
grown f base (i ∷ todo) up known =
    let rest = grown f base todo up (λ j has. known j (in_rest i j todo has)) in
    elim (known i (in_first i todo)) [ inl none ↦ with_it f base i todo rest none | inr there ↦ without f base i todo rest there ]

pub all_clashes : (all some clashes : List Imports) → ((i : Imports) → Contains some i → Contains all i) → ((p : PredName) → clash some p ≡ clash all p)
    → AreClashes some clashes → AreClashes all clashes
all_clashes all some clashes there same are = record {
  predicates = names.names;
  in_order = names.in_order;
  each = all_by (Contains (map (λ (i : Imports). i.into) all)) names.names
      (λ p has.
      elim (names.only p has) [
        | inl old ↦
            let from = map_from (λ (i : Imports). i.into) some p (All-contains (Contains (map (λ (i : Imports). i.into) some)) are.predicates p are.each old) in
            subst (Contains (map (λ (i : Imports). i.into) all)) from.2 (map_has (λ (i : Imports). i.into) all from.0 (there from.0 from.1))
        | inr new ↦ subst (Contains (map (λ (i : Imports). i.into) all)) new.2 (map_has (λ (i : Imports). i.into) all new.0 new.1)
      ]);
  all = all_by (λ (i : Imports). Contains names.names i.into) all names.all;
  are = are.are ∙ filter_map_agrees (clash some) (clash all) same are.predicates ∙ sym names.same;
}
  where
    known : (i : Imports) → Contains all i → (clash all i.into ≡ None) ⊎ Contains are.predicates i.into
    known i has = at (clash all i.into) refl
      where
        at : (r : Option Imports) → clash all i.into ≡ r → (clash all i.into ≡ None) ⊎ Contains are.predicates i.into
        at None is = inl is
        at (Some c) is =
            let found = clash_is some i.into c (same i.into ∙ is) in
            inr (subst (Contains are.predicates) (sym found.1) (All-contains (λ (k : Imports). Contains are.predicates k.into) some c are.all found.0))

    names : AreGrown (clash all) are.predicates all
    names = grown (clash all) are.predicates all are.in_order known
