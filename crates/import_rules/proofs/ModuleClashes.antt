-- Clashes of items, module by module.
use Rattle.std.proofs.Common.{◌≡◌, ℕ, ◌+◌, ◌-◌, ◌<◌, get_or, take, Bool, true, false, not, List, [], ◌∷◌, ◌++◌, Option, Some, None, All, AllPairs, Contains, length, map, filter, flat_map, refl, sym, ap, subst, ◌∙◌, inl, inr, cond, arith, append_assoc}
use Rattle.std.specs.Prelude.{if◌then◌else◌}
use Rattle.std.specs.List.{filter_map, cons_option, list_any, IsChunkByPrefix}
use Rattle.std.specs.List.Sorted.{IsPermutation, IsSortedBy, IsStableBy, ties}
use Rattle.std.proofs.lemmas.List.Sorted.{list_any-IsPermutation}
use Rattle.std.specs.Borrow.{Bor}
use Rattle.std.specs.Str.{bytes_eq}
use Rattle.std.specs.Cmp.Lexicographic.{slice_cmp, texts_ties}
use Rattle.std.specs.Ordering.{nat_cmp, ordering_then, is_eq}
use Rattle.std.specs.declared.cmp.Ordering.TheVariants.{Less, Equal}
use Rattle.std.proofs.lemmas.Bool.{cases_Bool, false_from_ne_true}
use Rattle.std.proofs.lemmas.Cmp.{nat_list_cmp_total}
use Rattle.std.proofs.lemmas.Grind.{flat_map-append}
use Rattle.std.proofs.lemmas.List.{append-nil, append_cancel_right, map-append, take_more}
use Rattle.std.proofs.lemmas.List.Elements.{All-contains, All-append, Contains-append_cases, Contains-append_left, Contains-append_right, filter-append, filter_agree, filter_map-append}
use Rattle.std.proofs.lemmas.Slice.Eq.{bytes_eq-Decides}
use Rattle.file_library.proofs.Lookups.{all_pairs_append}
use Rattle.list_laws.proofs.Members.{all_by, kept_in, kept_there, map_from, map_has}
use Rattle.list_laws.proofs.OneOrder.{nothing_in, first_or_rest, in_first, in_rest}
use Rattle.module_table.specs.declared.load.LoadKind.{LoadKind}
use Rattle.module_table.specs.declared.load.LoadKind.TheVariants.{UseAll, UseSome, Ensure}
use Rattle.import_rules.specs.declared.module_clashes.User.{User}
use Rattle.module_table.specs.Facts.{Facts}
use Rattle.module_table.specs.Said.{Loads}
use Rattle.import_rules.specs.declared.names.PredName.{PredName}
use Rattle.import_rules.specs.Clashes.{Imports, items_for, first_other, clash, AreClashes}
use Rattle.import_rules.specs.Files.{file_named, has_export}
use Rattle.import_rules.specs.Items.{gives, is_foreign, item}
use Rattle.import_rules.specs.ModuleClashes.{is_of, kept_of_users, module_of, see_user}
use Rattle.import_rules.specs.Names.{is_same, pred_cmp}
use Rattle.import_rules.specs.Offers.{is_shared, kept, kept_given, kept_items, kept_of_load}
use Rattle.import_rules.proofs.Kept.{all_clashes}
use Rattle.import_rules.proofs.Lists.{any_from, any_none, filter-map, filter_none, kept_passes}
use Rattle.import_rules.proofs.Members.{flat_map_from, flat_map_has}
use Rattle.import_rules.proofs.NameOrder.{apart_from_Less, same_itself, same_parts, same_text, tied_is_same}
use Rattle.import_rules.proofs.Runs.{IsCut, comes_before, cut_more, equal_from, none_cut, own_run, same}

-- clashes of items, and of others behind them with greater names

module _ (xs ys cs ds : List Imports) (one : AreClashes xs cs) (two : AreClashes ys ds)
    (below : (x y : Imports) → Contains xs x → Contains ys y → pred_cmp x.into y.into ≡ Less) where
  name_in_first : (p : PredName) → Contains one.predicates p → (x : Imports) × Contains xs x × (x.into ≡ p)
  name_in_first p has = map_from (λ (i : Imports). i.into) xs p (All-contains (Contains (map (λ (i : Imports). i.into) xs)) one.predicates p one.each has)

  name_in_second : (p : PredName) → Contains two.predicates p → (y : Imports) × Contains ys y × (y.into ≡ p)
  name_in_second p has = map_from (λ (i : Imports). i.into) ys p (All-contains (Contains (map (λ (i : Imports). i.into) ys)) two.predicates p two.each has)

  split : (p : PredName) → items_for p (xs ++ ys) ≡ items_for p xs ++ items_for p ys
  split p = filter-append (λ (i : Imports). is_same p i.into) xs ys

  of_first : (p : PredName) → Contains one.predicates p → clash xs p ≡ clash (xs ++ ys) p
  of_first p has =
      let by = name_in_first p has in
      let none : items_for p ys ≡ [] =
      filter_none (λ (i : Imports). is_same p i.into) ys
      (all_by (λ (i : Imports). is_same p i.into ≡ false) ys
      (λ y there. apart_from_Less p y.into (subst (λ q. pred_cmp q y.into ≡ Less) by.2 (below by.0 y by.1 there)))) in
      ap first_other (sym (split p ∙ ap (λ is. items_for p xs ++ is) none ∙ append-nil (items_for p xs)))

  of_second : (p : PredName) → Contains two.predicates p → clash ys p ≡ clash (xs ++ ys) p
  of_second p has =
      let by = name_in_second p has in
      let none : items_for p xs ≡ [] =
      filter_none (λ (i : Imports). is_same p i.into) xs
      (all_by (λ (i : Imports). is_same p i.into ≡ false) xs
      (λ x there.
      false_from_ne_true (is_same p x.into)
      (λ same.
      let apart : is_same x.into p ≡ false = apart_from_Less x.into p (subst (λ q. pred_cmp x.into q ≡ Less) by.2 (below x by.0 there by.1)) in
      let both : true ≡ false = sym (same_itself x.into) ∙ ap (is_same x.into) (sym (same_parts p x.into same)) ∙ apart in
      cc))) in
      ap first_other (sym (split p ∙ ap (λ is. is ++ items_for p ys) none))

  each_name : (p : PredName) → Contains (one.predicates ++ two.predicates) p → Contains (map (λ (i : Imports). i.into) (xs ++ ys)) p
  each_name p has =
      elim (Contains-append_cases one.predicates two.predicates p has) [
        | inl there ↦
            let by = name_in_first p there in
            subst (Contains (map (λ (i : Imports). i.into) (xs ++ ys))) by.2 (map_has (λ (i : Imports). i.into) (xs ++ ys) by.0 (Contains-append_left xs ys by.0 by.1))
        | inr there ↦
            let by = name_in_second p there in
            subst (Contains (map (λ (i : Imports). i.into) (xs ++ ys))) by.2 (map_has (λ (i : Imports). i.into) (xs ++ ys) by.0 (Contains-append_right xs ys by.0 by.1))
      ]

  pub clashes_behind : AreClashes (xs ++ ys) (cs ++ ds)
  clashes_behind = record {
    predicates = one.predicates ++ two.predicates;
    in_order = all_pairs_append (λ p q. pred_cmp p q ≡ Less) one.predicates two.predicates one.in_order two.in_order
        (λ p q has also.
        let by = name_in_first p has in
        let other = name_in_second q also in
        subst (λ r. pred_cmp r q ≡ Less) by.2 (subst (λ r. pred_cmp by.0.into r ≡ Less) other.2 (below by.0 other.0 by.1 other.1)));
    each = all_by (Contains (map (λ (i : Imports). i.into) (xs ++ ys))) (one.predicates ++ two.predicates) each_name;
    all = All-append (λ (i : Imports). Contains (one.predicates ++ two.predicates) i.into) xs ys
        (all_by (λ (i : Imports). Contains (one.predicates ++ two.predicates) i.into) xs
        (λ i has. Contains-append_left one.predicates two.predicates i.into (All-contains (λ (k : Imports). Contains one.predicates k.into) xs i one.all has)))
        (all_by (λ (i : Imports). Contains (one.predicates ++ two.predicates) i.into) ys
        (λ i has. Contains-append_right one.predicates two.predicates i.into (All-contains (λ (k : Imports). Contains two.predicates k.into) ys i two.all has)));
    are =
        (λ j. one.are j ++ two.are j)
        ∙ (λ j. agrees (clash xs) (clash (xs ++ ys)) one.predicates of_first j ++ agrees (clash ys) (clash (xs ++ ys)) two.predicates of_second j)
        ∙ sym (filter_map-append (clash (xs ++ ys)) one.predicates two.predicates);
  }
    where
      agrees : (f g : PredName → Option Imports) (ps : List PredName) → ((p : PredName) → Contains ps p → f p ≡ g p) → filter_map f ps ≡ filter_map g ps
      agrees f g [] same = refl
      agrees f g (p ∷ ps) same = λ j. cons_option (same p (in_first p ps) j) (agrees f g ps (λ q has. same q (in_rest p q ps has)) j)

-- the items of one user's module

module _ (files : List Facts) (shared : List Imports) where
  kept_into : (user file : Facts) (load : Loads) (kind : LoadKind) (i : Imports) → Contains (kept shared user file load kind) i → i.into.module ≡ user.module_
  kept_into user file load UseSome i has = ap (λ (k : Imports). k.into.module) (sym (map_from _ (filter (has_export file) load.items) i has).2)
  kept_into user file load UseAll i has = ap (λ (k : Imports). k.into.module) (sym (map_from (item user file load.from) (filter (is_shared shared) file.exports) i has).2)
  kept_into user file load Ensure i has = ap (λ (k : Imports). k.into.module) (sym (map_from (item user file load.from) (filter (is_shared shared) file.exports) i has).2)

  pub load_into : (user : Facts) (load : Loads) (i : Imports) → Contains (kept_of_load files shared user load) i → i.into.module ≡ user.module_
  load_into user load i has = at (file_named files load.file) has
    where
      in_file : (file : Facts) (b : Bool) → Contains (if b then kept shared user file load load.kind else []) i → i.into.module ≡ user.module_
      in_file file true there = kept_into user file load load.kind i there
      in_file file false there = absurd (nothing_in i there)

      at : (r : Option Facts) → Contains (elim r [ Some file ↦ kept_given files shared user load file | None ↦ [] ]) i → i.into.module ≡ user.module_
      at (Some file) there = in_file file (gives files user file) there
      at None there = absurd (nothing_in i there)

  abbrev all_of : Facts → List Imports
  all_of user = flat_map (kept_of_load files shared user) user.loads

  -- an item is one of a user
  pub user_of : (users : List Facts) (i : Imports) → Contains (kept_of_users files shared users) i → (user : Facts) × Contains users user × (i.into.module ≡ user.module_)
  user_of users i has =
      let outer = flat_map_from all_of users i (kept_there (is_foreign files) (flat_map all_of users) i has) in
      let inner = flat_map_from (kept_of_load files shared outer.0) outer.0.loads i outer.2 in
      (outer.0, outer.1, load_into outer.0 inner.0 i inner.2)

  pub users_append : (us vs : List Facts) → kept_of_users files shared (us ++ vs) ≡ kept_of_users files shared us ++ kept_of_users files shared vs
  users_append us vs = ap (filter (is_foreign files)) (flat_map-append all_of us vs) ∙ filter-append (is_foreign files) (flat_map all_of us) (flat_map all_of vs)

  abbrev for_it : PredName → Imports → Bool
  for_it p i = is_same p i.into

  none_of_another : (p : PredName) (user : Facts) → is_of p.module user ≡ false → items_for p (kept_of_users files shared (user ∷ [])) ≡ []
  none_of_another p user other =
      filter_none (for_it p) (kept_of_users files shared (user ∷ []))
      (all_by (λ (i : Imports). for_it p i ≡ false) (kept_of_users files shared (user ∷ []))
      (λ i has.
      false_from_ne_true (for_it p i)
      (λ same.
      let by = user_of (user ∷ []) i has in
      let one : user ≡ by.0 = elim (first_or_rest user by.0 [] by.1) [ inl it ↦ it | inr none ↦ absurd (nothing_in by.0 none) ] in
      let own : user.module_ ≡ p.module = ap (λ (f : Facts). f.module_) one ∙ sym by.2 ∙ ap (λ (q : PredName). q.module) (sym (same_parts p i.into same)) in
      let both : true ≡ false = sym ((bytes_eq-Decides p.module user.module_).1 (sym own)) ∙ other in
      cc)))

  -- only users of its module give a name
  pub of_its_module : (p : PredName) (users : List Facts) → items_for p (kept_of_users files shared users) ≡ items_for p (kept_of_users files shared (filter (is_of p.module) users))
  of_its_module p [] = refl
  of_its_module p (user ∷ users) =
      ap (items_for p) (users_append (user ∷ []) users)
      ∙ filter-append (for_it p) (kept_of_users files shared (user ∷ [])) (kept_of_users files shared users)
      ∙ ap (λ is. items_for p (kept_of_users files shared (user ∷ [])) ++ is) (of_its_module p users)
      ∙ at (is_of p.module user) refl
    where
      at : (b : Bool) → is_of p.module user ≡ b
          → items_for p (kept_of_users files shared (user ∷ [])) ++ items_for p (kept_of_users files shared (filter (is_of p.module) users))
          ≡ items_for p (kept_of_users files shared (filter (is_of p.module) (user ∷ users)))
      at true is =
          sym (filter-append (for_it p) (kept_of_users files shared (user ∷ [])) (kept_of_users files shared (filter (is_of p.module) users)))
          ∙ ap (items_for p) (sym (users_append (user ∷ []) (filter (is_of p.module) users)))
          ∙ sym (ap (λ b. items_for p (kept_of_users files shared (cond b (user ∷ filter (is_of p.module) users) (filter (is_of p.module) users)))) is)
      at false is =
          ap (λ is. is ++ items_for p (kept_of_users files shared (filter (is_of p.module) users))) (none_of_another p user is)
          ∙ sym (ap (λ b. items_for p (kept_of_users files shared (cond b (user ∷ filter (is_of p.module) users) (filter (is_of p.module) users)))) is)

  -- users in another order, those of one module in the same
  module _ (users : List Facts) (same : (own : List ℕ) → filter (is_of own) users ≡ filter (is_of own) files) where
    in_files : (user : Facts) → Contains users user → Contains files user
    in_files user has =
        kept_there (is_of user.module_) files user
        (subst (λ us. Contains us user) (same user.module_) (kept_in (is_of user.module_) users user has ((bytes_eq-Decides user.module_ user.module_).1 refl)))

    item_there : (i : Imports) → Contains (kept_of_users files shared users) i → Contains (kept_items files shared) i
    item_there i has =
        let outer = flat_map_from all_of users i (kept_there (is_foreign files) (flat_map all_of users) i has) in
        kept_in (is_foreign files) (flat_map all_of files) i (flat_map_has all_of files outer.0 i (in_files outer.0 outer.1) outer.2)
        (kept_passes (is_foreign files) (flat_map all_of users) i has)

    pub clashes_of_users : (clashes : List Imports) → AreClashes (kept_of_users files shared users) clashes → AreClashes (kept_items files shared) clashes
    clashes_of_users clashes are =
        all_clashes (kept_items files shared) (kept_of_users files shared users) clashes item_there
        (λ p.
        ap first_other
        (of_its_module p users ∙ ap (λ us. items_for p (kept_of_users files shared us)) (same p.module) ∙ sym (of_its_module p files)))
        are

abbrev of_module : List ℕ → User → Bool
of_module own user = is_of own (see_user user)

-- users that are sorted by their modules: those of one module stay in order
pub sorted_same : (old new : List User) → IsPermutation old new → IsStableBy (comes_before (slice_cmp nat_cmp) module_of) old new → (own : List ℕ)
    → filter (is_of own) (map see_user new) ≡ filter (is_of own) (map see_user old)
sorted_same old new moved stable own =
    filter-map (is_of own) see_user new ∙ ap (map see_user) (at (list_any (of_module own) new) refl) ∙ sym (filter-map (is_of own) see_user old)
  where
    tied : (x : User) → of_module own x ≡ true → (y : User) → of_module own y ≡ ties (comes_before (slice_cmp nat_cmp) module_of) x y
    tied x is y =
        ap (λ m. bytes_eq m (module_of y)) ((bytes_eq-Decides own (module_of x)).0 is)
        ∙ texts_ties (module_of x) (module_of y)
        ∙ sym (tied_is_same (slice_cmp nat_cmp) nat_list_cmp_total (module_of x) (module_of y))

    at : (b : Bool) → list_any (of_module own) new ≡ b → filter (of_module own) new ≡ filter (of_module own) old
    at true is =
        let by = any_from (of_module own) new is in
        filter_agree (of_module own) (ties (comes_before (slice_cmp nat_cmp) module_of) by.0) (tied by.0 by.2) new
        ∙ stable by.0
        ∙ sym (filter_agree (of_module own) (ties (comes_before (slice_cmp nat_cmp) module_of) by.0) (tied by.0 by.2) old)
    at false is =
        filter_none (of_module own) new (any_none (of_module own) new is)
        ∙ sym (filter_none (of_module own) old (any_none (of_module own) old (list_any-IsPermutation (of_module own) old new moved ∙ is)))

-- a run of users has one module
pub run_module : (run rest : List User) → 0 < length run → IsChunkByPrefix (same (slice_cmp nat_cmp) nat_list_cmp_total module_of) (run ++ rest) (length run)
    → (own : List ℕ) × All (λ (u : User). module_of u ≡ own) run
run_module [] rest some chunk = let no : ⊥ = omega (arith, some) in absurd no
run_module (head ∷ tail) rest some chunk = (
  module_of head,
  all_by (λ (u : User). module_of u ≡ module_of head) (head ∷ tail)
      (λ u has.
      sym
      (same_text (module_of head) (module_of u)
      (equal_from (slice_cmp nat_cmp) nat_list_cmp_total module_of (slice_cmp nat_cmp (module_of head) (module_of u))
      (All-contains (λ y. same (slice_cmp nat_cmp) nat_list_cmp_total module_of head y ≡ true) (head ∷ tail) u
      (own_run (slice_cmp nat_cmp) nat_list_cmp_total module_of head tail rest chunk) has)))),
)

-- the users up to the next one
pub users_next : (files : List Facts) (shared : List Imports) (users : List User) (i : ℕ) (user d : User) → i < length users → user ≡ get_or users i d
    → kept_of_users files shared (map see_user (take i users)) ++ filter (is_foreign files) (flat_map (kept_of_load files shared (see_user user)) (see_user user).loads)
    ≡ kept_of_users files shared (map see_user (take (i + 1) users))
users_next files shared users i user d within is =
    ap (λ is. kept_of_users files shared (map see_user (take i users)) ++ filter (is_foreign files) is) (sym (append-nil (flat_map (kept_of_load files shared (see_user user)) (see_user user).loads)))
    ∙ sym (users_append files shared (map see_user (take i users)) (see_user user ∷ []))
    ∙ ap (kept_of_users files shared)
    (sym (map-append see_user (take i users) (user ∷ [])) ∙ ap (λ u. map see_user (take i users ++ u ∷ [])) is ∙ ap (map see_user) (sym (take_more users i d within)))

-- users in order of their modules, whose runs are of one module each
less_into : (p q : PredName) → slice_cmp nat_cmp p.module q.module ≡ Less → pred_cmp p q ≡ Less
less_into p q less = ap (λ r. ordering_then r (ordering_then (slice_cmp nat_cmp p.name q.name) (nat_cmp p.arity q.arity))) less

module _ (files : List Facts) (shared : List Imports) (whole : List (User)) where
  abbrev items_of : List (User) → List Imports
  items_of users = kept_of_users files shared (map see_user users)

  -- the clashes of some runs are found, and the rest is left
  pub record AreDone (runs : List (List (User))) (rest : List (User)) (clashes : List Imports) : Type 0 where
    pub cut : IsCut (slice_cmp nat_cmp) nat_list_cmp_total module_of whole runs rest
    pub are : AreClashes (items_of cut.done) clashes

  -- a user before the rest has a lesser module
  lesser : (runs : List (List (User))) (rest : List (User)) (cut : IsCut (slice_cmp nat_cmp) nat_list_cmp_total module_of whole runs rest) (x y : User)
      → Contains cut.done x → Contains rest y → slice_cmp nat_cmp (module_of x) (module_of y) ≡ Less
  lesser runs rest cut x y has also =
      let by = All-contains (λ x. (h : User) × Contains cut.are.heads h × (same (slice_cmp nat_cmp) nat_list_cmp_total module_of h x ≡ true)) cut.done x cut.are.all has in
      let less : slice_cmp nat_cmp (module_of by.0) (module_of y) ≡ Less =
      All-contains (λ z. slice_cmp nat_cmp (module_of by.0) (module_of z) ≡ Less) rest y
      (All-contains (λ h. All (λ z. slice_cmp nat_cmp (module_of h) (module_of z) ≡ Less) rest) cut.are.heads by.0 cut.above by.1) also in
      subst (λ m. slice_cmp nat_cmp m (module_of y) ≡ Less) (same_text (module_of by.0) (module_of x) (equal_from (slice_cmp nat_cmp) nat_list_cmp_total module_of (slice_cmp nat_cmp (module_of by.0) (module_of x)) by.2)) less

  pub run_done : (runs : List (List (User))) (run rest : List (User)) (clashes found : List Imports) → IsSortedBy (comes_before (slice_cmp nat_cmp) module_of) whole
      → 0 < length run → IsChunkByPrefix (same (slice_cmp nat_cmp) nat_list_cmp_total module_of) (run ++ rest) (length run)
      → AreClashes (items_of run) found → AreDone runs (run ++ rest) clashes → AreDone (runs ++ run ∷ []) rest (clashes ++ found)
  run_done runs run rest clashes found sorted some chunk are old =
      let next = cut_more (slice_cmp nat_cmp) nat_list_cmp_total module_of whole runs run rest sorted old.cut some chunk in
      let grown : old.cut.done ++ run ≡ next.done =
      append_cancel_right (old.cut.done ++ run) next.done rest (append_assoc old.cut.done run rest ∙ sym old.cut.is ∙ next.is) in record {
        cut = next;
        are = subst (λ us. AreClashes (items_of us) (clashes ++ found)) grown
            (subst (λ is. AreClashes is (clashes ++ found))
            (sym (ap (kept_of_users files shared) (map-append see_user old.cut.done run) ∙ users_append files shared (map see_user old.cut.done) (map see_user run)))
            (clashes_behind (items_of old.cut.done) (items_of run) clashes found old.are are
            (λ x y has also.
            let one = user_of files shared (map see_user old.cut.done) x has in
            let two = user_of files shared (map see_user run) y also in
            let first = map_from see_user old.cut.done one.0 one.1 in
            let second = map_from see_user run two.0 two.1 in
            less_into x.into y.into
            (subst (λ m. slice_cmp nat_cmp m y.into.module ≡ Less) (ap (λ (f : Facts). f.module_) first.2 ∙ sym one.2)
            (subst (λ m. slice_cmp nat_cmp (module_of first.0) m ≡ Less) (ap (λ (f : Facts). f.module_) second.2 ∙ sym two.2)
            (lesser runs (run ++ rest) old.cut first.0 second.0 first.1 (Contains-append_left run rest second.0 second.1)))))));
      }

  pub none_done : AreDone [] whole []
  none_done =
      let cut = none_cut (slice_cmp nat_cmp) nat_list_cmp_total module_of whole in record {
        cut = cut;
        are = subst (λ us. AreClashes (items_of us) []) (append_cancel_right [] cut.done whole cut.is) no_clashes_of_none;
      }
    where
      no_clashes_of_none : AreClashes (items_of []) []
      no_clashes_of_none = record {
        predicates = [];
        in_order = λ i j d lt within. absurd (omega (arith, within));
        each = all_by (Contains []) [] (λ p has. has);
        all = all_by (λ (i : Imports). Contains [] i.into) [] (λ i has. absurd (nothing_in i has));
        are = refl;
      }

  pub all_done : (runs : List (List (User))) (rest : List (User)) (clashes : List Imports) → length rest ≡ 0 → AreDone runs rest clashes → AreClashes (items_of whole) clashes
  all_done runs [] clashes none done = subst (λ us. AreClashes (items_of us) clashes) (sym (done.cut.is ∙ append-nil done.cut.done)) done.are
  all_done runs (x ∷ rest) clashes none done = let no : ⊥ = omega (arith, none) in absurd no

-- the runs that were lent
abbrev pub lent_runs : List (Bor (List User)) → List (List User)
lent_runs runs = map (λ (run : Bor (List User)). run.now) runs

-- whether two users have one module
abbrev pub alike : User → User → Bool
alike a b = bytes_eq (module_of a) (module_of b)

pub same_chunk : (before run rest : List User) → before ≡ run ++ rest → IsChunkByPrefix alike before (length run)
    → IsChunkByPrefix (same (slice_cmp nat_cmp) nat_list_cmp_total module_of) (run ++ rest) (length run)
same_chunk before run rest is chunk =
    subst (λ users. IsChunkByPrefix (same (slice_cmp nat_cmp) nat_list_cmp_total module_of) users (length run)) is (
      λ k d below. sym (texts_ties (module_of (get_or before k d)) (module_of (get_or before (k + 1) d))) ∙ chunk.0 k d below,
      λ below d. sym (texts_ties (module_of (get_or before (length run - 1) d)) (module_of (get_or before (length run) d))) ∙ chunk.1 below d,
    )
