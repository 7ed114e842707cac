-- Lists that are cut into runs of elements with one key.
use Rattle.std.proofs.Common.{◌≡◌, ℕ, zero, suc, ◌+◌, ◌-◌, ◌<◌, Bool, true, false, List, [], ◌∷◌, ◌++◌, Some, All, AllPairs, Contains, length, map, filter, get_or, refl, sym, ap, ◌∙◌, subst, arith, append_assoc, append-nil}
use Rattle.std.specs.Cmp.{IsTotalOrder}
use Rattle.std.specs.List.{IsChunkByPrefix}
use Rattle.std.specs.List.Sorted.{IsSortedBy}
use Rattle.std.specs.Ordering.{is_eq, is_lt, ordering_reverse}
use Rattle.std.specs.declared.cmp.Ordering.{Ordering}
use Rattle.std.specs.declared.cmp.Ordering.TheVariants.{Less, Equal, Greater}
use Rattle.std.proofs.lemmas.Cmp.{tied_itself, alike_right}
use Rattle.std.proofs.lemmas.List.{map-append, get_or_append_left, get_or-append-add, length-append}
use Rattle.std.proofs.lemmas.List.Elements.{All-append, All-weaker, All-contains, All-nil, All-push, Contains-append_left, Contains-append_right, Contains-push, filter-append}
use Rattle.std.proofs.lemmas.List.Quantifiers.{all_pairs_push}
use Rattle.std.proofs.lemmas.List.Sorted.{ranks_by, sorted_far}
use Rattle.prolog_terms.proofs.ViewLemmas.{some_once}
use Rattle.module_table.specs.Kinds.{first_of}
use Rattle.std.proofs.lemmas.Simd.{map-map}
use Rattle.list_laws.proofs.OneOrder.{in_first}
use Rattle.import_rules.proofs.Lists.{filter_none, filter_all, map_agrees, all_by, kept_there, agree_at}

-- an order by keys, as a sort takes it
abbrev pub comes_before : {X K : Type 0} → (K → K → Ordering) → (X → K) → X → X → Bool
comes_before cmp key x y = is_lt (cmp (key x) (key y))

module _ {X K : Type 0} (cmp : K → K → Ordering) (o : IsTotalOrder cmp) (key : X → K) where
  -- whether two elements have one key
  abbrev pub same : X → X → Bool
  same x y = is_eq (cmp (key x) (key y))

  pub equal_from : (r : Ordering) → is_eq r ≡ true → r ≡ Equal
  equal_from Less is = cc
  equal_from Equal is = refl
  equal_from Greater is = cc

  pub below_same : (h head y : X) → cmp (key h) (key head) ≡ Less → same head y ≡ true → same h y ≡ false
  below_same h head y less is =
      let tie : cmp (key head) (key y) ≡ Equal = equal_from (cmp (key head) (key y)) is in
      ap is_eq (sym (alike_right o (key head) (key y) (key h) tie) ∙ less)

  pub same_below : (h head x : X) → cmp (key h) (key head) ≡ Less → same h x ≡ true → same head x ≡ false
  same_below h head x less is =
      let tie : cmp (key h) (key x) ≡ Equal = equal_from (cmp (key h) (key x)) is in
      let below : cmp (key x) (key head) ≡ Less = sym (o.congr (key h) (key x) (key head) tie) ∙ less in
      ap is_eq (o.antisymm (key head) (key x) ∙ ap ordering_reverse below)

  pub same_itself : (x : X) → same x x ≡ true
  same_itself x = ap is_eq (tied_itself o (key x))

  -- one run for each key, with its elements in order; the runs are told by elements with their keys
  pub record AreRuns (xs : List X) (runs : List (List X)) : Type 0 where
    pub heads : List X
    pub rising : AllPairs (λ a b. cmp (key a) (key b) ≡ Less) heads
    pub all : All (λ x. (h : X) × Contains heads h × (same h x ≡ true)) xs
    pub are : runs ≡ map (λ h. filter (same h) xs) heads
    pub led : map first_of runs ≡ map (λ h. Some h) heads

  -- one more run behind those of lesser keys
  pub add_run : (xs : List X) (runs : List (List X)) (are : AreRuns xs runs) (head : X) (run : List X)
      → All (λ h. cmp (key h) (key head) ≡ Less) are.heads → All (λ y. same head y ≡ true) run → first_of run ≡ Some head
      → AreRuns (xs ++ run) (runs ++ run ∷ [])
  add_run xs runs are head run below own first = record {
    heads = are.heads ++ head ∷ [];
    rising = all_pairs_push (λ a b. cmp (key a) (key b) ≡ Less) are.heads head are.rising below;
    all = All-append (λ x. (h : X) × Contains (are.heads ++ head ∷ []) h × (same h x ≡ true)) xs run
        (All-weaker (λ x. (h : X) × Contains are.heads h × (same h x ≡ true)) (λ x. (h : X) × Contains (are.heads ++ head ∷ []) h × (same h x ≡ true))
        (λ x at. (at.0, Contains-append_left are.heads (head ∷ []) at.0 at.1, at.2)) xs are.all)
        (All-weaker (λ y. same head y ≡ true) (λ x. (h : X) × Contains (are.heads ++ head ∷ []) h × (same h x ≡ true))
        (λ y is. (head, Contains-push are.heads head, is)) run own);
    are =
        ap (λ rs. rs ++ run ∷ []) (are.are ∙ map_agrees (λ h. filter (same h) xs) (λ h. filter (same h) (xs ++ run)) are.heads
        (All-weaker (λ h. cmp (key h) (key head) ≡ Less) (λ h. filter (same h) xs ≡ filter (same h) (xs ++ run)) earlier are.heads below))
        ∙ ap (λ r. map (λ h. filter (same h) (xs ++ run)) are.heads ++ r ∷ []) (sym last)
        ∙ sym (map-append (λ h. filter (same h) (xs ++ run)) are.heads (head ∷ []));
    led =
        map-append first_of runs (run ∷ [])
        ∙ (λ i. are.led i ++ first i ∷ [])
        ∙ sym (map-append (λ h. Some h) are.heads (head ∷ []));
  }
    where
      earlier : (h : X) → cmp (key h) (key head) ≡ Less → filter (same h) xs ≡ filter (same h) (xs ++ run)
      earlier h less =
          sym
          (filter-append (same h) xs run
          ∙ ap (λ r. filter (same h) xs ++ r)
          (filter_none (same h) run (All-weaker (λ y. same head y ≡ true) (λ y. same h y ≡ false) (λ y is. below_same h head y less is) run own))
          ∙ append-nil (filter (same h) xs))

      none_yet : (x : X) → (h : X) × Contains are.heads h × (same h x ≡ true) → same head x ≡ false
      none_yet x at = same_below at.0 head x (All-contains (λ h. cmp (key h) (key head) ≡ Less) are.heads at.0 below at.1) at.2

      last : filter (same head) (xs ++ run) ≡ run
      last =
          filter-append (same head) xs run
          ∙ (λ i.
          filter_none (same head) xs (All-weaker (λ x. (h : X) × Contains are.heads h × (same h x ≡ true)) (λ x. same head x ≡ false) none_yet xs are.all) i
          ++ filter_all (same head) run own i)

  -- the runs begin with elements of the list
  pub heads_there : (xs : List X) (runs : List (List X)) (are : AreRuns xs runs) → All (Contains xs) are.heads
  heads_there xs runs are = all_by (Contains xs) are.heads each
    where
      first_there : (run : List X) (h : X) → first_of run ≡ Some h → Contains run h
      first_there [] h is = cc
      first_there (x ∷ run) h is = subst (Contains (x ∷ run)) (some_once is) (in_first x run)

      led : map (λ h. first_of (filter (same h) xs)) are.heads ≡ map (λ h. Some h) are.heads
      led = sym (map-map first_of (λ h. filter (same h) xs) are.heads) ∙ (ap (map first_of) (sym are.are) ∙ are.led)

      each : (h : X) → Contains are.heads h → Contains xs h
      each h has =
          kept_there (same h) xs h
          (first_there (filter (same h) xs) h (agree_at (λ k. first_of (filter (same k) xs)) (λ k. Some k) are.heads h led has))

  -- a part of a list that is cut into runs, and the rest
  pub record IsCut (whole : List X) (runs : List (List X)) (rest : List X) : Type 0 where
    pub done : List X
    pub are : AreRuns done runs
    pub is : whole ≡ done ++ rest
    pub above : All (λ h. All (λ y. cmp (key h) (key y) ≡ Less) rest) are.heads

  pub none_cut : (whole : List X) → IsCut whole [] whole
  none_cut whole = record {
    done = [];
    are = record { heads = []; rising = λ i j d lt within. absurd (omega (arith, within)); all = All-nil _; are = refl; led = refl };
    is = refl;
    above = All-nil _;
  }

  pub all_cut : (whole : List X) (runs : List (List X)) (rest : List X) → length rest ≡ 0 → IsCut whole runs rest → AreRuns whole runs
  all_cut whole runs [] none cut = subst (λ xs. AreRuns xs runs) (sym (cut.is ∙ append-nil cut.done)) cut.are
  all_cut whole runs (x ∷ rest) none cut = let no : ⊥ = omega (arith, none) in absurd no

  same_trans : (a b c : X) → same a b ≡ true → same b c ≡ true → same a c ≡ true
  same_trans a b c ab bc = ap is_eq (o.congr (key a) (key b) (key c) (equal_from (cmp (key a) (key b)) ab)) ∙ bc

  -- of two neighbours in order that aren't the same, the first is less
  less_neighbour : (a b : X) → comes_before cmp key b a ≡ false → same a b ≡ false → cmp (key a) (key b) ≡ Less
  less_neighbour a b up apart = rank (cmp (key b) (key a)) (cmp (key a) (key b)) (o.antisymm (key a) (key b)) up apart
    where
      rank : (back r : Ordering) → r ≡ ordering_reverse back → is_lt back ≡ false → is_eq r ≡ false → r ≡ Less
      rank Less r e up other = cc
      rank Equal r e up other = let flat : is_eq r ≡ true = ap is_eq e in cc
      rank Greater r e up other = e

  -- less than one that another doesn't come before
  pub less_on : (a b c : X) → cmp (key a) (key b) ≡ Less → comes_before cmp key c b ≡ false → cmp (key a) (key c) ≡ Less
  less_on a b c less up = at (cmp (key b) (key c)) refl
    where
      at : (r : Ordering) → cmp (key b) (key c) ≡ r → cmp (key a) (key c) ≡ Less
      at Less is = o.trans (key a) (key b) (key c) less is
      at Equal is = sym (alike_right o (key b) (key c) (key a) is) ∙ less
      at Greater is =
          let back : cmp (key c) (key b) ≡ Less = o.antisymm (key c) (key b) ∙ ap ordering_reverse is in
          let both : true ≡ false = sym (ap is_lt back) ∙ up in cc

  pub sorted_rest : (xs ys : List X) → IsSortedBy (comes_before cmp key) (xs ++ ys) → IsSortedBy (comes_before cmp key) ys
  sorted_rest xs ys up k d low within =
      let inside : (length xs + k) + 1 < length (xs ++ ys) = omega (arith, within, length-append xs ys) in
      let next : (length xs + k) + 1 ≡ length xs + (k + 1) = omega arith in
      subst (λ x. comes_before cmp key x (get_or ys k d) ≡ false) (ap (λ n. get_or (xs ++ ys) n d) next ∙ get_or-append-add xs ys (k + 1) d)
      (subst (λ y. comes_before cmp key (get_or (xs ++ ys) ((length xs + k) + 1) d) y ≡ false) (get_or-append-add xs ys k d)
      (up (length xs + k) d (omega arith) inside))

  -- all of a run have the key of its first
  module _ (head : X) (tail rest : List X) (chunk : IsChunkByPrefix same ((head ∷ tail) ++ rest) (length (head ∷ tail))) where
    own_at : (k : ℕ) (d : X) → k < length (head ∷ tail) → same head (get_or ((head ∷ tail) ++ rest) k d) ≡ true
    own_at zero d within = same_itself head
    own_at (suc k) d within =
        let next : k + 1 ≡ suc k = omega arith in
        let lower : k < length (head ∷ tail) = omega (arith, within) in
        same_trans head (get_or ((head ∷ tail) ++ rest) k d) (get_or ((head ∷ tail) ++ rest) (suc k) d) (own_at k d lower)
        (subst (λ n. same (get_or ((head ∷ tail) ++ rest) k d) (get_or ((head ∷ tail) ++ rest) n d) ≡ true) next (chunk.0 k d (omega (arith, within))))

    pub own_run : All (λ y. same head y ≡ true) (head ∷ tail)
    own_run k d within = subst (λ y. same head y ≡ true) (get_or_append_left (head ∷ tail) rest d k within) (own_at k d within)

  -- the next run, as long as it can be
  pub cut_more : (whole : List X) (runs : List (List X)) (run rest : List X) → IsSortedBy (comes_before cmp key) whole
      → IsCut whole runs (run ++ rest) → 0 < length run → IsChunkByPrefix same (run ++ rest) (length run)
      → IsCut whole (runs ++ run ∷ []) rest
  unfolding add_run
  cut_more whole runs [] rest sorted cut some chunk = let no : ⊥ = omega (arith, some) in absurd no
  cut_more whole runs (head ∷ tail) rest sorted cut some chunk = record {
    done = cut.done ++ (head ∷ tail);
    are = add_run cut.done runs cut.are head (head ∷ tail) below (own_run head tail rest chunk) refl;
    is = cut.is ∙ sym (append_assoc cut.done (head ∷ tail) rest);
    above = All-push (λ h. All (λ y. cmp (key h) (key y) ≡ Less) rest) cut.are.heads head
        (All-weaker (λ h. All (λ y. cmp (key h) (key y) ≡ Less) ((head ∷ tail) ++ rest)) (λ h. All (λ y. cmp (key h) (key y) ≡ Less) rest)
        (λ h all. all_by (λ y. cmp (key h) (key y) ≡ Less) rest (λ y has. All-contains (λ z. cmp (key h) (key z) ≡ Less) ((head ∷ tail) ++ rest) y all (Contains-append_right (head ∷ tail) rest y has)))
        cut.are.heads cut.above)
        behind;
  }
    where
      below : All (λ h. cmp (key h) (key head) ≡ Less) cut.are.heads
      below =
          All-weaker (λ h. All (λ y. cmp (key h) (key y) ≡ Less) ((head ∷ tail) ++ rest)) (λ h. cmp (key h) (key head) ≡ Less)
          (λ h all. All-contains (λ y. cmp (key h) (key y) ≡ Less) ((head ∷ tail) ++ rest) head all (in_first head (tail ++ rest))) cut.are.heads cut.above

      up : IsSortedBy (comes_before cmp key) ((head ∷ tail) ++ rest)
      up = sorted_rest cut.done ((head ∷ tail) ++ rest) (subst (IsSortedBy (comes_before cmp key)) cut.is sorted)

      behind : All (λ y. cmp (key head) (key y) ≡ Less) rest
      behind i d within =
          let n : ℕ = length (head ∷ tail) in
          let all : List X = (head ∷ tail) ++ rest in
          let long : length all ≡ n + length rest = length-append (head ∷ tail) rest in
          let last : X = get_or all (n - 1) d in
          let first : X = get_or all n d in
          let apart : same last first ≡ false = chunk.1 (omega (arith, within, long)) d in
          let one : (n - 1) + 1 ≡ n = omega (arith, some) in
          let step : comes_before cmp key first last ≡ false =
          subst (λ m. comes_before cmp key (get_or all m d) last ≡ false) one (up (n - 1) d (omega arith) (omega (arith, within, long, some))) in
          let less : cmp (key head) (key first) ≡ Less =
          o.congr (key head) (key last) (key first) (equal_from (cmp (key head) (key last)) (own_at head tail rest chunk (n - 1) d (omega (arith, some))))
          ∙ less_neighbour last first step apart in
          let far : comes_before cmp key (get_or all (n + i) d) first ≡ false =
          sorted_far (comes_before cmp key) (ranks_by o key) all up n (n + i) d (omega arith) (omega (arith, within, long)) in
          subst (λ y. cmp (key head) (key y) ≡ Less) (get_or-append-add (head ∷ tail) rest i d) (less_on head first (get_or all (n + i) d) less far)
