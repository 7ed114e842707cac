-- A worker releases the ripe top segment, closes its nodes, and goes on with the rest.
use Rattle.std.proofs.Common.{◌≡◌, inl, inr, ℕ, ◌<◌, ◌≤◌, ◌+◌, ◌-◌, false, List, [], ◌∷◌, ◌++◌, length, get_or, None, refl, ap, ◌∙◌, sym, subst, arith, append_assoc}
use Rattle.std.proofs.lemmas.List.{get_or_default, length-append}
use Rattle.std.proofs.lemmas.List.Elements.{All-from_get_or}
use Rattle.std.proofs.Math.Seq.{get_or-append_seam}
use Rattle.std.specs.Prelude.{All, Contains, take}
use Rattle.list_laws.specs.Counts.{times, flat}
use Rattle.list_laws.proofs.Counting.{counted, standing, times-append, times-permutation}
use Rattle.search_stack.specs.GoodSearch.{IsGood}
use Rattle.search_stack.specs.Search.{SearchValue, IsReleasable, below_frame, nodes_from}
use Rattle.search_stack.specs.Stack.{top}
use Rattle.search_stack.proofs.Edges.{good_more}
use Rattle.blocked_table.specs.Kept.{Holds}
use Rattle.group_release.specs.Book.{BookValue, released_of}
use Rattle.group_release.specs.Outline.{kept_nodes, nodes_on, wanted_nodes}
use Rattle.group_release.specs.Released.{IsAppended, IsNewGroup}
use Rattle.group_release.proofs.KeptCounts.{held_counted}
use Rattle.group_release.proofs.Nodes.{below_counted, in_flat}
use Rattle.group_release.proofs.OnceCounts.{distinct_listed}
use Rattle.node_claims.specs.Claims.{ClaimsValue, PassValue, TurnValue, nodes_with}
use Rattle.node_claims.specs.Steps.{MayGive}
use Rattle.node_claims.specs.Views.{outline_of}
use Rattle.node_claims.specs.declared.view.Taken.{Taken}
use Rattle.node_claims.specs.declared.view.View.{View}
use Rattle.search_pool.specs.Worker.{IsWorking}
use Rattle.search_pool.specs.Working.{ContinuesWith, HasTurn, MayCloseAll, last_group, with_closed}
use Rattle.search_pool.proofs.TurnLaws.{TookTurn, good_released, is_turn_of, lists_are, may_stay, plain_counted, roots_are, seen_more}

-- what taking the top segment off promises
pub record IsTakenOff (search : SearchValue) (group : List ℕ) (rest : SearchValue) : Type 0 where
  pub group_is : group ≡ nodes_from search.stack (top search.stack)
  pub rest_is : rest ≡ record search { stack = below_frame search.stack (top search.stack) }
  pub releasable : (lists : List (List ℕ)) (roots done : List ℕ) → IsGood lists roots done false search.stack → IsReleasable lists roots done group
  pub good : (lists : List (List ℕ)) (roots done : List ℕ) → IsGood lists roots done false search.stack
      → IsGood lists roots (done ++ group) false rest.stack

-- what releasing it promises
pub record IsReleasedIn (book : BookValue) (group : List ℕ) (now : BookValue) : Type 0 where
  pub only : now ≡ record book { kept = now.kept; groups = now.groups }
  pub appended : IsAppended (released_of book) group (released_of now)
  pub released_count : (x : ℕ) → times x (flat now.groups) ≡ times x (flat book.groups) + times x group
  pub kept_nodes_are : kept_nodes now.kept ≡ kept_nodes book.kept
  pub wanted_count : (x : ℕ) → times x (wanted_nodes now.kept) ≤ times x (wanted_nodes book.kept)

module _ {claims : ClaimsValue} {search : SearchValue} {n : ℕ} {turn : TurnValue} (has : HasTurn claims turn search n)
    {group : List ℕ} {rest : SearchValue} (off : IsTakenOff search group rest) where
  abbrev pub book : BookValue
  book = turn.book

  group_counted : (x : ℕ) → times x (nodes_on rest.stack) + times x group ≡ times x (nodes_on search.stack)
  group_counted x =
      let this : times x group ≡ times x (nodes_from search.stack (top search.stack)) = ap (times x) off.group_is in
      let left : times x (nodes_on rest.stack) ≡ times x (nodes_on (below_frame search.stack (top search.stack))) =
      ap (λ (s : SearchValue). times x (nodes_on s.stack)) off.rest_is in
      omega (arith, this, left, below_counted search.stack (top search.stack) x)

  once_here : (x : ℕ) → times x (nodes_on search.stack) + (times x (kept_nodes book.kept) + times x (flat book.groups)) ≤ 1
  once_here x = omega (arith, has.may.same x, plain_counted search x, has.apart x)

  group_once : (x : ℕ) → times x group + (times x (kept_nodes book.kept) + times x (flat book.groups)) ≤ 1
  group_once x = omega (arith, group_counted x, once_here x)

  good_here : IsGood book.lists book.roots (flat book.groups) false search.stack
  good_here =
      subst (λ lists. IsGood lists book.roots (flat book.groups) false search.stack) (sym has.lists)
      (subst (λ roots. IsGood claims.lists roots (flat book.groups) false search.stack) (sym has.roots) has.good)

  pub group_releasable : IsReleasable book.lists book.roots (flat book.groups) group
  group_releasable = off.releasable book.lists book.roots (flat book.groups) good_here

  group_below : (x : ℕ) → Contains group x → x < length claims.lists
  group_below x in_group =
      has.below x (omega (arith, counted x group in_group, group_counted x, has.may.same x, plain_counted search x))

  pub group_apart : (place v : ℕ) → Holds book.kept place v → Contains group v → ⊥
  group_apart place v holds in_group = omega (arith, group_once v, held_counted book.kept place v holds, counted v group in_group)

  pub group_new : IsNewGroup (released_of book) group
  group_new = record {
    inhabited = group_releasable.inhabited;
    distinct = distinct_listed group (λ x. omega (arith, group_once x));
    below =
        subst (λ (lists : List (List ℕ)). All (λ node. node < length lists) group) (sym has.lists)
        (All-from_get_or (λ node. node < length claims.lists) group 0
        (λ k lt. group_below (get_or group k 0) (k, lt, get_or_default group k (get_or group k 0) 0 lt)));
    fresh = λ v in_group member. omega (arith, group_once v, counted v group in_group, counted v (flat book.groups) (in_flat book.groups v member));
  }

  module _ {now : BookValue} (released : IsReleasedIn book group now) where
    last_is : last_group now ≡ released.appended.last
    last_is =
        let count : length now.groups - 1 ≡ length book.groups =
        (let more : length now.groups ≡ length (book.groups ++ released.appended.last ∷ []) = ap length released.appended.groups in
        omega (arith, more, length-append book.groups (released.appended.last ∷ []))) in
        ap (λ n. get_or now.groups n []) count ∙ ap (λ groups. get_or groups (length book.groups) []) released.appended.groups
        ∙ get_or-append_seam book.groups released.appended.last [] []

    last_counted : (x : ℕ) → times x (last_group now) ≡ times x group
    last_counted x = ap (times x) last_is ∙ sym (times-permutation x group released.appended.last released.appended.same_members)

    group_in : (x : ℕ) → Contains (last_group now) x → Contains group x
    group_in x in_last = standing x group (omega (arith, counted x (last_group now) in_last, last_counted x))

    -- its nodes may be closed
    pub may_close_all : MayCloseAll (record turn { book = now })
    may_close_all = record {
      some =
          let more : length now.groups ≡ length (book.groups ++ released.appended.last ∷ []) = ap length released.appended.groups in
          omega (arith, more, length-append book.groups (released.appended.last ∷ []));
      none_closed = λ x in_last. omega (arith, group_once x, counted x group (group_in x in_last), has.may.closed x);
      once = λ x. omega (arith, last_counted x, group_once x);
      below = λ x in_last. subst (λ (lists : List (List ℕ)). x < length lists) (sym has.of.1.0) (group_below x (group_in x in_last));
      stood = λ x in_last.
          omega (arith, has.may.same x, has.may.closed x, plain_counted search x, group_counted x, group_once x, counted x group (group_in x in_last));
    }

    -- and with them closed the turn may be given, with the rest of the search
    may_give_rest : MayGive turn.view (record turn.taken { closed = turn.taken.closed ++ last_group now }) (outline_of now) (nodes_with rest None)
    may_give_rest = record {
      lists = ap (λ (b : BookValue). b.lists) released.only ∙ has.may.lists;
      roots = ap (λ (b : BookValue). b.roots) released.only ∙ has.may.roots;
      failed = λ had. ap (λ (b : BookValue). b.failed) released.only ∙ has.may.failed had;
      released = record {
        more = has.may.released.more ++ released.appended.last ∷ [];
        is = released.appended.groups ∙ ap (λ groups. groups ++ released.appended.last ∷ []) has.may.released.is
            ∙ append_assoc turn.taken.book.released has.may.released.more (released.appended.last ∷ []);
      };
      closed = λ x.
          omega (arith, released.released_count x, last_counted x, has.may.closed x, times-append x turn.taken.closed (last_group now));
      same = λ x.
          let kept : times x (kept_nodes now.kept) ≡ times x (kept_nodes book.kept) = ap (times x) released.kept_nodes_are in
          omega (arith, kept, released.released_count x, group_counted x, has.may.same x, plain_counted search x, plain_counted rest x);
      wants = λ x some.
          let kept : times x (kept_nodes now.kept) ≡ times x (kept_nodes book.kept) = ap (times x) released.kept_nodes_are in
          elim (has.may.wants x (omega (arith, some, released.wanted_count x))) [
            | inl before ↦ inl before
            | inr now_here ↦
                inr
                (elim now_here [
                  | inl here ↦
                      inl (omega (arith, here, kept, released.released_count x, group_counted x, plain_counted search x, plain_counted rest x))
                  | inr noted ↦ inr noted
                ])
          ];
    }

    -- the rest is good for what is released then
    rest_good : IsGood claims.lists claims.roots (flat now.groups) false rest.stack
    rest_good =
        let left : IsGood book.lists book.roots (flat book.groups ++ group) false rest.stack =
        off.good book.lists book.roots (flat book.groups) good_here in
        let more : IsGood book.lists book.roots (flat now.groups) false rest.stack =
        good_more (flat now.groups) left
        (λ v in_both.
        standing v (flat now.groups)
        (omega (arith, counted v (flat book.groups ++ group) in_both, times-append v (flat book.groups) group, released.released_count v))) in
        subst (λ lists. IsGood lists claims.roots (flat now.groups) false rest.stack) has.lists
        (subst (λ roots. IsGood book.lists roots (flat now.groups) false rest.stack) has.roots more)

    -- the turn with the group closed is one that the worker has, with the rest of the search
    pub closed_has : {after : TurnValue} → after ≡ with_closed (record turn { book = now }) (last_group now) → HasTurn claims after rest n
    closed_has {after} closed =
        subst (λ (t : TurnValue). HasTurn claims t rest n) (sym closed)
        (record {
          of = has.of;
          lists = ap (λ (b : BookValue). b.lists) released.only ∙ has.lists;
          roots = ap (λ (b : BookValue). b.roots) released.only ∙ has.roots;
          wants_nothing = ap (λ (s : SearchValue). s.wanted) off.rest_is ∙ has.wants_nothing;
          within = has.within;
          seen = has.seen;
          good = rest_good;
          may = may_give_rest;
          apart = has.apart;
          below = has.below;
        })

-- a worker that has taken the turn has it
pub has_turn : {claims : ClaimsValue} {pass : PassValue} {search : SearchValue} (work : IsWorking claims pass search None false) {turn : TurnValue}
    {book : BookValue} (took : TookTurn pass turn book) (n : ℕ) → n ≤ length claims.roots
    → All (λ root. 0 < times root pass.view.seen) (take n claims.roots) → HasTurn claims (record turn { book = book }) search n
has_turn {claims} {pass} {search} work {turn} {book} took n within seen =
    let nodes : (x : ℕ) → times x turn.view.nodes ≡ times x pass.view.nodes = λ x. ap (λ (v : View). times x v.nodes) took.view in
    let kept : (x : ℕ) → times x turn.taken.book.kept ≡ times x (kept_nodes book.kept) = λ x. ap (λ (t : Taken). times x t.book.kept) took.taken in
    let groups : (x : ℕ) → times x (flat turn.taken.book.released) ≡ times x (flat book.groups) =
    λ x. ap (λ (t : Taken). times x (flat t.book.released)) took.taken in
    record {
      of = is_turn_of work took;
      lists = lists_are work took;
      roots = roots_are work took;
      wants_nothing = work.wants_nothing;
      within = within;
      seen = subst (λ (v : View). All (λ root. 0 < times root v.seen) (take n claims.roots)) (sym took.view) seen;
      good = good_released work took;
      may = may_stay work took book refl;
      apart = λ x. omega (arith, nodes x, kept x, groups x, took.lent.apart x);
      below = λ x some.
          subst (λ (lists : List (List ℕ)). x < length lists) (lists_are work took)
          (took.lent.below x (omega (arith, some, nodes x, kept x, groups x)));
    }

-- and goes on once it has given it back
pub goes_on_with : {claims : ClaimsValue} {turn : TurnValue} {search : SearchValue} {n : ℕ} → HasTurn claims turn search n → ContinuesWith claims turn search n false
goes_on_with {claims} {turn} {search} {n} has = record {
  of = has.of;
  wants_nothing = has.wants_nothing;
  within = has.within;
  roots = seen_more (take n claims.roots) turn.view.seen (flat turn.book.groups) has.seen;
  good = has.good;
}
