-- What each step makes of a search that is led by hand with the claims of its pass.
use Rattle.std.proofs.Common.{◌≡◌, ℕ, zero, suc, ◌<◌, true, List, [], ◌∷◌, ◌++◌, None, Some, ap, ◌∙◌, sym, subst, arith}
use Rattle.std.specs.Prelude.{All}
use Rattle.list_laws.specs.Counts.{times}
use Rattle.list_laws.proofs.Counting.{times-append}
use Rattle.search_stack.specs.GoodSearch.{IsGood}
use Rattle.search_stack.specs.Search.{SearchValue, IsOn, empty_stack}
use Rattle.search_stack.specs.Stack.{Stack, size}
use Rattle.search_stack.proofs.Edges.{good_empty}
use Rattle.search_stack.proofs.Shapes.{empty_size}
use Rattle.group_release.specs.Outline.{nodes_on}
use Rattle.node_claims.specs.Claims.{ClaimsValue, PassValue, IsPassOf}
use Rattle.node_claims.specs.Views.{both, claimed}
use Rattle.node_claims.specs.declared.view.View.{View}
use Rattle.search_pool.specs.Driving.{IsIdlePass}
use Rattle.search_pool.specs.Worker.{IsWorking}

-- nothing is on an empty stack
pub none_on : {s : Stack} (v : ℕ) → s ≡ empty_stack → IsOn s v → ⊥
none_on {s} v is on =
    let within = on.within in
    let none : size s ≡ 0 = ap size is ∙ empty_size in
    omega (arith, within, none)

-- a pass that had no node has won one
pub wins_first : {claims : ClaimsValue} (old : PassValue) {pass : PassValue} {search : SearchValue} (v : ℕ) → IsIdlePass claims old → IsPassOf claims pass
    → pass.view ≡ claimed v 0 old.view → search.stack ≡ empty_stack → search.wanted ≡ None → IsWorking claims pass search (Some v) true
wins_first {claims} old {pass} {search} v idle of view stack wanted = record {
  has = record {
    pass_of = of;
    nodes =
        ap (λ (w : View). w.nodes) view ∙ ap (λ nodes. nodes ++ v ∷ []) idle.1
        ∙ ap (λ (s : Stack). nodes_on s ++ v ∷ []) (sym stack);
  };
  wants_nothing = wanted;
  good =
      subst (IsGood claims.lists claims.roots pass.view.seen true) (sym stack)
      (good_empty claims.lists claims.roots pass.view.seen true);
}

-- there is more room for a node that is won, and nothing else is new
pub room_for_won : {claims : ClaimsValue} {pass : PassValue} {old now : SearchValue} {v : ℕ} → IsWorking claims pass old (Some v) true
    → now.stack ≡ old.stack → now.wanted ≡ old.wanted → IsWorking claims pass now (Some v) true
room_for_won {claims} {pass} {old} {now} {v} works stack wanted = record {
  has = record { pass_of = works.has.pass_of; nodes = works.has.nodes ∙ ap (λ (s : Stack). nodes_on s ++ v ∷ []) (sym stack) };
  wants_nothing = wanted ∙ works.wants_nothing;
  good = subst (IsGood claims.lists claims.roots pass.view.seen true) (sym stack) works.good;
}

-- the one root is among what a pass has seen that knows what two did, if the first has seen it
only_root : (seen : List ℕ) → 0 < times 0 seen → All (λ root. 0 < times root seen) (0 ∷ [])
only_root seen some zero d lt = some
only_root seen some (suc k) d lt = absurd (omega (arith, lt))

pub sees_root : (roots : List ℕ) (left right after : PassValue) → roots ≡ 0 ∷ [] → 0 < times 0 left.view.seen
    → after ≡ record { table = left.table; view = both left.view right.view } → All (λ root. 0 < times root after.view.seen) roots
sees_root roots left right after are some is =
    subst (All (λ root. 0 < times root after.view.seen)) (sym are)
    (only_root after.view.seen
    (omega (arith, some, ap (λ (pass : PassValue). times 0 pass.view.seen) is, times-append 0 left.view.seen right.view.seen)))
