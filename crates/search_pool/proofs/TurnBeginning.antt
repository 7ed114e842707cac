-- A worker that has nothing yet.
use Rattle.std.proofs.Common.{◌≡◌, false, [], ◌++◌, None, ap, ◌∙◌, sym, subst, arith}
use Rattle.search_stack.specs.GoodSearch.{IsGood}
use Rattle.search_stack.specs.Search.{SearchValue, empty_stack}
use Rattle.search_stack.specs.Stack.{Stack}
use Rattle.search_stack.proofs.Edges.{good_empty}
use Rattle.group_release.specs.Outline.{nodes_on}
use Rattle.node_claims.specs.Claims.{ClaimsValue, PassValue, IsPassOf}
use Rattle.search_pool.specs.Working.{AreRootsOf, IsAtWork}
use Rattle.search_pool.specs.declared.worker.stretch.Stretch.{Stretch}

pub begins_at_work : (claims : ClaimsValue) (pass : PassValue) (search : SearchValue) (stretch : Stretch) → IsPassOf claims pass
    → pass.view.nodes ≡ [] → search.stack ≡ empty_stack → search.wanted ≡ None → stretch.roots.items ≡ []
    → IsAtWork claims (record { pass = pass; search = search; stretch = stretch; seen_roots = 0; waits = 0; vain = 0; awaited = 0 }) false
begins_at_work claims pass search stretch of nothing is wants_nothing none = record {
  working = record {
    has = record { pass_of = of; nodes = nothing ∙ ap (λ (s : Stack). nodes_on s ++ []) (sym is) };
    wants_nothing = wants_nothing;
    good =
        subst (IsGood claims.lists claims.roots pass.view.seen false) (sym is)
        (good_empty claims.lists claims.roots pass.view.seen false);
  };
  handed = subst (AreRootsOf claims) (sym none) (λ k d lt. absurd (omega (arith, lt)));
  within = omega arith;
  seen = λ k d lt. absurd (omega (arith, lt));
}
