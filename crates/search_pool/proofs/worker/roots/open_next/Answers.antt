-- Each root that is claimed is the next one, and the first that is won is opened.
use Rattle.std.proofs.Common.{◌≡◌, ◌+◌, ap, ◌∙◌, arith}
use Rattle.search_stack.specs.Search.{SearchValue}
use Rattle.search_stack.specs.Stack.{size}
use Rattle.search_pool.specs.declared.worker.stretch.Stretch.{Stretch}
use Rattle.search_pool.proofs.worker.roots.open_next.Goals as goal
use Rattle.search_pool.proofs.TurnRooting.{claims_more, stays_claimed}

pub roots-preserved : goal.roots-preserved
roots-preserved g c = (
  c.in_default.ensures.others,
  (
    ap (λ (search : SearchValue). size search.stack) c.claim_next.ensures.search ∙ c.roots.invariant.1.0,
    claims_more c.roots.invariant.1.1 c.claim_next.ensures.next c.claim_next.ensures.noted c.claim_next.ensures.noted_before,
  ),
)

pub returns-in-Some-clause-claimed : goal.returns-in-Some-clause-claimed
returns-in-Some-clause-claimed g c =
    let next : c.claim_next.new.worker.stretch.next ≡ c.roots.worker.stretch.next + 1 = ap (λ (stretch : Stretch). stretch.next) c.claim_next.ensures.next in
    stays_claimed c.open_root.result
    (claims_more c.roots.invariant.1.1 c.claim_next.ensures.next c.claim_next.ensures.noted c.claim_next.ensures.noted_before)
    (omega (arith, next, c.roots.invariant.1.1.onward)) c.open_root.ensures.stays
