-- One more node of the group is closed each time, and in the end all are.
use Rattle.std.proofs.Common.{◌≡◌, ◌<◌, length, Some, ap, ◌∙◌, sym, subst, arith, append-nil}
use Rattle.std.proofs.lemmas.List.{take_all}
use Rattle.std.specs.Prelude.{slice_get}
use Rattle.node_claims.specs.Claims.{TurnValue}
use Rattle.search_pool.specs.Working.{last_group, with_closed}
use Rattle.search_pool.proofs.worker.close.close_group.Goals as goal
use Rattle.search_pool.proofs.TurnClosing.{closes_more, is_member, may_close, node_below, some_group, within_group}

pub member-node-requires-clause-some : goal.member-node-requires-clause-some
member-node-requires-clause-some c = some_group c.requires c.loop-index.index c.loop-index.invariant

pub member-node-requires-clause-within : goal.member-node-requires-clause-within
member-node-requires-clause-within c =
    within_group c.requires c.loop-index.index c.loop-index.invariant (omega (arith, c.members-count.ensures.count, c.loop-index-test.true))

pub close-requires : goal.close-requires
close-requires c =
    let is : c.member-node.new.turn ≡ with_closed c.args.turn.now _ = c.member-node.ensures.unchanged ∙ c.loop-index.invariant in
    let lt : c.loop-index.index < length (last_group c.args.turn.now.book) = omega (arith, c.members-count.ensures.count, c.loop-index-test.true) in
    let member : slice_get (last_group c.member-node.new.turn.book) c.loop-index.index ≡ Some c.member-node.result =
    subst (λ (t : TurnValue). slice_get (last_group t.book) c.loop-index.index ≡ Some c.member-node.result) (sym c.member-node.ensures.unchanged)
    c.member-node.ensures.member in
    record {
      node = node_below c.requires c.loop-index.index is lt member;
      released = is_member c.requires c.loop-index.index is lt member;
      may = may_close c.requires c.loop-index.index is lt member;
    }

pub loop-index-init : goal.loop-index-init
loop-index-init c =
    c.members-count.ensures.unchanged
    ∙ ap (λ nodes. record c.args.turn.now { taken = record c.args.turn.now.taken { closed = nodes } }) (sym (append-nil c.args.turn.now.taken.closed))

pub loop-index-preserved : goal.loop-index-preserved
loop-index-preserved c =
    let is : c.member-node.new.turn ≡ with_closed c.args.turn.now _ = c.member-node.ensures.unchanged ∙ c.loop-index.invariant in
    let lt : c.loop-index.index < length (last_group c.args.turn.now.book) = omega (arith, c.members-count.ensures.count, c.loop-index-test.true) in
    let member : slice_get (last_group c.member-node.new.turn.book) c.loop-index.index ≡ Some c.member-node.result =
    subst (λ (t : TurnValue). slice_get (last_group t.book) c.loop-index.index ≡ Some c.member-node.result) (sym c.member-node.ensures.unchanged)
    c.member-node.ensures.member in
    closes_more c.requires c.loop-index.index is lt member c.close.new.self c.close.ensures

pub returns : goal.returns
returns c =
    c.loop-index.invariant
    ∙ ap (with_closed c.args.turn.now)
    (take_all c.loop-index.index (last_group c.args.turn.now.book)
    (omega (arith, c.members-count.ensures.count, c.loop-index-test.false)))
