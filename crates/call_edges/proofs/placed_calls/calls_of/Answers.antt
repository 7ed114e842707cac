use Rattle.call_edges.specs.PlacedSeen.{see_calls}
use Rattle.call_edges.proofs.PlacedCallLemmas.{all_calls}
use Rattle.call_edges.proofs.CallOffsets.{calls_stand}
use Rattle.call_edges.proofs.placed_calls.calls_of.Goals as goal

pub returns-clause-calls : goal.returns-clause-calls
returns-clause-calls c =
    all_calls c.args.lists.now c.args.callers.now c.in_ok-calls.calls.items c.sort_unstable.new.self.items c.dedup.new.self.items c.in_ok-calls.ensures
    c.sort_unstable.ensures.permutation c.sort_unstable.ensures.sorted c.dedup.ensures.filtered

pub returns-clause-stand : goal.returns-clause-stand
returns-clause-stand c =
    let seen = c.args.lists.now in
    calls_stand seen c.args.callers.now (see_calls c.dedup.new.self.items) c.is_known.ensures
    (all_calls seen c.args.callers.now c.in_ok-calls.calls.items c.sort_unstable.new.self.items c.dedup.new.self.items c.in_ok-calls.ensures
    c.sort_unstable.ensures.permutation c.sort_unstable.ensures.sorted c.dedup.ensures.filtered)
