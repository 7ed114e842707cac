use Rattle.list_laws.proofs.SortedOnce.{sorted_rises, sorted_has}
use Rattle.loop_paths.proofs.Sorted.{as_calls}
use Rattle.loop_paths.proofs.breadth.open.Goals as goal

pub returns-clause-ascending : goal.returns-clause-ascending
returns-clause-ascending g c =
    sorted_rises c.sort_unstable.new.self.items c.dedup.new.self.items c.sort_unstable.ensures.sorted c.dedup.ensures.filtered

pub returns-clause-calls : goal.returns-clause-calls
returns-clause-calls g c =
    as_calls (g.O.Opener.lists c.args.opener.now) c.args.node c.expand.new.out.items c.dedup.new.self.items c.in_ok-expand.ensures.ok
    (λ q. sorted_has c.expand.new.out.items c.sort_unstable.new.self.items c.dedup.new.self.items q c.sort_unstable.ensures.permutation c.dedup.ensures.filtered)
