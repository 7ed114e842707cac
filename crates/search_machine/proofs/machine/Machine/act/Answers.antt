use Rattle.search_machine.proofs.Acting.{runs_there}
use Rattle.search_machine.proofs.machine.Machine.act.Goals as goal

pub begin_edge-requires-clause-runs : goal.begin_edge-requires-clause-runs
begin_edge-requires-clause-runs c =
    let can = rw (← c.self.view_is) at c.requires.can in
    rw (← c.self.view_is)
    (runs_there c.self.inside c.args.place c.index.result.now c.is_none.result can.within c.index.ensures c.is_none.ensures c.if-is_none.false can.free)
