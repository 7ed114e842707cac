use Rattle.loop_report.proofs.ModuleNames.{found, absent}
use Rattle.loop_report.proofs.modules.place_of.Goals as goal

pub returns-in-Ok : goal.returns-in-Ok
returns-in-Ok c = found c.args.names.now c.args.wanted c.in-Ok.place c.in-Ok.ensures.bound c.in-Ok.ensures.ok

pub returns-in-Err : goal.returns-in-Err
returns-in-Err c = absent c.args.names.now c.args.wanted c.in-Err.field-0 c.requires.rising c.in-Err.ensures.position
