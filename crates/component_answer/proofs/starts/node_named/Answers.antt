use Rattle.component_answer.proofs.NamedNodes.{absent, found}
use Rattle.component_answer.proofs.starts.node_named.Goals as goal

pub returns-in-Ok : goal.returns-in-Ok
returns-in-Ok c = found c.args.names.now c.args.name c.in-Ok.place c.in-Ok.ensures.bound c.in-Ok.ensures.ok

pub returns-in-Err : goal.returns-in-Err
returns-in-Err c = absent c.args.names.now c.args.name c.in-Err.field-0 c.requires.ordered c.in-Err.ensures.position
