use Rattle.call_edges.specs.Seen.{see_mets}
use Rattle.group_tool.proofs.KindLemmas.{own_of}
use Rattle.group_tool.proofs.own_kinds.kinds_at.Goals as goal

pub returns : goal.returns
returns c =
    own_of c.args.program.now c.args.node (see_mets c.in_ok-met.met.items) c.kinds_in.result c.in_ok-met.ensures.met
    (rw (c.deref.ensures.value) at c.kinds_in.ensures)
