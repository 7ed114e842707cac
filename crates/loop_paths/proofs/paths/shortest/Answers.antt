use Rattle.graph_law.specs.Graph.{Calls}
use Rattle.loop_paths.proofs.Leads.{path_least, path_none}
use Rattle.loop_paths.proofs.paths.shortest.Goals as goal

pub returns-in_default : goal.returns-in_default
returns-in_default g c =
    path_none (Calls (g.O.Opener.lists c.args.opener.now)) c.args.from c.args.to c.if-from-to.false (rw c.in_default.is at c.in_ok-path.ensures.lead)

pub returns : goal.returns
returns g c =
    rw c.in_ok-push.ensures.items
    (path_least (Calls (g.O.Opener.lists c.args.opener.now)) c.args.from c.args.to c.in-Some.path.items c.if-from-to.false
    (rw c.in-Some.is at c.in_ok-path.ensures.lead))
