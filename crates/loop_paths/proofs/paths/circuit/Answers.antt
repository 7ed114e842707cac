use Rattle.graph_law.specs.Graph.{Calls}
use Rattle.loop_paths.proofs.Leads.{circuit_from_lead}
use Rattle.loop_paths.proofs.paths.circuit.Goals as goal

pub returns : goal.returns
returns g c = circuit_from_lead (Calls (g.O.Opener.lists c.args.opener.now)) c.args.node c.in_ok-found.found c.in_ok-found.ensures.lead
