use Rattle.std.proofs.Common.{length, ap, sym, ◌∙◌}
use Rattle.import_rules.specs.Program.{Seen}
use Rattle.call_edges.proofs.SuccessorLemmas.{lists_count, lists_closed}
use Rattle.call_edges.proofs.graph.call_lists.CallListsOpener.count.Goals as goal

pub returns-clause-count : goal.returns-clause-count
returns-clause-count c =
    c.count.ensures ∙ (ap (λ (seen : Seen). length seen.predicates) c.self.view_is ∙ sym (lists_count c.args.self.now))

pub returns-clause-closed : goal.returns-clause-closed
returns-clause-closed c = lists_closed c.args.self.now
