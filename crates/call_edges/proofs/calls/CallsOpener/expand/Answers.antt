use Rattle.std.proofs.Common.{◌≡◌, [], length, ap, subst, arith}
use Rattle.std.specs.Prelude.{OnOk, slice_index_or}
use Rattle.import_rules.specs.Program.{Seen}
use Rattle.call_edges.specs.Successors.{successor_lists}
use Rattle.call_edges.proofs.SuccessorLemmas.{lists_count, is_list}
use Rattle.call_edges.proofs.CallLemmas.{on_ok_both}
use Rattle.call_edges.proofs.calls.CallsOpener.expand.Goals as goal

pub callees-requires-clause-below : goal.callees-requires-clause-below
callees-requires-clause-below c =
    omega (arith, c.requires.below, lists_count c.args.self.now, ap (λ (seen : Seen). length seen.predicates) c.self.view_is)

pub returns-clause-ok : goal.returns-clause-ok
returns-clause-ok c =
    let inside = c.self.inside.program.now in
    let count = ap (λ (seen : Seen). length seen.predicates) c.self.view_is in
    subst (λ (seen : Seen). OnOk c.callees.result (c.callees.new.out.items ≡ slice_index_or (successor_lists seen) c.args.node [])) c.self.view_is
    (on_ok_both c.callees.result c.callees.ensures.ascending c.callees.ensures.calls (λ rises calls.
    is_list inside c.args.node c.callees.new.out.items (omega (arith, c.requires.below, lists_count c.args.self.now, count)) rises calls))
