use Rattle.std.proofs.Common.{◌++◌, [], ap, sym, ◌∙◌}
use Rattle.std.specs.String.{string_bytes}
use Rattle.std.proofs.lemmas.List.{get_or_default}
use Rattle.graph_law.specs.Graph.{lists_of}
use Rattle.graph_law.proofs.GraphLaws.{get_or-lists_of, within_lists}
use Rattle.loop_report.specs.Report.{loop_line}
use Rattle.loop_report.proofs.Texts.{texts_more}
use Rattle.loop_report.proofs.loops.push_loops.Goals as goal

pub loop-names-preserved : goal.loop-names-preserved
loop-names-preserved c =
    let loops = c.args.loops.now in
    let i = c.loop-names.names-index in
    let names = c.names-item.result in
    let lt = within_lists loops i c.loop-names-test.true in
    let read = get_or-lists_of loops i names c.loop-names-test.true c.names-item.is in
    texts_more loop_line (string_bytes c.args.text.now) (string_bytes c.loop-names.text) (string_bytes c.push_loop.new.text) (lists_of loops) i names.items lt
    (sym read ∙ get_or_default (lists_of loops) i [] names.items lt) c.loop-names.invariant
    (c.in_ok-push_loop.ensures ∙ ap (λ ns. string_bytes c.loop-names.text ++ loop_line ns) c.deref.ensures.value)
