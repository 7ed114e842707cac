use Rattle.std.proofs.Common.{◌++◌, ap, ◌∙◌}
use Rattle.std.specs.List.{flat_map}
use Rattle.std.specs.String.{string_bytes}
use Rattle.graph_law.specs.Graph.{lists_of}
use Rattle.loop_report.specs.Report.{loop_line}
use Rattle.loop_report.proofs.ReportTexts.{rest_added}
use Rattle.loop_report.proofs.written.push_rest.Goals as goal

pub returns : goal.returns
returns c =
    let old = string_bytes c.args.text.now in
    rest_added c.args.program.now.predicates c.args.program.now.loaded.files (lists_of c.args.groups.now) c.args.unreached
    (lists_of c.in_ok-loops.loops.items) old (string_bytes c.push_loops.new.text) (string_bytes c.push_asked.new.text) c.in_ok-loops.ensures
    (c.in_ok-push_loops.ensures ∙ ap (λ loops. old ++ flat_map loop_line (lists_of loops)) c.deref.ensures.value) c.in_ok-push_asked.ensures
