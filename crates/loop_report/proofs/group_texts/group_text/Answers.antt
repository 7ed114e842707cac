use Rattle.std.proofs.Common.{◌++◌, ap, ◌∙◌}
use Rattle.std.specs.List.{flat_map}
use Rattle.graph_law.specs.Graph.{lists_of}
use Rattle.loop_report.specs.Report.{place_line}
use Rattle.loop_report.proofs.group_texts.group_text.Goals as goal

pub returns : goal.returns
returns c =
    let lines = flat_map (place_line c.args.program.now.predicates (lists_of c.args.groups.now) c.args.levels.now) c.args.order.now in
    ap (λ vec. vec.items) c.into_bytes.ensures.value ∙ (c.in_ok-push_groups.ensures ∙ ap (λ text. text ++ lines) c.in_ok-text.ensures.bytes)
