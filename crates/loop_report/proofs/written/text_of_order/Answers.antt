use Rattle.std.proofs.Common.{◌<◌, ◌^◌, ◌++◌, ℕ, List, length, ap, sym, subst, ◌∙◌, arith}
use Rattle.std.specs.List.{flat_map}
use Rattle.std.specs.String.{string_bytes}
use Rattle.graph_law.specs.Graph.{lists_of}
use Rattle.graph_law.proofs.GraphLaws.{length-lists_of}
use Rattle.loop_report.specs.Report.{IsReportIn, head_line, place_line}
use Rattle.report_lines.proofs.Printable.{few_groups, short_groups}
use Rattle.loop_report.proofs.ReportTexts.{report_in}
use Rattle.loop_report.proofs.written.text_of_order.Goals as goal

pub push_head-requires-clause-few : goal.push_head-requires-clause-few
push_head-requires-clause-few c =
    let count : length c.args.program.now.predicates < 2 ^ 32 = omega (arith, c.count.ensures, c.count.type_inv) in
    omega (arith, few_groups count c.requires.printable, length-lists_of c.args.groups.now)

pub push_head-requires-clause-short : goal.push_head-requires-clause-short
push_head-requires-clause-short c =
    let count : length c.args.program.now.predicates < 2 ^ 32 = omega (arith, c.count.ensures, c.count.type_inv) in
    short_groups count c.requires.printable

pub returns : goal.returns
returns c =
    let predicates = c.args.program.now.predicates in
    let groups = lists_of c.args.groups.now in
    let levels = c.args.levels.now in
    let lines = flat_map (place_line predicates groups levels) c.args.order.now in
    let Is : List ℕ → Type 0 = IsReportIn predicates c.args.program.now.loaded.files groups levels c.args.unreached c.args.order.now in
    subst Is (sym (ap (λ vec. vec.items) c.into_bytes.ensures.value))
    (report_in predicates c.args.program.now.loaded.files groups levels c.args.unreached c.args.order.now (string_bytes c.push_groups.new.text)
    (string_bytes c.push_rest.new.text)
    (c.in_ok-push_groups.ensures
    ∙ ap (λ text. text ++ lines) (c.in_ok-push_head.ensures ∙ ap (λ text. text ++ head_line groups levels) c.in_ok-text.ensures.bytes))
    c.in_ok-push_rest.ensures)
