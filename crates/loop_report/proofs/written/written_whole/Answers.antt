use Rattle.std.proofs.Common.{ℕ, List, subst, sym}
use Rattle.graph_law.specs.Graph.{lists_of}
use Rattle.loop_report.specs.Report.{IsReportIn}
use Rattle.loop_report.proofs.written.written_whole.Goals as goal

pub returns : goal.returns
returns c =
    let Is : List ℕ → Type 0 =
    IsReportIn c.args.program.now.predicates c.args.program.now.loaded.files (lists_of c.args.groups.now) c.args.levels.now c.args.unreached c.args.order.now in
    subst Is (sym c.in_ok-texts.ensures) c.in_ok-text.ensures
