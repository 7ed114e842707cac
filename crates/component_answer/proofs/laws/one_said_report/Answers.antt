use Rattle.std.proofs.Common.{◌≡◌, ◌++◌, sym, subst, ◌∙◌}
use Rattle.component_answer.specs.Answers.{IsReachReport, IsReportBy}
use Rattle.component_answer.specs.Starts.{AreStarts}
use Rattle.component_answer.proofs.Loops.{same_part}
use Rattle.component_answer.proofs.OneNames.{one_starts}
use Rattle.component_answer.proofs.laws.one_said_report.Goals as goal

pub returns : goal.returns
returns c said roots wanted bytes other plain one two =
    let same = c.one_edge_graph.ensures said one.names two.names one.lists two.lists one.graph two.graph in
    let starts =
    one_starts one.names roots one.starts two.starts one.graph.nodes.in_order one.are_starts
    (subst (λ names. AreStarts names roots two.starts) (sym same.0) two.are_starts) in
    let own = one.report in
    let also : IsReachReport one.names one.lists one.starts wanted other =
    subst (λ names. IsReachReport names one.lists one.starts wanted other) (sym same.0)
    (subst (λ lists. IsReachReport two.names lists one.starts wanted other) (sym same.1)
    (subst (λ nodes. IsReachReport two.names two.lists nodes wanted other) (sym starts) two.report)) in
    let told : own.told ≡ also.told =
    c.one_report.ensures wanted.form one.names one.lists one.starts own.groups also.groups own.levels also.levels own.told also.told
    own.leveled also.leveled
    (subst (λ o. IsReportBy o wanted.form one.names own.groups own.levels own.told) plain own.report)
    (subst (λ o. IsReportBy o wanted.form one.names also.groups also.levels also.told) plain also.report) in
    let loops : own.loops ≡ also.loops =
    same_part wanted.loops one.lists wanted.form one.names own.loops also.loops own.leveled also.leveled own.are_loops also.are_loops in
    own.is ∙ ((λ i. told i ++ loops i) ∙ sym also.is)
