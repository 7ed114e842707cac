use Rattle.std.proofs.Common.{sym, subst}
use Rattle.graph_law.specs.Graph.{lists_of}
use Rattle.byte_names.specs.Names.{names_of}
use Rattle.component_answer.specs.Answers.{IsReportBy}
use Rattle.component_answer.proofs.answer.groups_report.Goals as goal

pub returns-then-wanted : goal.returns-then-wanted
returns-then-wanted c =
    subst (λ o. IsReportBy o c.args.wanted.form (names_of c.args.names.now) (lists_of c.args.groups.now) c.args.levels.now c.in_ok-bytes.bytes.items)
    (sym c.if-wanted.true) c.in_ok-bytes.ensures

pub returns : goal.returns
returns c =
    subst (λ o. IsReportBy o c.args.wanted.form (names_of c.args.names.now) (lists_of c.args.groups.now) c.args.levels.now c.in_ok-bytes-2.bytes.items)
    (sym c.if-wanted.false) c.in_ok-bytes-2.ensures
