use Rattle.std.proofs.Common.{◌++◌, length, sym, subst, ap, ◌∙◌}
use Rattle.graph_law.specs.Graph.{Calls, lists_of}
use Rattle.graph_law.specs.LegalOrder.{IsLegalOrder}
use Rattle.graph_law.specs.Classes.{HasMember}
use Rattle.group_release.specs.Level.{AreLevels}
use Rattle.byte_names.specs.Names.{names_of}
use Rattle.report_lines.specs.Reportable.{AreLeveled, AreReportable}
use Rattle.report_lines.proofs.Printable.{members_are_nodes, reportable_groups}
use Rattle.component_answer.specs.Answers.{AreLoops, IsPart, IsReportBy}
use Rattle.component_answer.proofs.answer.graph_report.Goals as goal

pub levels-requires-clause-legal : goal.levels-requires-clause-legal
levels-requires-clause-legal g c κs =
    subst (λ gs. IsLegalOrder (Calls c.args.graph.now) (lists_of gs)) (sym c.deref.ensures.value) (c.requires.finds _ _ c.in_ok-groups.ensures).legal

pub levels-requires-clause-nodes : goal.levels-requires-clause-nodes
levels-requires-clause-nodes g c κs p has =
    members_are_nodes c.args.graph.now c.count-count.ensures.closed c.requires.within
    (c.requires.finds _ _ c.in_ok-groups.ensures).reached p (subst (λ gs. HasMember (lists_of gs) p) c.deref.ensures.value has)

pub groups_report-requires : goal.groups_report-requires
groups_report-requires g c =
    let lists = c.args.graph.now in
    let starts = c.args.starts.now in
    let groups = lists_of c.in_ok-groups.groups.items in
    let levels = c.in_ok-marks.marks.items in
    let leveled : AreLeveled (Calls lists) starts groups levels = record {
      are = (c.requires.finds _ _ c.in_ok-groups.ensures);
      leveled = subst (λ gs. AreLevels (Calls lists) (lists_of gs) levels) c.deref.ensures.value c.in_ok-marks.ensures;
    } in
    let can : AreReportable (length c.args.names.now) groups levels =
    reportable_groups lists (length c.args.names.now) c.count-count.ensures.closed c.requires.each c.requires.within leveled in
    record {
      few = c.requires.few;
      groups =
          subst (λ gs. AreReportable (length c.args.names.now) (lists_of gs) c.deref-3.result.now) (sym c.deref-2.ensures.value)
          (subst (AreReportable (length c.args.names.now) groups) (sym c.deref-3.ensures.value) can);
    }

pub loops_part-requires : goal.loops_part-requires
loops_part-requires g c =
    let lists = c.args.graph.now in
    let starts = c.args.starts.now in
    let groups = lists_of c.in_ok-groups.groups.items in
    let levels = c.in_ok-marks.marks.items in
    let leveled : AreLeveled (Calls lists) starts groups levels = record {
      are = (c.requires.finds _ _ c.in_ok-groups.ensures);
      leveled = subst (λ gs. AreLevels (Calls lists) (lists_of gs) levels) c.deref.ensures.value c.in_ok-marks.ensures;
    } in
    record {
      few = c.requires.few;
      each = c.requires.each;
      leveled = (
        starts,
        (
          c.requires.within,
          subst (λ gs. AreLeveled (Calls lists) starts (lists_of gs) c.deref-5.result.now) (sym c.deref-4.ensures.value)
              (subst (AreLeveled (Calls lists) starts groups) (sym c.deref-5.ensures.value) leveled),
        ),
      );
    }

pub returns : goal.returns
returns g c =
    let lists = c.args.graph.now in
    let starts = c.args.starts.now in
    let names = names_of c.args.names.now in
    let wanted = c.args.wanted in
    let groups = lists_of c.in_ok-groups.groups.items in
    let levels = c.in_ok-marks.marks.items in
    let leveled : AreLeveled (Calls lists) starts groups levels = record {
      are = (c.requires.finds _ _ c.in_ok-groups.ensures);
      leveled = subst (λ gs. AreLevels (Calls lists) (lists_of gs) levels) c.deref.ensures.value c.in_ok-marks.ensures;
    } in
    let told = c.in_ok-bytes.bytes.items in
    let report : IsReportBy wanted.order wanted.form names groups levels told =
    subst (λ gs. IsReportBy wanted.order wanted.form names (lists_of gs) levels told) c.deref-2.ensures.value
    (subst (λ ms. IsReportBy wanted.order wanted.form names (lists_of c.deref-2.result.now) ms told) c.deref-3.ensures.value c.in_ok-bytes.ensures) in
    let loops = c.in_ok-loops.loops.items in
    let are_loops : IsPart wanted.loops (AreLoops lists wanted.form names groups levels) loops =
    subst (λ gs. IsPart wanted.loops (AreLoops lists wanted.form names (lists_of gs) levels) loops) c.deref-4.ensures.value
    (subst (λ ms. IsPart wanted.loops (AreLoops lists wanted.form names (lists_of c.deref-4.result.now) ms) loops) c.deref-5.ensures.value c.in_ok-loops.ensures) in
    (record {
      groups = groups;
      levels = levels;
      leveled = leveled;
      told = told;
      report = report;
      loops = loops;
      are_loops = are_loops;
      is = c.in_ok-extend_from_slice.ensures.items ∙ ap (λ part. told ++ part) c.deref-6.ensures.value;
    })
