use Rattle.std.proofs.Common.{◌≡◌, ℕ, ◌+◌, ◌<◌, ◌++◌, All, [], length, take, get_or, sym, subst, ap, ap₂, ◌∙◌, append_assoc}
use Rattle.graph_law.specs.Classes.{group_at}
use Rattle.graph_law.specs.Graph.{lists_of}
use Rattle.graph_law.proofs.GraphLaws.{group_read, within_lists}
use Rattle.group_release.specs.Level.{level_at}
use Rattle.byte_names.specs.Names.{names_of}
use Rattle.component_report.specs.JsonLines.{json_group, json_lines}
use Rattle.component_report.proofs.NumberedLines.{line_more}
use Rattle.component_report.proofs.json_lines.push_json_groups.Goals as goal

pub push_json_group-requires : goal.push_json_group-requires
push_json_group-requires c =
    let place : ℕ = get_or c.args.order.now c.loop-place.place-index 0 in
    let within : place < length c.args.groups.now = c.requires.places c.loop-place.place-index 0 c.loop-place-test.true in
    let is : c.deref.result.now ≡ group_at (lists_of c.args.groups.now) place =
    group_read c.args.groups.now place c.index-groups-place.result c.deref.result.now within c.index-groups-place.is c.deref.ensures.value in
    subst (All (λ member. member < length c.args.names.now)) (sym is)
    (c.requires.within place [] (within_lists c.args.groups.now place within))

pub loop-place-preserved : goal.loop-place-preserved
loop-place-preserved c =
    let names = names_of c.args.names.now in
    let groups = lists_of c.args.groups.now in
    let levels = c.args.levels.now in
    let order = c.args.order.now in
    let at = c.loop-place.place-index in
    let place : ℕ = get_or order at 0 in
    let within : place < length c.args.groups.now = c.requires.places at 0 c.loop-place-test.true in
    let is : c.deref.result.now ≡ group_at groups place =
    group_read c.args.groups.now place c.index-groups-place.result c.deref.result.now within c.index-groups-place.is c.deref.ensures.value in
    let old = c.args.text.now.items in
    let before = json_lines names groups levels 0 (take at order) in
    let line = json_group names at (group_at groups place) (level_at levels place) in (
      ap (λ n. n + 1) c.loop-place.invariant.0,
      c.in_ok-push_json_group.ensures
          ∙ ap₂ (λ n members. c.loop-place.text.items ++ json_group names n members (level_at levels place)) c.loop-place.invariant.0 is
          ∙ ap (λ text. text ++ line) c.loop-place.invariant.1 ∙ append_assoc old before line
          ∙ ap (λ lines. old ++ lines) (sym (line_more names groups levels order at c.loop-place-test.true)),
    )
