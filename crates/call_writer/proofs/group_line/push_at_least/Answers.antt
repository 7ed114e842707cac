use Rattle.std.proofs.Common.{◌≡◌, ◌==◌, ◌++◌, [], true, false, ap, sym, ◌∙◌, append-nil}
use Rattle.std.specs.Prelude.{if◌then◌else◌}
use Rattle.std.specs.String.{string_bytes}
use Rattle.std.proofs.lemmas.Bool.{eq-eqb, ne_eqb}
use Rattle.graph_law.specs.Classes.{group_at, least_member}
use Rattle.graph_law.specs.Graph.{lists_of}
use Rattle.graph_law.proofs.GraphLaws.{group_read}
use Rattle.group_release.specs.Level.{level_at}
use Rattle.call_writer.specs.Lines.{group_line}
use Rattle.call_writer.proofs.group_line.push_at_least.Goals as goal

pub returns-then-least_at-node : goal.returns-then-least_at-node
returns-then-least_at-node c =
    let text = string_bytes c.args.text.now in
    let members = group_at (lists_of c.args.groups.now) c.args.place in
    let line = group_line c.args.node members (level_at c.args.levels.now c.args.place) in
    let other : (least_member members == c.args.node) ≡ false = ap (λ n. n == c.args.node) (sym c.least_at.ensures) ∙ ne_eqb c.least_at.result c.args.node c.if-least_at-node.true in
    sym (append-nil text) ∙ ap (λ b. text ++ (if b then line else [])) (sym other)

pub returns : goal.returns
returns c =
    let text = string_bytes c.args.text.now in
    let members = group_at (lists_of c.args.groups.now) c.args.place in
    let level = level_at c.args.levels.now c.args.place in
    let least : (least_member members == c.args.node) ≡ true = ap (λ n. n == c.args.node) (sym c.least_at.ensures) ∙ eq-eqb c.least_at.result c.args.node c.if-least_at-node.false in
    let are : c.deref.result.now ≡ members =
    group_read c.args.groups.now c.args.place c.index-groups-place.result c.deref.result.now c.requires.within c.index-groups-place.is c.deref.ensures.value in
    c.in_ok-push_line.ensures
    ∙ (ap (λ ms. text ++ group_line c.args.node ms level) are ∙ ap (λ b. text ++ (if b then group_line c.args.node members level else [])) (sym least))
