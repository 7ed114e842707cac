use Rattle.std.proofs.Common.{◌≡◌, ◌-◌, ◌==◌, ◌++◌, [], true, false, ap, sym, ◌∙◌, append-nil}
use Rattle.std.specs.Prelude.{if◌then◌else◌}
use Rattle.std.specs.String.{string_bytes}
use Rattle.std.proofs.lemmas.Bool.{eq-eqb, ne_eqb}
use Rattle.graph_law.specs.Classes.{group_at}
use Rattle.graph_law.specs.Graph.{lists_of}
use Rattle.group_release.specs.Level.{level_at}
use Rattle.call_writer.specs.Lines.{line_at_least}
use Rattle.call_writer.proofs.group_line.push_group_line.Goals as goal

pub returns-then-place-eq0 : goal.returns-then-place-eq0
returns-then-place-eq0 c =
    let line = line_at_least c.args.node (group_at (lists_of c.args.groups.now) (c.args.place - 1)) (level_at c.args.levels.now (c.args.place - 1)) in
    let none : (c.args.place == 0) ≡ true = eq-eqb c.args.place 0 c.if-place-eq0.true in
    sym (append-nil (string_bytes c.args.text.now)) ∙ ap (λ b. string_bytes c.args.text.now ++ (if b then [] else line)) (sym none)

pub returns : goal.returns
returns c =
    let text = string_bytes c.args.text.now in
    let line = line_at_least c.args.node (group_at (lists_of c.args.groups.now) (c.args.place - 1)) (level_at c.args.levels.now (c.args.place - 1)) in
    let some : (c.args.place == 0) ≡ false = ne_eqb c.args.place 0 c.if-place-eq0.false in
    c.in_ok-push_at_least.ensures ∙ ap (λ b. text ++ (if b then [] else line)) (sym some)
