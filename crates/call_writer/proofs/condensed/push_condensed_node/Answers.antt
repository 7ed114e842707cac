use Rattle.std.proofs.Common.{◌≡◌, ◌-◌, ◌==◌, ◌++◌, true, false, ap, sym, ◌∙◌}
use Rattle.std.specs.Prelude.{if◌then◌else◌}
use Rattle.std.specs.String.{string_bytes}
use Rattle.std.proofs.lemmas.Bool.{eq-eqb, ne_eqb}
use Rattle.graph_law.specs.Classes.{group_at}
use Rattle.graph_law.specs.Graph.{lists_of}
use Rattle.call_writer.specs.Dot.{node_at_least, node_line_of}
use Rattle.call_writer.proofs.condensed.push_condensed_node.Goals as goal

pub returns-then-place-eq0 : goal.returns-then-place-eq0
returns-then-place-eq0 c =
    let text = string_bytes c.args.text.now in
    let predicates = c.args.program.now.predicates in
    let own = node_line_of predicates c.args.node in
    let grouped = node_at_least predicates c.args.node (group_at (lists_of c.args.groups.now) (c.args.place - 1)) in
    let none : (c.args.place == 0) ≡ true = eq-eqb c.args.place 0 c.if-place-eq0.true in
    c.in_ok-push_node.ensures ∙ ap (λ b. text ++ (if b then own else grouped)) (sym none)

pub returns : goal.returns
returns c =
    let text = string_bytes c.args.text.now in
    let predicates = c.args.program.now.predicates in
    let own = node_line_of predicates c.args.node in
    let grouped = node_at_least predicates c.args.node (group_at (lists_of c.args.groups.now) (c.args.place - 1)) in
    let some : (c.args.place == 0) ≡ false = ne_eqb c.args.place 0 c.if-place-eq0.false in
    c.in_ok-push_node_at_least.ensures ∙ ap (λ b. text ++ (if b then own else grouped)) (sym some)
