use Rattle.std.proofs.Common.{◌≡◌, Some, sym, ◌∙◌}
use Rattle.prolog_names.specs.Names.{name_at}
use Rattle.prolog_terms.specs.Terms.{tree_of}
use Rattle.prolog_terms.specs.Views.{Binary, binary}
use Rattle.call_edges.specs.declared.role.Way.TheVariants.{Control}
use Rattle.call_edges.specs.Goals.{way}
use Rattle.call_edges.proofs.ControlSides.{parted}
use Rattle.call_edges.proofs.by_number.control_sides.Goals as goal

pub returns-clause-sides : goal.returns-clause-sides
returns-clause-sides c =
    let tree = tree_of c.args.term.now in
    let v = c.in_ok-number in
    let pair : Binary = record { name = name_at c.args.term.now.names.now v.number; left = tree_of v.left; right = tree_of v.right } in
    let is : binary tree ≡ Some pair = sym v.ensures.trees in
    let control : way c.args.role.arg pair.name 2 ≡ Control =
    c.has_controls.ensures.way c.if-not-has_controls.false pair.name 2 ∙ c.is_control.ensures c.if-not-is_control.false in
    parted c.args.role (c.has_controls.ensures.settled c.if-not-has_controls.false) tree pair is control
