use Rattle.std.proofs.Common.{List, ℕ, ◌↔◌}
use Rattle.std.specs.Prelude.{Contains}
use Rattle.call_edges.specs.Properties.{IsDeclared}
use Rattle.call_edges.proofs.CallLemmas.{adds_from_none}
use Rattle.call_edges.proofs.PropertyLemmas.{declared_below}
use Rattle.call_edges.proofs.RootReasons.{all_below}
use Rattle.call_edges.proofs.properties.declared_of.Goals as goal

pub returns-clause-are : goal.returns-clause-are
returns-clause-are c = λ q.
    adds_from_none (IsDeclared c.args.program.now c.args.property) c.new-nodes.result.items c.push_declared.new.nodes.items c.new-nodes.ensures.items
    c.in_ok-push_declared.ensures q

pub returns-clause-below : goal.returns-clause-below
returns-clause-below c =
    let seen = c.args.program.now in
    let P : ℕ → Type 0 = IsDeclared seen c.args.property in
    let nodes : List ℕ = c.push_declared.new.nodes.items in
    let are : (q : ℕ) → Contains nodes q ↔ P q = λ q.
    adds_from_none P c.new-nodes.result.items nodes c.new-nodes.ensures.items c.in_ok-push_declared.ensures q in
    all_below seen P nodes (declared_below seen c.args.property) are
