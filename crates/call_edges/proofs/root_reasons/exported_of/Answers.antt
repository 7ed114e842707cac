use Rattle.std.proofs.Common.{List, ℕ, ◌↔◌}
use Rattle.std.specs.Prelude.{Contains}
use Rattle.call_edges.specs.RootReasons.{IsExported}
use Rattle.call_edges.proofs.CallLemmas.{adds_from_none}
use Rattle.call_edges.proofs.RootReasons.{all_below, exported_below}
use Rattle.call_edges.proofs.root_reasons.exported_of.Goals as goal

pub returns-clause-are : goal.returns-clause-are
returns-clause-are c = λ q.
    adds_from_none (IsExported c.args.program.now) c.new-nodes.result.items c.push_exported.new.nodes.items c.new-nodes.ensures.items c.in_ok-push_exported.ensures q

pub returns-clause-below : goal.returns-clause-below
returns-clause-below c =
    let seen = c.args.program.now in
    let nodes : List ℕ = c.push_exported.new.nodes.items in
    let are : (q : ℕ) → Contains nodes q ↔ IsExported seen q = λ q.
    adds_from_none (IsExported seen) c.new-nodes.result.items nodes c.new-nodes.ensures.items c.in_ok-push_exported.ensures q in
    all_below seen (IsExported seen) nodes (exported_below seen) are
