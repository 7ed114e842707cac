use Rattle.std.proofs.Common.{List, ℕ, ◌↔◌}
use Rattle.std.specs.Prelude.{Contains}
use Rattle.call_edges.specs.RootReasons.{IsRootByExport}
use Rattle.call_edges.proofs.CallLemmas.{adds_from_none}
use Rattle.call_edges.proofs.RootReasons.{all_below, export_below}
use Rattle.call_edges.proofs.root_reasons.roots_by_export.Goals as goal

pub returns-clause-are : goal.returns-clause-are
returns-clause-are c = λ q.
    adds_from_none (IsRootByExport c.args.program.now) c.new-nodes.result.items c.push_all_exports.new.roots.items c.new-nodes.ensures.items c.in_ok-push_all_exports.ensures q

pub returns-clause-below : goal.returns-clause-below
returns-clause-below c =
    let seen = c.args.program.now in
    let nodes : List ℕ = c.push_all_exports.new.roots.items in
    let are : (q : ℕ) → Contains nodes q ↔ IsRootByExport seen q = λ q.
    adds_from_none (IsRootByExport seen) c.new-nodes.result.items nodes c.new-nodes.ensures.items c.in_ok-push_all_exports.ensures q in
    all_below seen (IsRootByExport seen) nodes (export_below seen) are
