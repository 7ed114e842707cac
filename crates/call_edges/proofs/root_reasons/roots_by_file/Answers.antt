use Rattle.std.proofs.Common.{List, ℕ, ◌↔◌, sym, subst}
use Rattle.std.specs.Prelude.{Contains}
use Rattle.call_edges.specs.Roots.{AreMarked}
use Rattle.call_edges.specs.RootReasons.{IsRootByFile}
use Rattle.call_edges.proofs.CallLemmas.{adds_from_none}
use Rattle.call_edges.proofs.RootReasons.{all_below, file_below}
use Rattle.call_edges.proofs.root_reasons.roots_by_file.Goals as goal

pub returns-clause-are : goal.returns-clause-are
returns-clause-are c = λ q.
    adds_from_none (IsRootByFile c.args.program.now) c.new-nodes.result.items c.push_marked.new.roots.items c.new-nodes.ensures.items c.in_ok-push_marked.ensures q

pub returns-clause-below : goal.returns-clause-below
returns-clause-below c =
    let seen = c.args.program.now in
    let nodes : List ℕ = c.push_marked.new.roots.items in
    let are : (q : ℕ) → Contains nodes q ↔ IsRootByFile seen q = λ q.
    adds_from_none (IsRootByFile seen) c.new-nodes.result.items nodes c.new-nodes.ensures.items c.in_ok-push_marked.ensures q in
    all_below seen (IsRootByFile seen) nodes (file_below seen) are

pub push_marked-requires : goal.push_marked-requires
push_marked-requires c = subst (AreMarked c.args.program.now) (sym c.deref.ensures.value) c.in_ok-marks.ensures
