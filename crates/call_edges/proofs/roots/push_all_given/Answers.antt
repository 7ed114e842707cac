use Rattle.std.proofs.Common.{sym, subst}
use Rattle.call_edges.specs.Roots.{AreMarked}
use Rattle.call_edges.proofs.WalkLemmas.{on_ok}
use Rattle.call_edges.proofs.PlainRoots.{given_both}
use Rattle.call_edges.proofs.roots.push_all_given.Goals as goal

pub push_marked-requires : goal.push_marked-requires
push_marked-requires c = subst (AreMarked c.args.program.now) (sym c.deref.ensures.value) c.in_ok-marks.ensures

pub returns : goal.returns
returns c =
    let seen = c.args.program.now in
    on_ok c.push_marked.result c.push_marked.ensures
    (given_both seen c.args.roots.now.items c.push_all_exports.new.roots.items c.push_marked.new.roots.items c.in_ok-push_all_exports.ensures)
