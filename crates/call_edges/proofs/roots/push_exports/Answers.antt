use Rattle.std.proofs.Common.{◌≡◌, None, Some, ap, sym, ◌∙◌, subst}
use Rattle.import_rules.specs.Program.{found}
use Rattle.call_edges.specs.Goals.{Adds}
use Rattle.call_edges.proofs.AmongLemmas.{among_more, among_all}
use Rattle.call_edges.proofs.CallLemmas.{adds_given, adds_not}
use Rattle.call_edges.proofs.RootLemmas.{IsExport}
use Rattle.call_edges.proofs.roots.push_exports.Goals as goal

pub loop-export-preserved-in_default : goal.loop-export-preserved-in_default
loop-export-preserved-in_default c =
    let seen = c.args.program.now in
    let owner = c.args.owner.now in
    let item = c.export-item.result in
    let roots = c.loop-export.roots.items in
    let none : found seen owner item.name item.arity ≡ None = sym (c.in_default.ensures ∙ ap (λ name. found seen owner name item.arity) c.as_str.ensures) in
    among_more (IsExport seen owner) c.args.exports.now c.loop-export.export-index item c.args.roots.now.items roots roots c.loop-export-test.true c.export-item.is c.loop-export.invariant
    (adds_not (found seen owner item.name item.arity) roots none)

pub loop-export-preserved : goal.loop-export-preserved
loop-export-preserved c =
    let seen = c.args.program.now in
    let owner = c.args.owner.now in
    let item = c.export-item.result in
    let roots = c.loop-export.roots.items in
    let node = c.in-Some.node in
    let some : found seen owner item.name item.arity ≡ Some node = sym (c.in-Some.ensures ∙ ap (λ name. found seen owner name item.arity) c.as_str.ensures) in
    among_more (IsExport seen owner) c.args.exports.now c.loop-export.export-index item c.args.roots.now.items roots c.push.new.self.items c.loop-export-test.true c.export-item.is
    c.loop-export.invariant
    (subst (Adds (IsExport seen owner item) roots) (sym c.in_ok-push.ensures.items) (adds_given (found seen owner item.name item.arity) node roots some))

pub returns : goal.returns
returns c =
    let seen = c.args.program.now in
    let owner = c.args.owner.now in
    let items = c.args.exports.now in
    among_all (IsExport seen owner) items c.loop-export.export-index c.args.roots.now.items c.loop-export.roots.items c.loop-export-test.false c.loop-export.invariant
