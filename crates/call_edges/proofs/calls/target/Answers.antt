use Rattle.std.proofs.Common.{sym, ap, ◌∙◌, subst}
use Rattle.import_rules.specs.Program.{found}
use Rattle.call_edges.specs.Calls.{target}
use Rattle.call_edges.specs.Meant.{IsMeaning, IsMeant}
use Rattle.call_edges.specs.Seen.{see_met}
use Rattle.call_edges.proofs.calls.target.Goals as goal

pub returns-in-Predicate : goal.returns-in-Predicate
returns-in-Predicate c =
    let seen = c.args.program.now in
    let v = c.in-Call in
    let told = subst (IsMeaning (found seen v.module.now v.name.now v.arity)) c.in-Predicate.is (subst (IsMeant seen) v.is c.requires) in
    sym told ∙ ap (λ m. target seen (see_met m)) (sym v.is)

pub returns-in-Nothing : goal.returns-in-Nothing
returns-in-Nothing c =
    let seen = c.args.program.now in
    let v = c.in-Call in
    let told = subst (IsMeaning (found seen v.module.now v.name.now v.arity)) c.in-Nothing.is (subst (IsMeant seen) v.is c.requires) in
    sym told ∙ ap (λ m. target seen (see_met m)) (sym v.is)
