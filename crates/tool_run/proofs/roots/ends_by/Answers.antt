use Rattle.std.proofs.Common.{sym, subst}
use Rattle.clause_text.proofs.Outcomes.{on_err}
use Rattle.group_words.specs.Settings.{see_options}
use Rattle.tool_run.specs.Roots.{IsRootStop, asked_names}
use Rattle.tool_run.proofs.RootLemmas.{ends_there, from_stop, to_stop}
use Rattle.tool_run.proofs.roots.ends_by.Goals as goal

pub returns-in_err-from-clause-err : goal.returns-in_err-from-clause-err
returns-in_err-from-clause-err c =
    let settings = see_options c.args.options.now in
    let seen = c.args.program.now in
    on_err c.from_residual.result _ _ c.from_residual.ensures.1
    (λ stop same.
    subst (IsRootStop (asked_names settings.path settings.roots) seen) (sym same)
    (from_stop settings.path c.in-Some.both settings.roots seen c.in_err-from.field-0.0 c.in-Some.is c.requires c.in_err-from.ensures.err))

pub returns-in_err-to-clause-err : goal.returns-in_err-to-clause-err
returns-in_err-to-clause-err c =
    let settings = see_options c.args.options.now in
    let seen = c.args.program.now in
    on_err c.from_residual-in_err-to.result _ _ c.from_residual-in_err-to.ensures.1
    (λ stop same.
    subst (IsRootStop (asked_names settings.path settings.roots) seen) (sym same)
    (to_stop settings.path c.in-Some.both settings.roots seen c.in_err-to.field-0.0 c.in_ok-from.from c.in-Some.is c.requires c.in_ok-from.ensures.ok c.in_err-to.ensures.err))

pub returns-clause-rooted : goal.returns-clause-rooted
returns-clause-rooted c =
    let settings = see_options c.args.options.now in
    ends_there settings.path c.in-Some.both settings.roots c.args.program.now c.in_ok-from.from c.in_ok-to.to c.in-Some.is c.requires c.in_ok-from.ensures.ok
    c.in_ok-to.ensures.ok
