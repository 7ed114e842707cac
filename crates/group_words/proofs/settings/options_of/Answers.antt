use Rattle.std.proofs.Common.{◌≡◌, ◌∙◌, Bool, true, false, true≢false, is_some, refl, List, ℕ, Bor, map, sym, subst}
use Rattle.clause_text.proofs.Outcomes.{on_err}
use Rattle.group_words.specs.ClapCommand.{set_flag}
use Rattle.group_words.specs.Settings.{FilesAre}
use Rattle.group_words.proofs.settings.options_of.Goals as goal

flag_there : (set : Bool) → set ≡ is_some (set_flag set)
flag_there true = refl
flag_there false = refl

pub returns-then-not-go_together-clause-usage : goal.returns-then-not-go_together-clause-usage
returns-then-not-go_together-clause-usage c is settings sets = true≢false (sym (c.go_together.ensures.1 sets.together) ∙ c.if-not-go_together.true)

pub returns-in_err-jobs-clause-usage : goal.returns-in_err-jobs-clause-usage
returns-in_err-jobs-clause-usage c =
    on_err c.from_residual.result _ _ c.from_residual.ensures.1 (λ fault same is settings sets. c.in_err-jobs.ensures.usage settings.jobs sets.jobs)

pub returns-in_err-searches-clause-usage : goal.returns-in_err-searches-clause-usage
returns-in_err-searches-clause-usage c =
    on_err c.from_residual-in_err-searches.result _ _ c.from_residual-in_err-searches.ensures.1
    (λ fault same is settings sets. c.in_err-searches.ensures.usage settings.searches sets.searches)

pub returns-in_err-make-clause-usage : goal.returns-in_err-make-clause-usage
returns-in_err-make-clause-usage c =
    on_err c.from_residual-in_err-make.result _ _ c.from_residual-in_err-make.ensures.1
    (λ fault same is settings sets. c.in_err-make.ensures.usage settings.make sets.make)

pub returns-in_err-roots-clause-usage : goal.returns-in_err-roots-clause-usage
returns-in_err-roots-clause-usage c =
    on_err c.from_residual-in_err-roots.result _ _ c.from_residual-in_err-roots.ensures.1
    (λ fault same is settings sets. c.in_err-roots.ensures.usage (sym same ∙ is) settings.roots sets.roots)

pub returns-in_err-path-clause-usage : goal.returns-in_err-path-clause-usage
returns-in_err-path-clause-usage c =
    on_err c.from_residual-in_err-path.result _ _ c.from_residual-in_err-path.ensures.1
    (λ fault same is settings sets. c.in_err-path.ensures.usage (sym same ∙ is) settings.path sets.path)

pub returns-in_err-files-clause-usage : goal.returns-in_err-files-clause-usage
returns-in_err-files-clause-usage c =
    on_err c.from_residual-in_err-files.result _ _ c.from_residual-in_err-files.ensures.1
    (λ fault same is settings sets.
    c.in_err-files.ensures.usage (sym same ∙ is) settings.files
    (subst (λ files. FilesAre (map (λ (word : Bor (List ℕ)). word.now) files) settings.files) (sym c.deref.ensures.value) sets.named))

pub returns-clause-ok : goal.returns-clause-ok
returns-clause-ok c = record {
  together = c.go_together.ensures.0 c.if-not-go_together.false;
  jobs = c.in_ok-jobs.ensures.ok;
  searches = c.in_ok-searches.ensures.ok;
  roots = c.in_ok-roots.ensures.ok;
  order = flag_there c.args.given.now.order;
  unreached = flag_there c.args.given.now.unreached;
  effects = flag_there c.args.given.now.effects;
  loops = flag_there c.args.given.now.loops;
  stream = flag_there c.args.given.now.stream;
  path = c.in_ok-path.ensures.ok;
  make = c.in_ok-make.ensures.ok;
  named = subst (λ files. FilesAre (map (λ (word : Bor (List ℕ)). word.now) files) c.in_ok-files.files.items) c.deref.ensures.value c.in_ok-files.ensures.ok;
}
