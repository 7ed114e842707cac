use Rattle.std.proofs.Common.{ap, sym, subst, ◌∙◌}
use Rattle.std.specs.List.{list_all}
use Rattle.std.proofs.lemmas.Bool.{false≢true}
use Rattle.group_words.specs.Settings.{AreLawful, see_options}
use Rattle.call_told.specs.Wanted.{count_forms, is_known}
use Rattle.call_told.proofs.OneAsked.{one_asked}
use Rattle.call_told.proofs.wanted.read_wanted.Goals as goal

pub returns-then-not-are_known-clause-usage : goal.returns-then-not-are_known-clause-usage
returns-then-not-are_known-clause-usage c is asked lawful =
    false≢true (sym c.if-not-are_known.true ∙ (c.are_known.ensures ∙ (ap (list_all is_known) c.front_of-front.ensures ∙ lawful.known)))

pub returns-in_default-clause-usage : goal.returns-in_default-clause-usage
returns-in_default-clause-usage c is asked lawful =
    (rw c.in_default.is at c.named_form.ensures) asked.form (ap count_forms c.front_of-front.ensures ∙ lawful.one_form)

pub returns-in-Ok-clause-ok : goal.returns-in-Ok-clause-ok
returns-in-Ok-clause-ok c = record {
  one_form = ap count_forms (sym c.front_of-front.ensures) ∙ (rw c.in-Some.is at c.named_form.ensures);
  known = ap (list_all is_known) (sym c.front_of-front.ensures) ∙ (sym c.are_known.ensures ∙ c.if-not-are_known.false);
  lawful = subst (λ words. AreLawful words (see_options c.in-Ok.options)) (c.deref.ensures.value ∙ c.in_ok-others.ensures) c.in-Ok.ensures.ok;
}

pub returns-clause-usage : goal.returns-clause-usage
returns-clause-usage c is asked lawful =
    c.in-Err.ensures.usage is asked.settings
    (subst (λ words. AreLawful words asked.settings) (sym (c.deref.ensures.value ∙ c.in_ok-others.ensures)) lawful.lawful)

pub returns-in-Ok-clause-only : goal.returns-in-Ok-clause-only
returns-in-Ok-clause-only c asked are = one_asked c.args.words.now asked _ are (returns-in-Ok-clause-ok c)
