-- One more file comes behind the others.
use Rattle.std.proofs.Common.{◌++◌, ◌∷◌, [], subst, sym, ◌∙◌, ap}
use Rattle.std.specs.List.{AllZip}
use Rattle.std.proofs.lemmas.List.{append_assoc}
use Rattle.list_laws.proofs.Zips.{zip_one}
use Rattle.file_library.specs.AskedFile.{IsParsed}
use Rattle.file_library.proofs.parsing.parse_list.Goals as goal

pub loop-answer-preserved : goal.loop-answer-preserved
loop-answer-preserved g c = (
  append_assoc c.loop-answer.yielded (c.in-Some.answer ∷ []) c.next.new.self.rest.items ∙ (ap (λ rest. c.loop-answer.yielded ++ rest) (sym c.in-Some.ensures.steps.0) ∙ c.loop-answer.invariant.0),
  subst (AllZip IsParsed (c.loop-answer.yielded ++ c.in-Some.answer ∷ [])) (sym c.in_ok-push.ensures.items)
      (zip_one IsParsed c.loop-answer.yielded c.in-Some.answer c.loop-answer.files.items c.in_ok-parse_one.field-0 c.loop-answer.invariant.1 c.in_ok-parse_one.ensures),
)
