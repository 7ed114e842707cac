-- What is found is an answer, or stops.
use Rattle.std.proofs.Common.{◌≡◌, ◌++◌, ◌∷◌, [], Some, None, subst, ◌∙◌}
use Rattle.prolog_tokens.specs.declared.limits.TheConstants.{MOST_BYTES}
use Rattle.file_library.specs.Library.{Files, IsFound}
use Rattle.file_library.proofs.ReadingLemmas.{found_answers, found_gained, found_stops}
use Rattle.file_library.proofs.reading.read_one.Goals as goal

pub returns-in-Found-clause-answers : goal.returns-in-Found-clause-answers
returns-in-Found-clause-answers g c =
    found_answers (g.L.Library.seen c.args.library.now) (g.L.Library.seen c.read.new.self) c.args.total
    c.args.name.now c.in_ok-key.key c.read.new.room.items c.answer_of.result (c.in_ok-key.ensures ∙ c.as_str.ensures)
    (subst (λ name. (files : Files) → (g.L.Library.seen c.args.library.now).told ≡ Some files → IsFound files name MOST_BYTES c.read.new.room.items) c.as_str-2.ensures c.in-Found.ensures.answer.1)
    c.answer_of.ensures.answer c.answer_of.ensures.fits

pub returns-in-Found-clause-gained : goal.returns-in-Found-clause-gained
returns-in-Found-clause-gained g c =
    found_gained (g.L.Library.seen c.args.library.now) (g.L.Library.seen c.read.new.self) c.args.total
    c.args.name.now c.in_ok-key.key c.read.new.room.items c.answer_of.result (c.in_ok-key.ensures ∙ c.as_str.ensures)
    (subst (λ name. (g.L.Library.seen c.read.new.self).asked ≡ (g.L.Library.seen c.args.library.now).asked ++ name ∷ []) c.as_str-2.ensures c.in-Found.ensures.asked)
    (subst (λ name. (g.L.Library.seen c.read.new.self).answers ≡ (g.L.Library.seen c.args.library.now).answers ++ record { name = name; text = Some c.read.new.room.items } ∷ [])
    c.as_str-2.ensures c.in-Found.ensures.answered)
    c.answer_of.ensures.answer

pub returns-in-Found-clause-stops : goal.returns-in-Found-clause-stops
returns-in-Found-clause-stops g c =
    found_stops (g.L.Library.seen c.args.library.now) (g.L.Library.seen c.read.new.self) c.args.total
    c.args.name.now c.in_ok-key.key c.read.new.room.items c.answer_of.result (c.in_ok-key.ensures ∙ c.as_str.ensures)
    (subst (λ name. (files : Files) → (g.L.Library.seen c.args.library.now).told ≡ Some files → IsFound files name MOST_BYTES c.read.new.room.items) c.as_str-2.ensures c.in-Found.ensures.answer.1)
    (subst (λ name. (g.L.Library.seen c.read.new.self).answers ≡ (g.L.Library.seen c.args.library.now).answers ++ record { name = name; text = Some c.read.new.room.items } ∷ [])
    c.as_str-2.ensures c.in-Found.ensures.answered)
    c.answer_of.ensures.stops
