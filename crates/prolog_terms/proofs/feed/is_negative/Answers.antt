use Rattle.std.proofs.Common.{[], ◌∷◌, sym, ◌∙◌}
use Rattle.prolog_terms.specs.Words.{is_minus, number_next}
use Rattle.prolog_terms.specs.StackSeen.{see_word}
use Rattle.prolog_terms.proofs.NameFed.{and_false, and_true}
use Rattle.prolog_terms.proofs.feed.is_negative.Goals as goal

pub returns-then-not-is_near_number : goal.returns-then-not-is_near_number
returns-then-not-is_near_number c =
    let names = c.args.names.now in
    and_false (is_minus (see_word names c.args.name)) (number_next (see_word names c.args.word ∷ [])) (sym (c.is_near_number.ensures names) ∙ c.if-not-is_near_number.true)

pub returns : goal.returns
returns c =
    let names = c.args.names.now in
    c.is_minus.ensures
    ∙ and_true (is_minus (see_word names c.args.name)) (number_next (see_word names c.args.word ∷ [])) (sym (c.is_near_number.ensures names) ∙ c.if-not-is_near_number.false)
