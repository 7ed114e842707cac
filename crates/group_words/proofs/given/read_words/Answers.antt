use Rattle.std.proofs.Common.{◌≡◌, ◌&&◌, ◌∙◌, true≢false, refl, List, [], ◌∷◌, ℕ, Bor, map, ap, sym, subst}
use Rattle.std.specs.List.{list_all}
use Rattle.group_words.specs.Words.{is_file}
use Rattle.group_words.specs.ClapCommand.{IsGiven}
use Rattle.group_words.proofs.HaveChars.{texts_have_chars}
use Rattle.group_words.proofs.Views.{parsed}
use Rattle.group_words.proofs.Readings.{reads, reading_taken, reading_plain, reading_files}
use Rattle.group_words.proofs.given.read_words.Goals as goal

lent_files : (words : List (Bor (List ℕ))) → list_all (λ (word : Bor (List ℕ)). is_file word.now) words ≡ list_all is_file (map (λ word. word.now) words)
lent_files [] = refl
lent_files (word ∷ words) = ap (λ b. is_file word.now && b) (lent_files words)

pub returns-in_default : goal.returns-in_default
returns-in_default c given files r =
    (rw c.in_default.is at c.in_ok-matches.ensures) (reading_taken (map (λ word. word.now) c.args.words.now) given files r)

pub returns-then-not-has_plain_values : goal.returns-then-not-has_plain_values
returns-then-not-has_plain_values c given files r =
    let words = map (λ word. word.now) c.args.words.now in
    let told = rw c.in-Some.is at c.in_ok-matches.ensures in
    let gives = subst (λ rows. IsGiven rows c.in_ok-given.given) told.1 c.in_ok-given.ensures in
    true≢false (sym (reading_plain words c.in_ok-given.given gives given files r) ∙ (sym c.has_plain_values.ensures ∙ c.if-not-has_plain_values.true))

pub returns-then-not-are_files : goal.returns-then-not-are_files
returns-then-not-are_files c given files r =
    let words = map (λ word. word.now) c.args.words.now in
    let told = rw c.in-Some.is at c.in_ok-matches.ensures in
    let gives = subst (λ rows. IsGiven rows c.in_ok-given.given) told.1 c.in_ok-given.ensures in
    let tested = c.are_files.ensures ∙ (lent_files c.deref.result.now ∙ ap (λ ws. list_all is_file (map (λ (word : Bor (List ℕ)). word.now) ws)) c.deref.ensures.value) in
    true≢false (sym (reading_files words c.in_ok-given.given gives given files r) ∙ (sym tested ∙ c.if-not-are_files.true))

pub returns : goal.returns
returns c =
    let words = map (λ word. word.now) c.args.words.now in
    let told = rw c.in-Some.is at c.in_ok-matches.ensures in
    let gives = subst (λ rows. IsGiven rows c.in_ok-given.given) told.1 c.in_ok-given.ensures in
    let tested = c.are_files.ensures ∙ (lent_files c.deref.result.now ∙ ap (λ ws. list_all is_file (map (λ (word : Bor (List ℕ)). word.now) ws)) c.deref.ensures.value) in
    reads words c.in_ok-given.given gives (parsed words (texts_have_chars words c.requires) told.0)
    (sym c.has_plain_values.ensures ∙ c.if-not-has_plain_values.false) (sym tested ∙ c.if-not-are_files.false)
