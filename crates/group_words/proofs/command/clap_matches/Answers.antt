use Rattle.std.proofs.Common.{◌≡◌, ◌∙◌, [], List, ℕ, Bor, refl, ap, sym, subst, true, map, inl, inr}
use Rattle.clap.specs.Words.{HasKind, app_of, fault_of, matches_of, is_simple, is_simple_and_free}
use Rattle.group_words.specs.ClapCommand.{words_app}
use Rattle.group_words.proofs.command.clap_matches.Goals as goal

is_free : is_simple_and_free words_app ≡ true
is_free = refl

simple : is_simple words_app ≡ true
simple = refl

pub returns-in-Ok : goal.returns-in-Ok
returns-in-Ok c =
    let e = c.in_ok-command.ensures in
    let words = map (λ word. word.now) c.args.words.now in
    let said = c.in-Ok.ensures in
    (ap (λ a. fault_of a words) (sym e) ∙ said.kinds (ap is_simple_and_free e ∙ is_free), (said.matches (ap is_simple e ∙ simple)).0 ∙ ap (λ a. matches_of a words) e)

pub returns : goal.returns
returns c none =
    let e = c.in_ok-command.ensures in
    let words = map (λ (word : Bor (List ℕ)). word.now) c.args.words.now in
    let has = c.in-Err.ensures.kinds (ap is_simple_and_free e ∙ is_free) in
    let empty : fault_of (app_of c.in_ok-command.field-0) words ≡ [] = ap (λ a. fault_of a words) e ∙ none in
    elim (subst (λ ks. HasKind ks c.in-Err.error) empty has) [ inl memory ↦ absurd (c.in_default.not-OutOfMemory (c.kind.ensures ∙ memory)) | inr among ↦ absurd among ]
