-- Words that are UTF-8 have characters.
use Rattle.std.proofs.Common.{if◌then◌else◌, ◌≡◌, ◌==◌, ℕ, Bool, true, false, List, [], ◌∷◌, Some, None, slice_get, All, refl, ap, ◌∙◌, subst, arith}
use Rattle.std.specs.Prelude.{option_and_then}
use Rattle.std.specs.Str.{IsUtf8, chars}
use Rattle.std.proofs.lemmas.Bool.Decides.{nat_tests}
use Rattle.std.proofs.lemmas.List.Elements.{All-head, All-tail}
use Rattle.std.proofs.lemmas.Str.{IsCharBoundary-after_ascii, IsUtf8-drop, encodes-chars}
use Rattle.clap.specs.Lexer.{short_of, short_of_rest}
use Rattle.clap.specs.Walk.{Text}
use Rattle.group_words.proofs.WordRules.{keys, shape}
use Rattle.group_words.proofs.WordClasses.{HasChar, no_option}
use Rattle.group_words.proofs.WalkSpells.{HaveChars}

-- short options stand behind a `-`
short_back : (word flags : Text) → short_of word ≡ Some flags → word ≡ 45 ∷ flags
short_back [] flags e = absurd (no_option flags e)
short_back (a ∷ more) flags e = go (a == 45) refl more e
  where
    second : (b : ℕ) (bs : Text) (t : Bool) → a ≡ 45 → (if t then None else Some (b ∷ bs)) ≡ Some flags → a ∷ b ∷ bs ≡ 45 ∷ flags
    second b bs true is e = absurd (no_option flags e)
    second b bs false is e = let same : b ∷ bs ≡ flags = cc in ap (λ x. x ∷ b ∷ bs) is ∙ ap (λ xs. 45 ∷ xs) same

    go : (t : Bool) → (a == 45) ≡ t → (more : Text) → option_and_then short_of_rest (if t then Some more else None) ≡ Some flags → a ∷ more ≡ 45 ∷ flags
    go true t [] e = absurd (no_option flags e)
    go true t (b ∷ bs) e = let is : a ≡ 45 = grind (arith, nat_tests) in second b bs (b == 45) is e
    go false t more e = absurd (no_option flags e)

text_has_char : (word : Text) → IsUtf8 word → HasChar word
unfolding chars lib.Utf8.encode
text_has_char word utf8 b bs e = go (chars (b ∷ bs)) refl
  where
    whole : IsUtf8 (45 ∷ b ∷ bs)
    whole = subst IsUtf8 (short_back word (b ∷ bs) e) utf8

    flags : IsUtf8 (b ∷ bs)
    flags = IsUtf8-drop (45 ∷ b ∷ bs) 1 whole (IsCharBoundary-after_ascii (45 ∷ b ∷ bs) 0 whole (omega arith) (omega arith))

    go : (cs : List ℕ) → chars (b ∷ bs) ≡ cs → (x : ℕ) × (slice_get (chars (b ∷ bs)) 0 ≡ Some x)
    go [] is = let none : [] ≡ b ∷ bs = (rw is at (encodes-chars (b ∷ bs) flags)) in cc
    go (c ∷ cs) is = (c, rw is refl)

pub texts_have_chars : (words : List Text) → All IsUtf8 words → HaveChars shape keys words
texts_have_chars [] all = tt
texts_have_chars (word ∷ words) all = (text_has_char word (All-head IsUtf8 word words all), texts_have_chars words (All-tail IsUtf8 word words all))
