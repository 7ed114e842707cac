-- Words of `calls` ask for one thing, or for nothing.
use Rattle.std.proofs.Common.{◌≡◌, inl, inr, ℕ, nat_eq, true, List, All, ap, filter, take, drop}
use Rattle.std.specs.List.{list_all}
use Rattle.std.specs.Str.{IsUtf8}
use Rattle.std.proofs.lemmas.Bool.Decides.{Decides-eqb}
use Rattle.std.proofs.lemmas.List.Elements.{All-append, All-drop, All-filter, All-take}
use Rattle.group_words.specs.Settings.{AreLawful}
use Rattle.call_told.specs.declared.wanted.Form.{Form}
use Rattle.call_told.specs.declared.wanted.Form.TheVariants.{Lines, Undefined, Dot, Condensed}
use Rattle.call_told.specs.Wanted.{AreAsked, FormWords, count_forms, form_words, front_count, front_words, is_known, is_other, other_words}
use Rattle.laws.specs.AnswerLayers.{WordsAreDecided}
use Rattle.laws.proofs.Known.{IsFound, IsKnown, known_bool}

known_number : (m n : ℕ) → IsKnown (m ≡ n)
known_number m n = go (known_bool (nat_eq m n) true)
  where
    go : IsKnown (nat_eq m n ≡ true) → IsKnown (m ≡ n)
    go (inl is) = inl ((Decides-eqb m n).0 is)
    go (inr never) = inr (λ same. never ((Decides-eqb m n).1 same))

known_words : (a b : FormWords) → IsKnown (a ≡ b)
known_words a b = go (known_number a.undefined b.undefined) (known_number a.dot b.dot) (known_number a.condensed b.condensed)
  where
    go : IsKnown (a.undefined ≡ b.undefined) → IsKnown (a.dot ≡ b.dot) → IsKnown (a.condensed ≡ b.condensed) → IsKnown (a ≡ b)
    go (inr never) dot condensed = inr (λ same. never (ap (λ (words : FormWords). words.undefined) same))
    go (inl undefined) (inr never) condensed = inr (λ same. never (ap (λ (words : FormWords). words.dot) same))
    go (inl undefined) (inl dot) (inr never) = inr (λ same. never (ap (λ (words : FormWords). words.condensed) same))
    go (inl undefined) (inl dot) (inl condensed) = inl (λ i. record { undefined = undefined i; dot = dot i; condensed = condensed i })

-- words name one of the forms, or none
form_found : (named : FormWords) → IsFound (λ (form : Form). named ≡ form_words form)
form_found named =
    go (known_words named (form_words Lines)) (known_words named (form_words Undefined)) (known_words named (form_words Dot))
    (known_words named (form_words Condensed))
  where
    go : IsKnown (named ≡ form_words Lines) → IsKnown (named ≡ form_words Undefined) → IsKnown (named ≡ form_words Dot)
        → IsKnown (named ≡ form_words Condensed) → IsFound (λ (form : Form). named ≡ form_words form)
    go (inl lines) undefined dot condensed = inl (Lines, lines)
    go (inr lines) (inl undefined) dot condensed = inl (Undefined, undefined)
    go (inr lines) (inr undefined) (inl dot) condensed = inl (Dot, dot)
    go (inr lines) (inr undefined) (inr dot) (inl condensed) = inl (Condensed, condensed)
    go (inr lines) (inr undefined) (inr dot) (inr condensed) = inr none
      where
        none : (form : Form) → named ≡ form_words form → ⊥
        none Lines = lines
        none Undefined = undefined
        none Dot = dot
        none Condensed = condensed

other_utf8 : (words : List (List ℕ)) → All IsUtf8 words → All IsUtf8 (other_words words)
other_utf8 words utf8 =
    let n = front_count words in
    let front = All-filter is_other IsUtf8 (take n words) (All-take IsUtf8 n words utf8) in
    All-append IsUtf8 (filter is_other (take n words)) (drop n words) front (All-drop IsUtf8 n words utf8)

pub asked_found : WordsAreDecided → (words : List (List ℕ)) → All IsUtf8 words → IsFound (AreAsked words)
asked_found decided words utf8 =
    go (form_found (count_forms (front_words words))) (known_bool (list_all is_known (front_words words)) true)
    (decided (other_words words) (other_utf8 words utf8))
  where
    go : IsFound (λ (form : Form). count_forms (front_words words) ≡ form_words form) → IsKnown (list_all is_known (front_words words) ≡ true)
        → IsFound (AreLawful (other_words words)) → IsFound (AreAsked words)
    go (inr never) known lawful = inr (λ asked are. never asked.form are.one_form)
    go (inl form) (inr never) lawful = inr (λ asked are. never are.known)
    go (inl form) (inl known) (inr never) = inr (λ asked are. never asked.settings are.lawful)
    go (inl form) (inl known) (inl settings) =
        inl (record { form = form.0; settings = settings.0 }, record { one_form = form.1; known = known; lawful = settings.1 })
