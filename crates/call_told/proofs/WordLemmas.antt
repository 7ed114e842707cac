-- The words of the command line, one more at a time.
use Rattle.std.proofs.Common.{◌≡◌, ℕ, ◌+◌, ◌<◌, ◌≤◌, Bool, true, false, not, cond, List, [], ◌∷◌, ◌++◌, length, take, filter, get_or, inl, inr, ap, sym, subst, ◌∙◌, append-nil, append_assoc, arith}
use Rattle.std.proofs.lemmas.Bool.{cases_lt}
use Rattle.std.proofs.lemmas.List.{get_or_default, take_more}
use Rattle.std.proofs.lemmas.List.Elements.{filter_more}
use Rattle.std.proofs.lemmas.List.Sums.{position_or_len_is}
use Rattle.call_told.specs.Wanted.{front_count, is_end, is_form, is_other}

-- the first `--`
pub front_at : (words : List (List ℕ)) (i : ℕ) → i ≤ length words → ((k : ℕ) → k < i → is_end (get_or words k []) ≡ false) → (i < length words → is_end (get_or words i []) ≡ true)
    → i ≡ front_count words
front_at words i within before here = sym (position_or_len_is is_end words i [] within before here)

pub at_end : (words : List (List ℕ)) (i : ℕ) (word : List ℕ) (b : Bool) → i < length words → word ≡ get_or words i word → b ≡ is_end word → is_end (get_or words i []) ≡ b
at_end words i word b less is tested = ap is_end (get_or_default words i [] word less ∙ sym is) ∙ sym tested

pub ends_more : (words : List (List ℕ)) (i : ℕ) → ((k : ℕ) → k < i → is_end (get_or words k []) ≡ false) → is_end (get_or words i []) ≡ false
    → (k : ℕ) → k < i + 1 → is_end (get_or words k []) ≡ false
ends_more words i before here k less = elim (cases_lt k i) [
  | inl lt ↦ before k lt
  | inr over ↦ let same : k ≡ i = omega (arith, less, over) in subst (λ n. is_end (get_or words n []) ≡ false) (sym same) here
]

other_step : (words : List (List ℕ)) (i : ℕ) (word : List ℕ) → i < length words → word ≡ get_or words i word
    → filter is_other (take (i + 1) words) ≡ filter is_other (take i words) ++ cond (not (is_form word)) (word ∷ []) []
other_step words i word less is =
    filter_more is_other words i word less ∙ ap (λ w. filter is_other (take i words) ++ cond (is_other w) (w ∷ []) []) (sym is)

-- the others without a word that names a form
pub other_skip : (words : List (List ℕ)) (i : ℕ) (word : List ℕ) (before out : List (List ℕ)) → i < length words → word ≡ get_or words i word → is_form word ≡ true
    → out ≡ before ++ filter is_other (take i words) → out ≡ before ++ filter is_other (take (i + 1) words)
other_skip words i word before out less is named so_far =
    so_far
    ∙ ap (λ fs. before ++ fs)
    (sym (other_step words i word less is ∙ (ap (λ b. filter is_other (take i words) ++ cond (not b) (word ∷ []) []) named ∙ append-nil (filter is_other (take i words)))))

-- and with one that names none
pub other_more : (words : List (List ℕ)) (i : ℕ) (word : List ℕ) (before out next : List (List ℕ)) → i < length words → word ≡ get_or words i word → is_form word ≡ false
    → out ≡ before ++ filter is_other (take i words) → next ≡ out ++ word ∷ [] → next ≡ before ++ filter is_other (take (i + 1) words)
other_more words i word before out next less is none so_far pushed =
    pushed
    ∙ (ap (λ ws. ws ++ word ∷ []) so_far
    ∙ (append_assoc before (filter is_other (take i words)) (word ∷ [])
    ∙ ap (λ fs. before ++ fs) (sym (other_step words i word less is ∙ ap (λ b. filter is_other (take i words) ++ cond (not b) (word ∷ []) []) none))))

-- all words
pub word_more : (words : List (List ℕ)) (i : ℕ) (word : List ℕ) (before out next : List (List ℕ)) → i < length words → word ≡ get_or words i word
    → out ≡ before ++ take i words → next ≡ out ++ word ∷ [] → next ≡ before ++ take (i + 1) words
word_more words i word before out next less is so_far pushed =
    pushed
    ∙ (ap (λ ws. ws ++ word ∷ []) so_far
    ∙ (append_assoc before (take i words) (word ∷ []) ∙ ap (λ ws. before ++ ws) (sym (take_more words i word less ∙ ap (λ w. take i words ++ w ∷ []) (sym is)))))
