-- The names with a meaning of their own are told by their numbers.
use Rattle.std.proofs.Common.{◌≡◌, ◌≢◌, inl, inr, ℕ, ◌<◌, false, nat_eq, ◌||◌, List, [], codes, refl, sym, ap, ◌∙◌, arith}
use Rattle.std.specs.Str.{bytes_eq}
use Rattle.std.proofs.lemmas.Bool.{cases_eq, eq-eqb, ne_eqb, false_from_ne_true}
use Rattle.std.proofs.lemmas.Slice.Eq.{bytes_eq-Decides}
use Rattle.prolog_names.specs.Names.{name_at, known_names}
use Rattle.kept_clauses.specs.Plain.{is_one_of, control_names, reserved_names}
use Rattle.kept_clauses.specs.Words.{is_reserved}

module _ (names : List (List ℕ)) (known : (k : ℕ) → k < 64 → name_at names k ≡ name_at known_names k)
    (once : (a b : ℕ) → name_at names a ≡ name_at names b → name_at names b ≢ [] → a ≡ b) where
  -- the word is a name exactly where its number is that of the name
  pub word_is : (word : List ℕ) (k n : ℕ) → k < 64 → name_at known_names k ≡ word → word ≢ [] → bytes_eq word (name_at names n) ≡ nat_eq k n
  word_is word k n below is some =
      let here : name_at names k ≡ word = known k below ∙ is in
      elim (cases_eq k n) [
        | inl same ↦ (bytes_eq-Decides word (name_at names n)).1 (sym here ∙ ap (name_at names) same) ∙ sym (eq-eqb k n same)
        | inr other ↦
            false_from_ne_true (bytes_eq word (name_at names n))
            (λ yes. let equal : word ≡ name_at names n = (bytes_eq-Decides word (name_at names n)).0 yes in other (once k n (here ∙ equal) (λ none. some (equal ∙ none))))
            ∙ sym (ne_eqb k n other)
      ]

  -- and so it is the other way round
  pub is_word : (word : List ℕ) (k n : ℕ) → k < 64 → name_at known_names k ≡ word → word ≢ [] → bytes_eq (name_at names n) word ≡ nat_eq k n
  is_word word k n below is some =
      let here : name_at names k ≡ word = known k below ∙ is in
      elim (cases_eq k n) [
        | inl same ↦ (bytes_eq-Decides (name_at names n) word).1 (sym (ap (name_at names) same) ∙ here) ∙ sym (eq-eqb k n same)
        | inr other ↦
            false_from_ne_true (bytes_eq (name_at names n) word)
            (λ yes. let equal : name_at names n ≡ word = (bytes_eq-Decides (name_at names n) word).0 yes in other (once k n (here ∙ sym equal) (λ none. some (sym equal ∙ none))))
            ∙ sym (ne_eqb k n other)
      ]

  pub reserved_is : (n : ℕ) → is_one_of reserved_names (name_at names n) ≡ is_reserved n
  reserved_is n = λ i.
      word_is (codes ",") 1 n (omega arith) refl (λ e. cc) i || (word_is (codes ";") 20 n (omega arith) refl (λ e. cc) i
      || (word_is (codes "|") 2 n (omega arith) refl (λ e. cc) i || (word_is (codes "->") 21 n (omega arith) refl (λ e. cc) i
      || (word_is (codes "\\+") 15 n (omega arith) refl (λ e. cc) i || (word_is (codes "!") 63 n (omega arith) refl (λ e. cc) i
      || (word_is (codes ":") 50 n (omega arith) refl (λ e. cc) i || (word_is (codes ":-") 17 n (omega arith) refl (λ e. cc) i
      || (word_is (codes "?-") 6 n (omega arith) refl (λ e. cc) i || (word_is (codes "-->") 19 n (omega arith) refl (λ e. cc) i
      || (word_is (codes "[]") 3 n (omega arith) refl (λ e. cc) i || (word_is (codes "{}") 4 n (omega arith) refl (λ e. cc) i || false)))))))))))

  pub control_is : (n : ℕ) → is_one_of control_names (name_at names n) ≡ nat_eq 1 n || (nat_eq 20 n || (nat_eq 2 n || (nat_eq 21 n || false)))
  control_is n = λ i.
      word_is (codes ",") 1 n (omega arith) refl (λ e. cc) i || (word_is (codes ";") 20 n (omega arith) refl (λ e. cc) i
      || (word_is (codes "|") 2 n (omega arith) refl (λ e. cc) i || (word_is (codes "->") 21 n (omega arith) refl (λ e. cc) i || false)))
