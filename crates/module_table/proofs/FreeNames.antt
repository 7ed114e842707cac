-- Names beyond the opening ones: heads may have them, but for the cut.
use Rattle.std.proofs.Common.{if◌then◌else◌, ◌≡◌, ◌≢◌, ℕ, ◌<◌, ◌==◌, ◌&&◌, Bool, true, false, List, [], ◌∷◌, codes, refl, sym, ap, ◌∙◌, arith}
use Rattle.std.specs.Str.{bytes_eq}
use Rattle.std.proofs.lemmas.Bool.{false_from_ne_true}
use Rattle.std.proofs.lemmas.Slice.Eq.{bytes_eq-Decides}
use Rattle.prolog_names.specs.declared.names.TheConstants.{OPENING_COUNT}
use Rattle.prolog_names.specs.Names.{name_at, opening_names}
use Rattle.module_table.specs.Heads.{is_among, control_names, headless_names}

-- the name is none of the opening ones, where it isn't the empty one
module _ (text : List ℕ) (others : text ≢ [] → (k : ℕ) → k < OPENING_COUNT → name_at opening_names k ≢ text) where
  other_word : (word : List ℕ) (k : ℕ) → name_at opening_names k ≡ word → k < OPENING_COUNT → bytes_eq word [] ≡ false → bytes_eq word text ≡ false
  other_word word k is below some = by_text text refl
    where
      by_text : (name : List ℕ) → text ≡ name → bytes_eq word text ≡ false
      by_text [] e = ap (bytes_eq word) e ∙ some
      by_text (b ∷ bs) e =
          let filled : text ≢ [] = λ none. cc in
          false_from_ne_true (bytes_eq word text) (λ same. others filled k below (is ∙ (bytes_eq-Decides word text).0 same))

  not_clause : bytes_eq (codes ":-") text ≡ false
  not_clause = other_word (codes ":-") 17 refl (omega arith) refl

  one_free : is_among (codes "\\+" ∷ codes ":-" ∷ codes "?-" ∷ []) text ≡ false
  one_free = rw (other_word (codes "\\+") 15 refl (omega arith) refl, not_clause, other_word (codes "?-") 6 refl (omega arith) refl) refl

  two_free : is_among (codes "," ∷ codes ";" ∷ codes "|" ∷ codes "->" ∷ codes ":-" ∷ codes "-->" ∷ []) text ≡ false
  two_free =
      rw (
        other_word (codes ",") 1 refl (omega arith) refl,
        other_word (codes ";") 20 refl (omega arith) refl,
        other_word (codes "|") 2 refl (omega arith) refl,
        other_word (codes "->") 21 refl (omega arith) refl,
        not_clause,
        other_word (codes "-->") 19 refl (omega arith) refl,
      ) refl

  colon_free : is_among (codes ":" ∷ []) text ≡ false
  colon_free = rw (other_word (codes ":") 50 refl (omega arith) refl) refl

  nothing_free : is_among (codes "[]" ∷ codes "{}" ∷ []) text ≡ false
  nothing_free = rw (other_word (codes "[]") 3 refl (omega arith) refl, other_word (codes "{}") 4 refl (omega arith) refl) refl

  cut_free : bytes_eq text (codes "!") ≡ false → is_among (codes "!" ∷ []) text ≡ false
  cut_free other =
      let turned : bytes_eq (codes "!") text ≡ false =
      false_from_ne_true (bytes_eq (codes "!") text)
      (λ same.
      let itself : bytes_eq text (codes "!") ≡ true = (bytes_eq-Decides text (codes "!")).1 (sym ((bytes_eq-Decides (codes "!") text).0 same)) in
      let clash : true ≡ false = sym itself ∙ other in
      cc) in
      rw turned refl

  chosen : (one two : Bool) (xs ys : List (List ℕ)) → is_among xs text ≡ false → is_among ys text ≡ false
      → is_among (if one then xs else if two then ys else []) text ≡ false
  chosen true two xs ys first second = first
  chosen false true xs ys first second = second
  chosen false false xs ys first second = refl

  uncut : (none one two : Bool) (xs ys : List (List ℕ)) → (none && bytes_eq text (codes "!")) ≡ false → is_among xs text ≡ false → is_among ys text ≡ false
      → is_among (if none then codes "!" ∷ [] else if one then xs else if two then ys else []) text ≡ false
  uncut true one two xs ys other first second = cut_free other
  uncut false one two xs ys other first second = chosen one two xs ys first second

  pub control_free : (arity : ℕ) → ((arity == 0) && bytes_eq text (codes "!")) ≡ false → is_among (control_names arity) text ≡ false
  control_free arity other = uncut (arity == 0) (arity == 1) (arity == 2) _ _ other one_free two_free

  pub headless_free : (arity : ℕ) → is_among (headless_names arity) text ≡ false
  headless_free arity = chosen (arity == 0) (arity == 2) _ _ nothing_free colon_free
