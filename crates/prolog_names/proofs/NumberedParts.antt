-- Numbers of names: of a part of the tokens, and in a table with more names.
use Rattle.std.proofs.Common.{◌≡◌, ℕ, ◌+◌, ◌-◌, ◌<◌, ◌≤◌, inl, inr, List, [], ◌∷◌, ◌++◌, length, take, drop, get_or, Some, true, false, refl, sym, ap, subst, ◌∙◌, arith, length-append}
use Rattle.std.specs.Prelude.{All, slice_get, slice_range}
use Rattle.std.proofs.lemmas.Bool.{cases_lt}
use Rattle.std.proofs.lemmas.List.{get_or-take, get_or-drop, length-take-le, length-drop, get_or_append_left, get_or_push, length_push}
use Rattle.std.proofs.lemmas.Option.{slice_get_within, slice_get-get_or, get_or_from_slice_get}
use Rattle.prolog_tokens.specs.declared.token.Kind.{Kind}
use Rattle.prolog_tokens.specs.declared.token.Kind.TheVariants.{Name, Quoted}
use Rattle.prolog_tokens.specs.declared.token.Token.{Token}
use Rattle.prolog_tokens.specs.Values.{IsNameText}
use Rattle.prolog_names.specs.Names.{name_at}
use Rattle.prolog_names.specs.Numbers.{has_name, IsNumberOf, AreNumbered}

part_length : {X : Type 0} (xs : List X) (from to : ℕ) → to ≤ length xs → length (slice_range xs from to) ≡ to - from
part_length xs from to within = length-take-le (to - from) (drop from xs) (omega (arith, within, length-drop from xs))

-- what stands in a part stands in the whole
part_at : {X : Type 0} (xs : List X) (from to k : ℕ) (d : X) → k < to - from → get_or (slice_range xs from to) k d ≡ get_or xs (from + k) d
part_at xs from to k d below = get_or-take (to - from) (drop from xs) k d below ∙ get_or-drop from xs k d

pub part_numbered : (text : List ℕ) (names : List (List ℕ)) (ts : List Token) (numbers : List ℕ) (from to : ℕ) → AreNumbered text names ts numbers
    → from ≤ to → to ≤ length ts → AreNumbered text names (slice_range ts from to) (slice_range numbers from to)
part_numbered text names ts numbers from to are order within = record {
  as_many = part_length numbers from to inside ∙ sym (part_length ts from to within);
  each = λ k token stands.
      let below : k < to - from =
      subst (λ n. k < n) (part_length ts from to within) (slice_get_within (slice_range ts from to) k token stands) in
      let place : from + k < length ts = omega (arith, below, within) in
      let is : get_or ts (from + k) token ≡ token =
      sym (part_at ts from to k token below) ∙ get_or_from_slice_get (slice_range ts from to) k token token stands in
      subst (IsNumberOf text names token) (sym (part_at numbers from to k 0 below))
      (are.each (from + k) token (slice_get-get_or ts (from + k) token place ∙ ap (λ t. Some t) is));
}
  where
    inside : to ≤ length numbers
    inside = omega (arith, within, are.as_many)

-- in a table with more names
pub number_kept : (text : List ℕ) (names more : List (List ℕ)) (token : Token) (number : ℕ) → IsNumberOf text names token number
    → IsNumberOf text (names ++ more) token number
number_kept text names more token number of = record {
  within = omega (arith, of.within, length-append names more);
  named = λ is. subst (IsNameText text token) (sym same) (of.named is);
  only = λ is other stands. of.only is other stands ∙ sym same;
  unnamed = of.unnamed;
}
  where
    same : name_at (names ++ more) number ≡ name_at names number
    same = get_or_append_left names more [] number of.within

-- the number of one more token
numbered_ahead : (text : List ℕ) (names more : List (List ℕ)) (ts : List Token) (numbers : List ℕ) (i number : ℕ) (d : Token)
    → i < length ts → AreNumbered text names (take i ts) numbers → IsNumberOf text (names ++ more) (get_or ts i d) number
    → AreNumbered text (names ++ more) (take (i + 1) ts) (numbers ++ number ∷ [])
numbered_ahead text names more ts numbers i number d within are of = record {
  as_many = length_push numbers number ∙ (ap (λ n. n + 1) count ∙ sym (length-take-le (i + 1) ts (omega (arith, within))));
  each = λ k other stands.
      let inside : k < i + 1 = subst (λ n. k < n) (length-take-le (i + 1) ts (omega (arith, within))) (slice_get_within (take (i + 1) ts) k other stands) in
      let read : get_or ts k d ≡ other = sym (get_or-take (i + 1) ts k d inside) ∙ get_or_from_slice_get (take (i + 1) ts) k other d stands in
      elim (cases_lt k i) [
        | inl before ↦
            subst (IsNumberOf text (names ++ more) other) (sym (get_or_append_left numbers (number ∷ []) 0 k (omega (arith, before, count))))
            (number_kept text names more other (get_or numbers k 0)
            (are.each k other
            (slice_get-get_or (take i ts) k d (omega (arith, before, length-take-le i ts (omega (arith, within))))
            ∙ ap (λ t. Some t) (get_or-take i ts k d before ∙ read))))
        | inr from ↦
            let last : i ≡ k = omega (arith, inside, from) in
            subst (IsNumberOf text (names ++ more) other) (sym (get_or_push numbers number 0 k (count ∙ last)))
            (subst (λ t. IsNumberOf text (names ++ more) t number) (ap (λ j. get_or ts j d) last ∙ read) of)
      ];
}
  where
    count : length numbers ≡ i
    count = are.as_many ∙ length-take-le i ts (omega (arith, within))

pub numbered_more : (text : List ℕ) (names more new : List (List ℕ)) (ts : List Token) (numbers : List ℕ) (i number : ℕ) (d : Token)
    → new ≡ names ++ more → i < length ts → AreNumbered text names (take i ts) numbers → IsNumberOf text new (get_or ts i d) number
    → AreNumbered text new (take (i + 1) ts) (numbers ++ number ∷ [])
numbered_more text names more new ts numbers i number d is within are of =
    subst (λ ns. AreNumbered text ns (take (i + 1) ts) (numbers ++ number ∷ [])) (sym is)
    (numbered_ahead text names more ts numbers i number d within are (subst (λ ns. IsNumberOf text ns (get_or ts i d) number) is of))

-- a name at its number
pub number_is : (text : List ℕ) (names : List (List ℕ)) (token : Token) (number : ℕ) (name : List ℕ) → has_name token.kind ≡ true
    → number < length names → name_at names number ≡ name → IsNameText text token name
    → ((other : List ℕ) → IsNameText text token other → other ≡ name) → IsNumberOf text names token number
number_is text names token number name kind within is named only = record {
  within = within;
  named = λ _. subst (IsNameText text token) (sym is) named;
  only = λ _ other stands. only other stands ∙ sym is;
  unnamed = λ none. let both : true ≡ false = sym kind ∙ none in cc;
}

-- a token without a name
pub no_number : (text : List ℕ) (names : List (List ℕ)) (token : Token) → has_name token.kind ≡ false → 0 < length names → IsNumberOf text names token 0
no_number text names token kind some = record {
  within = some;
  named = λ is. let both : true ≡ false = sym is ∙ kind in cc;
  only = λ is other stands. let both : true ≡ false = sym is ∙ kind in cc;
  unnamed = λ _. refl;
}

pub unnamed_kind : (kind : Kind) → (kind ≡ Name → ⊥) → (kind ≡ Quoted → ⊥) → has_name kind ≡ false
unnamed_kind Name other also = absurd (other refl)
unnamed_kind Quoted other also = absurd (also refl)
unnamed_kind _ other also = refl

-- what holds of each token holds of those of a part
pub part_holds : (P : Token → Type 0) (ts : List Token) (from to : ℕ) → to ≤ length ts → ((k : ℕ) (t : Token) → slice_get ts k ≡ Some t → P t)
    → All P (slice_range ts from to)
part_holds P ts from to within each k d below =
    let inside : k < to - from = subst (λ n. k < n) (part_length ts from to within) below in
    subst P (sym (part_at ts from to k d inside)) (each (from + k) (get_or ts (from + k) d) (slice_get-get_or ts (from + k) d (omega (arith, inside, within))))
