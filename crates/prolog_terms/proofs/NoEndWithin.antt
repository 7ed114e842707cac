-- The words of a lawful tree are no Ends.
use Rattle.std.proofs.Common.{◌≡◌, ◌≢◌, ℕ, zero, suc, Bool, true, false, not, ◌&&◌, ◌||◌, List, [], ◌∷◌, ◌++◌, Some, slice_get, is_some, refl, ap, sym, ◌∙◌, inl, inr}
use Rattle.prolog_tokens.specs.declared.token.Kind.{Kind}
use Rattle.prolog_tokens.specs.declared.token.Kind.TheVariants.{OpenRound, CloseRound, OpenSquare, CloseSquare, OpenCurly, CloseCurly, Comma, Bar, End}
use Rattle.prolog_terms.specs.Words.{Word, Table, is_name, is_unquoted, is_number, is_leaf, is_open_round, is_minus, is_negative, opens, atom_rule, number_next}
use Rattle.prolog_terms.specs.Grammar.{Parse, Parts, GroupStart, call, square, leaf, negative, bare, pair, group, tailed, wrapped, prefixed, infixed, postfixed, one, more, yield, parts_yield, start_yield, IsKept, AreKept, Opens, Closes, IsPair, IsWrap}
use Rattle.std.specs.Prelude.{codes}
use Rattle.std.specs.Str.{bytes_eq}
use Rattle.prolog_terms.proofs.ReaderTables.{IsTable, can_be_infix}
use Rattle.prolog_terms.proofs.ReaderComplete.{and_left, and_right}

abbrev pub HaveNoEnd : List Word → Type 0
HaveNoEnd [] = Unit {0}
HaveNoEnd (w ∷ ws) = (w.kind ≢ End) × HaveNoEnd ws

none_append : (us ws : List Word) → HaveNoEnd us → HaveNoEnd ws → HaveNoEnd (us ++ ws)
none_append [] ws h k = k
none_append (u ∷ us) ws h k = (h.0, none_append us ws h.1 k)

-- a test that fails at End
passes : (p : Kind → Bool) (k : Kind) → p End ≡ false → p k ≡ true → k ≢ End
passes p k fails holds is = let both : true ≡ false = sym holds ∙ (ap p is ∙ fails) in cc

other : (k j : Kind) → k ≡ j → j ≢ End → k ≢ End
other k j is differs ends = differs (sym is ∙ ends)

pair_none : (o c : Word) → IsPair o c → HaveNoEnd (o ∷ c ∷ [])
pair_none o c h = elim h [
  | inl s ↦ (other o.kind OpenSquare s.0 (λ e. cc), (other c.kind CloseSquare s.1 (λ e. cc), tt))
  | inr s ↦ (other o.kind OpenCurly s.0 (λ e. cc), (other c.kind CloseCurly s.1 (λ e. cc), tt))
]

wrap_none : (o c : Word) → IsWrap o c → (o.kind ≢ End) × (c.kind ≢ End)
wrap_none o c h = elim h [
  | inl s ↦ (other o.kind OpenRound s.0 (λ e. cc), other c.kind CloseRound s.1 (λ e. cc))
  | inr s ↦ (other o.kind OpenCurly s.0 (λ e. cc), other c.kind CloseCurly s.1 (λ e. cc))
]

start_none : (g : GroupStart) (after : List Word) → Opens g after → HaveNoEnd (start_yield g)
start_none (call f o) after h = (
  passes is_name f.kind refl (and_left (is_name f.kind) (opens (o ∷ after)) h),
  (passes is_open_round o.kind refl (and_left (is_open_round o.kind) (not o.after_layout) (and_right (is_name f.kind) (opens (o ∷ after)) h)), tt),
)
start_none (square o) after h = (other o.kind OpenSquare h (λ e. cc), tt)

closer_none : (g : GroupStart) (c : Word) → Closes g c → c.kind ≢ End
closer_none (call f o) c h = other c.kind CloseRound h (λ e. cc)
closer_none (square o) c h = other c.kind CloseSquare h (λ e. cc)

minus_none : (w n : Word) (after : List Word) → is_negative w (n ∷ after) ≡ true → HaveNoEnd (w ∷ n ∷ [])
minus_none w n after h = (
  passes is_unquoted w.kind refl (and_left (is_unquoted w.kind) (bytes_eq w.text (codes "-")) (and_left (is_minus w) (number_next (n ∷ after)) h)),
  (passes is_number n.kind refl (and_left (is_number n.kind) (not n.after_layout) (and_right (is_minus w) (number_next (n ∷ after)) h)), tt),
)

first_of_four : (a b c d : Bool) → (a && b && c && d) ≡ true → a ≡ true
first_of_four true b c d h = refl
first_of_four false b c d h = cc

first_of_five : (a b c d e : Bool) → (a && b && c && d && e) ≡ true → a ≡ true
first_of_five true b c d e h = refl
first_of_five false b c d e h = cc

module _ (T : Table) (ok : IsTable T) where
  mutual
    pub kept_none : (t : Parse) (after : List Word) → IsKept T t after → HaveNoEnd (yield t)
    kept_none (leaf w) after h = (passes is_leaf w.kind refl h, tt)
    kept_none (negative w n) after h = minus_none w n after h
    kept_none (bare w) after h =
        (passes is_name w.kind refl (first_of_four (is_name w.kind) (not (opens after)) (not (is_negative w after)) (not (is_some (T.prefix w)) || atom_rule T after) h), tt)
    kept_none (pair o c) after h = pair_none o c h
    kept_none (group g xs c) after h =
        none_append (start_yield g) (parts_yield xs ++ c ∷ []) (start_none g (parts_yield xs ++ c ∷ after) h.0)
        (none_append (parts_yield xs) (c ∷ []) (are_none xs (c ∷ after) h.1) (closer_none g c h.2, tt))
    kept_none (tailed o xs b t c) after h = (
      other o.kind OpenSquare h.0 (λ e. cc),
      none_append (parts_yield xs) (b ∷ (yield t ++ c ∷ [])) (are_none xs (b ∷ (yield t ++ c ∷ after)) h.1)
          (other b.kind Bar h.2 (λ e. cc), none_append (yield t) (c ∷ []) (kept_none t (c ∷ after) h.3) (other c.kind CloseSquare h.5 (λ e. cc), tt)),
    )
    kept_none (wrapped o t c) after h =
        let both = wrap_none o c h.0 in (both.0, none_append (yield t) (c ∷ []) (kept_none t (c ∷ after) h.1) (both.1, tt))
    kept_none (prefixed w r) after h = (
      passes is_name w.kind refl
          (first_of_five (is_name w.kind) (is_some (T.prefix w)) (not (opens (yield r ++ after))) (not (is_negative w (yield r ++ after))) (not (atom_rule T (yield r ++ after))) h.0),
      kept_none r after h.1,
    )
    kept_none (infixed l w r) after h =
        none_append (yield l) (w ∷ yield r) (kept_none l (w ∷ (yield r ++ after)) h.1) (passes can_be_infix w.kind refl (ok.infix_kind w h.0), kept_none r after h.2)
    kept_none (postfixed l w) after h =
        none_append (yield l) (w ∷ []) (kept_none l (w ∷ after) h.1) (passes is_name w.kind refl (ok.postfix_name w h.0), tt)

    are_none : (xs : Parts) (after : List Word) → AreKept T xs after → HaveNoEnd (parts_yield xs)
    are_none (one t) after h = kept_none t after h.0
    are_none (more xs w t) after h =
        none_append (parts_yield xs) (w ∷ yield t) (are_none xs (w ∷ (yield t ++ after)) h.0) (other w.kind Comma h.1 (λ e. cc), kept_none t after h.2)

no_words : (ws : List Word) (w : Word) (vs : List Word) → [] ≡ ws ++ w ∷ vs → ⊥
no_words [] w vs h = cc
no_words (v ∷ ws) w vs h = cc

-- words that others with an End begin with, but for the End, are no Ends
pub before_none : (ys ws : List Word) (v : Word) (vs : List Word) (e : Word) → HaveNoEnd ys → ys ++ e ∷ [] ≡ ws ++ v ∷ vs → HaveNoEnd ws
before_none ys [] v vs e none is = tt
before_none [] (w ∷ ws) v vs e none is = let rest : [] ≡ ws ++ v ∷ vs = cc in absurd (no_words ws v vs rest)
before_none (y ∷ ys) (w ∷ ws) v vs e none is =
    let first : y ≡ w = cc in
    let rest : ys ++ e ∷ [] ≡ ws ++ v ∷ vs = cc in
    (λ h. none.0 (ap (λ x. x.kind) first ∙ h), before_none ys ws v vs e none.1 rest)

pub none_at : (ws : List Word) (k : ℕ) (w : Word) → HaveNoEnd ws → slice_get ws k ≡ Some w → w.kind ≢ End
none_at [] k w none is = λ h. cc
none_at (v ∷ ws) zero w none is = λ h. let same : v ≡ w = cc in none.0 (ap (λ x. x.kind) same ∙ h)
none_at (v ∷ ws) (suc k) w none is = none_at ws k w none.1 is
