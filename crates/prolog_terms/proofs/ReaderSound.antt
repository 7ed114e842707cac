-- What is read is a clause.
use Rattle.std.proofs.Common.{ℕ, ◌≡◌, ◌≤◌, ◌<◌, ◌⊎◌, inl, inr, Bool, true, false, cond, ◌&&◌, List, [], ◌∷◌, ◌++◌, Option, Some, None, is_some, nat_lt, nat_le, arith, refl, ap, sym, subst, ◌∙◌, append_assoc}
use Rattle.std.proofs.lemmas.Bool.Decides.{nat_tests}
use Rattle.prolog_tokens.specs.declared.token.Kind.{Kind}
use Rattle.prolog_tokens.specs.declared.token.Kind.TheVariants.{Name, Quoted, Variable, Integer, Float, Str, BackStr, OpenRound, CloseRound, OpenSquare, CloseSquare, OpenCurly, CloseCurly, Comma, Bar, End}
use Rattle.prolog_terms.specs.Words.{Word, Table, sides_of, is_leaf, is_functor, is_negative, is_atom, is_prefix}
use Rattle.prolog_terms.specs.Grammar.{Parse, Parts, GroupStart, call, square, leaf, bare, pair, group, wrapped, prefixed, infixed, postfixed, one, more, start_yield, yield, parts_yield, priority, IsAboveSpine, Opens, IsKept, AreKept, IsClause}
use Rattle.prolog_terms.specs.ReaderSteps.{prefix_open, infix_open, first_open, next_open, tail_open, wrap_open, Stack, Mode, want, minus, functor, have, done, State, at, goes, bound, reduced, closed, is_curly, square_pair, curly_pair, want_other, want_step, infix_on, postfix_on, with_tree, infix_step, name_step, comma_on, bar_on, round_on, square_on, curly_on, end_on, have_step, act, next, run}
use Rattle.prolog_terms.proofs.ReaderComplete.{and_left, and_right}

-- what holds of the state that a step leaves, where it leaves one
abbrev pub OnState : Option State → (Stack → Mode → Type 0) → Type 0
OnState None P = Unit {0}
OnState (Some st) P = P st.stack st.mode

abbrev pub OnTree : State → (Stack → Parse → Type 0) → Type 0
OnTree st P = elim (st.mode) [ have t ↦ P st.stack t | _ ↦ Unit {0} ]

-- the five cases of a name
pub five_cases : {A : Type 0} (P : A → Type 0) (b1 b2 b3 b4 : Bool) (x1 x2 x3 x4 x5 : A)
    → (b1 ≡ true → P x1) → (b2 ≡ true → P x2) → (b3 ≡ true → P x3) → (b4 ≡ true → P x4) → P x5
    → P (cond b1 x1 (cond b2 x2 (cond b3 x3 (cond b4 x4 x5))))
five_cases P true b2 b3 b4 x1 x2 x3 x4 x5 p1 p2 p3 p4 p5 = p1 refl
five_cases P false true b3 b4 x1 x2 x3 x4 x5 p1 p2 p3 p4 p5 = p2 refl
five_cases P false false true b4 x1 x2 x3 x4 x5 p1 p2 p3 p4 p5 = p3 refl
five_cases P false false false true x1 x2 x3 x4 x5 p1 p2 p3 p4 p5 = p4 refl
five_cases P false false false false x1 x2 x3 x4 x5 p1 p2 p3 p4 p5 = p5

-- a step that a test allows
pub guarded : (b : Bool) (st : State) (P : Stack → Mode → Type 0) → (b ≡ true → P st.stack st.mode) → OnState (cond b (Some st) None) P
guarded true st P h = h refl
guarded false st P h = tt

pub unguarded : (b : Bool) (st : State) (P : Stack → Mode → Type 0) → (b ≡ false → P st.stack st.mode) → OnState (cond b None (Some st)) P
unguarded true st P h = tt
unguarded false st P h = h refl

pub guarded_next : (b : Bool) (o : Option State) (P : Stack → Mode → Type 0) → (b ≡ true → OnState o P) → OnState (cond b o None) P
guarded_next true o P h = h refl
guarded_next false o P h = tt

pub with_tree_on : (st : State) (P : Stack → Parse → Type 0) (Q : Stack → Mode → Type 0) (go : Stack → Parse → Option State)
    → OnTree st P → ((S : Stack) (t : Parse) → P S t → OnState (go S t) Q) → OnState (with_tree st go) Q
with_tree_on st P Q go h each = at_mode st.stack st.mode h
  where
    at_mode : (S : Stack) (m : Mode) → OnTree (at S m) P → OnState (with_tree (at S m) go) Q
    at_mode S want h = tt
    at_mode S (minus d) h = tt
    at_mode S (functor n) h = tt
    at_mode S (have t) h = each S t h
    at_mode S (done t) h = tt

-- either way of a test, with the test known
pub either_way : {A : Type 0} (P : A → Type 0) (b : Bool) (x y : A) → (b ≡ true → P x) → P y → P (cond b x y)
either_way P true x y yes_way no_way = yes_way refl
either_way P false x y yes_way no_way = no_way

module _ (T : Table) (ws : List Word) where
  -- the words ws are those of the stack and then these, and each operator or bracket is lawful where the words after it follow
  abbrev pub Before : Stack → List Word → Type 0
  Before [] r = ws ≡ r
  Before (prefix_open w ∷ S) r = (is_prefix T w r ≡ true) × ((sides_of (T.prefix w)).priority ≤ bound T S) × Before S (w ∷ r)
  Before (infix_open l w ∷ S) r =
      (is_some (T.infix_ w) ≡ true) × IsKept T l (w ∷ r) × (priority T l ≤ (sides_of (T.infix_ w)).left)
      × IsAboveSpine T (sides_of (T.infix_ w)).priority l × ((sides_of (T.infix_ w)).priority ≤ bound T S) × Before S (yield l ++ w ∷ r)
  Before (first_open g ∷ S) r = Opens g r × Before S (start_yield g ++ r)
  Before (next_open g xs c ∷ S) r =
      Opens g (parts_yield xs ++ c ∷ r) × AreKept T xs (c ∷ r) × (c.kind ≡ Comma) × Before S (start_yield g ++ (parts_yield xs ++ c ∷ r))
  Before (tail_open o xs b ∷ S) r =
      (o.kind ≡ OpenSquare) × AreKept T xs (b ∷ r) × (b.kind ≡ Bar) × Before S (o ∷ (parts_yield xs ++ b ∷ r))
  Before (wrap_open o ∷ S) r = ((o.kind ≡ OpenRound) ⊎ (o.kind ≡ OpenCurly)) × Before S (o ∷ r)

  -- an operand stands complete before these words
  pub record Stands (S : Stack) (t : Parse) (r : List Word) : Type 0 where
    pub before : Before S (yield t ++ r)
    pub kept : IsKept T t r
    pub low : priority T t ≤ bound T S

  -- the words ws are those of the state and then these
  abbrev pub Holds : List Word → Stack → Mode → Type 0
  Holds r S want = Before S r
  Holds r S (minus d) = Before S (d ∷ r) × (is_negative d r ≡ true)
  Holds r S (functor n) = Before S (n ∷ r) × (is_functor n r ≡ true)
  Holds r S (have t) = Stands S t r × ((p : ℕ) → IsAboveSpine T p t)
  Holds r S (done t) = (e : Word) × (e.kind ≡ End) × IsKept T t (e ∷ r) × (priority T t ≤ 1200) × (ws ≡ yield t ++ e ∷ r)

  le_from : (a b : ℕ) → nat_le a b ≡ true → a ≤ b
  le_from a b h = grind (arith, nat_tests)

  -- closing operators

  prefix_stands : (w : Word) (S : Stack) (t : Parse) (r : List Word) → Stands (prefix_open w ∷ S) t r → Stands S (prefixed w t) r
  prefix_stands w S t r h = record { before = h.before.2; kept = (h.before.0, h.kept, h.low); low = h.before.1 }

  infix_stands : (l : Parse) (w : Word) (S : Stack) (t : Parse) (r : List Word) → Stands (infix_open l w ∷ S) t r → Stands S (infixed l w t) r
  infix_stands l w S t r h = record {
    before = subst (Before S) (sym (append_assoc (yield l) (w ∷ yield t) r)) h.before.5;
    kept = (h.before.0, h.before.1, h.kept, h.before.2, h.low, h.before.3);
    low = h.before.4;
  }

  closed_stands : (S : Stack) (t : Parse) (r : List Word) → Stands S t r → OnTree (closed S t) (λ S' t'. Stands S' t' r)
  closed_stands (prefix_open w ∷ S) t r h = closed_stands S (prefixed w t) r (prefix_stands w S t r h)
  closed_stands (infix_open l w ∷ S) t r h = closed_stands S (infixed l w t) r (infix_stands l w S t r h)
  closed_stands (first_open g ∷ S) t r h = h
  closed_stands (next_open g xs c ∷ S) t r h = h
  closed_stands (tail_open o xs b ∷ S) t r h = h
  closed_stands (wrap_open o ∷ S) t r h = h
  closed_stands [] t r h = h

  lt_from : (a b : ℕ) → nat_lt a b ≡ true → a < b
  lt_from a b h = grind (arith, nat_tests)

  reduced_stands : (p : ℕ) (S : Stack) (t : Parse) (r : List Word) → Stands S t r → IsAboveSpine T p t
      → OnTree (reduced T p S t) (λ S' t'. Stands S' t' r × IsAboveSpine T p t')
  reduced_stands p (prefix_open w ∷ S) t r h above =
      either_way (λ st. OnTree st (λ S' t'. Stands S' t' r × IsAboveSpine T p t')) (nat_lt (sides_of (T.prefix w)).right p)
      (reduced T p S (prefixed w t)) (at (prefix_open w ∷ S) (have t))
      (λ over. reduced_stands p S (prefixed w t) r (prefix_stands w S t r h) (lt_from (sides_of (T.prefix w)).right p over, above))
      (h, above)
  reduced_stands p (infix_open l w ∷ S) t r h above =
      either_way (λ st. OnTree st (λ S' t'. Stands S' t' r × IsAboveSpine T p t')) (nat_lt (sides_of (T.infix_ w)).right p)
      (reduced T p S (infixed l w t)) (at (infix_open l w ∷ S) (have t))
      (λ over. reduced_stands p S (infixed l w t) r (infix_stands l w S t r h) (lt_from (sides_of (T.infix_ w)).right p over, above))
      (h, above)
  reduced_stands p (first_open g ∷ S) t r h above = (h, above)
  reduced_stands p (next_open g xs c ∷ S) t r h above = (h, above)
  reduced_stands p (tail_open o xs b ∷ S) t r h above = (h, above)
  reduced_stands p (wrap_open o ∷ S) t r h above = (h, above)
  reduced_stands p [] t r h above = (h, above)

  -- one word where an operand is wanted

  square_pair_sound : (S : Stack) (w : Word) (f : List Word) → w.kind ≡ CloseSquare → Before S (w ∷ f) → OnState (square_pair S w) (Holds f)
  square_pair_sound (first_open (square o) ∷ S) w f e h = (record { before = h.1; kept = inl (h.0, e); low = omega arith }, λ p. tt)
  square_pair_sound (first_open (call n b) ∷ S) w f e h = tt
  square_pair_sound (next_open g xs c ∷ S) w f e h = tt
  square_pair_sound (tail_open o xs b ∷ S) w f e h = tt
  square_pair_sound (wrap_open o ∷ S) w f e h = tt
  square_pair_sound (prefix_open v ∷ S) w f e h = tt
  square_pair_sound (infix_open l v ∷ S) w f e h = tt
  square_pair_sound [] w f e h = tt

  curly_kind : (o : Word) → is_curly o.kind ≡ true → ((o.kind ≡ OpenRound) ⊎ (o.kind ≡ OpenCurly)) → o.kind ≡ OpenCurly
  curly_kind o h kind = elim kind [ inl round ↦ (let both : false ≡ true = sym (ap is_curly round) ∙ h in cc) | inr curly ↦ curly ]

  round_kind : (o : Word) → is_curly o.kind ≡ false → ((o.kind ≡ OpenRound) ⊎ (o.kind ≡ OpenCurly)) → o.kind ≡ OpenRound
  round_kind o h kind = elim kind [ inl round ↦ round | inr curly ↦ (let both : true ≡ false = sym (ap is_curly curly) ∙ h in cc) ]

  curly_pair_sound : (S : Stack) (w : Word) (f : List Word) → w.kind ≡ CloseCurly → Before S (w ∷ f) → OnState (curly_pair S w) (Holds f)
  curly_pair_sound (wrap_open o ∷ S) w f e h =
      guarded (is_curly o.kind) (at S (have (pair o w))) (Holds f)
      (λ curly. (record { before = h.1; kept = inr (curly_kind o curly h.0, e); low = omega arith }, λ p. tt))
  curly_pair_sound (first_open g ∷ S) w f e h = tt
  curly_pair_sound (next_open g xs c ∷ S) w f e h = tt
  curly_pair_sound (tail_open o xs b ∷ S) w f e h = tt
  curly_pair_sound (prefix_open v ∷ S) w f e h = tt
  curly_pair_sound (infix_open l v ∷ S) w f e h = tt
  curly_pair_sound [] w f e h = tt

  leaf_sound : (S : Stack) (w : Word) (f : List Word) → is_leaf w.kind ≡ true → Before S (w ∷ f) → Holds f S (have (leaf w))
  leaf_sound S w f e h = (record { before = h; kept = e; low = omega arith }, λ p. tt)

  want_other_sound : (S : Stack) (w : Word) (f : List Word) (k : Kind) → w.kind ≡ k → Before S (w ∷ f) → OnState (want_other S w k) (Holds f)
  want_other_sound S w f Variable e h = leaf_sound S w f (ap is_leaf e) h
  want_other_sound S w f Integer e h = leaf_sound S w f (ap is_leaf e) h
  want_other_sound S w f Float e h = leaf_sound S w f (ap is_leaf e) h
  want_other_sound S w f Str e h = leaf_sound S w f (ap is_leaf e) h
  want_other_sound S w f BackStr e h = leaf_sound S w f (ap is_leaf e) h
  want_other_sound S w f OpenRound e h = (inl e, h)
  want_other_sound S w f OpenCurly e h = (inr e, h)
  want_other_sound S w f OpenSquare e h = (e, h)
  want_other_sound S w f CloseSquare e h = square_pair_sound S w f e h
  want_other_sound S w f CloseCurly e h = curly_pair_sound S w f e h
  want_other_sound S w f Name e h = tt
  want_other_sound S w f Quoted e h = tt
  want_other_sound S w f CloseRound e h = tt
  want_other_sound S w f Comma e h = tt
  want_other_sound S w f Bar e h = tt
  want_other_sound S w f End e h = tt

  want_sound : (S : Stack) (w : Word) (f : List Word) → Before S (w ∷ f) → OnState (want_step T S w f) (Holds f)
  want_sound S w f h =
      five_cases (λ o. OnState o (Holds f)) (is_functor w f) (is_negative w f) (is_atom T w f) (is_prefix T w f)
      (goes S (functor w)) (goes S (minus w)) (goes S (have (bare w)))
      (cond (nat_le (sides_of (T.prefix w)).priority (bound T S)) (goes (prefix_open w ∷ S) want) None) (want_other S w w.kind)
      (λ e. (h, e)) (λ e. (h, e)) (λ e. (record { before = h; kept = e; low = omega arith }, λ p. tt))
      (λ e. guarded (nat_le (sides_of (T.prefix w)).priority (bound T S)) (at (prefix_open w ∷ S) want) (Holds f)
      (λ low. (e, le_from (sides_of (T.prefix w)).priority (bound T S) low, h)))
      (want_other_sound S w f w.kind refl h)

  -- one word behind an operand

  infix_on_sound : (S : Stack) (t : Parse) (w : Word) (f : List Word) → is_some (T.infix_ w) ≡ true
      → Stands S t (w ∷ f) × IsAboveSpine T (sides_of (T.infix_ w)).priority t → OnState (infix_on T S t w) (Holds f)
  infix_on_sound S t w f some h =
      guarded (nat_le (sides_of (T.infix_ w)).priority (bound T S) && nat_le (priority T t) (sides_of (T.infix_ w)).left) (at (infix_open t w ∷ S) want) (Holds f)
      (λ both. (
        some,
        h.0.kept,
        le_from (priority T t) (sides_of (T.infix_ w)).left
            (and_right (nat_le (sides_of (T.infix_ w)).priority (bound T S)) (nat_le (priority T t) (sides_of (T.infix_ w)).left) both),
        h.1,
        le_from (sides_of (T.infix_ w)).priority (bound T S)
            (and_left (nat_le (sides_of (T.infix_ w)).priority (bound T S)) (nat_le (priority T t) (sides_of (T.infix_ w)).left) both),
        h.0.before,
      ))

  postfix_on_sound : (S : Stack) (t : Parse) (w : Word) (f : List Word) → is_some (T.postfix w) ≡ true
      → Stands S t (w ∷ f) × IsAboveSpine T (sides_of (T.postfix w)).priority t → OnState (postfix_on T S t w) (Holds f)
  postfix_on_sound S t w f some h =
      guarded (nat_le (sides_of (T.postfix w)).priority (bound T S) && nat_le (priority T t) (sides_of (T.postfix w)).left) (at S (have (postfixed t w))) (Holds f)
      (λ both. (
        record {
          before = subst (Before S) (sym (append_assoc (yield t) (w ∷ []) f)) h.0.before;
          kept = (
            some,
            h.0.kept,
            le_from (priority T t) (sides_of (T.postfix w)).left
                (and_right (nat_le (sides_of (T.postfix w)).priority (bound T S)) (nat_le (priority T t) (sides_of (T.postfix w)).left) both),
            h.1,
          );
          low = le_from (sides_of (T.postfix w)).priority (bound T S)
              (and_left (nat_le (sides_of (T.postfix w)).priority (bound T S)) (nat_le (priority T t) (sides_of (T.postfix w)).left) both);
        },
        λ p. tt,
      ))

  infix_sound : (S : Stack) (t : Parse) (w : Word) (f : List Word) → Holds (w ∷ f) S (have t) → OnState (infix_step T S t w) (Holds f)
  infix_sound S t w f h =
      guarded_next (is_some (T.infix_ w)) (with_tree (reduced T (sides_of (T.infix_ w)).priority S t) (λ S' t'. infix_on T S' t' w)) (Holds f)
      (λ some. with_tree_on (reduced T (sides_of (T.infix_ w)).priority S t) (λ S' t'. Stands S' t' (w ∷ f) × IsAboveSpine T (sides_of (T.infix_ w)).priority t')
      (Holds f) (λ S' t'. infix_on T S' t' w)
      (reduced_stands (sides_of (T.infix_ w)).priority S t (w ∷ f) h.0 (h.1 (sides_of (T.infix_ w)).priority))
      (λ S' t' held. infix_on_sound S' t' w f some held))

  name_sound : (S : Stack) (t : Parse) (w : Word) (f : List Word) → Holds (w ∷ f) S (have t) → OnState (name_step T S t w) (Holds f)
  name_sound S t w f h =
      either_way (λ o. OnState o (Holds f)) (is_some (T.infix_ w)) (infix_step T S t w)
      (cond (is_some (T.postfix w)) (with_tree (reduced T (sides_of (T.postfix w)).priority S t) (λ S' t'. postfix_on T S' t' w)) None)
      (λ some. infix_sound S t w f h)
      (guarded_next (is_some (T.postfix w)) (with_tree (reduced T (sides_of (T.postfix w)).priority S t) (λ S' t'. postfix_on T S' t' w)) (Holds f)
      (λ some. with_tree_on (reduced T (sides_of (T.postfix w)).priority S t) (λ S' t'. Stands S' t' (w ∷ f) × IsAboveSpine T (sides_of (T.postfix w)).priority t')
      (Holds f) (λ S' t'. postfix_on T S' t' w)
      (reduced_stands (sides_of (T.postfix w)).priority S t (w ∷ f) h.0 (h.1 (sides_of (T.postfix w)).priority))
      (λ S' t' held. postfix_on_sound S' t' w f some held)))

  -- the words of one part more
  more_words : (xs : Parts) (c : Word) (t : Parse) (r : List Word) → parts_yield xs ++ c ∷ (yield t ++ r) ≡ parts_yield (more xs c t) ++ r
  more_words xs c t r = sym (append_assoc (parts_yield xs) (c ∷ yield t) r)

  module _ (S0 : Stack) (t0 : Parse) (w : Word) (f : List Word) (h0 : Holds (w ∷ f) S0 (have t0)) where
    comma_sound : w.kind ≡ Comma → (S : Stack) (t : Parse) → Stands S t (w ∷ f) → OnState (comma_on T S0 t0 w S t) (Holds f)
    comma_sound e (first_open g ∷ S) t h = (h.before.0, (h.kept, h.low), e, h.before.1)
    comma_sound e (next_open g xs c ∷ S) t h = (
      subst (Opens g) (more_words xs c t (w ∷ f)) h.before.0,
      (h.before.1, h.before.2, h.kept, h.low),
      e,
      subst (λ ws. Before S (start_yield g ++ ws)) (more_words xs c t (w ∷ f)) h.before.3,
    )
    comma_sound e (tail_open o xs b ∷ S) t h = tt
    comma_sound e (wrap_open o ∷ S) t h = infix_sound S0 t0 w f h0
    comma_sound e (prefix_open v ∷ S) t h = infix_sound S0 t0 w f h0
    comma_sound e (infix_open l v ∷ S) t h = infix_sound S0 t0 w f h0
    comma_sound e [] t h = infix_sound S0 t0 w f h0

    bar_sound : w.kind ≡ Bar → (S : Stack) (t : Parse) → Stands S t (w ∷ f) → OnState (bar_on T S0 t0 w S t) (Holds f)
    bar_sound e (first_open (square o) ∷ S) t h = (h.before.0, (h.kept, h.low), e, h.before.1)
    bar_sound e (next_open (square o) xs c ∷ S) t h =
        (h.before.0, (h.before.1, h.before.2, h.kept, h.low), e, subst (λ ws. Before S (o ∷ ws)) (more_words xs c t (w ∷ f)) h.before.3)
    bar_sound e (first_open (call n b) ∷ S) t h = tt
    bar_sound e (next_open (call n b) xs c ∷ S) t h = tt
    bar_sound e (tail_open o xs b ∷ S) t h = tt
    bar_sound e (wrap_open o ∷ S) t h = infix_sound S0 t0 w f h0
    bar_sound e (prefix_open v ∷ S) t h = infix_sound S0 t0 w f h0
    bar_sound e (infix_open l v ∷ S) t h = infix_sound S0 t0 w f h0
    bar_sound e [] t h = infix_sound S0 t0 w f h0

  -- the words of a bracket that is closed
  group_words : (ws1 ws2 : List Word) (w : Word) (f : List Word) → ws1 ++ (ws2 ++ w ∷ f) ≡ (ws1 ++ (ws2 ++ w ∷ [])) ++ f
  group_words ws1 ws2 w f = ap (λ x. ws1 ++ x) (sym (append_assoc ws2 (w ∷ []) f)) ∙ sym (append_assoc ws1 (ws2 ++ w ∷ []) f)

  group_stands : (S : Stack) (g : GroupStart) (xs : Parts) (w : Word) (f : List Word) → Opens g (parts_yield xs ++ w ∷ f) → AreKept T xs (w ∷ f)
      → Before S (start_yield g ++ (parts_yield xs ++ w ∷ f)) → IsKept T (group g xs w) f → Holds f S (have (group g xs w))
  group_stands S g xs w f opens_so kept before all =
      (record { before = subst (Before S) (group_words (start_yield g) (parts_yield xs) w f) before; kept = all; low = omega arith }, λ p. tt)

  round_sound : (w : Word) (f : List Word) → w.kind ≡ CloseRound → (S : Stack) (t : Parse) → Stands S t (w ∷ f) → OnState (round_on w S t) (Holds f)
  round_sound w f e (first_open (call n b) ∷ S) t h =
      group_stands S (call n b) (one t) w f h.before.0 (h.kept, h.low) h.before.1 (h.before.0, (h.kept, h.low), e)
  round_sound w f e (next_open (call n b) xs c ∷ S) t h =
      let words : parts_yield xs ++ c ∷ (yield t ++ w ∷ f) ≡ parts_yield (more xs c t) ++ w ∷ f = more_words xs c t (w ∷ f) in
      let opens_so : Opens (call n b) (parts_yield (more xs c t) ++ w ∷ f) = subst (Opens (call n b)) words h.before.0 in
      group_stands S (call n b) (more xs c t) w f opens_so (h.before.1, h.before.2, h.kept, h.low)
      (subst (λ ws. Before S (n ∷ b ∷ ws)) words h.before.3) (opens_so, (h.before.1, h.before.2, h.kept, h.low), e)
  round_sound w f e (wrap_open o ∷ S) t h =
      unguarded (is_curly o.kind) (at S (have (wrapped o t w))) (Holds f)
      (λ round. (
        record {
          before = subst (λ ws. Before S (o ∷ ws)) (sym (append_assoc (yield t) (w ∷ []) f)) h.before.1;
          kept = (inl (round_kind o round h.before.0, e), h.kept, h.low);
          low = omega arith;
        },
        λ p. tt,
      ))
  round_sound w f e (first_open (square o) ∷ S) t h = tt
  round_sound w f e (next_open (square o) xs c ∷ S) t h = tt
  round_sound w f e (tail_open o xs b ∷ S) t h = tt
  round_sound w f e (prefix_open v ∷ S) t h = tt
  round_sound w f e (infix_open l v ∷ S) t h = tt
  round_sound w f e [] t h = tt

  square_sound : (w : Word) (f : List Word) → w.kind ≡ CloseSquare → (S : Stack) (t : Parse) → Stands S t (w ∷ f) → OnState (square_on w S t) (Holds f)
  square_sound w f e (first_open (square o) ∷ S) t h =
      group_stands S (square o) (one t) w f h.before.0 (h.kept, h.low) h.before.1 (h.before.0, (h.kept, h.low), e)
  square_sound w f e (next_open (square o) xs c ∷ S) t h =
      group_stands S (square o) (more xs c t) w f h.before.0 (h.before.1, h.before.2, h.kept, h.low)
      (subst (λ ws. Before S (o ∷ ws)) (more_words xs c t (w ∷ f)) h.before.3) (h.before.0, (h.before.1, h.before.2, h.kept, h.low), e)
  square_sound w f e (tail_open o xs b ∷ S) t h = (
    record {
      before = subst (λ ws. Before S (o ∷ ws))
          (ap (λ ws. parts_yield xs ++ b ∷ ws) (sym (append_assoc (yield t) (w ∷ []) f)) ∙ sym (append_assoc (parts_yield xs) (b ∷ (yield t ++ w ∷ [])) f)) h.before.3;
      kept = (h.before.0, h.before.1, h.before.2, h.kept, h.low, e);
      low = omega arith;
    },
    λ p. tt,
  )
  square_sound w f e (first_open (call n b) ∷ S) t h = tt
  square_sound w f e (next_open (call n b) xs c ∷ S) t h = tt
  square_sound w f e (wrap_open o ∷ S) t h = tt
  square_sound w f e (prefix_open v ∷ S) t h = tt
  square_sound w f e (infix_open l v ∷ S) t h = tt
  square_sound w f e [] t h = tt

  curly_sound : (w : Word) (f : List Word) → w.kind ≡ CloseCurly → (S : Stack) (t : Parse) → Stands S t (w ∷ f) → OnState (curly_on w S t) (Holds f)
  curly_sound w f e (wrap_open o ∷ S) t h =
      guarded (is_curly o.kind) (at S (have (wrapped o t w))) (Holds f)
      (λ curly. (
        record {
          before = subst (λ ws. Before S (o ∷ ws)) (sym (append_assoc (yield t) (w ∷ []) f)) h.before.1;
          kept = (inr (curly_kind o curly h.before.0, e), h.kept, h.low);
          low = omega arith;
        },
        λ p. tt,
      ))
  curly_sound w f e (first_open g ∷ S) t h = tt
  curly_sound w f e (next_open g xs c ∷ S) t h = tt
  curly_sound w f e (tail_open o xs b ∷ S) t h = tt
  curly_sound w f e (prefix_open v ∷ S) t h = tt
  curly_sound w f e (infix_open l v ∷ S) t h = tt
  curly_sound w f e [] t h = tt

  end_sound : (w : Word) (f : List Word) → w.kind ≡ End → (S : Stack) (t : Parse) → Stands S t (w ∷ f) → OnState (end_on S t) (Holds f)
  end_sound w f e [] t h = (w, e, h.kept, h.low, h.before)
  end_sound w f e (pending ∷ S) t h = tt

  have_sound : (S : Stack) (t : Parse) (w : Word) (f : List Word) (k : Kind) → w.kind ≡ k → Holds (w ∷ f) S (have t) → OnState (have_step T S t w k) (Holds f)
  have_sound S t w f Name e h = name_sound S t w f h
  have_sound S t w f Quoted e h = name_sound S t w f h
  have_sound S t w f Comma e h =
      with_tree_on (closed S t) (λ S' t'. Stands S' t' (w ∷ f)) (Holds f) (comma_on T S t w) (closed_stands S t (w ∷ f) h.0) (comma_sound S t w f h e)
  have_sound S t w f Bar e h =
      with_tree_on (closed S t) (λ S' t'. Stands S' t' (w ∷ f)) (Holds f) (bar_on T S t w) (closed_stands S t (w ∷ f) h.0) (bar_sound S t w f h e)
  have_sound S t w f CloseRound e h =
      with_tree_on (closed S t) (λ S' t'. Stands S' t' (w ∷ f)) (Holds f) (round_on w) (closed_stands S t (w ∷ f) h.0) (round_sound w f e)
  have_sound S t w f CloseSquare e h =
      with_tree_on (closed S t) (λ S' t'. Stands S' t' (w ∷ f)) (Holds f) (square_on w) (closed_stands S t (w ∷ f) h.0) (square_sound w f e)
  have_sound S t w f CloseCurly e h =
      with_tree_on (closed S t) (λ S' t'. Stands S' t' (w ∷ f)) (Holds f) (curly_on w) (closed_stands S t (w ∷ f) h.0) (curly_sound w f e)
  have_sound S t w f End e h =
      with_tree_on (closed S t) (λ S' t'. Stands S' t' (w ∷ f)) (Holds f) end_on (closed_stands S t (w ∷ f) h.0) (end_sound w f e)
  have_sound S t w f Variable e h = tt
  have_sound S t w f Integer e h = tt
  have_sound S t w f Float e h = tt
  have_sound S t w f Str e h = tt
  have_sound S t w f BackStr e h = tt
  have_sound S t w f OpenRound e h = tt
  have_sound S t w f OpenSquare e h = tt
  have_sound S t w f OpenCurly e h = tt

  pub act_sound : (S : Stack) (m : Mode) (w : Word) (f : List Word) → Holds (w ∷ f) S m → OnState (act T S m w f) (Holds f)
  act_sound S want w f h = want_sound S w f h
  act_sound S (minus d) w f h = (record { before = h.0; kept = h.1; low = omega arith }, λ p. tt)
  act_sound S (functor n) w f h = (h.1, h.0)
  act_sound S (have t) w f h = have_sound S t w f w.kind refl h
  act_sound S (done t) w f h = tt

  next_sound : (f : List Word) (o : Option State) → OnState o (Holds f)
      → ((st : State) → Holds f st.stack st.mode → OnState (run T f st) (Holds [])) → OnState (next o (λ st. run T f st)) (Holds [])
  next_sound f None h each = tt
  next_sound f (Some st) h each = each st h

  pub run_sound : (f : List Word) (st : State) → Holds f st.stack st.mode → OnState (run T f st) (Holds [])
  run_sound [] st h = h
  run_sound (w ∷ f) st h = next_sound f (act T st.stack st.mode w f) (act_sound st.stack st.mode w f h) (run_sound f)

-- the words that lead from the start to a tree are those of the tree and an End, and it is a clause
pub record IsReadAs (T : Table) (ws : List Word) (t : Parse) : Type 0 where
  pub end : Word
  pub clause : IsClause T t end
  pub words : ws ≡ yield t ++ end ∷ []

pub read_sound : (T : Table) (ws : List Word) (S : Stack) (t : Parse) → run T ws (at [] want) ≡ Some (at S (done t)) → IsReadAs T ws t
read_sound T ws S t is =
    of (subst (λ o. OnState o (Holds T ws [])) is (run_sound T ws ws (at [] want) refl))
  where
    of : Holds T ws [] S (done t) → IsReadAs T ws t
    of h = record { end = h.0; clause = record { kept = h.2; within = h.3; ends = h.1 }; words = h.4 }
