-- A clause is read, and no other clause has its words.
use Rattle.std.proofs.Common.{ℕ, ◌≡◌, ◌≤◌, ◌<◌, inl, inr, Bool, true, false, cond, not, ◌&&◌, ◌||◌, List, [], ◌∷◌, ◌++◌, Option, Some, None, is_some, nat_lt, nat_le, arith, refl, ap, sym, ◌∙◌, append_assoc}
use Rattle.std.specs.Prelude.{codes}
use Rattle.std.specs.Str.{bytes_eq}
use Rattle.std.proofs.lemmas.Bool.Decides.{nat_tests}
use Rattle.prolog_tokens.specs.declared.token.Kind.{Kind}
use Rattle.prolog_tokens.specs.declared.token.Kind.TheVariants.{Name, Quoted, Variable, Integer, Float, Str, BackStr, OpenRound, CloseRound, OpenSquare, CloseSquare, OpenCurly, CloseCurly, Comma, Bar, End}
use Rattle.prolog_terms.specs.Words.{Word, Table, sides_of, is_name, is_unquoted, is_leaf, is_number, is_open_round, is_minus, opens, number_next, atom_rule, is_functor, is_negative, is_atom, is_prefix}
use Rattle.prolog_terms.specs.Grammar.{Parse, Parts, GroupStart, call, square, leaf, negative, bare, pair, group, tailed, wrapped, prefixed, infixed, postfixed, one, more, yield, parts_yield, priority, IsAboveSpine, Closes, IsKept, AreKept, IsClause}
use Rattle.prolog_terms.specs.ReaderSteps.{prefix_open, infix_open, first_open, next_open, tail_open, wrap_open, Stack, Mode, want, minus, functor, have, done, State, at, goes, bound, reduced, closed, is_curly, want_other, want_step, infix_on, postfix_on, with_tree, infix_step, name_step, comma_on, bar_on, round_on, square_on, curly_on, end_on, have_step, act, next, run}
use Rattle.prolog_terms.proofs.ReaderTables.{IsTable, can_be_infix}

-- the stack with the operators of the tree's right spine, and the operand at its end
abbrev pub onto : Parse → Stack → Stack
onto (prefixed w r) S = onto r (prefix_open w ∷ S)
onto (infixed l w r) S = onto r (infix_open l w ∷ S)
onto _ S = S

abbrev pub last : Parse → Parse
last (prefixed w r) = last r
last (infixed l w r) = last r
last t = t

-- the right bounds of open operators never rise up to the innermost bracket
abbrev pub Falls : Table → Stack → Type 0
Falls T (prefix_open w ∷ S) = ((sides_of (T.prefix w)).right ≤ bound T S) × Falls T S
Falls T (infix_open l w ∷ S) = ((sides_of (T.infix_ w)).right ≤ bound T S) × Falls T S
Falls T _ = Unit {0}

-- one of five, by four tests

module _ {A : Type 0} (b1 b2 b3 b4 : Bool) (x1 x2 x3 x4 x5 : A) where
  pub first_of_five : b1 ≡ true → cond b1 x1 (cond b2 x2 (cond b3 x3 (cond b4 x4 x5))) ≡ x1
  first_of_five e = ap (λ b. cond b x1 (cond b2 x2 (cond b3 x3 (cond b4 x4 x5)))) e

  pub second_of_five : b1 ≡ false → b2 ≡ true → cond b1 x1 (cond b2 x2 (cond b3 x3 (cond b4 x4 x5))) ≡ x2
  second_of_five e f = ap (λ b. cond b x1 (cond b2 x2 (cond b3 x3 (cond b4 x4 x5)))) e ∙ ap (λ b. cond b x2 (cond b3 x3 (cond b4 x4 x5))) f

  pub third_of_five : b1 ≡ false → b2 ≡ false → b3 ≡ true → cond b1 x1 (cond b2 x2 (cond b3 x3 (cond b4 x4 x5))) ≡ x3
  third_of_five e f g =
      ap (λ b. cond b x1 (cond b2 x2 (cond b3 x3 (cond b4 x4 x5)))) e ∙ ap (λ b. cond b x2 (cond b3 x3 (cond b4 x4 x5))) f ∙ ap (λ b. cond b x3 (cond b4 x4 x5)) g

  pub fourth_of_five : b1 ≡ false → b2 ≡ false → b3 ≡ false → b4 ≡ true → cond b1 x1 (cond b2 x2 (cond b3 x3 (cond b4 x4 x5))) ≡ x4
  fourth_of_five e f g h =
      ap (λ b. cond b x1 (cond b2 x2 (cond b3 x3 (cond b4 x4 x5)))) e ∙ ap (λ b. cond b x2 (cond b3 x3 (cond b4 x4 x5))) f ∙ ap (λ b. cond b x3 (cond b4 x4 x5)) g
      ∙ ap (λ b. cond b x4 x5) h

  pub fifth_of_five : b1 ≡ false → b2 ≡ false → b3 ≡ false → b4 ≡ false → cond b1 x1 (cond b2 x2 (cond b3 x3 (cond b4 x4 x5))) ≡ x5
  fifth_of_five e f g h =
      ap (λ b. cond b x1 (cond b2 x2 (cond b3 x3 (cond b4 x4 x5)))) e ∙ ap (λ b. cond b x2 (cond b3 x3 (cond b4 x4 x5))) f ∙ ap (λ b. cond b x3 (cond b4 x4 x5)) g
      ∙ ap (λ b. cond b x4 x5) h

-- the tests of a name exclude one another

pub functor_false : (name opening numeric rest : Bool) → (name && not opening && not numeric && rest) ≡ true → (name && opening) ≡ false
functor_false true true numeric rest h = cc
functor_false true false numeric rest h = refl
functor_false false opening numeric rest h = refl

pub negative_false : (name opening numeric rest : Bool) → (name && not opening && not numeric && rest) ≡ true → numeric ≡ false
negative_false true true numeric rest h = cc
negative_false true false true rest h = cc
negative_false true false false rest h = refl
negative_false false opening numeric rest h = cc

pub prefix_functor_false : (name prefix opening numeric rule : Bool) → (name && prefix && not opening && not numeric && not rule) ≡ true → (name && opening) ≡ false
prefix_functor_false true true true numeric rule h = cc
prefix_functor_false true true false numeric rule h = refl
prefix_functor_false true false opening numeric rule h = cc
prefix_functor_false false prefix opening numeric rule h = refl

pub prefix_negative_false : (name prefix opening numeric rule : Bool) → (name && prefix && not opening && not numeric && not rule) ≡ true → numeric ≡ false
prefix_negative_false true true true numeric rule h = cc
prefix_negative_false true true false true rule h = cc
prefix_negative_false true true false false rule h = refl
prefix_negative_false true false opening numeric rule h = cc
prefix_negative_false false prefix opening numeric rule h = cc

pub prefix_atom_false : (name prefix opening numeric rule : Bool) → (name && prefix && not opening && not numeric && not rule) ≡ true
    → (name && not opening && not numeric && (not prefix || rule)) ≡ false
prefix_atom_false true true true numeric rule h = cc
prefix_atom_false true true false true rule h = cc
prefix_atom_false true true false false true h = cc
prefix_atom_false true true false false false h = refl
prefix_atom_false true false opening numeric rule h = cc
prefix_atom_false false prefix opening numeric rule h = cc

pub and_left : (a b : Bool) → (a && b) ≡ true → a ≡ true
and_left true b h = refl
and_left false b h = cc

pub and_right : (a b : Bool) → (a && b) ≡ true → b ≡ true
and_right true b h = h
and_right false b h = cc

pub and_both : (a b : Bool) → a ≡ true → b ≡ true → (a && b) ≡ true
and_both true b e f = f
and_both false b e f = cc

-- a name is no other kind of operand

pub unquoted_name : (k : Kind) → is_name k ≡ false → is_unquoted k ≡ false
unquoted_name Name h = cc
unquoted_name Quoted h = refl
unquoted_name Variable h = refl
unquoted_name Integer h = refl
unquoted_name Float h = refl
unquoted_name Str h = refl
unquoted_name BackStr h = refl
unquoted_name OpenRound h = refl
unquoted_name CloseRound h = refl
unquoted_name OpenSquare h = refl
unquoted_name CloseSquare h = refl
unquoted_name OpenCurly h = refl
unquoted_name CloseCurly h = refl
unquoted_name Comma h = refl
unquoted_name Bar h = refl
unquoted_name End h = refl

pub number_opens : (k : Kind) → is_number k ≡ true → is_open_round k ≡ false
number_opens Integer h = refl
number_opens Float h = refl
number_opens Name h = cc
number_opens Quoted h = cc
number_opens Variable h = cc
number_opens Str h = cc
number_opens BackStr h = cc
number_opens OpenRound h = cc
number_opens CloseRound h = cc
number_opens OpenSquare h = cc
number_opens CloseSquare h = cc
number_opens OpenCurly h = cc
number_opens CloseCurly h = cc
number_opens Comma h = cc
number_opens Bar h = cc
number_opens End h = cc

leaf_name : (k : Kind) → is_leaf k ≡ true → is_name k ≡ false
leaf_name Variable h = refl
leaf_name Integer h = refl
leaf_name Float h = refl
leaf_name Str h = refl
leaf_name BackStr h = refl
leaf_name Name h = cc
leaf_name Quoted h = cc
leaf_name OpenRound h = cc
leaf_name CloseRound h = cc
leaf_name OpenSquare h = cc
leaf_name CloseSquare h = cc
leaf_name OpenCurly h = cc
leaf_name CloseCurly h = cc
leaf_name Comma h = cc
leaf_name Bar h = cc
leaf_name End h = cc

leaf_goes : (S : Stack) (w : Word) (k : Kind) → is_leaf k ≡ true → want_other S w k ≡ goes S (have (leaf w))
leaf_goes S w Variable h = refl
leaf_goes S w Integer h = refl
leaf_goes S w Float h = refl
leaf_goes S w Str h = refl
leaf_goes S w BackStr h = refl
leaf_goes S w Name h = cc
leaf_goes S w Quoted h = cc
leaf_goes S w OpenRound h = cc
leaf_goes S w CloseRound h = cc
leaf_goes S w OpenSquare h = cc
leaf_goes S w CloseSquare h = cc
leaf_goes S w OpenCurly h = cc
leaf_goes S w CloseCurly h = cc
leaf_goes S w Comma h = cc
leaf_goes S w Bar h = cc
leaf_goes S w End h = cc

-- closing and reducing a spine

pub closed_onto : (t : Parse) (S : Stack) → closed (onto t S) (last t) ≡ closed S t
closed_onto (prefixed w r) S = closed_onto r (prefix_open w ∷ S)
closed_onto (infixed l w r) S = closed_onto r (infix_open l w ∷ S)
closed_onto (leaf w) S = refl
closed_onto (negative w n) S = refl
closed_onto (bare w) S = refl
closed_onto (pair o c) S = refl
closed_onto (group g xs c) S = refl
closed_onto (tailed o xs b t c) S = refl
closed_onto (wrapped o t c) S = refl
closed_onto (postfixed l w) S = refl

module _ (T : Table) where
  pub reduced_onto : (t : Parse) (p : ℕ) (S : Stack) → IsAboveSpine T p t → reduced T p (onto t S) (last t) ≡ reduced T p S t
  reduced_onto (prefixed w r) p S above =
      reduced_onto r p (prefix_open w ∷ S) above.1
      ∙ ap (λ b. cond b (reduced T p S (prefixed w r)) (at (prefix_open w ∷ S) (have r))) (lt_true (sides_of (T.prefix w)).right p above.0)
    where
      lt_true : (a b : ℕ) → a < b → nat_lt a b ≡ true
      lt_true a b h = grind (arith, nat_tests)
  reduced_onto (infixed l w r) p S above =
      reduced_onto r p (infix_open l w ∷ S) above.1
      ∙ ap (λ b. cond b (reduced T p S (infixed l w r)) (at (infix_open l w ∷ S) (have r))) (lt_true (sides_of (T.infix_ w)).right p above.0)
    where
      lt_true : (a b : ℕ) → a < b → nat_lt a b ≡ true
      lt_true a b h = grind (arith, nat_tests)
  reduced_onto (leaf w) p S above = refl
  reduced_onto (negative w n) p S above = refl
  reduced_onto (bare w) p S above = refl
  reduced_onto (pair o c) p S above = refl
  reduced_onto (group g xs c) p S above = refl
  reduced_onto (tailed o xs b t c) p S above = refl
  reduced_onto (wrapped o t c) p S above = refl
  reduced_onto (postfixed l w) p S above = refl

  pub reduced_stop : (p : ℕ) (S : Stack) (t : Parse) → p ≤ bound T S → reduced T p S t ≡ at S (have t)
  reduced_stop p (prefix_open w ∷ S) t low =
      ap (λ b. cond b (reduced T p S (prefixed w t)) (at (prefix_open w ∷ S) (have t))) (ge_false (sides_of (T.prefix w)).right p low)
    where
      ge_false : (a b : ℕ) → b ≤ a → nat_lt a b ≡ false
      ge_false a b h = grind (arith, nat_tests)
  reduced_stop p (infix_open l w ∷ S) t low =
      ap (λ b. cond b (reduced T p S (infixed l w t)) (at (infix_open l w ∷ S) (have t))) (ge_false (sides_of (T.infix_ w)).right p low)
    where
      ge_false : (a b : ℕ) → b ≤ a → nat_lt a b ≡ false
      ge_false a b h = grind (arith, nat_tests)
  reduced_stop p (first_open g ∷ S) t low = refl
  reduced_stop p (next_open g xs c ∷ S) t low = refl
  reduced_stop p (tail_open o xs b ∷ S) t low = refl
  reduced_stop p (wrap_open o ∷ S) t low = refl
  reduced_stop p [] t low = refl

  -- a comma and a bar are operators where no bracket of arguments is innermost

  comma_falls : (S : Stack) (t : Parse) (S0 : Stack) (t0 : Parse) (w : Word) → Falls T S → 999 < bound T S
      → with_tree (closed S t) (comma_on T S0 t0 w) ≡ infix_step T S0 t0 w
  comma_falls (prefix_open v ∷ S) t S0 t0 w falls high = comma_falls S (prefixed v t) S0 t0 w falls.1 (omega (arith, falls.0, high))
  comma_falls (infix_open l v ∷ S) t S0 t0 w falls high = comma_falls S (infixed l v t) S0 t0 w falls.1 (omega (arith, falls.0, high))
  comma_falls (first_open g ∷ S) t S0 t0 w falls high = absurd (omega (arith, high))
  comma_falls (next_open g xs c ∷ S) t S0 t0 w falls high = absurd (omega (arith, high))
  comma_falls (tail_open o xs b ∷ S) t S0 t0 w falls high = absurd (omega (arith, high))
  comma_falls (wrap_open o ∷ S) t S0 t0 w falls high = refl
  comma_falls [] t S0 t0 w falls high = refl

  bar_falls : (S : Stack) (t : Parse) (S0 : Stack) (t0 : Parse) (w : Word) → Falls T S → 999 < bound T S
      → with_tree (closed S t) (bar_on T S0 t0 w) ≡ infix_step T S0 t0 w
  bar_falls (prefix_open v ∷ S) t S0 t0 w falls high = bar_falls S (prefixed v t) S0 t0 w falls.1 (omega (arith, falls.0, high))
  bar_falls (infix_open l v ∷ S) t S0 t0 w falls high = bar_falls S (infixed l v t) S0 t0 w falls.1 (omega (arith, falls.0, high))
  bar_falls (first_open g ∷ S) t S0 t0 w falls high = absurd (omega (arith, high))
  bar_falls (next_open g xs c ∷ S) t S0 t0 w falls high = absurd (omega (arith, high))
  bar_falls (tail_open o xs b ∷ S) t S0 t0 w falls high = absurd (omega (arith, high))
  bar_falls (wrap_open o ∷ S) t S0 t0 w falls high = refl
  bar_falls [] t S0 t0 w falls high = refl

  -- what a word does where an operand is wanted

  module _ (S : Stack) (w : Word) (f : List Word) where
    abbrev prefix_goes : Option State
    prefix_goes = cond (nat_le (sides_of (T.prefix w)).priority (bound T S)) (goes (prefix_open w ∷ S) want) None

    pub functor_step : is_functor w f ≡ true → want_step T S w f ≡ goes S (functor w)
    functor_step e =
        first_of_five (is_functor w f) (is_negative w f) (is_atom T w f) (is_prefix T w f)
        (goes S (functor w)) (goes S (minus w)) (goes S (have (bare w))) prefix_goes (want_other S w w.kind) e

    pub negative_step : is_functor w f ≡ false → is_negative w f ≡ true → want_step T S w f ≡ goes S (minus w)
    negative_step e g =
        second_of_five (is_functor w f) (is_negative w f) (is_atom T w f) (is_prefix T w f)
        (goes S (functor w)) (goes S (minus w)) (goes S (have (bare w))) prefix_goes (want_other S w w.kind) e g

    pub bare_step : is_atom T w f ≡ true → want_step T S w f ≡ goes S (have (bare w))
    bare_step e =
        third_of_five (is_functor w f) (is_negative w f) (is_atom T w f) (is_prefix T w f)
        (goes S (functor w)) (goes S (minus w)) (goes S (have (bare w))) prefix_goes (want_other S w w.kind)
        (functor_false (is_name w.kind) (opens f) (is_negative w f) (not (is_some (T.prefix w)) || atom_rule T f) e)
        (negative_false (is_name w.kind) (opens f) (is_negative w f) (not (is_some (T.prefix w)) || atom_rule T f) e) e

    pub prefix_step : is_prefix T w f ≡ true → (sides_of (T.prefix w)).priority ≤ bound T S → want_step T S w f ≡ goes (prefix_open w ∷ S) want
    prefix_step e low =
        fourth_of_five (is_functor w f) (is_negative w f) (is_atom T w f) (is_prefix T w f)
        (goes S (functor w)) (goes S (minus w)) (goes S (have (bare w))) prefix_goes (want_other S w w.kind)
        (prefix_functor_false (is_name w.kind) (is_some (T.prefix w)) (opens f) (is_negative w f) (atom_rule T f) e)
        (prefix_negative_false (is_name w.kind) (is_some (T.prefix w)) (opens f) (is_negative w f) (atom_rule T f) e)
        (prefix_atom_false (is_name w.kind) (is_some (T.prefix w)) (opens f) (is_negative w f) (atom_rule T f) e) e
        ∙ ap (λ b. cond b (goes (prefix_open w ∷ S) want) None) (within (sides_of (T.prefix w)).priority (bound T S) low)
      where
        within : (a b : ℕ) → a ≤ b → nat_le a b ≡ true
        within a b h = grind (arith, nat_tests)

    pub other_step : is_name w.kind ≡ false → want_step T S w f ≡ want_other S w w.kind
    other_step h =
        fifth_of_five (is_functor w f) (is_negative w f) (is_atom T w f) (is_prefix T w f)
        (goes S (functor w)) (goes S (minus w)) (goes S (have (bare w))) prefix_goes (want_other S w w.kind)
        (ap (λ b. b && opens f) h)
        (ap (λ b. b && bytes_eq w.text (codes "-") && number_next f) (unquoted_name w.kind h))
        (ap (λ b. b && not (opens f) && not (is_negative w f) && (not (is_some (T.prefix w)) || atom_rule T f)) h)
        (ap (λ b. b && is_some (T.prefix w) && not (opens f) && not (is_negative w f) && not (atom_rule T f)) h)

    pub kind_step : (k : Kind) → w.kind ≡ k → is_name k ≡ false → want_step T S w f ≡ want_other S w k
    kind_step k e h = other_step (ap is_name e ∙ h) ∙ ap (λ x. want_other S w x) e

  and_false : (a : Bool) → (a && false) ≡ false
  and_false true = refl
  and_false false = refl

  number_not_open : (f : List Word) → number_next f ≡ true → opens f ≡ false
  number_not_open [] h = cc
  number_not_open (n ∷ f) h = ap (λ b. b && not n.after_layout) (number_opens n.kind (and_left (is_number n.kind) (not n.after_layout) h))

  -- one step of a run
  pub step : (w : Word) (f : List Word) (S : Stack) (m : Mode) (S' : Stack) (m' : Mode) → act T S m w f ≡ goes S' m'
      → run T (w ∷ f) (at S m) ≡ run T f (at S' m')
  step w f S m S' m' e = ap (λ o. next o (λ st. run T f st)) e

  within_true : (a b : ℕ) → a ≤ b → nat_le a b ≡ true
  within_true a b h = grind (arith, nat_tests)

  infix_goes : (l : Parse) (S : Stack) (w : Word) → is_some (T.infix_ w) ≡ true → IsAboveSpine T (sides_of (T.infix_ w)).priority l
      → (sides_of (T.infix_ w)).priority ≤ bound T S → priority T l ≤ (sides_of (T.infix_ w)).left
      → infix_step T (onto l S) (last l) w ≡ goes (infix_open l w ∷ S) want
  infix_goes l S w some above low fits =
      let p : ℕ = (sides_of (T.infix_ w)).priority in
      ap (λ b. cond b (with_tree (reduced T p (onto l S) (last l)) (λ S' t'. infix_on T S' t' w)) None) some
      ∙ ap (λ st. with_tree st (λ S' t'. infix_on T S' t' w)) (reduced_onto l p S above ∙ reduced_stop p S l low)
      ∙ ap (λ b. cond b (goes (infix_open l w ∷ S) want) None)
      (and_both (nat_le p (bound T S)) (nat_le (priority T l) (sides_of (T.infix_ w)).left) (within_true p (bound T S) low) (within_true (priority T l) (sides_of (T.infix_ w)).left fits))

  postfix_goes : (l : Parse) (S : Stack) (w : Word) → is_some (T.infix_ w) ≡ false → is_some (T.postfix w) ≡ true → IsAboveSpine T (sides_of (T.postfix w)).priority l
      → (sides_of (T.postfix w)).priority ≤ bound T S → priority T l ≤ (sides_of (T.postfix w)).left
      → name_step T (onto l S) (last l) w ≡ goes S (have (postfixed l w))
  postfix_goes l S w none some above low fits =
      let p : ℕ = (sides_of (T.postfix w)).priority in
      ap (λ b. cond b (infix_step T (onto l S) (last l) w) (cond (is_some (T.postfix w)) (with_tree (reduced T p (onto l S) (last l)) (λ S' t'. postfix_on T S' t' w)) None)) none
      ∙ ap (λ b. cond b (with_tree (reduced T p (onto l S) (last l)) (λ S' t'. postfix_on T S' t' w)) None) some
      ∙ ap (λ st. with_tree st (λ S' t'. postfix_on T S' t' w)) (reduced_onto l p S above ∙ reduced_stop p S l low)
      ∙ ap (λ b. cond b (goes S (have (postfixed l w))) None)
      (and_both (nat_le p (bound T S)) (nat_le (priority T l) (sides_of (T.postfix w)).left) (within_true p (bound T S) low) (within_true (priority T l) (sides_of (T.postfix w)).left fits))

  -- a word behind an operand whose kind can be infix is an infix operator
  infix_kind_goes : (l : Parse) (S : Stack) (w : Word) (k : Kind) → can_be_infix k ≡ true → is_some (T.infix_ w) ≡ true
      → Falls T S → (k ≡ Comma → 999 < bound T S) → (k ≡ Bar → 999 < bound T S)
      → have_step T (onto l S) (last l) w k ≡ infix_step T (onto l S) (last l) w
  infix_kind_goes l S w Name h some falls comma bar =
      ap (λ b. cond b (infix_step T (onto l S) (last l) w) (cond (is_some (T.postfix w)) (with_tree (reduced T (sides_of (T.postfix w)).priority (onto l S) (last l)) (λ S' t'. postfix_on T S' t' w)) None)) some
  infix_kind_goes l S w Quoted h some falls comma bar =
      ap (λ b. cond b (infix_step T (onto l S) (last l) w) (cond (is_some (T.postfix w)) (with_tree (reduced T (sides_of (T.postfix w)).priority (onto l S) (last l)) (λ S' t'. postfix_on T S' t' w)) None)) some
  infix_kind_goes l S w Comma h some falls comma bar =
      ap (λ st. with_tree st (comma_on T (onto l S) (last l) w)) (closed_onto l S) ∙ comma_falls S l (onto l S) (last l) w falls (comma refl)
  infix_kind_goes l S w Bar h some falls comma bar =
      ap (λ st. with_tree st (bar_on T (onto l S) (last l) w)) (closed_onto l S) ∙ bar_falls S l (onto l S) (last l) w falls (bar refl)
  infix_kind_goes l S w Variable h some falls comma bar = cc
  infix_kind_goes l S w Integer h some falls comma bar = cc
  infix_kind_goes l S w Float h some falls comma bar = cc
  infix_kind_goes l S w Str h some falls comma bar = cc
  infix_kind_goes l S w BackStr h some falls comma bar = cc
  infix_kind_goes l S w OpenRound h some falls comma bar = cc
  infix_kind_goes l S w CloseRound h some falls comma bar = cc
  infix_kind_goes l S w OpenSquare h some falls comma bar = cc
  infix_kind_goes l S w CloseSquare h some falls comma bar = cc
  infix_kind_goes l S w OpenCurly h some falls comma bar = cc
  infix_kind_goes l S w CloseCurly h some falls comma bar = cc
  infix_kind_goes l S w End h some falls comma bar = cc

  pub name_kind_goes : (S : Stack) (t : Parse) (w : Word) (k : Kind) → is_name k ≡ true → have_step T S t w k ≡ name_step T S t w
  name_kind_goes S t w Name h = refl
  name_kind_goes S t w Quoted h = refl
  name_kind_goes S t w Variable h = cc
  name_kind_goes S t w Integer h = cc
  name_kind_goes S t w Float h = cc
  name_kind_goes S t w Str h = cc
  name_kind_goes S t w BackStr h = cc
  name_kind_goes S t w OpenRound h = cc
  name_kind_goes S t w CloseRound h = cc
  name_kind_goes S t w OpenSquare h = cc
  name_kind_goes S t w CloseSquare h = cc
  name_kind_goes S t w OpenCurly h = cc
  name_kind_goes S t w CloseCurly h = cc
  name_kind_goes S t w Comma h = cc
  name_kind_goes S t w Bar h = cc
  name_kind_goes S t w End h = cc

  -- the bracket of these parts, open for the last of them
  abbrev pub parts_open : GroupStart → Parts → Stack → Stack
  parts_open g (one t) S = first_open g ∷ S
  parts_open g (more xs w t) S = next_open g xs w ∷ S

  abbrev pub last_part : Parts → Parse
  last_part (one t) = t
  last_part (more xs w t) = t

  -- the word behind the last part
  module _ (S : Stack) (w : Word) where
    comma_goes : (g : GroupStart) (xs : Parts) → w.kind ≡ Comma
        → have_step T (onto (last_part xs) (parts_open g xs S)) (last (last_part xs)) w w.kind ≡ goes (next_open g xs w ∷ S) want
    comma_goes g (one t) e =
        let S1 : Stack = onto t (first_open g ∷ S) in
        ap (λ k. have_step T S1 (last t) w k) e ∙ ap (λ st. with_tree st (comma_on T S1 (last t) w)) (closed_onto t (first_open g ∷ S))
    comma_goes g (more xs c t) e =
        let S1 : Stack = onto t (next_open g xs c ∷ S) in
        ap (λ k. have_step T S1 (last t) w k) e ∙ ap (λ st. with_tree st (comma_on T S1 (last t) w)) (closed_onto t (next_open g xs c ∷ S))

    bar_goes : (o : Word) (xs : Parts) → w.kind ≡ Bar
        → have_step T (onto (last_part xs) (parts_open (square o) xs S)) (last (last_part xs)) w w.kind ≡ goes (tail_open o xs w ∷ S) want
    bar_goes o (one t) e =
        let S1 : Stack = onto t (first_open (square o) ∷ S) in
        ap (λ k. have_step T S1 (last t) w k) e ∙ ap (λ st. with_tree st (bar_on T S1 (last t) w)) (closed_onto t (first_open (square o) ∷ S))
    bar_goes o (more xs c t) e =
        let S1 : Stack = onto t (next_open (square o) xs c ∷ S) in
        ap (λ k. have_step T S1 (last t) w k) e ∙ ap (λ st. with_tree st (bar_on T S1 (last t) w)) (closed_onto t (next_open (square o) xs c ∷ S))

    group_goes : (g : GroupStart) (xs : Parts) → Closes g w
        → have_step T (onto (last_part xs) (parts_open g xs S)) (last (last_part xs)) w w.kind ≡ goes S (have (group g xs w))
    group_goes (call n b) (one t) e =
        let S1 : Stack = onto t (first_open (call n b) ∷ S) in
        ap (λ k. have_step T S1 (last t) w k) e ∙ ap (λ st. with_tree st (round_on w)) (closed_onto t (first_open (call n b) ∷ S))
    group_goes (call n b) (more xs c t) e =
        let S1 : Stack = onto t (next_open (call n b) xs c ∷ S) in
        ap (λ k. have_step T S1 (last t) w k) e ∙ ap (λ st. with_tree st (round_on w)) (closed_onto t (next_open (call n b) xs c ∷ S))
    group_goes (square o) (one t) e =
        let S1 : Stack = onto t (first_open (square o) ∷ S) in
        ap (λ k. have_step T S1 (last t) w k) e ∙ ap (λ st. with_tree st (square_on w)) (closed_onto t (first_open (square o) ∷ S))
    group_goes (square o) (more xs c t) e =
        let S1 : Stack = onto t (next_open (square o) xs c ∷ S) in
        ap (λ k. have_step T S1 (last t) w k) e ∙ ap (λ st. with_tree st (square_on w)) (closed_onto t (next_open (square o) xs c ∷ S))

    tailed_goes : (o : Word) (xs : Parts) (b : Word) (t : Parse) → w.kind ≡ CloseSquare
        → have_step T (onto t (tail_open o xs b ∷ S)) (last t) w w.kind ≡ goes S (have (tailed o xs b t w))
    tailed_goes o xs b t e =
        ap (λ k. have_step T (onto t (tail_open o xs b ∷ S)) (last t) w k) e ∙ ap (λ st. with_tree st (square_on w)) (closed_onto t (tail_open o xs b ∷ S))

    round_goes : (o : Word) (t : Parse) → o.kind ≡ OpenRound → w.kind ≡ CloseRound
        → have_step T (onto t (wrap_open o ∷ S)) (last t) w w.kind ≡ goes S (have (wrapped o t w))
    round_goes o t e h =
        ap (λ k. have_step T (onto t (wrap_open o ∷ S)) (last t) w k) h ∙ ap (λ st. with_tree st (round_on w)) (closed_onto t (wrap_open o ∷ S))
        ∙ ap (λ k. cond (is_curly k) None (goes S (have (wrapped o t w)))) e

    curly_goes : (o : Word) (t : Parse) → o.kind ≡ OpenCurly → w.kind ≡ CloseCurly
        → have_step T (onto t (wrap_open o ∷ S)) (last t) w w.kind ≡ goes S (have (wrapped o t w))
    curly_goes o t e h =
        ap (λ k. have_step T (onto t (wrap_open o ∷ S)) (last t) w k) h ∙ ap (λ st. with_tree st (curly_on w)) (closed_onto t (wrap_open o ∷ S))
        ∙ ap (λ k. cond (is_curly k) (goes S (have (wrapped o t w))) None) e

  -- where an operand is wanted, the words of a lawful tree leave it behind, with the operators of its right spine open
  module _ (ok : IsTable T) where
    mutual
      pub reads : (t : Parse) (S : Stack) (f : List Word) → IsKept T t f → priority T t ≤ bound T S → Falls T S
          → run T (yield t ++ f) (at S want) ≡ run T f (at (onto t S) (have (last t)))
      reads (leaf w) S f kept low falls =
          step w f S want S (have (leaf w)) (other_step S w f (leaf_name w.kind kept) ∙ leaf_goes S w w.kind kept)
      reads (negative w n) S f kept low falls =
          step w (n ∷ f) S want S (minus w)
          (negative_step S w (n ∷ f)
          (ap (λ b. is_name w.kind && b) (number_not_open (n ∷ f) (and_right (is_minus w) (number_next (n ∷ f)) kept)) ∙ and_false (is_name w.kind)) kept)
          ∙ step n f S (minus w) S (have (negative w n)) refl
      reads (bare w) S f kept low falls = step w f S want S (have (bare w)) (bare_step S w f kept)
      reads (pair o c) S f kept low falls =
          elim kept [
            | inl is ↦ step o (c ∷ f) S want (first_open (square o) ∷ S) want (kind_step S o (c ∷ f) OpenSquare is.0 refl)
                ∙ step c f (first_open (square o) ∷ S) want S (have (pair o c)) (kind_step (first_open (square o) ∷ S) c f CloseSquare is.1 refl)
            | inr is ↦ step o (c ∷ f) S want (wrap_open o ∷ S) want (kind_step S o (c ∷ f) OpenCurly is.0 refl)
                ∙ step c f (wrap_open o ∷ S) want S (have (pair o c))
                (kind_step (wrap_open o ∷ S) c f CloseCurly is.1 refl ∙ ap (λ k. cond (is_curly k) (goes S (have (pair o c))) None) is.0)
          ]
      reads (group (call n b) xs c) S f kept low falls =
          ap (λ ws. run T (n ∷ b ∷ ws) (at S want)) (append_assoc (parts_yield xs) (c ∷ []) f)
          ∙ step n (b ∷ (parts_yield xs ++ c ∷ f)) S want S (functor n) (functor_step S n (b ∷ (parts_yield xs ++ c ∷ f)) kept.0)
          ∙ step b (parts_yield xs ++ c ∷ f) S (functor n) (first_open (call n b) ∷ S) want refl
          ∙ reads_parts xs (call n b) S (c ∷ f) kept.1
          ∙ step c f (onto (last_part xs) (parts_open (call n b) xs S)) (have (last (last_part xs))) S (have (group (call n b) xs c)) (group_goes S c (call n b) xs kept.2)
      reads (group (square o) xs c) S f kept low falls =
          ap (λ ws. run T (o ∷ ws) (at S want)) (append_assoc (parts_yield xs) (c ∷ []) f)
          ∙ step o (parts_yield xs ++ c ∷ f) S want (first_open (square o) ∷ S) want (kind_step S o (parts_yield xs ++ c ∷ f) OpenSquare kept.0 refl)
          ∙ reads_parts xs (square o) S (c ∷ f) kept.1
          ∙ step c f (onto (last_part xs) (parts_open (square o) xs S)) (have (last (last_part xs))) S (have (group (square o) xs c)) (group_goes S c (square o) xs kept.2)
      reads (tailed o xs b t c) S f kept low falls =
          ap (λ ws. run T (o ∷ ws) (at S want))
          (append_assoc (parts_yield xs) (b ∷ (yield t ++ c ∷ [])) f ∙ ap (λ ws. parts_yield xs ++ b ∷ ws) (append_assoc (yield t) (c ∷ []) f))
          ∙ step o (parts_yield xs ++ b ∷ (yield t ++ c ∷ f)) S want (first_open (square o) ∷ S) want
          (kind_step S o (parts_yield xs ++ b ∷ (yield t ++ c ∷ f)) OpenSquare kept.0 refl)
          ∙ reads_parts xs (square o) S (b ∷ (yield t ++ c ∷ f)) kept.1
          ∙ step b (yield t ++ c ∷ f) (onto (last_part xs) (parts_open (square o) xs S)) (have (last (last_part xs))) (tail_open o xs b ∷ S) want (bar_goes S b o xs kept.2)
          ∙ reads t (tail_open o xs b ∷ S) (c ∷ f) kept.3 kept.4 tt
          ∙ step c f (onto t (tail_open o xs b ∷ S)) (have (last t)) S (have (tailed o xs b t c)) (tailed_goes S c o xs b t kept.5)
      reads (wrapped o t c) S f kept low falls =
          ap (λ ws. run T (o ∷ ws) (at S want)) (append_assoc (yield t) (c ∷ []) f)
          ∙ elim kept.0 [
            | inl is ↦ step o (yield t ++ c ∷ f) S want (wrap_open o ∷ S) want (kind_step S o (yield t ++ c ∷ f) OpenRound is.0 refl)
            | inr is ↦ step o (yield t ++ c ∷ f) S want (wrap_open o ∷ S) want (kind_step S o (yield t ++ c ∷ f) OpenCurly is.0 refl)
          ]
          ∙ reads t (wrap_open o ∷ S) (c ∷ f) kept.1 kept.2 tt
          ∙ elim kept.0 [
            | inl is ↦ step c f (onto t (wrap_open o ∷ S)) (have (last t)) S (have (wrapped o t c)) (round_goes S c o t is.0 is.1)
            | inr is ↦ step c f (onto t (wrap_open o ∷ S)) (have (last t)) S (have (wrapped o t c)) (curly_goes S c o t is.0 is.1)
          ]
      reads (prefixed w r) S f kept low falls =
          step w (yield r ++ f) S want (prefix_open w ∷ S) want (prefix_step S w (yield r ++ f) kept.0 low)
          ∙ reads r (prefix_open w ∷ S) f kept.1 kept.2 (omega (arith, low, ok.prefix_right w), falls)
      reads (infixed l w r) S f kept low falls =
          ap (λ ws. run T ws (at S want)) (append_assoc (yield l) (w ∷ yield r) f)
          ∙ reads l S (w ∷ (yield r ++ f)) kept.1 (omega (arith, low, kept.3, ok.infix_left w)) falls
          ∙ step w (yield r ++ f) (onto l S) (have (last l)) (infix_open l w ∷ S) want
          (infix_kind_goes l S w w.kind (ok.infix_kind w kept.0) kept.0 falls (λ e. omega (arith, low, ok.comma w e)) (λ e. omega (arith, low, ok.bar w e))
          ∙ infix_goes l S w kept.0 kept.5 low kept.3)
          ∙ reads r (infix_open l w ∷ S) f kept.2 kept.4 (omega (arith, low, ok.infix_right w), falls)
      reads (postfixed l w) S f kept low falls =
          ap (λ ws. run T ws (at S want)) (append_assoc (yield l) (w ∷ []) f)
          ∙ reads l S (w ∷ f) kept.1 (omega (arith, low, kept.2, ok.postfix_left w)) falls
          ∙ step w f (onto l S) (have (last l)) S (have (postfixed l w))
          (name_kind_goes (onto l S) (last l) w w.kind (ok.postfix_name w kept.0) ∙ postfix_goes l S w (ok.one_place w kept.0) kept.0 kept.3 low kept.2)

      pub reads_parts : (xs : Parts) (g : GroupStart) (S : Stack) (f : List Word) → AreKept T xs f
          → run T (parts_yield xs ++ f) (at (first_open g ∷ S) want) ≡ run T f (at (onto (last_part xs) (parts_open g xs S)) (have (last (last_part xs))))
      reads_parts (one t) g S f kept = reads t (first_open g ∷ S) f kept.0 kept.1 tt
      reads_parts (more xs w t) g S f kept =
          ap (λ ws. run T ws (at (first_open g ∷ S) want)) (append_assoc (parts_yield xs) (w ∷ yield t) f)
          ∙ reads_parts xs g S (w ∷ (yield t ++ f)) kept.0
          ∙ step w (yield t ++ f) (onto (last_part xs) (parts_open g xs S)) (have (last (last_part xs))) (next_open g xs w ∷ S) want (comma_goes S w g xs kept.1)
          ∙ reads t (next_open g xs w ∷ S) f kept.2 kept.3 tt

    -- the words of a clause and its End lead from the start to the clause
    pub reads_clause : (t : Parse) (e : Word) → IsClause T t e → run T (yield t ++ e ∷ []) (at [] want) ≡ Some (at [] (done t))
    reads_clause t e clause =
        reads t [] (e ∷ []) clause.kept clause.within tt
        ∙ step e [] (onto t []) (have (last t)) [] (done t)
        (ap (λ k. have_step T (onto t []) (last t) e k) clause.ends ∙ ap (λ st. with_tree st end_on) (closed_onto t []))

    abbrev mode_of : Option State → Mode
    mode_of None = want
    mode_of (Some st) = st.mode

    -- no two clauses have the same words
    pub one_clause : (a b : Parse) (e f : Word) → IsClause T a e → IsClause T b f → yield a ++ e ∷ [] ≡ yield b ++ f ∷ [] → a ≡ b
    one_clause a b e f first second same =
        let both : done a ≡ done b =
        ap mode_of (sym (reads_clause a e first) ∙ ap (λ ws. run T ws (at [] want)) same ∙ reads_clause b f second) in
        cc
