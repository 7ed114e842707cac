-- No word makes the clause less deep than it was bound to be.
use Rattle.std.proofs.Common.{ℕ, ◌≡◌, ◌≤◌, cond, ◌&&◌, List, [], ◌∷◌, Option, Some, None, is_some, nat_lt, nat_le, arith, refl, ap, subst}
use Rattle.prolog_tokens.specs.declared.token.Kind.{Kind}
use Rattle.prolog_tokens.specs.declared.token.Kind.TheVariants.{Name, Quoted, Variable, Integer, Float, Str, BackStr, OpenRound, CloseRound, OpenSquare, CloseSquare, OpenCurly, CloseCurly, Comma, Bar, End}
use Rattle.prolog_terms.specs.Words.{Word, Table, sides_of, is_functor, is_negative, is_atom, is_prefix}
use Rattle.prolog_terms.specs.Grammar.{Parse, call, square, bare, pair, wrapped, prefixed, infixed, postfixed, priority, parse_depth}
use Rattle.prolog_terms.specs.ReaderSteps.{prefix_open, infix_open, first_open, next_open, tail_open, wrap_open, Stack, Mode, want, minus, functor, have, done, State, at, goes, bound, reduced, closed, is_curly, square_pair, curly_pair, want_other, want_step, infix_on, postfix_on, with_tree, infix_step, name_step, comma_on, bar_on, round_on, square_on, curly_on, end_on, have_step, act, next, run}
use Rattle.prolog_terms.specs.ReaderDepth.{floor_of, want_floor, floor}
use Rattle.prolog_terms.proofs.ReaderSound.{OnState, OnTree, five_cases, guarded, unguarded, guarded_next, either_way, with_tree_on}

-- where an operand is wanted, one of depth 1 is enough
pub want_floor_low : (S : Stack) → want_floor S ≤ floor_of S 1
want_floor_low (first_open (square o) ∷ S) = omega arith
want_floor_low (wrap_open o ∷ S) =
    either_way (λ n. n ≤ floor_of (wrap_open o ∷ S) 1) (is_curly o.kind) (floor_of S 1) (floor_of (wrap_open o ∷ S) 1) (λ curly. omega arith) (omega arith)
want_floor_low (first_open (call f o) ∷ S) = omega arith
want_floor_low (next_open g xs c ∷ S) = omega arith
want_floor_low (tail_open o xs b ∷ S) = omega arith
want_floor_low (prefix_open w ∷ S) = omega arith
want_floor_low (infix_open l w ∷ S) = omega arith
want_floor_low [] = omega arith

want_floor_wrap : (o : Word) (S : Stack) → floor_of S 1 ≤ want_floor (wrap_open o ∷ S)
want_floor_wrap o S =
    either_way (λ n. floor_of S 1 ≤ n) (is_curly o.kind) (floor_of S 1) (floor_of (wrap_open o ∷ S) 1) (λ curly. omega arith) (omega arith)

closed_floor : (S : Stack) (t : Parse) → OnTree (closed S t) (λ S' t'. floor_of S' (parse_depth t') ≡ floor_of S (parse_depth t))
closed_floor (prefix_open w ∷ S) t =
    subst (λ n. OnTree (closed S (prefixed w t)) (λ S' t'. floor_of S' (parse_depth t') ≡ n)) (omega arith) (closed_floor S (prefixed w t))
closed_floor (infix_open l w ∷ S) t =
    subst (λ n. OnTree (closed S (infixed l w t)) (λ S' t'. floor_of S' (parse_depth t') ≡ n)) (omega arith) (closed_floor S (infixed l w t))
closed_floor (first_open g ∷ S) t = refl
closed_floor (next_open g xs c ∷ S) t = refl
closed_floor (tail_open o xs b ∷ S) t = refl
closed_floor (wrap_open o ∷ S) t = refl
closed_floor [] t = refl

module _ (T : Table) where
  reduced_floor : (p : ℕ) (S : Stack) (t : Parse) → OnTree (reduced T p S t) (λ S' t'. floor_of S' (parse_depth t') ≡ floor_of S (parse_depth t))
  reduced_floor p (prefix_open w ∷ S) t =
      either_way (λ st. OnTree st (λ S' t'. floor_of S' (parse_depth t') ≡ floor_of (prefix_open w ∷ S) (parse_depth t))) (nat_lt (sides_of (T.prefix w)).right p)
      (reduced T p S (prefixed w t)) (at (prefix_open w ∷ S) (have t))
      (λ over. subst (λ n. OnTree (reduced T p S (prefixed w t)) (λ S' t'. floor_of S' (parse_depth t') ≡ n)) (omega arith) (reduced_floor p S (prefixed w t)))
      refl
  reduced_floor p (infix_open l w ∷ S) t =
      either_way (λ st. OnTree st (λ S' t'. floor_of S' (parse_depth t') ≡ floor_of (infix_open l w ∷ S) (parse_depth t))) (nat_lt (sides_of (T.infix_ w)).right p)
      (reduced T p S (infixed l w t)) (at (infix_open l w ∷ S) (have t))
      (λ over. subst (λ n. OnTree (reduced T p S (infixed l w t)) (λ S' t'. floor_of S' (parse_depth t') ≡ n)) (omega arith) (reduced_floor p S (infixed l w t)))
      refl
  reduced_floor p (first_open g ∷ S) t = refl
  reduced_floor p (next_open g xs c ∷ S) t = refl
  reduced_floor p (tail_open o xs b ∷ S) t = refl
  reduced_floor p (wrap_open o ∷ S) t = refl
  reduced_floor p [] t = refl

  -- at least this floor
  abbrev pub AtLeast : ℕ → Option State → Type 0
  AtLeast n o = OnState o (λ S m. n ≤ floor S m)

  square_pair_floor : (S : Stack) (w : Word) → AtLeast (want_floor S) (square_pair S w)
  square_pair_floor (first_open (square o) ∷ S) w = omega arith
  square_pair_floor (first_open (call f o) ∷ S) w = tt
  square_pair_floor (next_open g xs c ∷ S) w = tt
  square_pair_floor (tail_open o xs b ∷ S) w = tt
  square_pair_floor (wrap_open o ∷ S) w = tt
  square_pair_floor (prefix_open v ∷ S) w = tt
  square_pair_floor (infix_open l v ∷ S) w = tt
  square_pair_floor [] w = tt

  curly_pair_floor : (S : Stack) (w : Word) → AtLeast (want_floor S) (curly_pair S w)
  curly_pair_floor (wrap_open o ∷ S) w =
      guarded (is_curly o.kind) (at S (have (pair o w))) (λ S' m. want_floor (wrap_open o ∷ S) ≤ floor S' m)
      (λ curly. let is : want_floor (wrap_open o ∷ S) ≡ floor_of S 1 = ap (λ b. cond b (floor_of S 1) (floor_of (wrap_open o ∷ S) 1)) curly in omega (arith, is))
  curly_pair_floor (first_open g ∷ S) w = tt
  curly_pair_floor (next_open g xs c ∷ S) w = tt
  curly_pair_floor (tail_open o xs b ∷ S) w = tt
  curly_pair_floor (prefix_open v ∷ S) w = tt
  curly_pair_floor (infix_open l v ∷ S) w = tt
  curly_pair_floor [] w = tt

  want_other_floor : (S : Stack) (w : Word) (k : Kind) → AtLeast (want_floor S) (want_other S w k)
  want_other_floor S w Variable = want_floor_low S
  want_other_floor S w Integer = want_floor_low S
  want_other_floor S w Float = want_floor_low S
  want_other_floor S w Str = want_floor_low S
  want_other_floor S w BackStr = want_floor_low S
  want_other_floor S w OpenRound = omega (arith, want_floor_low S, want_floor_wrap w S)
  want_other_floor S w OpenCurly = omega (arith, want_floor_low S, want_floor_wrap w S)
  want_other_floor S w OpenSquare = want_floor_low S
  want_other_floor S w CloseSquare = square_pair_floor S w
  want_other_floor S w CloseCurly = curly_pair_floor S w
  want_other_floor S w Name = tt
  want_other_floor S w Quoted = tt
  want_other_floor S w CloseRound = tt
  want_other_floor S w Comma = tt
  want_other_floor S w Bar = tt
  want_other_floor S w End = tt

  -- a word where an operand is wanted; a name counts for an operand of depth 1
  pub want_step_floor : (S : Stack) (w : Word) (f : List Word) → AtLeast (want_floor S) (want_step T S w f)
  want_step_floor S w f =
      five_cases (λ o. AtLeast (want_floor S) o) (is_functor w f) (is_negative w f) (is_atom T w f) (is_prefix T w f)
      (goes S (functor w)) (goes S (minus w)) (goes S (have (bare w)))
      (cond (nat_le (sides_of (T.prefix w)).priority (bound T S)) (goes (prefix_open w ∷ S) want) None) (want_other S w w.kind)
      (λ e. omega (arith, want_floor_low S)) (λ e. want_floor_low S) (λ e. want_floor_low S)
      (λ e. guarded (nat_le (sides_of (T.prefix w)).priority (bound T S)) (at (prefix_open w ∷ S) want) (λ S' m. want_floor S ≤ floor S' m)
      (λ low. omega (arith, want_floor_low S)))
      (want_other_floor S w w.kind)

  infix_on_floor : (S : Stack) (t : Parse) (w : Word) → AtLeast (floor_of S (parse_depth t)) (infix_on T S t w)
  infix_on_floor S t w =
      guarded (nat_le (sides_of (T.infix_ w)).priority (bound T S) && nat_le (priority T t) (sides_of (T.infix_ w)).left) (at (infix_open t w ∷ S) want)
      (λ S' m. floor_of S (parse_depth t) ≤ floor S' m) (λ both. omega arith)

  postfix_on_floor : (S : Stack) (t : Parse) (w : Word) → AtLeast (floor_of S (parse_depth t)) (postfix_on T S t w)
  postfix_on_floor S t w =
      guarded (nat_le (sides_of (T.postfix w)).priority (bound T S) && nat_le (priority T t) (sides_of (T.postfix w)).left) (at S (have (postfixed t w)))
      (λ S' m. floor_of S (parse_depth t) ≤ floor S' m) (λ both. omega arith)

  -- what follows on a tree of the same floor
  module _ (n : ℕ) where
    same_floor : (o : Option State) (S : Stack) (t : Parse) → floor_of S (parse_depth t) ≡ n → AtLeast (floor_of S (parse_depth t)) o → AtLeast n o
    same_floor o S t is h = subst (λ x. AtLeast x o) is h

    via_tree : (st : State) (go : Stack → Parse → Option State) → OnTree st (λ S t. floor_of S (parse_depth t) ≡ n)
        → ((S : Stack) (t : Parse) → AtLeast (floor_of S (parse_depth t)) (go S t)) → AtLeast n (with_tree st go)
    via_tree st go on each =
        with_tree_on st (λ S t. floor_of S (parse_depth t) ≡ n) (λ S m. n ≤ floor S m) go on (λ S t is. same_floor (go S t) S t is (each S t))

  infix_floor : (S : Stack) (t : Parse) (w : Word) → AtLeast (floor_of S (parse_depth t)) (infix_step T S t w)
  infix_floor S t w =
      guarded_next (is_some (T.infix_ w)) (with_tree (reduced T (sides_of (T.infix_ w)).priority S t) (λ S' t'. infix_on T S' t' w)) (λ S' m. floor_of S (parse_depth t) ≤ floor S' m)
      (λ some. via_tree (floor_of S (parse_depth t)) (reduced T (sides_of (T.infix_ w)).priority S t) (λ S' t'. infix_on T S' t' w)
      (reduced_floor (sides_of (T.infix_ w)).priority S t) (λ S' t'. infix_on_floor S' t' w))

  pub name_floor : (S : Stack) (t : Parse) (w : Word) → AtLeast (floor_of S (parse_depth t)) (name_step T S t w)
  name_floor S t w =
      either_way (λ o. AtLeast (floor_of S (parse_depth t)) o) (is_some (T.infix_ w)) (infix_step T S t w)
      (cond (is_some (T.postfix w)) (with_tree (reduced T (sides_of (T.postfix w)).priority S t) (λ S' t'. postfix_on T S' t' w)) None)
      (λ some. infix_floor S t w)
      (guarded_next (is_some (T.postfix w)) (with_tree (reduced T (sides_of (T.postfix w)).priority S t) (λ S' t'. postfix_on T S' t' w)) (λ S' m. floor_of S (parse_depth t) ≤ floor S' m)
      (λ some. via_tree (floor_of S (parse_depth t)) (reduced T (sides_of (T.postfix w)).priority S t) (λ S' t'. postfix_on T S' t' w)
      (reduced_floor (sides_of (T.postfix w)).priority S t) (λ S' t'. postfix_on_floor S' t' w)))

  module _ (S0 : Stack) (t0 : Parse) (w : Word) where
    comma_floor : (S : Stack) (t : Parse) → floor_of S (parse_depth t) ≡ floor_of S0 (parse_depth t0) → AtLeast (floor_of S0 (parse_depth t0)) (comma_on T S0 t0 w S t)
    comma_floor (first_open g ∷ S) t is = omega (arith, is)
    comma_floor (next_open g xs c ∷ S) t is = omega (arith, is)
    comma_floor (tail_open o xs b ∷ S) t is = tt
    comma_floor (wrap_open o ∷ S) t is = infix_floor S0 t0 w
    comma_floor (prefix_open v ∷ S) t is = infix_floor S0 t0 w
    comma_floor (infix_open l v ∷ S) t is = infix_floor S0 t0 w
    comma_floor [] t is = infix_floor S0 t0 w

    bar_floor : (S : Stack) (t : Parse) → floor_of S (parse_depth t) ≡ floor_of S0 (parse_depth t0) → AtLeast (floor_of S0 (parse_depth t0)) (bar_on T S0 t0 w S t)
    bar_floor (first_open (square o) ∷ S) t is = omega (arith, is)
    bar_floor (next_open (square o) xs c ∷ S) t is = omega (arith, is)
    bar_floor (first_open (call f o) ∷ S) t is = tt
    bar_floor (next_open (call f o) xs c ∷ S) t is = tt
    bar_floor (tail_open o xs b ∷ S) t is = tt
    bar_floor (wrap_open o ∷ S) t is = infix_floor S0 t0 w
    bar_floor (prefix_open v ∷ S) t is = infix_floor S0 t0 w
    bar_floor (infix_open l v ∷ S) t is = infix_floor S0 t0 w
    bar_floor [] t is = infix_floor S0 t0 w

  round_floor : (w : Word) (S : Stack) (t : Parse) → AtLeast (floor_of S (parse_depth t)) (round_on w S t)
  round_floor w (first_open (call f o) ∷ S) t = omega arith
  round_floor w (next_open (call f o) xs c ∷ S) t = omega arith
  round_floor w (wrap_open o ∷ S) t =
      unguarded (is_curly o.kind) (at S (have (wrapped o t w))) (λ S' m. floor_of (wrap_open o ∷ S) (parse_depth t) ≤ floor S' m) (λ round. omega arith)
  round_floor w (first_open (square o) ∷ S) t = tt
  round_floor w (next_open (square o) xs c ∷ S) t = tt
  round_floor w (tail_open o xs b ∷ S) t = tt
  round_floor w (prefix_open v ∷ S) t = tt
  round_floor w (infix_open l v ∷ S) t = tt
  round_floor w [] t = tt

  square_floor : (w : Word) (S : Stack) (t : Parse) → AtLeast (floor_of S (parse_depth t)) (square_on w S t)
  square_floor w (first_open (square o) ∷ S) t = omega arith
  square_floor w (next_open (square o) xs c ∷ S) t = omega arith
  square_floor w (tail_open o xs b ∷ S) t = omega arith
  square_floor w (first_open (call f o) ∷ S) t = tt
  square_floor w (next_open (call f o) xs c ∷ S) t = tt
  square_floor w (wrap_open o ∷ S) t = tt
  square_floor w (prefix_open v ∷ S) t = tt
  square_floor w (infix_open l v ∷ S) t = tt
  square_floor w [] t = tt

  curly_floor : (w : Word) (S : Stack) (t : Parse) → AtLeast (floor_of S (parse_depth t)) (curly_on w S t)
  curly_floor w (wrap_open o ∷ S) t =
      guarded (is_curly o.kind) (at S (have (wrapped o t w))) (λ S' m. floor_of (wrap_open o ∷ S) (parse_depth t) ≤ floor S' m) (λ curly. omega arith)
  curly_floor w (first_open g ∷ S) t = tt
  curly_floor w (next_open g xs c ∷ S) t = tt
  curly_floor w (tail_open o xs b ∷ S) t = tt
  curly_floor w (prefix_open v ∷ S) t = tt
  curly_floor w (infix_open l v ∷ S) t = tt
  curly_floor w [] t = tt

  end_floor : (S : Stack) (t : Parse) → AtLeast (floor_of S (parse_depth t)) (end_on S t)
  end_floor [] t = omega arith
  end_floor (pending ∷ S) t = tt

  have_floor : (S : Stack) (t : Parse) (w : Word) (k : Kind) → AtLeast (floor_of S (parse_depth t)) (have_step T S t w k)
  have_floor S t w Name = name_floor S t w
  have_floor S t w Quoted = name_floor S t w
  have_floor S t w Comma =
      with_tree_on (closed S t) (λ S' t'. floor_of S' (parse_depth t') ≡ floor_of S (parse_depth t)) (λ S' m. floor_of S (parse_depth t) ≤ floor S' m)
      (comma_on T S t w) (closed_floor S t) (comma_floor S t w)
  have_floor S t w Bar =
      with_tree_on (closed S t) (λ S' t'. floor_of S' (parse_depth t') ≡ floor_of S (parse_depth t)) (λ S' m. floor_of S (parse_depth t) ≤ floor S' m)
      (bar_on T S t w) (closed_floor S t) (bar_floor S t w)
  have_floor S t w CloseRound = via_tree (floor_of S (parse_depth t)) (closed S t) (round_on w) (closed_floor S t) (round_floor w)
  have_floor S t w CloseSquare = via_tree (floor_of S (parse_depth t)) (closed S t) (square_on w) (closed_floor S t) (square_floor w)
  have_floor S t w CloseCurly = via_tree (floor_of S (parse_depth t)) (closed S t) (curly_on w) (closed_floor S t) (curly_floor w)
  have_floor S t w End = via_tree (floor_of S (parse_depth t)) (closed S t) end_on (closed_floor S t) end_floor
  have_floor S t w Variable = tt
  have_floor S t w Integer = tt
  have_floor S t w Float = tt
  have_floor S t w Str = tt
  have_floor S t w BackStr = tt
  have_floor S t w OpenRound = tt
  have_floor S t w OpenSquare = tt
  have_floor S t w OpenCurly = tt

  -- no word lowers the floor
  pub act_floor : (S : Stack) (m : Mode) (w : Word) (f : List Word) → AtLeast (floor S m) (act T S m w f)
  act_floor S want w f = want_step_floor S w f
  act_floor S (minus d) w f = omega arith
  act_floor S (functor n) w f = omega arith
  act_floor S (have t) w f = have_floor S t w w.kind
  act_floor S (done t) w f = tt

  at_least_less : (n k : ℕ) → n ≤ k → (o : Option State) → AtLeast k o → AtLeast n o
  at_least_less n k low None h = tt
  at_least_less n k low (Some st) h = omega (arith, low, h)

  pub run_floor : (f : List Word) (st : State) → AtLeast (floor st.stack st.mode) (run T f st)
  run_floor [] st = omega arith
  run_floor (w ∷ f) st = on_next (act T st.stack st.mode w f) (act_floor st.stack st.mode w f) (run_floor f)
    where
      on_next : (o : Option State) → AtLeast (floor st.stack st.mode) o → ((st' : State) → AtLeast (floor st'.stack st'.mode) (run T f st'))
          → AtLeast (floor st.stack st.mode) (next o (λ st'. run T f st'))
      on_next None h each = tt
      on_next (Some st') h each = at_least_less (floor st.stack st.mode) (floor st'.stack st'.mode) h (run T f st') (each st')
