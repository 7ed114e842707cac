-- What waits in the reader over what it keeps goes as what waits over trees with all their words.
use Rattle.std.proofs.Common.{ℕ, ◌≡◌, ◌≤◌, ◌+◌, ◌^◌, ◌-◌, max, min, suc, Bool, true, false, cond, not, ◌&&◌, ◌||◌, List, [], ◌∷◌, Option, Some, None, is_some, nat_lt, nat_le, length, arith, refl, ap, sym, ◌∙◌}
use Rattle.prolog_terms.specs.Words.{Word, Table, sides_of, is_name, begins_term, opens, number_next, atom_rule, is_negative}
use Rattle.prolog_terms.specs.Grammar.{Parse, call, square, bare, prefixed, infixed, priority, parse_depth}
use Rattle.prolog_terms.specs.ReaderSteps.{prefix_open, infix_open, first_open, next_open, tail_open, wrap_open, Stack, Mode, want, minus, functor, have, done, State, at, goes, bound, reduced, is_curly, want_other, want_step, infix_on, postfix_on, with_tree, infix_step, name_step, act}
use Rattle.prolog_terms.specs.ReaderWaiting.{Waiting, ready, named, doubt, settled, enter, then_enter, then_second, is_infix_only, leaves_doubt, can_go_on, feed}
use Rattle.prolog_terms.specs.ReaderDepth.{reach, floor_of, want_floor, floor, least_floor, waiting_floor}
use Rattle.prolog_terms.specs.ReaderSeen.{plus, Call, pending_bracket, first_in, wants, functor_of, minus_of, has, StateSeen, Measure, goes_seen, pushed, reduced_measure, measure, prefix_step_seen, want_name_seen, want_other_seen, act_seen, settled_seen, WaitingSeen, ready_seen, named_seen, doubt_seen, enter_seen, then_enter_seen, infix_fits, infix_floor, doubt_step, call_step, feed_named_seen, feed_doubt_seen, feed_seen, floor_seen, want_floor_seen, waiting_floor_seen, atom_operand, reduced_seen, infix_held}
use Rattle.prolog_terms.proofs.ReaderComplete.{and_left, and_right, and_both, other_step, functor_step, name_kind_goes}
use Rattle.prolog_terms.proofs.ReaderPlaces.{step_doubt, Fits}
use Rattle.prolog_terms.proofs.ReaderJoin.{cap, cap_max_suc, parse_seen, stack_seen, mode_seen, result_seen, pending_seen, length_is, bound_is, reach_is, pushed_is, pushed_goes, allowed, want_other_is, have_is, infix_reduced}

below_floor : (m r d n : ℕ) → max (min r m) (min (min d m + n) m) ≡ min (max r (d + n)) m
below_floor m r d n = omega arith

below_min : (m a b : ℕ) → min (min a m) (min b m) ≡ min (min a b) m
below_min m a b = omega arith

below_infix : (m r d n : ℕ) → 1 ≤ m → max (min r m) (min (min (max (min d m) 1 + n) m + 1) m) ≡ min (max (max r (d + (1 + n))) (1 + suc n)) m
below_infix m r d n some = omega arith

below_prefix : (m d : ℕ) → min (max 0 (min d m) + 1) m ≡ min (suc d) m
below_prefix m d = omega arith

below_open : (m r n : ℕ) → min (max r (0 + (1 + n))) m ≡ min (max r (1 + n)) m
below_open m r n = omega arith

-- the tests of a name, by what stands behind it
by_tests : (name opening negative prefix rule ends : Bool) (x1 x2 x3 x4 x5 : Option State) (f : Option State → Option StateSeen) (y1 y2 y3 y4 : Option StateSeen)
    → name ≡ true → (prefix ≡ true → ends ≡ rule) → y1 ≡ f x1 → y2 ≡ f x2 → y3 ≡ f x3 → y4 ≡ f x4
    → cond opening y1 (cond negative y2 (cond (not prefix || ends) y3 y4))
    ≡ f (cond (name && opening) x1 (cond negative x2 (cond (name && not opening && not negative && (not prefix || rule)) x3 (cond (name && prefix && not opening && not negative && not rule) x4 x5))))
by_tests false opening negative prefix rule ends x1 x2 x3 x4 x5 f y1 y2 y3 y4 h same e1 e2 e3 e4 = cc
by_tests true true negative prefix rule ends x1 x2 x3 x4 x5 f y1 y2 y3 y4 h same e1 e2 e3 e4 = e1
by_tests true false true prefix rule ends x1 x2 x3 x4 x5 f y1 y2 y3 y4 h same e1 e2 e3 e4 = e2
by_tests true false false false rule ends x1 x2 x3 x4 x5 f y1 y2 y3 y4 h same e1 e2 e3 e4 = e3
by_tests true false false true true true x1 x2 x3 x4 x5 f y1 y2 y3 y4 h same e1 e2 e3 e4 = e3
by_tests true false false true false false x1 x2 x3 x4 x5 f y1 y2 y3 y4 h same e1 e2 e3 e4 = e4
by_tests true false false true true false x1 x2 x3 x4 x5 f y1 y2 y3 y4 h same e1 e2 e3 e4 = let both : false ≡ true = same refl in cc
by_tests true false false true false true x1 x2 x3 x4 x5 f y1 y2 y3 y4 h same e1 e2 e3 e4 = let both : true ≡ false = same refl in cc

or_nothing : (a b : Bool) → b ≡ false → (a || b && true) ≡ a
or_nothing true b h = refl
or_nothing false true h = cc
or_nothing false false h = refl

module _ (T : Table) where
  abbrev pub waiting_seen : Waiting → WaitingSeen
  waiting_seen (ready S m) = ready_seen (stack_seen T S) (mode_seen T m)
  waiting_seen (named S w) = named_seen (stack_seen T S) w (T.prefix w)
  waiting_seen (doubt S p n) = doubt_seen (stack_seen T S) p (sides_of (T.prefix p)) n (sides_of (T.infix_ n)) (cap (waiting_floor T (doubt S p n)))

  abbrev pub fed_seen : Option Waiting → Option WaitingSeen
  fed_seen None = None
  fed_seen (Some waiting) = Some (waiting_seen waiting)

  -- the words that wait are names, and two of them are in doubt
  abbrev pub HoldsNames : Waiting → Type 0
  HoldsNames (ready S m) = Unit {0}
  HoldsNames (named S w) = is_name w.kind ≡ true
  HoldsNames (doubt S p n) = (is_name p.kind ≡ true) × (leaves_doubt T p n ≡ true)

  pub fits_names : (u : List Word) (waiting : Waiting) → Fits T u waiting → HoldsNames waiting
  fits_names u (ready S m) fits = tt
  fits_names u (named S w) fits = fits.0
  fits_names u (doubt S p n) fits = (fits.0, fits.1)

  prefix_step_is : (S : Stack) (w : Word) → prefix_step_seen (stack_seen T S) w (sides_of (T.prefix w))
      ≡ result_seen T (cond (nat_le (sides_of (T.prefix w)).priority (bound T S)) (goes (prefix_open w ∷ S) want) None)
  prefix_step_is S w =
      ap (λ n. cond (nat_le (sides_of (T.prefix w)).priority n) (goes_seen (pushed (stack_seen T S) (pending_seen T (prefix_open w))) wants) None) (bound_is T S)
      ∙ allowed T (nat_le (sides_of (T.prefix w)).priority (bound T S)) (goes_seen (pushed (stack_seen T S) (pending_seen T (prefix_open w))) wants)
      (goes (prefix_open w ∷ S) want) (pushed_goes T (prefix_open w) S)

  want_name_is : (S : Stack) (w : Word) (after : List Word) (ends : Bool) → is_name w.kind ≡ true → (is_some (T.prefix w) ≡ true → ends ≡ atom_rule T after)
      → want_name_seen (stack_seen T S) w (T.prefix w) (opens after) (number_next after) ends ≡ result_seen T (want_step T S w after)
  want_name_is S w after ends name same =
      by_tests (is_name w.kind) (opens after) (is_negative w after) (is_some (T.prefix w)) (atom_rule T after) ends
      (goes S (functor w)) (goes S (minus w)) (goes S (have (bare w)))
      (cond (nat_le (sides_of (T.prefix w)).priority (bound T S)) (goes (prefix_open w ∷ S) want) None) (want_other S w w.kind) (result_seen T)
      (goes_seen (stack_seen T S) (functor_of w)) (goes_seen (stack_seen T S) (minus_of w)) (goes_seen (stack_seen T S) (has (atom_operand w)))
      (prefix_step_seen (stack_seen T S) w (sides_of (T.prefix w)))
      name same refl refl refl (prefix_step_is S w)

  -- a word where nothing waits

  settled_is : (o : Option State) (x : Option StateSeen) → x ≡ result_seen T o → settled_seen x ≡ fed_seen (settled o)
  settled_is None x e = ap settled_seen e
  settled_is (Some st) x e = ap settled_seen e

  enter_want : (S : Stack) (w : Word) (b : Bool) → is_name w.kind ≡ b
      → cond b (Some (named_seen (stack_seen T S) w (T.prefix w))) (settled_seen (want_other_seen (stack_seen T S) w w.kind))
      ≡ fed_seen (cond b (Some (named S w)) (settled (want_step T S w [])))
  enter_want S w true e = refl
  enter_want S w false e =
      settled_is (want_step T S w []) (want_other_seen (stack_seen T S) w w.kind)
      (want_other_is T S w w.kind ∙ ap (result_seen T) (sym (other_step T S w [] e)))

  pub enter_is : (S : Stack) (m : Mode) (w : Word) → enter_seen T (stack_seen T S) (mode_seen T m) w ≡ fed_seen (enter T (at S m) w)
  enter_is S want w = enter_want S w (is_name w.kind) refl
  enter_is S (minus d) w = refl
  enter_is S (functor n) w = settled_is (goes (first_open (call n w) ∷ S) want) (goes_seen (pushed (stack_seen T S) (pending_bracket (first_in (Call n)))) wants) (pushed_goes T (first_open (call n w)) S)
  enter_is S (have t) w = settled_is (act T S (have t) w []) (act_seen T (stack_seen T S) (has (parse_seen T t)) w) (have_is T S t w)
  enter_is S (done t) w = refl

  then_enter_is : (o : Option State) (x : Option StateSeen) (w : Word) → x ≡ result_seen T o → then_enter_seen T x w ≡ fed_seen (then_enter T o w)
  then_enter_is None x w e = ap (λ y. then_enter_seen T y w) e
  then_enter_is (Some st) x w e = ap (λ y. then_enter_seen T y w) e ∙ enter_is st.stack st.mode w

  -- the measure behind closed operators

  module _ (P : Measure → Option State → Type 0) (go : Stack → Parse → Option State)
      (each : (S : Stack) (t : Parse) → P (measure (stack_seen T S) (priority T t) (cap (parse_depth t))) (go S t)) where
    tested : (b : Bool) (m1 m2 : Measure) (s1 s2 : State) → P m1 (with_tree s1 go) → P m2 (with_tree s2 go) → P (cond b m1 m2) (with_tree (cond b s1 s2) go)
    tested true m1 m2 s1 s2 h1 h2 = h1
    tested false m1 m2 s1 s2 h1 h2 = h2

    pub measured_with : (p : ℕ) (S : Stack) (t : Parse) (d : ℕ) → d ≡ cap (parse_depth t) → P (reduced_measure p (stack_seen T S) (priority T t) d) (with_tree (reduced T p S t) go)
    measured_with p [] t d e = rw e (each [] t)
    measured_with p (prefix_open w ∷ S) t d e =
        tested (nat_lt (sides_of (T.prefix w)).right p)
        (reduced_measure p (stack_seen T S) (sides_of (T.prefix w)).priority (plus (max 0 d) 1)) (measure (stack_seen T (prefix_open w ∷ S)) (priority T t) d)
        (reduced T p S (prefixed w t)) (at (prefix_open w ∷ S) (have t))
        (measured_with p S (prefixed w t) (plus (max 0 d) 1) (ap (λ x. plus (max 0 x) 1) e ∙ below_prefix (2 ^ 64 - 1) (parse_depth t)))
        (rw e (each (prefix_open w ∷ S) t))
    measured_with p (infix_open l w ∷ S) t d e =
        tested (nat_lt (sides_of (T.infix_ w)).right p)
        (reduced_measure p (stack_seen T S) (sides_of (T.infix_ w)).priority (plus (max (cap (parse_depth l)) d) 1)) (measure (stack_seen T (infix_open l w ∷ S)) (priority T t) d)
        (reduced T p S (infixed l w t)) (at (infix_open l w ∷ S) (have t))
        (measured_with p S (infixed l w t) (plus (max (cap (parse_depth l)) d) 1) (ap (λ x. plus (max (cap (parse_depth l)) x) 1) e ∙ cap_max_suc (parse_depth l) (parse_depth t)))
        (rw e (each (infix_open l w ∷ S) t))
    measured_with p (first_open g ∷ S) t d e = rw e (each (first_open g ∷ S) t)
    measured_with p (next_open g xs c ∷ S) t d e = rw e (each (next_open g xs c ∷ S) t)
    measured_with p (tail_open o xs b ∷ S) t d e = rw e (each (tail_open o xs b ∷ S) t)
    measured_with p (wrap_open o ∷ S) t d e = rw e (each (wrap_open o ∷ S) t)

  -- floors

  pub floor_is : (S : Stack) (d : ℕ) → floor_seen (stack_seen T S) (cap d) ≡ cap (floor_of S d)
  floor_is S d =
      ap (λ r. max r (plus (cap d) (length (stack_seen T S)))) (reach_is T S)
      ∙ (ap (λ n. max (cap (reach S)) (plus (cap d) n)) (length_is T S) ∙ below_floor (2 ^ 64 - 1) (reach S) d (length S))

  infix_floor_is : (S : Stack) (t : Parse) (w : Word) → infix_floor (measure (stack_seen T S) (priority T t) (cap (parse_depth t))) ≡ cap (floor (infix_open t w ∷ S) want)
  infix_floor_is S t w =
      ap (λ r. max r (plus (plus (max (cap (parse_depth t)) 1) (length (stack_seen T S))) 1)) (reach_is T S)
      ∙ (ap (λ n. max (cap (reach S)) (plus (plus (max (cap (parse_depth t)) 1) n) 1)) (length_is T S)
      ∙ below_infix (2 ^ 64 - 1) (reach S) (parse_depth t) (length S) (omega arith))

  want_floor_is : (S : Stack) → want_floor_seen (stack_seen T S) ≡ cap (want_floor S)
  want_floor_is [] = floor_is [] 1
  want_floor_is (first_open (call f o) ∷ S) = floor_is (first_open (call f o) ∷ S) 1
  want_floor_is (first_open (square o) ∷ S) = below_open (2 ^ 64 - 1) (reach S) (length S)
  want_floor_is (next_open g xs c ∷ S) = floor_is (next_open g xs c ∷ S) 1
  want_floor_is (tail_open o xs b ∷ S) = floor_is (tail_open o xs b ∷ S) 1
  want_floor_is (prefix_open w ∷ S) = floor_is (prefix_open w ∷ S) 1
  want_floor_is (infix_open l w ∷ S) = floor_is (infix_open l w ∷ S) 1
  want_floor_is (wrap_open o ∷ S) = by_kind (is_curly o.kind)
    where
      by_kind : (b : Bool) → cond b (cap (reach (wrap_open o ∷ S))) (floor_seen (stack_seen T (wrap_open o ∷ S)) 1) ≡ cap (cond b (floor_of S 1) (floor_of (wrap_open o ∷ S) 1))
      by_kind true = below_open (2 ^ 64 - 1) (reach S) (length S)
      by_kind false = floor_is (wrap_open o ∷ S) 1

  pub waiting_floor_is : (waiting : Waiting) → waiting_floor_seen (waiting_seen waiting) ≡ cap (waiting_floor T waiting)
  waiting_floor_is (ready S want) = want_floor_is S
  waiting_floor_is (ready S (minus d)) = floor_is S 1
  waiting_floor_is (ready S (functor n)) = floor_is S 2
  waiting_floor_is (ready S (have t)) = floor_is S (parse_depth t)
  waiting_floor_is (ready S (done t)) = refl
  waiting_floor_is (named S w) = floor_is S 1
  waiting_floor_is (doubt S p n) = refl

  -- two words in doubt

  abbrev doubt_at : Stack → Word → Word → ℕ → WaitingSeen
  doubt_at S p n d = doubt_seen (stack_seen T S) p (sides_of (T.prefix p)) n (sides_of (T.infix_ n)) d

  -- the step, with the test of the prefix operator and the least depth of a functor given
  abbrev stepped : Stack → Word → Word → Bool → ℕ → Measure → Option WaitingSeen
  stepped S p n calls called m =
      cond (infix_fits m (sides_of (T.infix_ n))) (Some (doubt_at S p n (cond calls (min (infix_floor m) called) (infix_floor m))))
      (cond calls (Some (doubt_at S p n called)) None)

  doubt_each : (S : Stack) (p n : Word) (calls fits : Bool) (S' : Stack) (t' : Parse) (floor_at : ℕ) → floor_at ≡ cap (floor (infix_open t' n ∷ S') want)
      → cond fits (Some (doubt_at S p n (cond calls (min floor_at (cap (floor_of S 3))) floor_at))) (cond calls (Some (doubt_at S p n (cap (floor_of S 3)))) None)
      ≡ cond (is_some (cond fits (goes (infix_open t' n ∷ S') want) None) || calls)
      (Some (doubt_at S p n (cap (least_floor (cond fits (goes (infix_open t' n ∷ S') want) None) calls (floor_of S 3))))) None
  doubt_each S p n true true S' t' floor_at e =
      ap (λ d. Some (doubt_at S p n d)) (ap (λ d. min d (cap (floor_of S 3))) e ∙ below_min (2 ^ 64 - 1) (floor (infix_open t' n ∷ S') want) (floor_of S 3))
  doubt_each S p n false true S' t' floor_at e = ap (λ d. Some (doubt_at S p n d)) e
  doubt_each S p n true false S' t' floor_at e = refl
  doubt_each S p n false false S' t' floor_at e = refl

  pub infix_name_step : (S : Stack) (t : Parse) (n : Word) → is_some (T.infix_ n) ≡ true
      → name_step T S t n ≡ with_tree (reduced T (sides_of (T.infix_ n)).priority S t) (λ S' t'. infix_on T S' t' n)
  infix_name_step S t n some =
      ap (λ b. cond b (infix_step T S t n) (cond (is_some (T.postfix n)) (with_tree (reduced T (sides_of (T.postfix n)).priority S t) (λ S' t'. postfix_on T S' t' n)) None)) some
      ∙ ap (λ b. cond b (with_tree (reduced T (sides_of (T.infix_ n)).priority S t) (λ S' t'. infix_on T S' t' n)) None) some

  pub infix_some : (p n : Word) → leaves_doubt T p n ≡ true → (is_name n.kind ≡ true) × (is_some (T.infix_ n) ≡ true)
  infix_some p n h =
      let only : is_infix_only T n ≡ true = and_right (is_some (T.prefix p)) (is_infix_only T n) h in
      let both : (is_name n.kind && is_some (T.infix_ n)) ≡ true = and_left (is_name n.kind && is_some (T.infix_ n)) (not (is_some (T.prefix n))) only in
      (and_left (is_name n.kind) (is_some (T.infix_ n)) both, and_right (is_name n.kind) (is_some (T.infix_ n)) both)

  doubt_step_is : (S : Stack) (p n : Word) → leaves_doubt T p n ≡ true
      → doubt_step (stack_seen T S) p (sides_of (T.prefix p)) n (sides_of (T.infix_ n)) (reduced_measure (sides_of (T.infix_ n)).priority (stack_seen T S) 0 1)
      ≡ fed_seen (cond (can_go_on T S p n) (Some (doubt S p n)) None)
  doubt_step_is S p n h =
      ap (λ k. stepped S p n (nat_le (sides_of (T.prefix p)).priority k) (floor_seen (stack_seen T S) 3) (reduced_measure (sides_of (T.infix_ n)).priority (stack_seen T S) 0 1)) (bound_is T S)
      ∙ (ap (λ k. stepped S p n (nat_le (sides_of (T.prefix p)).priority (bound T S)) k (reduced_measure (sides_of (T.infix_ n)).priority (stack_seen T S) 0 1)) (floor_is S 3)
      ∙ (by_infix ∙ ap rest (sym (infix_name_step S (bare p) n (infix_some p n h).1)) ∙ back (can_go_on T S p n)))
    where
      calls : Bool
      calls = nat_le (sides_of (T.prefix p)).priority (bound T S)

      rest : Option State → Option WaitingSeen
      rest o =
          cond (is_some o || nat_le (sides_of (T.prefix p)).priority (bound T S))
          (Some (doubt_at S p n (cap (least_floor o (nat_le (sides_of (T.prefix p)).priority (bound T S)) (floor_of S 3))))) None

      by_infix : stepped S p n (nat_le (sides_of (T.prefix p)).priority (bound T S)) (cap (floor_of S 3)) (reduced_measure (sides_of (T.infix_ n)).priority (stack_seen T S) 0 1)
          ≡ rest (with_tree (reduced T (sides_of (T.infix_ n)).priority S (bare p)) (λ S' t'. infix_on T S' t' n))
      by_infix =
          measured_with (λ m o. stepped S p n (nat_le (sides_of (T.prefix p)).priority (bound T S)) (cap (floor_of S 3)) m
          ≡ cond (is_some o || nat_le (sides_of (T.prefix p)).priority (bound T S))
          (Some (doubt_at S p n (cap (least_floor o (nat_le (sides_of (T.prefix p)).priority (bound T S)) (floor_of S 3))))) None)
          (λ S' t'. infix_on T S' t' n)
          (λ S' t'.
          ap (λ k. cond (nat_le (sides_of (T.infix_ n)).priority k && nat_le (priority T t') (sides_of (T.infix_ n)).left)
          (Some (doubt_at S p n (cond (nat_le (sides_of (T.prefix p)).priority (bound T S))
          (min (infix_floor (measure (stack_seen T S') (priority T t') (cap (parse_depth t')))) (cap (floor_of S 3)))
          (infix_floor (measure (stack_seen T S') (priority T t') (cap (parse_depth t')))))))
          (cond (nat_le (sides_of (T.prefix p)).priority (bound T S)) (Some (doubt_at S p n (cap (floor_of S 3)))) None)) (bound_is T S')
          ∙ doubt_each S p n (nat_le (sides_of (T.prefix p)).priority (bound T S))
          (nat_le (sides_of (T.infix_ n)).priority (bound T S') && nat_le (priority T t') (sides_of (T.infix_ n)).left) S' t'
          (infix_floor (measure (stack_seen T S') (priority T t') (cap (parse_depth t')))) (infix_floor_is S' t' n))
          (sides_of (T.infix_ n)).priority S (bare p) 1 refl

      back : (b : Bool) → cond b (Some (doubt_at S p n (cap (waiting_floor T (doubt S p n))))) None ≡ fed_seen (cond b (Some (doubt S p n)) None)
      back true = refl
      back false = refl

  -- one word more

  feed_named_is : (S : Stack) (w x : Word) → is_name w.kind ≡ true → feed_named_seen T (stack_seen T S) w (T.prefix w) x ≡ fed_seen (feed T (named S w) x)
  feed_named_is S w x name = by_doubt (leaves_doubt T w x) refl
    where
      infix_false : is_some (T.prefix w) ≡ true → leaves_doubt T w x ≡ false → is_infix_only T x ≡ false
      infix_false some none = sym (ap (λ b. b && is_infix_only T x) some) ∙ none

      by_doubt : (b : Bool) → leaves_doubt T w x ≡ b
          → cond b (doubt_step (stack_seen T S) w (sides_of (T.prefix w)) x (sides_of (T.infix_ x)) (reduced_measure (sides_of (T.infix_ x)).priority (stack_seen T S) 0 1))
          (then_enter_seen T (want_name_seen (stack_seen T S) w (T.prefix w) (opens (x ∷ [])) (number_next (x ∷ [])) (not (begins_term x.kind))) x)
          ≡ fed_seen (cond b (cond (can_go_on T S w x) (Some (doubt S w x)) None) (then_enter T (act T S want w (x ∷ [])) x))
      by_doubt true e = doubt_step_is S w x e
      by_doubt false e =
          then_enter_is (act T S want w (x ∷ []))
          (want_name_seen (stack_seen T S) w (T.prefix w) (opens (x ∷ [])) (number_next (x ∷ [])) (not (begins_term x.kind))) x
          (want_name_is S w (x ∷ []) (not (begins_term x.kind)) name (λ some. sym (or_nothing (not (begins_term x.kind)) (is_infix_only T x) (infix_false some e))))

  feed_doubt_is : (S : Stack) (p n x : Word) → is_name p.kind ≡ true → leaves_doubt T p n ≡ true
      → feed_doubt_seen T (stack_seen T S) p (sides_of (T.prefix p)) n (sides_of (T.infix_ n)) x ≡ fed_seen (feed T (doubt S p n) x)
  feed_doubt_is S p n x name h =
      by_next (opens (x ∷ [])) refl ∙ ap (λ o. fed_seen (then_second T o n x)) (sym (step_doubt T S p n (x ∷ []) name h))
    where
      called : (b : Bool) → opens (x ∷ []) ≡ true
          → cond b (Some (ready_seen (pushed (pushed (stack_seen T S) (pending_seen T (prefix_open p))) (pending_bracket (first_in (Call n)))) wants)) None
          ≡ fed_seen (then_second T (cond b (goes (prefix_open p ∷ S) want) None) n x)
      called false opening = refl
      called true opening =
          ap (λ s. Some (ready_seen (pushed s (pending_bracket (first_in (Call n)))) wants)) (pushed_is T (prefix_open p) S)
          ∙ (ap (λ s. Some (ready_seen s wants)) (pushed_is T (first_open (call n x)) (prefix_open p ∷ S))
          ∙ ap (λ o. fed_seen (then_enter T o x))
          (sym (functor_step T (prefix_open p ∷ S) n (x ∷ []) (and_both (is_name n.kind) (opens (x ∷ [])) (infix_some p n h).0 opening))))

      by_next : (b : Bool) → opens (x ∷ []) ≡ b
          → cond b (call_step (stack_seen T S) p (sides_of (T.prefix p)) n)
          (then_enter_seen T (infix_held (reduced_seen (sides_of (T.infix_ n)).priority (stack_seen T S) (atom_operand p)) n (sides_of (T.infix_ n))) x)
          ≡ fed_seen (then_second T (cond b (cond (nat_le (sides_of (T.prefix p)).priority (bound T S)) (goes (prefix_open p ∷ S) want) None) (goes S (have (bare p)))) n x)
      by_next true opening =
          ap (λ k. cond (nat_le (sides_of (T.prefix p)).priority k)
          (Some (ready_seen (pushed (pushed (stack_seen T S) (pending_seen T (prefix_open p))) (pending_bracket (first_in (Call n)))) wants)) None) (bound_is T S)
          ∙ called (nat_le (sides_of (T.prefix p)).priority (bound T S)) opening
      by_next false opening =
          then_enter_is (act T S (have (bare p)) n (x ∷ []))
          (infix_held (reduced_seen (sides_of (T.infix_ n)).priority (stack_seen T S) (atom_operand p)) n (sides_of (T.infix_ n))) x
          (infix_reduced T S (bare p) n
          ∙ ap (result_seen T) (sym (name_kind_goes T S (bare p) n n.kind (infix_some p n h).0 ∙ infix_name_step S (bare p) n (infix_some p n h).1)))

  pub feed_is : (waiting : Waiting) (x : Word) → HoldsNames waiting → feed_seen T (waiting_seen waiting) x ≡ fed_seen (feed T waiting x)
  feed_is (ready S m) x h = enter_is S m x
  feed_is (named S w) x h = feed_named_is S w x h
  feed_is (doubt S p n) x h = feed_doubt_is S p n x h.0 h.1
