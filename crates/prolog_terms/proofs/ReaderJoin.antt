-- The reader over what it keeps goes as the reader over trees with all their words.
use Rattle.std.proofs.Common.{ℕ, ◌≡◌, ◌+◌, ◌^◌, ◌-◌, max, min, suc, Bool, true, false, cond, ◌&&◌, [], ◌∷◌, Option, Some, None, is_some, nat_lt, nat_le, length, arith, refl, ap, sym, ◌∙◌}
use Rattle.prolog_tokens.specs.declared.token.Kind.{Kind}
use Rattle.prolog_tokens.specs.declared.token.Kind.TheVariants as kind
use Rattle.prolog_terms.specs.Words.{Word, Table, Sides, sides_of}
use Rattle.prolog_terms.specs.Grammar.{Parse, Parts, GroupStart, call, square, pair, group, tailed, wrapped, prefixed, infixed, postfixed, one, more, priority, parse_depth, parts_depth}
use Rattle.prolog_terms.specs.Clause.{tree_from, trees_of, trees_more, span_between, from_of, to_of}
use Rattle.prolog_terms.specs.ReaderSteps.{Pending, prefix_open, infix_open, first_open, next_open, tail_open, wrap_open, Stack, Mode, want, minus, functor, have, done, State, at, goes, bound, reduced, closed, is_curly, square_pair, curly_pair, want_other, infix_on, postfix_on, with_tree, infix_step, name_step, comma_on, bar_on, round_on, square_on, curly_on, end_on, have_step, act}
use Rattle.prolog_terms.specs.ReaderDepth.{pending_depth, reach}
use Rattle.prolog_terms.specs.ReaderSeen as seen
use Rattle.prolog_terms.specs.ReaderSeen.{plus, OpenedSeen, Call, Square, OperandSeen, PartsSeen, operand, parts, built, PendingSeen, pending_operator, pending_bracket, first_in, next_in, tail_in, wrap_in, entry, StackSeen, ModeSeen, wants, minus_of, functor_of, has, finished, StateSeen, Held, held, goes_seen, pushed, reach_seen, separates_seen, bound_seen, inner_depth, pending_has_parts, reduced_seen, closed_seen, with_held, infix_held, postfix_held, infix_step_seen, name_step_seen, separator_seen, comma_in, bar_in, round_in, square_in, curly_in, end_in, have_step_seen, want_other_seen, square_pair_seen, curly_pair_seen, act_seen, postfixed_operand, parts_one, parts_more, group_operand, tailed_operand, wrapped_operand}

-- depths are told apart up to the greatest number
abbrev pub cap : ℕ → ℕ
cap n = min n (2 ^ 64 - 1)

below_suc : (m d : ℕ) → min (min d m + 1) m ≡ min (suc d) m
below_suc m d = omega arith

below_max : (m a b : ℕ) → max (min a m) (min b m) ≡ min (max a b) m
below_max m a b = omega arith

below_reach : (m r d n : ℕ) → max (min r m) (min (min (min d m + n) m + 1) m) ≡ min (max r (d + (1 + n))) m
below_reach m r d n = omega arith

cap_suc : (d : ℕ) → plus (cap d) 1 ≡ cap (suc d)
cap_suc d = below_suc (2 ^ 64 - 1) d

cap_max : (a b : ℕ) → max (cap a) (cap b) ≡ cap (max a b)
cap_max a b = below_max (2 ^ 64 - 1) a b

cap_reach : (r d n : ℕ) → max (cap r) (plus (plus (cap d) n) 1) ≡ cap (max r (d + (1 + n)))
cap_reach r d n = below_reach (2 ^ 64 - 1) r d n

pub cap_max_suc : (a b : ℕ) → plus (max (cap a) (cap b)) 1 ≡ cap (suc (max a b))
cap_max_suc a b = ap (λ d. plus d 1) (cap_max a b) ∙ cap_suc (max a b)

abbrev pub start_seen : GroupStart → OpenedSeen
start_seen (call f o) = Call f
start_seen (square o) = Square o

-- an entry of equal parts
entry_is : (f : PendingSeen) (r r' : ℕ) (b b' : Bool) (S : StackSeen) → r ≡ r' → b ≡ b' → entry f r b ∷ S ≡ entry f r' b' ∷ S
entry_is f r r' b b' S r_is b_is = ap (λ x. entry f x b ∷ S) r_is ∙ ap (λ x. entry f r' x ∷ S) b_is

-- the innermost bracket has parts
abbrev pub parted : Stack → Bool
parted [] = false
parted (prefix_open w ∷ S) = parted S
parted (infix_open l w ∷ S) = parted S
parted (first_open g ∷ S) = true
parted (next_open g xs c ∷ S) = true
parted (tail_open o xs b ∷ S) = true
parted (wrap_open o ∷ S) = false

module _ (T : Table) where
  abbrev pub parse_seen : Parse → OperandSeen
  parse_seen t = operand (tree_from t) (priority T t) (cap (parse_depth t)) (span_between (from_of t) (to_of t))

  -- operands of one depth
  deeper : (t : Parse) {d e : ℕ} → d ≡ e → operand (tree_from t) (priority T t) d (span_between (from_of t) (to_of t)) ≡ operand (tree_from t) (priority T t) e (span_between (from_of t) (to_of t))
  deeper t same = ap (λ n. operand (tree_from t) (priority T t) n (span_between (from_of t) (to_of t))) same

  abbrev pub parts_seen : Parts → PartsSeen
  parts_seen xs = parts (trees_of xs) (cap (parts_depth xs))

  abbrev pub pending_seen : Pending → PendingSeen
  pending_seen (prefix_open w) = pending_operator (seen.prefix_on w (sides_of (T.prefix w)))
  pending_seen (infix_open l w) = pending_operator (seen.infix_on (parse_seen l) w (sides_of (T.infix_ w)))
  pending_seen (first_open g) = pending_bracket (first_in (start_seen g))
  pending_seen (next_open g xs c) = pending_bracket (next_in (start_seen g) (parts_seen xs))
  pending_seen (tail_open o xs b) = pending_bracket (tail_in o (parts_seen xs))
  pending_seen (wrap_open o) = pending_bracket (wrap_in o)

  abbrev pub stack_seen : Stack → StackSeen
  stack_seen [] = []
  stack_seen (f ∷ S) = entry (pending_seen f) (cap (reach (f ∷ S))) (parted (f ∷ S)) ∷ stack_seen S

  abbrev pub mode_seen : Mode → ModeSeen
  mode_seen want = wants
  mode_seen (minus d) = minus_of d
  mode_seen (functor n) = functor_of n
  mode_seen (have t) = has (parse_seen t)
  mode_seen (done t) = finished (parse_seen t)

  abbrev pub state_seen : State → StateSeen
  state_seen st = record { stack = stack_seen st.stack; mode = mode_seen st.mode }

  abbrev pub result_seen : Option State → Option StateSeen
  result_seen None = None
  result_seen (Some st) = Some (state_seen st)

  -- nodes

  prefixed_is : (w : Word) (t : Parse) → built (seen.prefix_on w (sides_of (T.prefix w))) (parse_seen t) ≡ parse_seen (prefixed w t)
  prefixed_is w t = deeper (prefixed w t) (cap_suc (parse_depth t))

  infixed_is : (l : Parse) (w : Word) (t : Parse) → built (seen.infix_on (parse_seen l) w (sides_of (T.infix_ w))) (parse_seen t) ≡ parse_seen (infixed l w t)
  infixed_is l w t = deeper (infixed l w t) (cap_max_suc (parse_depth l) (parse_depth t))

  postfixed_is : (l : Parse) (w : Word) → postfixed_operand (parse_seen l) w (sides_of (T.postfix w)) ≡ parse_seen (postfixed l w)
  postfixed_is l w = deeper (postfixed l w) (cap_suc (parse_depth l))

  parts_more_is : (xs : Parts) (w : Word) (t : Parse) → parts_more (parts_seen xs) (parse_seen t) ≡ parts_seen (more xs w t)
  parts_more_is xs w t = ap (parts (trees_more (trees_of xs) (tree_from t))) (cap_max (parts_depth xs) (parse_depth t))

  group_is : (g : GroupStart) (xs : Parts) (w : Word) → group_operand (start_seen g) (parts_seen xs) w ≡ parse_seen (group g xs w)
  group_is (call f o) xs w = deeper (group (call f o) xs w) (cap_suc (parts_depth xs))
  group_is (square o) xs w = deeper (group (square o) xs w) (cap_suc (parts_depth xs))

  tailed_is : (o : Word) (xs : Parts) (b : Word) (t : Parse) (w : Word) → tailed_operand o (parts_seen xs) (parse_seen t) w ≡ parse_seen (tailed o xs b t w)
  tailed_is o xs b t w = deeper (tailed o xs b t w) (cap_max_suc (parts_depth xs) (parse_depth t))

  wrapped_is : (o : Word) (t : Parse) (w : Word) → wrapped_operand o (parse_seen t) w ≡ parse_seen (wrapped o t w)
  wrapped_is o t w = deeper (wrapped o t w) (cap_suc (parse_depth t))

  -- the stack

  pub length_is : (S : Stack) → length (stack_seen S) ≡ length S
  length_is [] = refl
  length_is (f ∷ S) = ap suc (length_is S)

  pub bound_is : (S : Stack) → bound_seen (stack_seen S) ≡ bound T S
  bound_is [] = refl
  bound_is (prefix_open w ∷ S) = refl
  bound_is (infix_open l w ∷ S) = refl
  bound_is (first_open g ∷ S) = refl
  bound_is (next_open g xs c ∷ S) = refl
  bound_is (tail_open o xs b ∷ S) = refl
  bound_is (wrap_open o ∷ S) = refl

  pub reach_is : (S : Stack) → reach_seen (stack_seen S) ≡ cap (reach S)
  reach_is [] = refl
  reach_is (f ∷ S) = refl

  separates_is : (S : Stack) → separates_seen (stack_seen S) ≡ parted S
  separates_is [] = refl
  separates_is (f ∷ S) = refl

  inner_is : (f : Pending) → inner_depth (pending_seen f) ≡ cap (pending_depth f)
  inner_is (prefix_open w) = refl
  inner_is (infix_open l w) = refl
  inner_is (first_open g) = refl
  inner_is (next_open g xs c) = refl
  inner_is (tail_open o xs b) = refl
  inner_is (wrap_open o) = refl

  parted_is : (f : Pending) (S : Stack) → pending_has_parts (pending_seen f) (separates_seen (stack_seen S)) ≡ parted (f ∷ S)
  parted_is (prefix_open w) S = separates_is S
  parted_is (infix_open l w) S = separates_is S
  parted_is (first_open g) S = refl
  parted_is (next_open g xs c) S = refl
  parted_is (tail_open o xs b) S = refl
  parted_is (wrap_open o) S = refl

  pub pushed_is : (f : Pending) (S : Stack) → pushed (stack_seen S) (pending_seen f) ≡ stack_seen (f ∷ S)
  pushed_is f S =
      entry_is (pending_seen f) (max (reach_seen (stack_seen S)) (plus (plus (inner_depth (pending_seen f)) (length (stack_seen S))) 1)) (cap (reach (f ∷ S)))
      (pending_has_parts (pending_seen f) (separates_seen (stack_seen S))) (parted (f ∷ S)) (stack_seen S)
      (ap (λ r. max r (plus (plus (inner_depth (pending_seen f)) (length (stack_seen S))) 1)) (reach_is S)
      ∙ (ap (λ d. max (cap (reach S)) (plus (plus d (length (stack_seen S))) 1)) (inner_is f)
      ∙ (ap (λ n. max (cap (reach S)) (plus (plus (cap (pending_depth f)) n) 1)) (length_is S)
      ∙ cap_reach (reach S) (pending_depth f) (length S))))
      (parted_is f S)

  -- an operator or bracket more
  pub pushed_goes : (f : Pending) (S : Stack) → goes_seen (pushed (stack_seen S) (pending_seen f)) wants ≡ result_seen (goes (f ∷ S) want)
  pushed_goes f S = ap (λ s. goes_seen s wants) (pushed_is f S)

  got : (S : Stack) (h : OperandSeen) (t : Parse) → h ≡ parse_seen t → goes_seen (stack_seen S) (has h) ≡ result_seen (goes S (have t))
  got S h t e = ap (λ x. goes_seen (stack_seen S) (has x)) e

  -- a step that a test allows, and one that a test refuses
  pub allowed : (b : Bool) (x : Option StateSeen) (y : Option State) → x ≡ result_seen y → cond b x None ≡ result_seen (cond b y None)
  allowed true x y e = e
  allowed false x y e = refl

  refused : (b : Bool) (x : Option StateSeen) (y : Option State) → x ≡ result_seen y → cond b None x ≡ result_seen (cond b None y)
  refused true x y e = refl
  refused false x y e = e

  -- closing operators

  module _ (go_seen : Held → Option StateSeen) (go : Stack → Parse → Option State) (each : (S : Stack) (t : Parse) → go_seen (held (stack_seen S) (parse_seen t)) ≡ result_seen (go S t)) where
    tested : (b : Bool) (h1 h2 : Held) (s1 s2 : State) → go_seen h1 ≡ result_seen (with_tree s1 go) → go_seen h2 ≡ result_seen (with_tree s2 go)
        → go_seen (cond b h1 h2) ≡ result_seen (with_tree (cond b s1 s2) go)
    tested true h1 h2 s1 s2 e1 e2 = e1
    tested false h1 h2 s1 s2 e1 e2 = e2

    pub reduced_with : (p : ℕ) (S : Stack) (t : Parse) → go_seen (reduced_seen p (stack_seen S) (parse_seen t)) ≡ result_seen (with_tree (reduced T p S t) go)
    reduced_with p [] t = each [] t
    reduced_with p (prefix_open w ∷ S) t =
        tested (nat_lt (sides_of (T.prefix w)).right p)
        (reduced_seen p (stack_seen S) (built (seen.prefix_on w (sides_of (T.prefix w))) (parse_seen t))) (held (stack_seen (prefix_open w ∷ S)) (parse_seen t))
        (reduced T p S (prefixed w t)) (at (prefix_open w ∷ S) (have t))
        (ap (λ x. go_seen (reduced_seen p (stack_seen S) x)) (prefixed_is w t) ∙ reduced_with p S (prefixed w t)) (each (prefix_open w ∷ S) t)
    reduced_with p (infix_open l w ∷ S) t =
        tested (nat_lt (sides_of (T.infix_ w)).right p)
        (reduced_seen p (stack_seen S) (built (seen.infix_on (parse_seen l) w (sides_of (T.infix_ w))) (parse_seen t))) (held (stack_seen (infix_open l w ∷ S)) (parse_seen t))
        (reduced T p S (infixed l w t)) (at (infix_open l w ∷ S) (have t))
        (ap (λ x. go_seen (reduced_seen p (stack_seen S) x)) (infixed_is l w t) ∙ reduced_with p S (infixed l w t)) (each (infix_open l w ∷ S) t)
    reduced_with p (first_open g ∷ S) t = each (first_open g ∷ S) t
    reduced_with p (next_open g xs c ∷ S) t = each (next_open g xs c ∷ S) t
    reduced_with p (tail_open o xs b ∷ S) t = each (tail_open o xs b ∷ S) t
    reduced_with p (wrap_open o ∷ S) t = each (wrap_open o ∷ S) t

    pub closed_with : (S : Stack) (t : Parse) → go_seen (closed_seen (stack_seen S) (parse_seen t)) ≡ result_seen (with_tree (closed S t) go)
    closed_with [] t = each [] t
    closed_with (prefix_open w ∷ S) t = ap (λ x. go_seen (closed_seen (stack_seen S) x)) (prefixed_is w t) ∙ closed_with S (prefixed w t)
    closed_with (infix_open l w ∷ S) t = ap (λ x. go_seen (closed_seen (stack_seen S) x)) (infixed_is l w t) ∙ closed_with S (infixed l w t)
    closed_with (first_open g ∷ S) t = each (first_open g ∷ S) t
    closed_with (next_open g xs c ∷ S) t = each (next_open g xs c ∷ S) t
    closed_with (tail_open o xs b ∷ S) t = each (tail_open o xs b ∷ S) t
    closed_with (wrap_open o ∷ S) t = each (wrap_open o ∷ S) t

  -- behind an operand

  infix_on_is : (w : Word) (S : Stack) (t : Parse) → infix_held (held (stack_seen S) (parse_seen t)) w (sides_of (T.infix_ w)) ≡ result_seen (infix_on T S t w)
  infix_on_is w S t =
      ap (λ n. cond (nat_le (sides_of (T.infix_ w)).priority n && nat_le (priority T t) (sides_of (T.infix_ w)).left)
      (goes_seen (pushed (stack_seen S) (pending_seen (infix_open t w))) wants) None) (bound_is S)
      ∙ allowed (nat_le (sides_of (T.infix_ w)).priority (bound T S) && nat_le (priority T t) (sides_of (T.infix_ w)).left)
      (goes_seen (pushed (stack_seen S) (pending_seen (infix_open t w))) wants) (goes (infix_open t w ∷ S) want) (pushed_goes (infix_open t w) S)

  postfix_on_is : (w : Word) (S : Stack) (t : Parse) → postfix_held (held (stack_seen S) (parse_seen t)) w (sides_of (T.postfix w)) ≡ result_seen (postfix_on T S t w)
  postfix_on_is w S t =
      ap (λ n. cond (nat_le (sides_of (T.postfix w)).priority n && nat_le (priority T t) (sides_of (T.postfix w)).left)
      (goes_seen (stack_seen S) (has (postfixed_operand (parse_seen t) w (sides_of (T.postfix w))))) None) (bound_is S)
      ∙ allowed (nat_le (sides_of (T.postfix w)).priority (bound T S) && nat_le (priority T t) (sides_of (T.postfix w)).left)
      (goes_seen (stack_seen S) (has (postfixed_operand (parse_seen t) w (sides_of (T.postfix w))))) (goes S (have (postfixed t w)))
      (got S (postfixed_operand (parse_seen t) w (sides_of (T.postfix w))) (postfixed t w) (postfixed_is t w))

  pub infix_reduced : (S : Stack) (t : Parse) (w : Word)
      → infix_held (reduced_seen (sides_of (T.infix_ w)).priority (stack_seen S) (parse_seen t)) w (sides_of (T.infix_ w))
      ≡ result_seen (with_tree (reduced T (sides_of (T.infix_ w)).priority S t) (λ S' t'. infix_on T S' t' w))
  infix_reduced S t w =
      reduced_with (λ h. infix_held h w (sides_of (T.infix_ w))) (λ S' t'. infix_on T S' t' w) (infix_on_is w) (sides_of (T.infix_ w)).priority S t

  postfix_reduced : (S : Stack) (t : Parse) (w : Word)
      → postfix_held (reduced_seen (sides_of (T.postfix w)).priority (stack_seen S) (parse_seen t)) w (sides_of (T.postfix w))
      ≡ result_seen (with_tree (reduced T (sides_of (T.postfix w)).priority S t) (λ S' t'. postfix_on T S' t' w))
  postfix_reduced S t w =
      reduced_with (λ h. postfix_held h w (sides_of (T.postfix w))) (λ S' t'. postfix_on T S' t' w) (postfix_on_is w) (sides_of (T.postfix w)).priority S t

  infix_step_at : (S : Stack) (t : Parse) (w : Word) (o : Option Sides) (x : Option State)
      → infix_held (reduced_seen (sides_of o).priority (stack_seen S) (parse_seen t)) w (sides_of o) ≡ result_seen x
      → infix_step_seen (stack_seen S) (parse_seen t) w o ≡ result_seen (cond (is_some o) x None)
  infix_step_at S t w None x e = refl
  infix_step_at S t w (Some s) x e = e

  infix_step_is : (S : Stack) (t : Parse) (w : Word) → infix_step_seen (stack_seen S) (parse_seen t) w (T.infix_ w) ≡ result_seen (infix_step T S t w)
  infix_step_is S t w =
      infix_step_at S t w (T.infix_ w) (with_tree (reduced T (sides_of (T.infix_ w)).priority S t) (λ S' t'. infix_on T S' t' w)) (infix_reduced S t w)

  name_step_at : (S : Stack) (t : Parse) (w : Word) (o q : Option Sides) (x y z : Option State)
      → infix_held (reduced_seen (sides_of o).priority (stack_seen S) (parse_seen t)) w (sides_of o) ≡ result_seen x
      → postfix_held (reduced_seen (sides_of q).priority (stack_seen S) (parse_seen t)) w (sides_of q) ≡ result_seen y
      → (is_some o ≡ true → z ≡ x)
      → name_step_seen (stack_seen S) (parse_seen t) w o q ≡ result_seen (cond (is_some o) z (cond (is_some q) y None))
  name_step_at S t w (Some s) q x y z e f same = e ∙ ap result_seen (sym (same refl))
  name_step_at S t w None (Some s) x y z e f same = f
  name_step_at S t w None None x y z e f same = refl

  name_step_is : (S : Stack) (t : Parse) (w : Word) → name_step_seen (stack_seen S) (parse_seen t) w (T.infix_ w) (T.postfix w) ≡ result_seen (name_step T S t w)
  name_step_is S t w =
      name_step_at S t w (T.infix_ w) (T.postfix w)
      (with_tree (reduced T (sides_of (T.infix_ w)).priority S t) (λ S' t'. infix_on T S' t' w))
      (with_tree (reduced T (sides_of (T.postfix w)).priority S t) (λ S' t'. postfix_on T S' t' w))
      (infix_step T S t w) (infix_reduced S t w) (postfix_reduced S t w)
      (λ e. ap (λ b. cond b (with_tree (reduced T (sides_of (T.infix_ w)).priority S t) (λ S' t'. infix_on T S' t' w)) None) e)

  -- separators

  module _ (S0 : Stack) (t0 : Parse) (w : Word) where
    pub comma_with : (S : Stack) (t : Parse) → cond (parted S) (with_held (closed_seen (stack_seen S) (parse_seen t)) comma_in) (infix_step_seen (stack_seen S0) (parse_seen t0) w (T.infix_ w))
        ≡ result_seen (with_tree (closed S t) (comma_on T S0 t0 w))
    comma_with [] t = infix_step_is S0 t0 w
    comma_with (prefix_open v ∷ S) t =
        ap (λ x. cond (parted S) (with_held (closed_seen (stack_seen S) x) comma_in) (infix_step_seen (stack_seen S0) (parse_seen t0) w (T.infix_ w))) (prefixed_is v t)
        ∙ comma_with S (prefixed v t)
    comma_with (infix_open l v ∷ S) t =
        ap (λ x. cond (parted S) (with_held (closed_seen (stack_seen S) x) comma_in) (infix_step_seen (stack_seen S0) (parse_seen t0) w (T.infix_ w))) (infixed_is l v t)
        ∙ comma_with S (infixed l v t)
    comma_with (first_open g ∷ S) t = pushed_goes (next_open g (one t) w) S
    comma_with (next_open g xs c ∷ S) t =
        ap (λ x. goes_seen (pushed (stack_seen S) (pending_bracket (next_in (start_seen g) x))) wants) (parts_more_is xs c t) ∙ pushed_goes (next_open g (more xs c t) w) S
    comma_with (tail_open o xs b ∷ S) t = refl
    comma_with (wrap_open o ∷ S) t = infix_step_is S0 t0 w

    pub bar_with : (S : Stack) (t : Parse) → cond (parted S) (with_held (closed_seen (stack_seen S) (parse_seen t)) bar_in) (infix_step_seen (stack_seen S0) (parse_seen t0) w (T.infix_ w))
        ≡ result_seen (with_tree (closed S t) (bar_on T S0 t0 w))
    bar_with [] t = infix_step_is S0 t0 w
    bar_with (prefix_open v ∷ S) t =
        ap (λ x. cond (parted S) (with_held (closed_seen (stack_seen S) x) bar_in) (infix_step_seen (stack_seen S0) (parse_seen t0) w (T.infix_ w))) (prefixed_is v t)
        ∙ bar_with S (prefixed v t)
    bar_with (infix_open l v ∷ S) t =
        ap (λ x. cond (parted S) (with_held (closed_seen (stack_seen S) x) bar_in) (infix_step_seen (stack_seen S0) (parse_seen t0) w (T.infix_ w))) (infixed_is l v t)
        ∙ bar_with S (infixed l v t)
    bar_with (first_open (square o) ∷ S) t = pushed_goes (tail_open o (one t) w) S
    bar_with (next_open (square o) xs c ∷ S) t =
        ap (λ x. goes_seen (pushed (stack_seen S) (pending_bracket (tail_in o x))) wants) (parts_more_is xs c t) ∙ pushed_goes (tail_open o (more xs c t) w) S
    bar_with (first_open (call f o) ∷ S) t = refl
    bar_with (next_open (call f o) xs c ∷ S) t = refl
    bar_with (tail_open o xs b ∷ S) t = refl
    bar_with (wrap_open o ∷ S) t = infix_step_is S0 t0 w

  comma_is : (S : Stack) (t : Parse) (w : Word) → separator_seen (stack_seen S) (parse_seen t) w (T.infix_ w) comma_in ≡ result_seen (with_tree (closed S t) (comma_on T S t w))
  comma_is S t w =
      ap (λ b. cond b (with_held (closed_seen (stack_seen S) (parse_seen t)) comma_in) (infix_step_seen (stack_seen S) (parse_seen t) w (T.infix_ w))) (separates_is S)
      ∙ comma_with S t w S t

  bar_is : (S : Stack) (t : Parse) (w : Word) → separator_seen (stack_seen S) (parse_seen t) w (T.infix_ w) bar_in ≡ result_seen (with_tree (closed S t) (bar_on T S t w))
  bar_is S t w =
      ap (λ b. cond b (with_held (closed_seen (stack_seen S) (parse_seen t)) bar_in) (infix_step_seen (stack_seen S) (parse_seen t) w (T.infix_ w))) (separates_is S)
      ∙ bar_with S t w S t

  -- closing brackets and the End

  round_is : (w : Word) (S : Stack) (t : Parse) → round_in w (stack_seen S) (parse_seen t) ≡ result_seen (round_on w S t)
  round_is w [] t = refl
  round_is w (first_open (call f o) ∷ S) t = got S (group_operand (Call f) (parts_one (parse_seen t)) w) (group (call f o) (one t) w) (group_is (call f o) (one t) w)
  round_is w (next_open (call f o) xs c ∷ S) t =
      got S (group_operand (Call f) (parts_more (parts_seen xs) (parse_seen t)) w) (group (call f o) (more xs c t) w)
      (ap (λ x. group_operand (Call f) x w) (parts_more_is xs c t) ∙ group_is (call f o) (more xs c t) w)
  round_is w (wrap_open o ∷ S) t =
      refused (is_curly o.kind) (goes_seen (stack_seen S) (has (wrapped_operand o (parse_seen t) w))) (goes S (have (wrapped o t w)))
      (got S (wrapped_operand o (parse_seen t) w) (wrapped o t w) (wrapped_is o t w))
  round_is w (first_open (square o) ∷ S) t = refl
  round_is w (next_open (square o) xs c ∷ S) t = refl
  round_is w (tail_open o xs b ∷ S) t = refl
  round_is w (prefix_open v ∷ S) t = refl
  round_is w (infix_open l v ∷ S) t = refl

  square_is : (w : Word) (S : Stack) (t : Parse) → square_in w (stack_seen S) (parse_seen t) ≡ result_seen (square_on w S t)
  square_is w [] t = refl
  square_is w (first_open (square o) ∷ S) t = got S (group_operand (Square o) (parts_one (parse_seen t)) w) (group (square o) (one t) w) (group_is (square o) (one t) w)
  square_is w (next_open (square o) xs c ∷ S) t =
      got S (group_operand (Square o) (parts_more (parts_seen xs) (parse_seen t)) w) (group (square o) (more xs c t) w)
      (ap (λ x. group_operand (Square o) x w) (parts_more_is xs c t) ∙ group_is (square o) (more xs c t) w)
  square_is w (tail_open o xs b ∷ S) t =
      got S (tailed_operand o (parts_seen xs) (parse_seen t) w) (tailed o xs b t w) (tailed_is o xs b t w)
  square_is w (first_open (call f o) ∷ S) t = refl
  square_is w (next_open (call f o) xs c ∷ S) t = refl
  square_is w (wrap_open o ∷ S) t = refl
  square_is w (prefix_open v ∷ S) t = refl
  square_is w (infix_open l v ∷ S) t = refl

  curly_is : (w : Word) (S : Stack) (t : Parse) → curly_in w (stack_seen S) (parse_seen t) ≡ result_seen (curly_on w S t)
  curly_is w [] t = refl
  curly_is w (wrap_open o ∷ S) t =
      allowed (is_curly o.kind) (goes_seen (stack_seen S) (has (wrapped_operand o (parse_seen t) w))) (goes S (have (wrapped o t w)))
      (got S (wrapped_operand o (parse_seen t) w) (wrapped o t w) (wrapped_is o t w))
  curly_is w (first_open g ∷ S) t = refl
  curly_is w (next_open g xs c ∷ S) t = refl
  curly_is w (tail_open o xs b ∷ S) t = refl
  curly_is w (prefix_open v ∷ S) t = refl
  curly_is w (infix_open l v ∷ S) t = refl

  end_is : (S : Stack) (t : Parse) → end_in (stack_seen S) (parse_seen t) ≡ result_seen (end_on S t)
  end_is [] t = refl
  end_is (f ∷ S) t = refl

  have_step_is : (S : Stack) (t : Parse) (w : Word) (k : Kind) → have_step_seen T (stack_seen S) (parse_seen t) w k ≡ result_seen (have_step T S t w k)
  have_step_is S t w kind.Name = name_step_is S t w
  have_step_is S t w kind.Quoted = name_step_is S t w
  have_step_is S t w kind.Comma = comma_is S t w
  have_step_is S t w kind.Bar = bar_is S t w
  have_step_is S t w kind.CloseRound = closed_with (λ h. with_held h (round_in w)) (round_on w) (round_is w) S t
  have_step_is S t w kind.CloseSquare = closed_with (λ h. with_held h (square_in w)) (square_on w) (square_is w) S t
  have_step_is S t w kind.CloseCurly = closed_with (λ h. with_held h (curly_in w)) (curly_on w) (curly_is w) S t
  have_step_is S t w kind.End = closed_with (λ h. with_held h end_in) end_on end_is S t
  have_step_is S t w kind.Variable = refl
  have_step_is S t w kind.Integer = refl
  have_step_is S t w kind.Float = refl
  have_step_is S t w kind.Str = refl
  have_step_is S t w kind.BackStr = refl
  have_step_is S t w kind.OpenRound = refl
  have_step_is S t w kind.OpenSquare = refl
  have_step_is S t w kind.OpenCurly = refl

  -- where an operand is wanted

  square_pair_is : (S : Stack) (w : Word) → square_pair_seen (stack_seen S) w ≡ result_seen (square_pair S w)
  square_pair_is [] w = refl
  square_pair_is (first_open (square o) ∷ S) w = refl
  square_pair_is (first_open (call f o) ∷ S) w = refl
  square_pair_is (next_open g xs c ∷ S) w = refl
  square_pair_is (tail_open o xs b ∷ S) w = refl
  square_pair_is (wrap_open o ∷ S) w = refl
  square_pair_is (prefix_open v ∷ S) w = refl
  square_pair_is (infix_open l v ∷ S) w = refl

  curly_pair_is : (S : Stack) (w : Word) → curly_pair_seen (stack_seen S) w ≡ result_seen (curly_pair S w)
  curly_pair_is [] w = refl
  curly_pair_is (wrap_open o ∷ S) w =
      allowed (is_curly o.kind) (goes_seen (stack_seen S) (has (seen.pair_operand o w))) (goes S (have (pair o w))) refl
  curly_pair_is (first_open g ∷ S) w = refl
  curly_pair_is (next_open g xs c ∷ S) w = refl
  curly_pair_is (tail_open o xs b ∷ S) w = refl
  curly_pair_is (prefix_open v ∷ S) w = refl
  curly_pair_is (infix_open l v ∷ S) w = refl

  pub want_other_is : (S : Stack) (w : Word) (k : Kind) → want_other_seen (stack_seen S) w k ≡ result_seen (want_other S w k)
  want_other_is S w kind.Variable = refl
  want_other_is S w kind.Integer = refl
  want_other_is S w kind.Float = refl
  want_other_is S w kind.Str = refl
  want_other_is S w kind.BackStr = refl
  want_other_is S w kind.OpenRound = pushed_goes (wrap_open w) S
  want_other_is S w kind.OpenCurly = pushed_goes (wrap_open w) S
  want_other_is S w kind.OpenSquare = pushed_goes (first_open (square w)) S
  want_other_is S w kind.CloseSquare = square_pair_is S w
  want_other_is S w kind.CloseCurly = curly_pair_is S w
  want_other_is S w kind.Name = refl
  want_other_is S w kind.Quoted = refl
  want_other_is S w kind.CloseRound = refl
  want_other_is S w kind.Comma = refl
  want_other_is S w kind.Bar = refl
  want_other_is S w kind.End = refl

  -- a word behind an operand, and those that complete a minus or a functor
  pub have_is : (S : Stack) (t : Parse) (w : Word) → act_seen T (stack_seen S) (has (parse_seen t)) w ≡ result_seen (act T S (have t) w [])
  have_is S t w = have_step_is S t w w.kind
