-- How many parts the reader keeps in open brackets: no step keeps more than one part more.
use Rattle.std.proofs.Common.{◌≡◌, ◌≤◌, ℕ, suc, Bool, true, false, cond, not, ◌&&◌, ◌||◌, List, [], ◌∷◌, Option, Some, None, is_some, nat_lt, nat_le, refl, ap, sym, subst, arith}
use Rattle.prolog_tokens.specs.declared.token.Kind.{Kind}
use Rattle.prolog_tokens.specs.declared.token.Kind.TheVariants as kind
use Rattle.prolog_terms.specs.declared.stack.Entry.{Entry}
use Rattle.prolog_terms.specs.declared.pending.Pending.{Pending}
use Rattle.prolog_terms.specs.declared.pending.Pending.TheVariants as pending
use Rattle.prolog_terms.specs.declared.pending.Operator.TheVariants as operator
use Rattle.prolog_terms.specs.declared.pending.Bracket.TheVariants as bracket
use Rattle.prolog_terms.specs.Tree.{Tree, Trees, none, more, count}
use Rattle.prolog_terms.specs.Clause.{trees_more}
use Rattle.prolog_terms.specs.Forest.{without}
use Rattle.prolog_terms.specs.Words.{Word, Table, Sides, sides_of, is_name, is_minus, begins_term, opens, number_next}
use Rattle.prolog_terms.specs.ReaderSteps.{is_curly}
use Rattle.prolog_terms.specs.ReaderWaiting.{is_infix_only}
use Rattle.prolog_terms.specs.ReaderSeen.{OperandSeen, Call, Square, Held, held, StackSeen, StateSeen, ModeSeen, wants, minus_of, functor_of, has, finished, WaitingSeen, ready_seen, named_seen, doubt_seen, entry, pending_operator, pending_bracket, first_in, next_in, tail_in, wrap_in, built, right_of, bound_seen, separates_seen, parts_held, waiting_parts, atom_operand, closed_seen, reduced_seen, reduced_measure, infix_fits, infix_held, postfix_held, square_pair_seen, curly_pair_seen, want_other_seen, prefix_step_seen, want_name_seen, infix_step_seen, name_step_seen, comma_in, bar_in, round_in, square_in, curly_in, end_in, with_held, separator_seen, have_step_seen, act_seen, wants_seen, settled_seen, enter_seen, then_enter_seen, call_step, feed_doubt_seen, feed_seen}
use Rattle.prolog_terms.specs.StackSeen.{Names, see_pending, see_entries, holds}
use Rattle.prolog_terms.proofs.Entries.{parts_count}

-- entries hold as many parts of any trees

pending_same : (names names' : Names) (p : Pending) (r : ℕ) (b : Bool) (S S' : StackSeen) (trees trees' : List Tree) → parts_held S ≡ parts_held S'
    → parts_held (entry (see_pending names p trees) r b ∷ S) ≡ parts_held (entry (see_pending names' p trees') r b ∷ S')
pending_same names names' (pending.Operator (operator.Prefix word sides)) r b S S' trees trees' same = same
pending_same names names' (pending.Operator (operator.Infix left word sides)) r b S S' trees trees' same = same
pending_same names names' (pending.Bracket (bracket.First o)) r b S S' trees trees' same = same
pending_same names names' (pending.Bracket (bracket.Next o n d)) r b S S' trees trees' same = omega (arith, same, parts_count n trees none, parts_count n trees' none)
pending_same names names' (pending.Bracket (bracket.Tail o n d)) r b S S' trees trees' same = omega (arith, same, parts_count n trees none, parts_count n trees' none)
pending_same names names' (pending.Bracket (bracket.Wrap word)) r b S S' trees trees' same = same

pub parts_same : (names names' : Names) (es : List Entry) (trees trees' : List Tree) → parts_held (see_entries names es trees) ≡ parts_held (see_entries names' es trees')
parts_same names names' [] trees trees' = refl
parts_same names names' (e ∷ es) trees trees' =
    pending_same names names' e.pending e.reach e.separates (see_entries names es (without (holds e.pending) trees)) (see_entries names' es (without (holds e.pending) trees')) trees trees'
    (parts_same names names' es (without (holds e.pending) trees) (without (holds e.pending) trees'))

-- operators hold none

pub closed_room : (S : StackSeen) (t : OperandSeen) → parts_held (closed_seen S t).stack ≡ parts_held S
closed_room [] t = refl
closed_room (entry (pending_operator o) r b ∷ S) t = closed_room S (built o t)
closed_room (entry (pending_bracket k) r b ∷ S) t = refl

choice : {A : Type 0} (P : A → Type 0) (b : Bool) (x y : A) → P x → P y → P (cond b x y)
choice P true x y hx hy = hx
choice P false x y hx hy = hy

pub reduced_room : (p : ℕ) (S : StackSeen) (t : OperandSeen) → parts_held (reduced_seen p S t).stack ≡ parts_held S
reduced_room p [] t = refl
reduced_room p (entry (pending_operator o) r b ∷ S) t =
    choice (λ h. parts_held h.stack ≡ parts_held S) (nat_lt (right_of o) p) (reduced_seen p S (built o t)) (held (entry (pending_operator o) r b ∷ S) t) (reduced_room p S (built o t)) refl
reduced_room p (entry (pending_bracket k) r b ∷ S) t = refl

-- at most so many, where the step isn't refused

abbrev pub Within : ℕ → Option StateSeen → Type 0
Within n None = Unit {0}
Within n (Some st) = parts_held st.stack ≤ n

abbrev pub WaitsWithin : ℕ → Option WaitingSeen → Type 0
WaitsWithin n None = Unit {0}
WaitsWithin n (Some waiting) = waiting_parts waiting ≤ n

looser : (n m : ℕ) (o : Option StateSeen) → n ≤ m → Within n o → Within m o
looser n m None low h = tt
looser n m (Some st) low h = omega (arith, low, h)

square_pair_room : (S : StackSeen) (w : Word) → Within (parts_held S) (square_pair_seen S w)
square_pair_room [] w = tt
square_pair_room (entry (pending_operator o) r b ∷ S) w = tt
square_pair_room (entry (pending_bracket (first_in (Square o))) r b ∷ S) w = omega arith
square_pair_room (entry (pending_bracket (first_in (Call o))) r b ∷ S) w = tt
square_pair_room (entry (pending_bracket (next_in g xs)) r b ∷ S) w = tt
square_pair_room (entry (pending_bracket (tail_in o xs)) r b ∷ S) w = tt
square_pair_room (entry (pending_bracket (wrap_in o)) r b ∷ S) w = tt

curly_pair_room : (S : StackSeen) (w : Word) → Within (parts_held S) (curly_pair_seen S w)
curly_pair_room [] w = tt
curly_pair_room (entry (pending_operator o) r b ∷ S) w = tt
curly_pair_room (entry (pending_bracket (first_in g)) r b ∷ S) w = tt
curly_pair_room (entry (pending_bracket (next_in g xs)) r b ∷ S) w = tt
curly_pair_room (entry (pending_bracket (tail_in o xs)) r b ∷ S) w = tt
curly_pair_room (entry (pending_bracket (wrap_in o)) r b ∷ S) w = choice (Within (parts_held S)) (is_curly o.kind) _ None (omega arith) tt

want_other_room : (S : StackSeen) (w : Word) (k : Kind) → Within (parts_held S) (want_other_seen S w k)
want_other_room S w kind.Variable = omega arith
want_other_room S w kind.Integer = omega arith
want_other_room S w kind.Float = omega arith
want_other_room S w kind.Str = omega arith
want_other_room S w kind.BackStr = omega arith
want_other_room S w kind.OpenRound = omega arith
want_other_room S w kind.OpenCurly = omega arith
want_other_room S w kind.OpenSquare = omega arith
want_other_room S w kind.CloseSquare = square_pair_room S w
want_other_room S w kind.CloseCurly = curly_pair_room S w
want_other_room S w kind.Name = tt
want_other_room S w kind.Quoted = tt
want_other_room S w kind.CloseRound = tt
want_other_room S w kind.Comma = tt
want_other_room S w kind.Bar = tt
want_other_room S w kind.End = tt

prefix_step_room : (S : StackSeen) (w : Word) (s : Sides) → Within (parts_held S) (prefix_step_seen S w s)
prefix_step_room S w s = choice (Within (parts_held S)) (nat_le s.priority (bound_seen S)) _ None (omega arith) tt

pub want_name_room : (S : StackSeen) (w : Word) (prefix : Option Sides) (bracket number ends : Bool) → Within (parts_held S) (want_name_seen S w prefix bracket number ends)
want_name_room S w prefix bracket number ends =
    choice (Within (parts_held S)) bracket _ _ (omega arith)
    (choice (Within (parts_held S)) (is_minus w && number) _ _ (omega arith)
    (choice (Within (parts_held S)) (not (is_some prefix) || ends) _ _ (omega arith) (prefix_step_room S w (sides_of prefix))))

infix_held_room : (h : Held) (w : Word) (s : Sides) → Within (parts_held h.stack) (infix_held h w s)
infix_held_room h w s = choice (Within (parts_held h.stack)) (nat_le s.priority (bound_seen h.stack) && nat_le h.operand.priority s.left) _ None (omega arith) tt

postfix_held_room : (h : Held) (w : Word) (s : Sides) → Within (parts_held h.stack) (postfix_held h w s)
postfix_held_room h w s = choice (Within (parts_held h.stack)) (nat_le s.priority (bound_seen h.stack) && nat_le h.operand.priority s.left) _ None (omega arith) tt

pub infix_reduced_room : (S : StackSeen) (t : OperandSeen) (w : Word) (s : Sides) → Within (parts_held S) (infix_held (reduced_seen s.priority S t) w s)
infix_reduced_room S t w s =
    let P : ℕ → Type 0 = λ n. Within n (infix_held (reduced_seen s.priority S t) w s) in
    subst P (reduced_room s.priority S t) (infix_held_room (reduced_seen s.priority S t) w s)

postfix_reduced_room : (S : StackSeen) (t : OperandSeen) (w : Word) (s : Sides) → Within (parts_held S) (postfix_held (reduced_seen s.priority S t) w s)
postfix_reduced_room S t w s =
    let P : ℕ → Type 0 = λ n. Within n (postfix_held (reduced_seen s.priority S t) w s) in
    subst P (reduced_room s.priority S t) (postfix_held_room (reduced_seen s.priority S t) w s)

infix_step_room : (S : StackSeen) (t : OperandSeen) (w : Word) (o : Option Sides) → Within (parts_held S) (infix_step_seen S t w o)
infix_step_room S t w None = tt
infix_step_room S t w (Some s) = infix_reduced_room S t w s

name_step_room : (S : StackSeen) (t : OperandSeen) (w : Word) (o q : Option Sides) → Within (parts_held S) (name_step_seen S t w o q)
name_step_room S t w (Some s) q = infix_reduced_room S t w s
name_step_room S t w None None = tt
name_step_room S t w None (Some s) = postfix_reduced_room S t w s

trees_count : (xs : Trees) (t : Tree) → count (trees_more xs t) ≡ suc (count xs)
trees_count none t = refl
trees_count (more x xs) t = ap suc (trees_count xs t)

-- a separator keeps one part more

comma_room : (S : StackSeen) (t : OperandSeen) → Within (suc (parts_held S)) (comma_in S t)
comma_room [] t = tt
comma_room (entry (pending_operator o) r b ∷ S) t = tt
comma_room (entry (pending_bracket (first_in g)) r b ∷ S) t = omega arith
comma_room (entry (pending_bracket (next_in g xs)) r b ∷ S) t = omega (arith, trees_count xs.trees t.tree)
comma_room (entry (pending_bracket (tail_in o xs)) r b ∷ S) t = tt
comma_room (entry (pending_bracket (wrap_in o)) r b ∷ S) t = tt

bar_room : (S : StackSeen) (t : OperandSeen) → Within (suc (parts_held S)) (bar_in S t)
bar_room [] t = tt
bar_room (entry (pending_operator o) r b ∷ S) t = tt
bar_room (entry (pending_bracket (first_in (Square o))) r b ∷ S) t = omega arith
bar_room (entry (pending_bracket (first_in (Call f))) r b ∷ S) t = tt
bar_room (entry (pending_bracket (next_in (Square o) xs)) r b ∷ S) t = omega (arith, trees_count xs.trees t.tree)
bar_room (entry (pending_bracket (next_in (Call f) xs)) r b ∷ S) t = tt
bar_room (entry (pending_bracket (tail_in o xs)) r b ∷ S) t = tt
bar_room (entry (pending_bracket (wrap_in o)) r b ∷ S) t = tt

round_room : (w : Word) (S : StackSeen) (t : OperandSeen) → Within (suc (parts_held S)) (round_in w S t)
round_room w [] t = tt
round_room w (entry (pending_operator o) r b ∷ S) t = tt
round_room w (entry (pending_bracket (first_in (Call f))) r b ∷ S) t = omega arith
round_room w (entry (pending_bracket (first_in (Square o))) r b ∷ S) t = tt
round_room w (entry (pending_bracket (next_in (Call f) xs)) r b ∷ S) t = omega arith
round_room w (entry (pending_bracket (next_in (Square o) xs)) r b ∷ S) t = tt
round_room w (entry (pending_bracket (tail_in o xs)) r b ∷ S) t = tt
round_room w (entry (pending_bracket (wrap_in o)) r b ∷ S) t = choice (Within (suc (parts_held S))) (is_curly o.kind) None _ tt (omega arith)

square_room : (w : Word) (S : StackSeen) (t : OperandSeen) → Within (suc (parts_held S)) (square_in w S t)
square_room w [] t = tt
square_room w (entry (pending_operator o) r b ∷ S) t = tt
square_room w (entry (pending_bracket (first_in (Square o))) r b ∷ S) t = omega arith
square_room w (entry (pending_bracket (first_in (Call f))) r b ∷ S) t = tt
square_room w (entry (pending_bracket (next_in (Square o) xs)) r b ∷ S) t = omega arith
square_room w (entry (pending_bracket (next_in (Call f) xs)) r b ∷ S) t = tt
square_room w (entry (pending_bracket (tail_in o xs)) r b ∷ S) t = omega arith
square_room w (entry (pending_bracket (wrap_in o)) r b ∷ S) t = tt

curly_room : (w : Word) (S : StackSeen) (t : OperandSeen) → Within (suc (parts_held S)) (curly_in w S t)
curly_room w [] t = tt
curly_room w (entry (pending_operator o) r b ∷ S) t = tt
curly_room w (entry (pending_bracket (first_in g)) r b ∷ S) t = tt
curly_room w (entry (pending_bracket (next_in g xs)) r b ∷ S) t = tt
curly_room w (entry (pending_bracket (tail_in o xs)) r b ∷ S) t = tt
curly_room w (entry (pending_bracket (wrap_in o)) r b ∷ S) t = choice (Within (suc (parts_held S))) (is_curly o.kind) _ None (omega arith) tt

end_room : (S : StackSeen) (t : OperandSeen) → Within (suc (parts_held S)) (end_in S t)
end_room [] t = omega arith
end_room (e ∷ S) t = tt

closed_step_room : (go : StackSeen → OperandSeen → Option StateSeen) → ((S : StackSeen) (t : OperandSeen) → Within (suc (parts_held S)) (go S t))
    → (S : StackSeen) (t : OperandSeen) → Within (suc (parts_held S)) (with_held (closed_seen S t) go)
closed_step_room go each S t =
    let P : ℕ → Type 0 = λ n. Within (suc n) (with_held (closed_seen S t) go) in
    subst P (closed_room S t) (each (closed_seen S t).stack (closed_seen S t).operand)

separator_room : (go : StackSeen → OperandSeen → Option StateSeen) → ((S : StackSeen) (t : OperandSeen) → Within (suc (parts_held S)) (go S t))
    → (S : StackSeen) (t : OperandSeen) (w : Word) (o : Option Sides) → Within (suc (parts_held S)) (separator_seen S t w o go)
separator_room go each S t w o =
    choice (Within (suc (parts_held S))) (separates_seen S) _ _ (closed_step_room go each S t)
    (looser (parts_held S) (suc (parts_held S)) (infix_step_seen S t w o) (omega arith) (infix_step_room S t w o))

module _ (T : Table) where
  have_step_room : (S : StackSeen) (t : OperandSeen) (w : Word) (k : Kind) → Within (suc (parts_held S)) (have_step_seen T S t w k)
  have_step_room S t w kind.Name = looser (parts_held S) (suc (parts_held S)) (name_step_seen S t w (T.infix_ w) (T.postfix w)) (omega arith) (name_step_room S t w (T.infix_ w) (T.postfix w))
  have_step_room S t w kind.Quoted = looser (parts_held S) (suc (parts_held S)) (name_step_seen S t w (T.infix_ w) (T.postfix w)) (omega arith) (name_step_room S t w (T.infix_ w) (T.postfix w))
  have_step_room S t w kind.Comma = separator_room comma_in comma_room S t w (T.infix_ w)
  have_step_room S t w kind.Bar = separator_room bar_in bar_room S t w (T.infix_ w)
  have_step_room S t w kind.CloseRound = closed_step_room (round_in w) (round_room w) S t
  have_step_room S t w kind.CloseSquare = closed_step_room (square_in w) (square_room w) S t
  have_step_room S t w kind.CloseCurly = closed_step_room (curly_in w) (curly_room w) S t
  have_step_room S t w kind.End = closed_step_room end_in end_room S t
  have_step_room S t w kind.Variable = tt
  have_step_room S t w kind.Integer = tt
  have_step_room S t w kind.Float = tt
  have_step_room S t w kind.Str = tt
  have_step_room S t w kind.BackStr = tt
  have_step_room S t w kind.OpenRound = tt
  have_step_room S t w kind.OpenSquare = tt
  have_step_room S t w kind.OpenCurly = tt

  act_room : (S : StackSeen) (m : ModeSeen) (w : Word) → Within (suc (parts_held S)) (act_seen T S m w)
  act_room S wants w = looser (parts_held S) (suc (parts_held S)) (want_other_seen S w w.kind) (omega arith) (want_other_room S w w.kind)
  act_room S (minus_of d) w = omega arith
  act_room S (functor_of n) w = omega arith
  act_room S (has t) w = have_step_room S t w w.kind
  act_room S (finished t) w = tt

  settled_room : (n : ℕ) (o : Option StateSeen) → Within n o → WaitsWithin n (settled_seen o)
  settled_room n None h = tt
  settled_room n (Some st) h = h

  enter_room : (S : StackSeen) (m : ModeSeen) (w : Word) → WaitsWithin (suc (parts_held S)) (enter_seen T S m w)
  enter_room S m w =
      choice (WaitsWithin (suc (parts_held S))) (wants_seen m && is_name w.kind) _ _ (omega arith) (settled_room (suc (parts_held S)) (act_seen T S m w) (act_room S m w))

  waits_looser : (n m : ℕ) (o : Option WaitingSeen) → n ≤ m → WaitsWithin n o → WaitsWithin m o
  waits_looser n m None low h = tt
  waits_looser n m (Some waiting) low h = omega (arith, low, h)

  then_enter_room : (n : ℕ) (o : Option StateSeen) (w : Word) → Within n o → WaitsWithin (suc n) (then_enter_seen T o w)
  then_enter_room n None w h = tt
  then_enter_room n (Some st) w h = waits_looser (suc (parts_held st.stack)) (suc n) (enter_seen T st.stack st.mode w) (omega (arith, h)) (enter_room st.stack st.mode w)

  pub feed_room : (waiting : WaitingSeen) (w : Word) → WaitsWithin (suc (waiting_parts waiting)) (feed_seen T waiting w)
  feed_room (ready_seen S m) w = enter_room S m w
  feed_room (named_seen S n prefix) w =
      let m = reduced_measure (sides_of (T.infix_ w)).priority S 0 1 in
      choice (WaitsWithin (suc (parts_held S))) (is_some prefix && is_infix_only T w) _ _
      (choice (WaitsWithin (suc (parts_held S))) (infix_fits m (sides_of (T.infix_ w))) _ _ (omega arith)
      (choice (WaitsWithin (suc (parts_held S))) (nat_le (sides_of prefix).priority (bound_seen S)) _ None (omega arith) tt))
      (then_enter_room (parts_held S) (want_name_seen S n prefix (opens (w ∷ [])) (number_next (w ∷ [])) (not (begins_term w.kind))) w
      (want_name_room S n prefix (opens (w ∷ [])) (number_next (w ∷ [])) (not (begins_term w.kind))))
  feed_room (doubt_seen S p s n i floor) w =
      choice (WaitsWithin (suc (parts_held S))) (opens (w ∷ [])) _ _
      (choice (WaitsWithin (suc (parts_held S))) (nat_le s.priority (bound_seen S)) _ None (omega arith) tt)
      (then_enter_room (parts_held S) (infix_held (reduced_seen i.priority S (atom_operand p)) n i) w (infix_reduced_room S (atom_operand p) n i))

-- a step that went on, or didn't

pub went_on : (T : Table) (b : Bool) (st : StateSeen) (o : Option StateSeen) (w : Word) → cond b (Some st) None ≡ o → b ≡ true → enter_seen T st.stack st.mode w ≡ then_enter_seen T o w
went_on T true st o w is goes = ap (λ x. then_enter_seen T x w) is
went_on T false st o w is goes = let both : false ≡ true = goes in cc

pub stopped : (T : Table) (b : Bool) (st : StateSeen) (o : Option StateSeen) (w : Word) → cond b (Some st) None ≡ o → b ≡ false → None ≡ then_enter_seen T o w
stopped T false st o w is goes = ap (λ x. then_enter_seen T x w) is
stopped T true st o w is goes = let both : true ≡ false = goes in cc

pub went_within : (n : ℕ) (b : Bool) (st : StateSeen) (o : Option StateSeen) → cond b (Some st) None ≡ o → b ≡ true → Within n o → parts_held st.stack ≤ n
went_within n true st o is goes low = subst (Within n) (sym is) low
went_within n false st o is goes low = let both : false ≡ true = goes in cc

-- the one word more that decides two in doubt

pub doubt_calls : (T : Table) (S : StackSeen) (p : Word) (s : Sides) (n : Word) (i : Sides) (w : Word) → opens (w ∷ []) ≡ true → call_step S p s n ≡ feed_doubt_seen T S p s n i w
doubt_calls T S p s n i w opening =
    sym (ap (λ b. cond b (call_step S p s n) (then_enter_seen T (infix_held (reduced_seen i.priority S (atom_operand p)) n i) w)) opening)

pub doubt_joins : (T : Table) (S : StackSeen) (p : Word) (s : Sides) (n : Word) (i : Sides) (w : Word) → opens (w ∷ []) ≡ false
    → then_enter_seen T (infix_held (reduced_seen i.priority S (atom_operand p)) n i) w ≡ feed_doubt_seen T S p s n i w
doubt_joins T S p s n i w opening =
    sym (ap (λ b. cond b (call_step S p s n) (then_enter_seen T (infix_held (reduced_seen i.priority S (atom_operand p)) n i) w)) opening)
