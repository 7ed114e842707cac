-- Closing operators one by one.
use Rattle.std.proofs.Common.{◌≡◌, ℕ, Bool, true, false, cond, List, max, ◌∷◌, [], nat_lt, refl, ap, sym, ◌∙◌}
use Rattle.prolog_terms.specs.declared.stack.Entry.{Entry}
use Rattle.prolog_terms.specs.declared.operand.Operand.{Operand}
use Rattle.prolog_terms.specs.declared.pending.Operator.{Operator}
use Rattle.prolog_terms.specs.declared.pending.Pending.{Pending}
use Rattle.prolog_terms.specs.declared.pending.Pending.TheVariants.{Operator as OperatorKept}
use Rattle.prolog_terms.specs.Tree.{Tree}
use Rattle.prolog_terms.specs.Forest.{last_of, before_last, without}
use Rattle.prolog_terms.specs.StackSeen.{Names, see_pending, holds, made, see_made, see_operand, see_operator, operator_holds, see_entries}
use Rattle.prolog_terms.specs.ReaderSeen.{PendingSeen, plus, inner_depth, priority_of, measure, reduced_measure, OperandSeen, OperatorSeen, StackSeen, entry, pending_operator, pending_bracket, built, right_of, held, is_operator_top, is_operator_below, reduced_seen, closed_seen}

pub reduced_step : (p : ℕ) (S S' : StackSeen) (o : OperatorSeen) (r : ℕ) (b : Bool) (t : OperandSeen) → S ≡ entry (pending_operator o) r b ∷ S' → nat_lt (right_of o) p ≡ true
    → reduced_seen p S t ≡ reduced_seen p S' (built o t)
reduced_step p S S' o r b t is below =
    ap (λ s. reduced_seen p s t) is ∙ ap (λ test. cond test (reduced_seen p S' (built o t)) (held (entry (pending_operator o) r b ∷ S') t)) below

pub reduced_stop : (p : ℕ) (S : StackSeen) (t : OperandSeen) → is_operator_below p S ≡ false → reduced_seen p S t ≡ held S t
reduced_stop p [] t h = refl
reduced_stop p (entry (pending_operator o) r b ∷ S) t h =
    ap (λ test. cond test (reduced_seen p S (built o t)) (held (entry (pending_operator o) r b ∷ S) t)) h
reduced_stop p (entry (pending_bracket k) r b ∷ S) t h = refl

pub closed_stop : (S : StackSeen) (t : OperandSeen) → is_operator_top S ≡ false → closed_seen S t ≡ held S t
closed_stop [] t h = refl
closed_stop (entry (pending_operator o) r b ∷ S) t h = let both : true ≡ false = h in cc
closed_stop (entry (pending_bracket k) r b ∷ S) t h = refl

-- an operator goes from the entries, and its node comes

pub closed_built : (names : Names) (old new : List Entry) (o : Operator) (r : ℕ) (b : Bool) (trees trees' : List Tree) (t t' : Operand)
    → old ≡ record { pending = OperatorKept o; reach = r; separates = b } ∷ new
    → see_made trees' t' ≡ made (without (operator_holds o) (before_last trees)) (built (see_operator names o (before_last trees)) (see_operand (last_of trees) t))
    → closed_seen (see_entries names new (before_last trees')) (see_operand (last_of trees') t') ≡ closed_seen (see_entries names old (before_last trees)) (see_operand (last_of trees) t)
closed_built names old new o r b trees trees' t t' is laid =
    ap (λ m. closed_seen (see_entries names new m.before) m.operand) laid
    ∙ sym (ap (λ es. closed_seen (see_entries names es (before_last trees)) (see_operand (last_of trees) t)) is)

pub reduced_built : (names : Names) (p : ℕ) (old new : List Entry) (o : Operator) (r : ℕ) (b : Bool) (trees trees' : List Tree) (t t' : Operand)
    → old ≡ record { pending = OperatorKept o; reach = r; separates = b } ∷ new
    → nat_lt (right_of (see_operator names o (before_last trees))) p ≡ true
    → see_made trees' t' ≡ made (without (operator_holds o) (before_last trees)) (built (see_operator names o (before_last trees)) (see_operand (last_of trees) t))
    → reduced_seen p (see_entries names new (before_last trees')) (see_operand (last_of trees') t') ≡ reduced_seen p (see_entries names old (before_last trees)) (see_operand (last_of trees) t)
reduced_built names p old new o r b trees trees' t t' is below laid =
    ap (λ m. reduced_seen p (see_entries names new m.before) m.operand) laid
    ∙ sym (reduced_step p (see_entries names old (before_last trees)) (see_entries names new (without (operator_holds o) (before_last trees))) (see_operator names o (before_last trees)) r b
    (see_operand (last_of trees) t) (ap (λ es. see_entries names es (before_last trees)) is) below)

-- the measure once an operator more is closed

pub measured_step : (p : ℕ) (names : Names) (es below : List Entry) (e : Entry) (o : Operator) (rest : List Tree) (above depth next_above next_depth : ℕ) → es ≡ e ∷ below → e.pending ≡ OperatorKept o
    → nat_lt (right_of (see_operator names o rest)) p ≡ true → next_above ≡ priority_of (see_operator names o rest)
    → next_depth ≡ plus (max (inner_depth (pending_operator (see_operator names o rest))) depth) 1
    → reduced_measure p (see_entries names below (without (operator_holds o) rest)) next_above next_depth ≡ reduced_measure p (see_entries names es rest) above depth
measured_step p names es below e o rest above depth next_above next_depth is pending_is low above_is depth_is =
    let S = see_entries names below (without (operator_holds o) rest) in
    (λ i. reduced_measure p S (above_is i) (depth_is i))
    ∙ (sym (ap (λ b. cond b (reduced_measure p S (priority_of (see_operator names o rest)) (plus (max (inner_depth (pending_operator (see_operator names o rest))) depth) 1))
    (measure (entry (pending_operator (see_operator names o rest)) e.reach e.separates ∷ S) above depth)) low)
    ∙ (sym (ap (λ q. reduced_measure p (entry (see_pending names q rest) e.reach e.separates ∷ see_entries names below (without (holds q) rest)) above depth) pending_is)
    ∙ sym (ap (λ xs. reduced_measure p (see_entries names xs rest) above depth) is)))

pub measured_stop : (p : ℕ) (S : StackSeen) (above depth : ℕ) → is_operator_below p S ≡ false → measure S above depth ≡ reduced_measure p S above depth
measured_stop p [] above depth h = refl
measured_stop p (entry (pending_operator o) r b ∷ S) above depth h =
    sym (ap (λ test. cond test (reduced_measure p S (priority_of o) (plus (max (inner_depth (pending_operator o)) depth) 1)) (measure (entry (pending_operator o) r b ∷ S) above depth)) h)
measured_stop p (entry (pending_bracket k) r b ∷ S) above depth h = refl

pub not_below : (p : ℕ) (names : Names) (es below : List Entry) (e : Entry) (q : Pending) (rest : List Tree) → es ≡ e ∷ below → e.pending ≡ q
    → is_operator_below p (entry (see_pending names q rest) e.reach e.separates ∷ []) ≡ false → is_operator_below p (see_entries names es rest) ≡ false
not_below p names es below e q rest is pending_is h =
    ap (λ xs. is_operator_below p (see_entries names xs rest)) is
    ∙ (ap (λ k. is_operator_below p (entry (see_pending names k rest) e.reach e.separates ∷ see_entries names below (without (holds e.pending) rest))) pending_is ∙ alone (see_pending names q rest) (see_entries names below (without (holds e.pending) rest)) h)
  where
    alone : (f : PendingSeen) (S : StackSeen) → is_operator_below p (entry f e.reach e.separates ∷ []) ≡ false → is_operator_below p (entry f e.reach e.separates ∷ S) ≡ false
    alone (pending_operator o) S h = h
    alone (pending_bracket k) S h = refl
