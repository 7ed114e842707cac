-- What a name is by the word behind it, with that word.
use Rattle.std.proofs.Common.{◌≡◌, false, true, not, cond, ◌&&◌, ◌||◌, [], ◌∷◌, Option, Some, is_some, Bool, refl, sym, ap}
use Rattle.prolog_terms.specs.Words.{Word, Table, Sides, sides_of, is_minus, begins_term, opens, number_next}
use Rattle.prolog_terms.specs.ReaderSeen.{StackSeen, StateSeen, WaitingSeen, ready_seen, settled_seen, wants, has, functor_of, minus_of, pushed, pending_bracket, first_in, Call, goes_seen, atom_operand, negative_operand, have_step_seen, prefix_step_seen, want_name_seen, then_enter_seen}

pub and_false : (a b : Bool) → b ≡ false → false ≡ (a && b)
and_false true b is = sym is
and_false false b is = refl

pub and_true : (a b : Bool) → b ≡ true → a ≡ (a && b)
and_true true b is = sym is
and_true false b is = refl

abbrev pub name_fed : Table → StackSeen → Word → Option Sides → Word → Option WaitingSeen
name_fed T S n prefix w = then_enter_seen T (want_name_seen S n prefix (opens (w ∷ [])) (number_next (w ∷ [])) (not (begins_term w.kind))) w

module _ (T : Table) (S : StackSeen) (n : Word) (prefix : Option Sides) (w : Word) where
  abbrev as_atom_or_operator : Option StateSeen
  as_atom_or_operator = cond (not (is_some prefix) || not (begins_term w.kind)) (goes_seen S (has (atom_operand n))) (prefix_step_seen S n (sides_of prefix))

  pub calls : opens (w ∷ []) ≡ true → Some (ready_seen (pushed S (pending_bracket (first_in (Call n)))) wants) ≡ name_fed T S n prefix w
  calls opening =
      sym (ap (λ b. then_enter_seen T (cond b (goes_seen S (functor_of n)) (cond (is_minus n && number_next (w ∷ [])) (goes_seen S (minus_of n)) as_atom_or_operator)) w) opening)

  pub is_number : opens (w ∷ []) ≡ false → (is_minus n && number_next (w ∷ [])) ≡ true → Some (ready_seen S (has (negative_operand n w))) ≡ name_fed T S n prefix w
  is_number opening minus =
      sym (λ i. then_enter_seen T (cond (opening i) (goes_seen S (functor_of n)) (cond (minus i) (goes_seen S (minus_of n)) as_atom_or_operator)) w)

  pub is_atom : opens (w ∷ []) ≡ false → (is_minus n && number_next (w ∷ [])) ≡ false → (not (is_some prefix) || not (begins_term w.kind)) ≡ true
      → settled_seen (have_step_seen T S (atom_operand n) w w.kind) ≡ name_fed T S n prefix w
  is_atom opening minus alone =
      sym (λ i. then_enter_seen T (cond (opening i) (goes_seen S (functor_of n)) (cond (minus i) (goes_seen S (minus_of n)) (cond (alone i) (goes_seen S (has (atom_operand n))) (prefix_step_seen S n (sides_of prefix))))) w)

  pub is_operator : opens (w ∷ []) ≡ false → (is_minus n && number_next (w ∷ [])) ≡ false → (not (is_some prefix) || not (begins_term w.kind)) ≡ false
      → then_enter_seen T (prefix_step_seen S n (sides_of prefix)) w ≡ name_fed T S n prefix w
  is_operator opening minus alone =
      sym (λ i. then_enter_seen T (cond (opening i) (goes_seen S (functor_of n)) (cond (minus i) (goes_seen S (minus_of n)) (cond (alone i) (goes_seen S (has (atom_operand n))) (prefix_step_seen S n (sides_of prefix))))) w)
