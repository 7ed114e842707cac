-- The first place from one on at which a test fails.
use Rattle.std.proofs.Common.{◌≡◌, ℕ, zero, suc, ◌+◌, ◌-◌, ◌<◌, ◌≤◌, ◌⊎◌, Bool, true, false, subst, inl, inr, arith}
use Rattle.std.proofs.lemmas.Bool.{cases_lt, cases_Bool}

-- the test holds from one place up to another, and fails there unless that is the limit
pub record StopsAt (test : ℕ → Bool) (limit a b : ℕ) : Type 0 where
  pub from : a ≤ b
  pub within : b ≤ limit
  pub holds : (k : ℕ) → a ≤ k → k < b → test k ≡ true
  pub stops : (b ≡ limit) ⊎ (test b ≡ false)

-- it may fail at once,
at_once : (test : ℕ → Bool) (limit a : ℕ) → a ≤ limit → (a ≡ limit) ⊎ (test a ≡ false) → StopsAt test limit a a
-- it may fail at once,
at_once test limit a within stops = record {
  from = omega arith;
  within = within;
  holds = λ k from below. absurd (omega (arith, from, below));
  stops = stops;
}

-- or at a later place
pub one_later : (test : ℕ → Bool) (limit a b : ℕ) → test a ≡ true → StopsAt test limit (a + 1) b → StopsAt test limit a b
one_later test limit a b here later = record {
  from = omega (arith, later.from);
  within = later.within;
  holds = λ k from below. elim (cases_lt a k) [
    | inl lt ↦ later.holds k (omega (arith, lt)) below
    | inr le ↦ let is : a ≡ k = omega (arith, le, from) in subst (λ n. test n ≡ true) is here
  ];
  stops = later.stops;
}

stop_by : (test : ℕ → Bool) (limit count a : ℕ) → a + count ≡ limit → (b : ℕ) × StopsAt test limit a b
stop_by test limit zero a left = let is : a ≡ limit = omega (arith, left) in (a, at_once test limit a (omega (arith, is)) (inl is))
stop_by test limit (suc count) a left = elim (cases_Bool (test a)) [
  | inl holds ↦
      let later : (b : ℕ) × StopsAt test limit (a + 1) b = stop_by test limit count (a + 1) (omega (arith, left)) in
      (later.0, one_later test limit a later.0 holds later.1)
  | inr fails ↦ (a, at_once test limit a (omega (arith, left)) (inr fails))
]

-- there is one
pub first_stop : (test : ℕ → Bool) (limit a : ℕ) → a ≤ limit → (b : ℕ) × StopsAt test limit a b
first_stop test limit a within = stop_by test limit (limit - a) a (omega (arith, within))
