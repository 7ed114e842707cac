-- Least nodes, of one list after another.
use Rattle.std.proofs.Common.{◌≡◌, ◌⊎◌, inl, inr, ℕ, ◌≤◌, ◌<◌, min, List, length, get_or, map, Option, Some, None, Bool, if◌then◌else◌, refl, sym, ap, subst, ◌∙◌, arith}
use Rattle.std.proofs.lemmas.Bool.{cases_eq, cases_lt, eq-eqb, ne_eqb}
use Rattle.std.proofs.lemmas.List.{get_or-map}
use Rattle.effect_flow.specs.Carriers.{IsFirst, IsUpTo, first_at, see_node}

-- the node that isn't above another
pub upto_some : (first : Option ℕ) (q : ℕ) → IsUpTo first q → (n : ℕ) × ((first ≡ Some n) × (n ≤ q))
upto_some None q is = absurd is
upto_some (Some n) q is = (n, (refl, is))

pub upto_more : (first : Option ℕ) (n q : ℕ) → IsUpTo first n → n ≤ q → IsUpTo first q
upto_more None n q is le = is
upto_more (Some first) n q is le = omega (arith, is, le)

pub no_some : (q : ℕ) → None ≡ Some q → ⊥
no_some q is = cc

pub first_none : (P : ℕ → Type 0) (first : Option ℕ) → first ≡ None → ((q : ℕ) → P q → ⊥) → IsFirst P first
first_none P first none never = record { is = λ q is. absurd (no_some q (sym none ∙ is)); least = λ q holds. absurd (never q holds) }

-- two ways to say what the nodes are
pub first_same : (P Q : ℕ → Type 0) (first : Option ℕ) → ((q : ℕ) → P q → Q q) → ((q : ℕ) → Q q → P q) → IsFirst P first → IsFirst Q first
first_same P Q first to from is = record { is = λ q at. to q (is.is q at); least = λ q holds. is.least q (from q holds) }

-- the least of more nodes
pub first_more : (P Q : ℕ → Type 0) (a b : Option ℕ) → IsFirst P a → IsFirst (λ q. (a ≡ Some q) ⊎ Q q) b → IsFirst (λ q. P q ⊎ Q q) b
first_more P Q a b before after = record {
  is = λ q at. elim (after.is q at) [ inl old ↦ inl (before.is q old) | inr new ↦ inr new ];
  least = λ q holds.
      elim holds [
        | inl old ↦
            let n = upto_some a q (before.least q old) in
            upto_more b n.0 q (after.least n.0 (inl n.1.0)) n.1.1
        | inr new ↦ after.least q (inr new)
      ];
}

-- the least of both
pub first_both : (P Q : ℕ → Type 0) (a b c : Option ℕ) → IsFirst P a → IsFirst Q b → IsFirst (λ q. (a ≡ Some q) ⊎ (b ≡ Some q)) c
    → IsFirst (λ q. P q ⊎ Q q) c
first_both P Q a b c one other both = record {
  is = λ q at. elim (both.is q at) [ inl old ↦ inl (one.is q old) | inr new ↦ inr (other.is q new) ];
  least = λ q holds.
      elim holds [
        | inl old ↦ let n = upto_some a q (one.least q old) in upto_more c n.0 q (both.least n.0 (inl n.1.0)) n.1.1
        | inr new ↦ let n = upto_some b q (other.least q new) in upto_more c n.0 q (both.least n.0 (inr n.1.0)) n.1.1
      ];
}

-- numbers as nodes

pub see_none : (n : ℕ) → n ≡ 4294967295 → see_node n ≡ None
see_none n is = ap (λ (b : Bool). if b then None else Some n) (eq-eqb n 4294967295 is)

pub see_some : (n : ℕ) → (n ≡ 4294967295 → ⊥) → see_node n ≡ Some n
see_some n other = ap (λ (b : Bool). if b then None else Some n) (ne_eqb n 4294967295 other)

some_same : (a b : ℕ) → Some a ≡ Some b → a ≡ b
some_same a b is = cc

pub seen_number : (n q : ℕ) → see_node n ≡ Some q → (n ≡ q) × (n ≡ 4294967295 → ⊥)
seen_number n q is =
    elim (cases_eq n 4294967295) [
      | inl none ↦ absurd (no_some q (sym (see_none n none) ∙ is))
      | inr some ↦ (some_same n q (sym (see_some n some) ∙ is), some)
    ]

pub upto_seen : (n q : ℕ) → n ≤ q → q < 4294967295 → IsUpTo (see_node n) q
upto_seen n q le low = subst (λ first. IsUpTo first q) (sym (see_some n (λ is. omega (arith, is, le, low)))) le

-- the lesser of two numbers as nodes
pub first_min : (a b c : ℕ) → c ≡ min a b → a ≤ 4294967295 → b ≤ 4294967295
    → IsFirst (λ q. (see_node a ≡ Some q) ⊎ (see_node b ≡ Some q)) (see_node c)
first_min a b c is most other = record {
  is = λ q at.
      let seen = seen_number c q at in
      elim (cases_lt a b) [
        | inl lt ↦ inl (see_some a (λ no. seen.1 (omega (arith, no, is, lt))) ∙ ap (λ n. Some n) (omega (arith, seen.0, is, lt)))
        | inr le ↦ inr (see_some b (λ no. seen.1 (omega (arith, no, is, le))) ∙ ap (λ n. Some n) (omega (arith, seen.0, is, le)))
      ];
  least = λ q holds.
      elim holds [
        | inl one ↦ let seen = seen_number a q one in upto_seen c q (omega (arith, is, seen.0)) (omega (arith, seen.0, seen.1, most))
        | inr one ↦ let seen = seen_number b q one in upto_seen c q (omega (arith, is, seen.0)) (omega (arith, seen.0, seen.1, other))
      ];
}

-- the node of a kind
pub first_seen : (firsts : List ℕ) (kind : ℕ) → kind < length firsts → first_at (map see_node firsts) kind ≡ see_node (get_or firsts kind 0)
first_seen firsts kind lt = get_or-map see_node firsts kind 0 None lt

-- the lesser of both at a kind
pub lesser_seen : (xs bs cs : List ℕ) (kind : ℕ) → kind < length cs → kind < length xs → kind < length bs
    → get_or cs kind 0 ≡ min (get_or xs kind 0) (get_or bs kind 0) → get_or xs kind 0 ≤ 4294967295 → get_or bs kind 0 ≤ 4294967295
    → IsFirst (λ q. (first_at (map see_node xs) kind ≡ Some q) ⊎ (first_at (map see_node bs) kind ≡ Some q)) (first_at (map see_node cs) kind)
lesser_seen xs bs cs kind in_c in_a in_b is low other =
    rw (first_seen xs kind in_a, first_seen bs kind in_b, first_seen cs kind in_c)
    (first_min (get_or xs kind 0) (get_or bs kind 0) (get_or cs kind 0) is low other)
