-- What a number says of its node, and what passes know after a look.
use Rattle.std.proofs.Common.{inl, inr, ◌⊎◌, ◌≡◌, ◌≢◌, ℕ, zero, suc, ◌<◌, ◌≤◌, ◌+◌, List, [], ◌∷◌, ◌++◌, set, refl, subst, ⊎_elim, arith}
use Rattle.std.proofs.lemmas.Bool.{cases_lt}
use mathlib.Core.Option.{some}
use native.Mathlib.Decide.{ℕ_discrete}
use lib.ListN.{get_elem?}
use Rattle.list_laws.specs.Counts.{times, flat}
use Rattle.list_laws.proofs.Counting.{times-append, times_here, times_other}
use Rattle.list_laws.proofs.Standing.{total_set, total_least}
use Rattle.node_claims.specs.declared.view.Outline.{Outline}
use Rattle.node_claims.specs.declared.view.View.{View}
use Rattle.node_claims.specs.Views.{Noted, looked}
use Rattle.node_claims.specs.Rule.{Agrees, WordIs, standing}
use Rattle.node_claims.specs.Steps.{IsLater}

not_done : (p d w : ℕ) → WordIs p d w → w ≢ 2 → d ≡ 0
not_done p d w is other = elim (cases_lt 0 d) as (λ _. d ≡ 0) [ inl some_done ↦ absurd (other (is.closed some_done)) | inr le ↦ omega (arith, le) ]

pub word_zero : (p d w : ℕ) → WordIs p d w → w ≡ 0 → (p ≡ 0) × (d ≡ 0)
word_zero p d w is z =
    let none_done : d ≡ 0 = not_done p d w is (λ two. omega (arith, two, z)) in
    let nowhere : p ≡ 0 = elim (cases_lt 0 p) as (λ _. p ≡ 0) [
      | inl stands ↦ let one : w ≡ 1 = is.held stands none_done in absurd (omega (arith, one, z))
      | inr le ↦ omega (arith, le)
    ] in (nowhere, none_done)

pub word_one : (p d w : ℕ) → WordIs p d w → w ≡ 1 → (0 < p) × (d ≡ 0)
word_one p d w is one =
    let none_done : d ≡ 0 = not_done p d w is (λ two. omega (arith, two, one)) in
    let stands : 0 < p = elim (cases_lt 0 p) as (λ _. 0 < p) [
      | inl lt ↦ lt
      | inr le ↦ let z : w ≡ 0 = is.unseen (omega (arith, le)) in absurd (omega (arith, z, one))
    ] in (stands, none_done)

pub word_done : (p d w : ℕ) → WordIs p d w → 2 ≤ w → 0 < d
word_done p d w is two =
    elim (cases_lt 0 d) as (λ _. 0 < d) [
      | inl lt ↦ lt
      | inr le ↦
          let none_done : d ≡ 0 = omega (arith, le) in
          elim (cases_lt 0 p) as (λ _. 0 < d) [
            | inl stands ↦ let one : w ≡ 1 = is.held stands none_done in absurd (omega (arith, one, two))
            | inr le_p ↦ let z : w ≡ 0 = is.unseen (omega (arith, le_p)) in absurd (omega (arith, z, two))
          ]
    ]

pub word_small : (p d w : ℕ) → WordIs p d w → w ≤ 2
word_small p d w is =
    elim (cases_lt w 2) as (λ _. w ≤ 2) [
      | inl lt ↦ omega (arith, lt)
      | inr ge ↦ let two : w ≡ 2 = is.closed (word_done p d w is ge) in omega (arith, two)
    ]

pub word_held : (p d w : ℕ) → WordIs p d w → 0 < p → 0 < w
word_held p d w is stands =
    elim (cases_lt 0 w) as (λ _. 0 < w) [ inl lt ↦ lt | inr le ↦ let none = word_zero p d w is (omega (arith, le)) in absurd (omega (arith, none, stands)) ]

-- the counts after one view changed
pub standing_set : (views : List View) (o : Outline) (id : ℕ) (v w : View) (x : ℕ) → get_elem? views id ≡ some v
    → standing (set views id w) o x + times x v.nodes ≡ standing views o x + times x w.nodes
standing_set views o id v w x at = let t = total_set (λ (u : View). times x u.nodes) views id v w at in omega (arith, t)

pub own_stands : (views : List View) (o : Outline) (id : ℕ) (v : View) (x : ℕ) → get_elem? views id ≡ some v
    → times x v.nodes + (times x o.kept + times x (flat o.released)) ≤ standing views o x
own_stands views o id v x at = let t = total_least (λ (u : View). times x u.nodes) views id v at in omega (arith, t)

pub noted_snoc : (x n : ℕ) (looks : List (ℕ × ℕ)) (y m : ℕ) → Noted x n (looks ++ (y, m) ∷ []) → Noted x n looks ⊎ ((y ≡ x) × (m ≡ n))
noted_snoc x n [] y m (inl is) = inr is
noted_snoc x n [] y m (inr later) = absurd later
noted_snoc x n (p ∷ ps) y m (inl is) = inl (inl is)
noted_snoc x n (p ∷ ps) y m (inr later) = ⊎_elim (λ old. inl (inr old)) (λ last. inr last) (noted_snoc x n ps y m later)

pub noted_append : (x n : ℕ) (looks more : List (ℕ × ℕ)) → Noted x n (looks ++ more) → Noted x n looks ⊎ Noted x n more
noted_append x n [] more noted = inr noted
noted_append x n (p ∷ ps) more (inl is) = inl (inl is)
noted_append x n (p ∷ ps) more (inr later) = ⊎_elim (λ old. inl (inr old)) (λ new. inr new) (noted_append x n ps more later)

pub agrees_more : (o : Outline) (p q d e : ℕ → ℕ) (v : View) → ((x : ℕ) → p x ≤ q x) → ((x : ℕ) → d x ≤ e x) → Agrees o p d v → Agrees o q e v
agrees_more o p q d e v stands done a = record {
  lists = a.lists;
  roots = a.roots;
  seen = λ x some_seen. let old = a.seen x some_seen in omega (arith, old, done x);
  held = λ x noted. let old = a.held x noted in omega (arith, old, stands x);
  finished = a.finished;
  told = a.told;
}

-- a node among those seen and x
pub seen_more : (x y : ℕ) (seen : List ℕ) → 0 < times y (seen ++ x ∷ []) → (0 < times y seen) ⊎ (x ≡ y)
seen_more x y seen some_seen =
    elim (ℕ_discrete x y) as (λ _. (0 < times y seen) ⊎ (x ≡ y)) [
      | yes is ↦ inr is
      | no other ↦ inl (let sum = times-append y seen (x ∷ []) in let none_more = times_other y x other in omega (arith, sum, none_more, some_seen))
    ]

pub seen_last : (x : ℕ) (seen : List ℕ) → 0 < times x (seen ++ x ∷ [])
seen_last x seen = let sum = times-append x seen (x ∷ []) in let one = times_here x in omega (arith, sum, one)

pub look_agrees : (o : Outline) (p d : ℕ → ℕ) (v : View) (x n : ℕ) → WordIs (p x) (d x) n → Agrees o p d v → Agrees o p d (looked x n v)
look_agrees o p d v x zero is a = record {
  lists = a.lists;
  roots = a.roots;
  seen = a.seen;
  held = λ y noted. ⊎_elim (λ old. a.held y old) (λ (last : (x ≡ y) × (0 ≡ 1)). absurd (omega (arith, last.1))) (noted_snoc y 1 v.looks x 0 noted);
  finished = λ y noted. ⊎_elim (λ old. a.finished y old) (λ (last : (x ≡ y) × (0 ≡ 2)). absurd (omega (arith, last.1))) (noted_snoc y 2 v.looks x 0 noted);
  told = a.told;
}
look_agrees o p d v x (suc zero) is a = record {
  lists = a.lists;
  roots = a.roots;
  seen = a.seen;
  held = λ y noted. ⊎_elim (λ old. a.held y old) (λ (last : (x ≡ y) × (1 ≡ 1)). subst (λ (u : ℕ). 0 < p u) last.0 (word_one (p x) (d x) 1 is refl).0) (noted_snoc y 1 v.looks x 1 noted);
  finished = λ y noted. ⊎_elim (λ old. a.finished y old) (λ (last : (x ≡ y) × (1 ≡ 2)). absurd (omega (arith, last.1))) (noted_snoc y 2 v.looks x 1 noted);
  told = a.told;
}
look_agrees o p d v x (suc (suc n)) is a =
    let done : 0 < d x = word_done (p x) (d x) (suc (suc n)) is (omega arith) in record {
      lists = a.lists;
      roots = a.roots;
      seen = λ y some_seen. ⊎_elim (λ old. a.seen y old) (λ (same : x ≡ y). subst (λ (u : ℕ). 0 < d u) same done) (seen_more x y v.seen some_seen);
      held = λ y noted. ⊎_elim (λ old. a.held y old) (λ (last : (x ≡ y) × (2 ≡ 1)). absurd (omega (arith, last.1))) (noted_snoc y 1 v.looks x 2 noted);
      finished = λ y noted.
          ⊎_elim
          (λ old. let had = a.finished y old in let sum = times-append y v.seen (x ∷ []) in omega (arith, had, sum))
          (λ (last : (x ≡ y) × (2 ≡ 2)). subst (λ (u : ℕ). 0 < times u (v.seen ++ x ∷ [])) last.0 (seen_last x v.seen))
          (noted_snoc y 2 v.looks x 2 noted);
      told = a.told;
    }

-- the number found is no less than what the pass knew
pub is_later : (o : Outline) (views : List View) (d : ℕ → ℕ) (id : ℕ) (v : View) (x n : ℕ) → get_elem? views id ≡ some v → WordIs (standing views o x) (d x) n
    → Agrees o (standing views o) d v → IsLater x v n
is_later o views d id v x n at is a = record {
  small = word_small (standing views o x) (d x) n is;
  held = λ noted. word_held (standing views o x) (d x) n is (a.held x noted);
  own = λ mine. word_held (standing views o x) (d x) n is (let least = own_stands views o id v x at in omega (arith, least, mine));
  seen = λ some_seen. is.closed (a.seen x some_seen);
}
