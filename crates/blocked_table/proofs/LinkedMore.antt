-- How a slot is added to a list.
use Rattle.std.proofs.Common.{◌≡◌, inl, inr, ℕ, ◌<◌, ◌+◌, List, if◌then◌else◌, nat_eq, ap, ◌∙◌, sym, arith, ne_eqb}
use Rattle.std.proofs.lemmas.Bool.{cases_eq, cond-true, cond-false, eq-eqb}
use Rattle.blocked_table.specs.WaitersFields.{AreLinked, word_at}

-- a slot is added to the list of a node, before the others
pub record Comes (p w : ℕ) (heads nodes after before heads2 nodes2 after2 before2 : List ℕ) : Type 0 where
  pub free : word_at nodes p ≡ 0
  pub waits : word_at nodes2 p ≡ w + 1
  pub nodes_same : (i : ℕ) → (i ≡ p → ⊥) → word_at nodes2 i ≡ word_at nodes i
  pub before_new : word_at before2 p ≡ 0
  pub before_next : (i : ℕ) → word_at heads w ≡ i + 1 → word_at before2 i ≡ p + 1
  pub before_same : (i : ℕ) → (i ≡ p → ⊥) → (word_at heads w ≡ i + 1 → ⊥) → word_at before2 i ≡ word_at before i
  pub after_new : word_at after2 p ≡ word_at heads w
  pub after_same : (i : ℕ) → (i ≡ p → ⊥) → word_at after2 i ≡ word_at after i
  pub head_new : word_at heads2 w ≡ p + 1
  pub heads_same : (u : ℕ) → (u ≡ w → ⊥) → word_at heads2 u ≡ word_at heads u

module _ {p w : ℕ} {heads nodes after before heads2 nodes2 after2 before2 : List ℕ} (is : AreLinked heads nodes after before)
    (new : Comes p w heads nodes after before heads2 nodes2 after2 before2) where
  abbrev rank2 : ℕ → ℕ
  rank2 i = if nat_eq i p then 0 else is.rank i + 1

  rank_here : (i : ℕ) → i ≡ p → rank2 i ≡ 0
  rank_here i same = cond-true (nat_eq i p) 0 (is.rank i + 1) (eq-eqb i p same)

  rank_other : (i : ℕ) → (i ≡ p → ⊥) → rank2 i ≡ is.rank i + 1
  rank_other i ne = cond-false (nat_eq i p) 0 (is.rank i + 1) (ne_eqb i p ne)

  -- a slot that waited is another one
  waited_other : (i u : ℕ) → word_at nodes i ≡ u + 1 → i ≡ p → ⊥
  waited_other i u waited same = omega (arith, ap (word_at nodes) same, new.free, waited)

  stays : (i u : ℕ) → word_at nodes i ≡ u + 1 → word_at nodes2 i ≡ u + 1
  stays i u waited = new.nodes_same i (waited_other i u waited) ∙ waited

  was : (i u : ℕ) → (i ≡ p → ⊥) → word_at nodes2 i ≡ u + 1 → word_at nodes i ≡ u + 1
  was i u ne waits = sym (new.nodes_same i ne) ∙ waits

  here_node : (i u : ℕ) → i ≡ p → word_at nodes2 i ≡ u + 1 → u ≡ w
  here_node i u same waits = omega (arith, ap (word_at nodes2) same, new.waits, waits)

  first_now : (i u : ℕ) → word_at heads2 u ≡ i + 1 → (word_at nodes2 i ≡ u + 1) × (word_at before2 i ≡ 0)
  first_now i u head =
      elim (cases_eq u w) as (λ _. (word_at nodes2 i ≡ u + 1) × (word_at before2 i ≡ 0)) [
        | inl same ↦
            let here : i ≡ p = omega (arith, ap (word_at heads2) same, new.head_new, head) in
            (omega (arith, ap (word_at nodes2) here, new.waits, same), ap (word_at before2) here ∙ new.before_new)
        | inr ne ↦
            let first = is.first i u (sym (new.heads_same u ne) ∙ head) in
            let not_next : word_at heads w ≡ i + 1 → ⊥ = λ next. ne (omega (arith, (is.first i w next).0, first.0)) in
            (stays i u first.0, new.before_same i (waited_other i u first.0) not_next ∙ first.1)
      ]

  head_now : (i u : ℕ) → word_at nodes2 i ≡ u + 1 → word_at before2 i ≡ 0 → word_at heads2 u ≡ i + 1
  head_now i u waits none =
      elim (cases_eq i p) as (λ _. word_at heads2 u ≡ i + 1) [
        | inl here ↦ omega (arith, ap (word_at heads2) (here_node i u here waits), new.head_new, here)
        | inr ne ↦
            let not_next : word_at heads w ≡ i + 1 → ⊥ = λ next. omega (arith, new.before_next i next, none) in
            let head : word_at heads u ≡ i + 1 = is.head i u (was i u ne waits) (sym (new.before_same i ne not_next) ∙ none) in
            new.heads_same u (λ same. not_next (ap (word_at heads) (sym same) ∙ head)) ∙ head
      ]

  back_now : (i u q : ℕ) → word_at nodes2 i ≡ u + 1 → word_at before2 i ≡ q + 1
      → (word_at nodes2 q ≡ u + 1) × (word_at after2 q ≡ i + 1) × (rank2 q < rank2 i)
  back_now i u q waits last =
      elim (cases_eq i p) as (λ _. (word_at nodes2 q ≡ u + 1) × (word_at after2 q ≡ i + 1) × (rank2 q < rank2 i)) [
        | inl here ↦ absurd (omega (arith, ap (word_at before2) here, new.before_new, last))
        | inr ne ↦
            elim (cases_eq (word_at heads w) (i + 1)) as (λ _. (word_at nodes2 q ≡ u + 1) × (word_at after2 q ≡ i + 1) × (rank2 q < rank2 i)) [
              | inl next ↦
                  let here : q ≡ p = omega (arith, new.before_next i next, last) in (
                    omega (arith, ap (word_at nodes2) here, new.waits, (is.first i w next).0, was i u ne waits),
                    ap (word_at after2) here ∙ new.after_new ∙ next,
                    omega (arith, rank_here q here, rank_other i ne),
                  )
              | inr not_next ↦
                  let step = is.back i u q (was i u ne waits) (sym (new.before_same i ne not_next) ∙ last) in
                  let other : q ≡ p → ⊥ = waited_other q u step.0 in
                  (stays q u step.0, new.after_same q other ∙ step.1, omega (arith, rank_other q other, rank_other i ne, step.2))
            ]
      ]

  on_now : (i u q : ℕ) → word_at nodes2 i ≡ u + 1 → word_at after2 i ≡ q + 1 → (word_at nodes2 q ≡ u + 1) × (word_at before2 q ≡ i + 1)
  on_now i u q waits to =
      elim (cases_eq i p) as (λ _. (word_at nodes2 q ≡ u + 1) × (word_at before2 q ≡ i + 1)) [
        | inl here ↦
            let next : word_at heads w ≡ q + 1 = sym new.after_new ∙ ap (word_at after2) (sym here) ∙ to in
            let same : u ≡ w = here_node i u here waits in
            let waiting : word_at nodes2 q ≡ w + 1 = stays q w (is.first q w next).0 in
            (omega (arith, waiting, same), omega (arith, new.before_next q next, here))
        | inr ne ↦
            let step = is.on i u q (was i u ne waits) (sym (new.after_same i ne) ∙ to) in
            let not_next : word_at heads w ≡ q + 1 → ⊥ = λ next. omega (arith, (is.first q w next).1, step.1) in
            (stays q u step.0, new.before_same q (waited_other q u step.0) not_next ∙ step.1)
      ]

  pub linked_more : AreLinked heads2 nodes2 after2 before2
  linked_more = record { rank = rank2; first = first_now; head = head_now; back = back_now; on = on_now }
