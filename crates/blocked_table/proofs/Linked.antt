-- How slots are added to lists and leave them.
use Rattle.std.proofs.Common.{◌≡◌, inl, inr, ℕ, zero, suc, ◌<◌, ◌+◌, List, length, refl, ap, ◌∙◌, sym, arith}
use Rattle.std.proofs.lemmas.Bool.{cases_eq, cases_lt}
use Rattle.std.proofs.lemmas.List.{get_or_past}
use Rattle.blocked_table.specs.WaitersFields.{AreLinked, word_at}

-- a word that isn't 0 is within its list
pub within : (words : List ℕ) (i k : ℕ) → word_at words i ≡ k + 1 → i < length words
within words i k is =
    elim (cases_lt i (length words)) as (λ _. i < length words)
    [ inl lt ↦ lt | inr past ↦ absurd (omega (arith, is, get_or_past words i 0 past)) ]

-- nothing is on a list
pub linked_none : (heads nodes after before : List ℕ) → ((w : ℕ) → word_at heads w ≡ 0) → ((p : ℕ) → word_at nodes p ≡ 0)
    → AreLinked heads nodes after before
linked_none heads nodes after before no_head no_node = record {
  rank = λ p. p;
  first = λ p w is. absurd (omega (arith, is, no_head w));
  head = λ p w waits is. absurd (omega (arith, waits, no_node p));
  back = λ p w q waits is. absurd (omega (arith, waits, no_node p));
  on = λ p w q waits is. absurd (omega (arith, waits, no_node p));
}

-- if a node has no head, no slot waits for it

none_by : {heads nodes after before : List ℕ} → (is : AreLinked heads nodes after before) → (w p k : ℕ) → word_at heads w ≡ 0
    → ((q : ℕ) → is.rank q < is.rank p → word_at nodes q ≡ w + 1 → ⊥) → word_at nodes p ≡ w + 1 → word_at before p ≡ k → ⊥
none_by is w p zero none earlier waits last = omega (arith, none, is.head p w waits last)
none_by is w p (suc q) none earlier waits last =
    let step = is.back p w q waits (omega (arith, last)) in earlier q step.2 step.0

none_below : {heads nodes after before : List ℕ} → (is : AreLinked heads nodes after before) → (w : ℕ) → word_at heads w ≡ 0 → (n p : ℕ)
    → is.rank p < n → word_at nodes p ≡ w + 1 → ⊥
none_below is w none zero p lt waits = omega (arith, lt)
none_below {heads} {nodes} {after} {before} is w none (suc n) p lt waits =
    none_by is w p (word_at before p) none (λ q less waiting. none_below is w none n q (omega (arith, lt, less)) waiting) waits refl

pub none_waits : {heads nodes after before : List ℕ} → (is : AreLinked heads nodes after before) → (w : ℕ) → word_at heads w ≡ 0 → (p : ℕ)
    → word_at nodes p ≡ w + 1 → ⊥
none_waits is w none p waits = none_below is w none (suc (is.rank p)) p (omega arith) waits

-- a slot leaves the list of a node
pub record Leaves (p w : ℕ) (heads nodes after before heads2 nodes2 after2 before2 : List ℕ) : Type 0 where
  pub waited : word_at nodes p ≡ w + 1
  pub gone : word_at nodes2 p ≡ 0
  pub nodes_same : (i : ℕ) → (i ≡ p → ⊥) → word_at nodes2 i ≡ word_at nodes i
  pub before_new : (i : ℕ) → word_at after p ≡ i + 1 → word_at before2 i ≡ word_at before p
  pub before_same : (i : ℕ) → (word_at after p ≡ i + 1 → ⊥) → word_at before2 i ≡ word_at before i
  pub after_new : (i : ℕ) → word_at before p ≡ i + 1 → word_at after2 i ≡ word_at after p
  pub after_same : (i : ℕ) → (word_at before p ≡ i + 1 → ⊥) → word_at after2 i ≡ word_at after i
  pub head_new : word_at before p ≡ 0 → word_at heads2 w ≡ word_at after p
  pub heads_same : (u : ℕ) → (word_at before p ≡ 0 → u ≡ w → ⊥) → word_at heads2 u ≡ word_at heads u

module _ {p w : ℕ} {heads nodes after before heads2 nodes2 after2 before2 : List ℕ} (is : AreLinked heads nodes after before)
    (new : Leaves p w heads nodes after before heads2 nodes2 after2 before2) where
  other : (i u : ℕ) → word_at nodes2 i ≡ u + 1 → i ≡ p → ⊥
  other i u waits same = omega (arith, ap (word_at nodes2) same, new.gone, waits)

  was : (i u : ℕ) → word_at nodes2 i ≡ u + 1 → word_at nodes i ≡ u + 1
  was i u waits = sym (new.nodes_same i (other i u waits)) ∙ waits

  one_node : (i u x : ℕ) → word_at nodes i ≡ u + 1 → word_at nodes i ≡ x + 1 → u ≡ x
  one_node i u x first second = omega (arith, first, second)

  not_next : (i : ℕ) → word_at after p ≡ i + 1 → i ≡ p → ⊥
  not_next i next same =
      let step = is.on p w i new.waited next in
      let above = is.back i w p step.0 step.1 in
      omega (arith, above.2, ap is.rank same)

  not_last : (i : ℕ) → word_at before p ≡ i + 1 → i ≡ p → ⊥
  not_last i last same = omega (arith, (is.back p w i new.waited last).2, ap is.rank same)

  first_same : (i u : ℕ) → (word_at before p ≡ 0 → u ≡ w → ⊥) → word_at heads2 u ≡ i + 1
      → (word_at nodes2 i ≡ u + 1) × (word_at before2 i ≡ 0)
  first_same i u apart head =
      let first = is.first i u (sym (new.heads_same u apart) ∙ head) in
      let ne : i ≡ p → ⊥ = λ same.
      apart (omega (arith, ap (word_at before) same, first.1)) (omega (arith, ap (word_at nodes) same, first.0, new.waited)) in
      let not_after : word_at after p ≡ i + 1 → ⊥ = λ next. omega (arith, (is.on p w i new.waited next).1, first.1) in
      (new.nodes_same i ne ∙ first.0, new.before_same i not_after ∙ first.1)

  first_now : (i u : ℕ) → word_at heads2 u ≡ i + 1 → (word_at nodes2 i ≡ u + 1) × (word_at before2 i ≡ 0)
  first_now i u head =
      elim (cases_eq u w) as (λ _. (word_at nodes2 i ≡ u + 1) × (word_at before2 i ≡ 0)) [
        | inr ne ↦ first_same i u (λ front same. ne same) head
        | inl same ↦
            elim (cases_eq (word_at before p) 0) as (λ _. (word_at nodes2 i ≡ u + 1) × (word_at before2 i ≡ 0)) [
              | inr last ↦ first_same i u (λ front is_w. last front) head
              | inl front ↦
                  let next : word_at after p ≡ i + 1 = sym (new.head_new front) ∙ ap (word_at heads2) (sym same) ∙ head in
                  let step = is.on p w i new.waited next in
                  let stays : word_at nodes2 i ≡ w + 1 = new.nodes_same i (not_next i next) ∙ step.0 in
                  (omega (arith, stays, same), new.before_new i next ∙ front)
            ]
      ]

  head_now : (i u : ℕ) → word_at nodes2 i ≡ u + 1 → word_at before2 i ≡ 0 → word_at heads2 u ≡ i + 1
  head_now i u waits none =
      elim (cases_eq (word_at after p) (i + 1)) as (λ _. word_at heads2 u ≡ i + 1) [
        | inl next ↦
            let same : u ≡ w = one_node i u w (was i u waits) (is.on p w i new.waited next).0 in
            let front : word_at before p ≡ 0 = sym (new.before_new i next) ∙ none in
            ap (word_at heads2) same ∙ new.head_new front ∙ next
        | inr not_after ↦
            let head : word_at heads u ≡ i + 1 = is.head i u (was i u waits) (sym (new.before_same i not_after) ∙ none) in
            new.heads_same u
            (λ front same. other i u waits (omega (arith, is.head p w new.waited front, ap (word_at heads) same, head)))
            ∙ head
      ]

  back_now : (i u q : ℕ) → word_at nodes2 i ≡ u + 1 → word_at before2 i ≡ q + 1
      → (word_at nodes2 q ≡ u + 1) × (word_at after2 q ≡ i + 1) × (is.rank q < is.rank i)
  back_now i u q waits last =
      elim (cases_eq (word_at after p) (i + 1))
      as (λ _. (word_at nodes2 q ≡ u + 1) × (word_at after2 q ≡ i + 1) × (is.rank q < is.rank i)) [
        | inl next ↦
            let step = is.on p w i new.waited next in
            let same : u ≡ w = one_node i u w (was i u waits) step.0 in
            let from : word_at before p ≡ q + 1 = sym (new.before_new i next) ∙ last in
            let two = is.back p w q new.waited from in
            let one = is.back i w p step.0 step.1 in
            let stays : word_at nodes2 q ≡ w + 1 = new.nodes_same q (not_last q from) ∙ two.0 in
            (omega (arith, stays, same), new.after_new q from ∙ next, omega (arith, one.2, two.2))
        | inr not_after ↦
            let step = is.back i u q (was i u waits) (sym (new.before_same i not_after) ∙ last) in
            let ne : q ≡ p → ⊥ = λ same. not_after (ap (word_at after) (sym same) ∙ step.1) in
            let not_before : word_at before p ≡ q + 1 → ⊥ = λ from.
            other i u waits (omega (arith, (is.back p w q new.waited from).1, step.1)) in
            (new.nodes_same q ne ∙ step.0, new.after_same q not_before ∙ step.1, step.2)
      ]

  on_now : (i u q : ℕ) → word_at nodes2 i ≡ u + 1 → word_at after2 i ≡ q + 1 → (word_at nodes2 q ≡ u + 1) × (word_at before2 q ≡ i + 1)
  on_now i u q waits next =
      elim (cases_eq (word_at before p) (i + 1)) as (λ _. (word_at nodes2 q ≡ u + 1) × (word_at before2 q ≡ i + 1)) [
        | inl last ↦
            let same : u ≡ w = one_node i u w (was i u waits) (is.back p w i new.waited last).0 in
            let to : word_at after p ≡ q + 1 = sym (new.after_new i last) ∙ next in
            let stays : word_at nodes2 q ≡ w + 1 = new.nodes_same q (not_next q to) ∙ (is.on p w q new.waited to).0 in
            (omega (arith, stays, same), new.before_new q to ∙ last)
        | inr not_before ↦
            let step = is.on i u q (was i u waits) (sym (new.after_same i not_before) ∙ next) in
            let ne : q ≡ p → ⊥ = λ same. not_before (ap (word_at before) (sym same) ∙ step.1) in
            let not_after : word_at after p ≡ q + 1 → ⊥ = λ to. other i u waits (omega (arith, (is.on p w q new.waited to).1, step.1)) in
            (new.nodes_same q ne ∙ step.0, new.before_same q not_after ∙ step.1)
      ]

  pub linked_left : AreLinked heads2 nodes2 after2 before2
  linked_left = record { rank = is.rank; first = first_now; head = head_now; back = back_now; on = on_now }
