-- How the calls change the lists of slots that wait for nodes.
use Rattle.std.proofs.Common.{◌≡◌, inl, inr, ℕ, ◌<◌, ◌≤◌, ◌+◌, ◌-◌, List, length, get_or, replicate, set, refl, ap, ◌∙◌, sym, arith, get_or-set_same, get_or-set_other}
use Rattle.std.proofs.lemmas.Bool.{cases_eq, cases_lt}
use Rattle.std.proofs.lemmas.List.{get_or_default, get_or_past, get_or-replicate, length-replicate}
use Rattle.blocked_table.specs.Waiters.{IsWrittenFor}
use Rattle.blocked_table.specs.WaitersFields.{AreLinked, word_at}
use Rattle.blocked_table.proofs.Linked.{Leaves, linked_left, within}
use Rattle.blocked_table.proofs.LinkedMore.{linked_more}

-- a word that is read
pub word_read : (words : List ℕ) (i read : ℕ) → i < length words → read ≡ get_or words i read → read ≡ word_at words i
word_read words i read lt is = is ∙ get_or_default words i read 0 lt

pub zeros : (n i : ℕ) → word_at (replicate n 0) i ≡ 0
zeros n i =
    elim (cases_lt i n) as (λ _. word_at (replicate n 0) i ≡ 0) [
      | inl lt ↦ get_or-replicate n i 0 0 lt
      | inr past ↦ get_or_past (replicate n 0) i 0 (omega (arith, past, length-replicate {A = ℕ} n 0))
    ]

pub zero_words : (words : List ℕ) (n : ℕ) → words ≡ replicate n 0 → (i : ℕ) → word_at words i ≡ 0
zero_words words n is i = ap (λ xs. word_at xs i) is ∙ zeros n i

-- a word that is one more than an index of a list, or 0
pub in_list : (words : List ℕ) (word : ℕ) → ((i : ℕ) → word ≡ i + 1 → i < length words) → word ≤ length words
in_list words word below =
    elim (cases_eq word 0) as (λ _. word ≤ length words) [
      | inl none ↦ omega (arith, none)
      | inr some ↦ omega (arith, below (word - 1) (omega (arith, some)), some)
    ]

module _ {heads nodes after before : List ℕ} (is : AreLinked heads nodes after before) (p w : ℕ) where
  pub next_in : word_at nodes p ≡ w + 1 → word_at after p ≤ length before
  next_in waits =
      in_list before (word_at after p) (λ i next. within before i p (is.on p w i waits next).1)

  pub last_in : word_at nodes p ≡ w + 1 → word_at before p ≤ length after
  last_in waits =
      in_list after (word_at before p) (λ i last. within after i p (is.back p w i waits last).1)

  pub node_in : word_at nodes p ≡ w + 1 → word_at before p ≡ 0 → w < length heads
  node_in waits front = within heads w p (is.head p w waits front)

  pub head_in : length before ≡ length nodes → word_at heads w ≤ length before
  head_in befores = in_list before (word_at heads w) (λ i head. omega (arith, within nodes i w (is.first i w head).0, befores))

  module _ {next last : ℕ} {after2 before2 : List ℕ} (lt : p < length nodes) (next_is : next ≡ word_at after p) (last_is : last ≡ word_at before p)
      (waits : word_at nodes p ≡ w + 1) (back : IsWrittenFor next last before before2) (on : IsWrittenFor last next after after2) where
    leaves : (heads2 : List ℕ) → (word_at before p ≡ 0 → word_at heads2 w ≡ word_at after p)
        → ((u : ℕ) → (word_at before p ≡ 0 → u ≡ w → ⊥) → word_at heads2 u ≡ word_at heads u)
        → Leaves p w heads nodes after before heads2 (set nodes p 0) after2 before2
    leaves heads2 new same = record {
      waited = waits;
      gone = get_or-set_same nodes p 0 0 lt;
      nodes_same = λ i ne. get_or-set_other nodes p i 0 0 ne;
      before_new = λ i e. back.written i (next_is ∙ e) ∙ last_is;
      before_same = λ i ne. back.kept i (λ e. ne (sym next_is ∙ e));
      after_new = λ i e. on.written i (last_is ∙ e) ∙ next_is;
      after_same = λ i ne. on.kept i (λ e. ne (sym last_is ∙ e));
      head_new = new;
      heads_same = same;
    }

    -- the first slot leaves
    pub first_left : last ≡ 0 → AreLinked (set heads w next) (set nodes p 0) after2 before2
    first_left none =
        let front : word_at before p ≡ 0 = sym last_is ∙ none in
        linked_left is
        (leaves (set heads w next) (λ _. get_or-set_same heads w next 0 (node_in waits front) ∙ next_is)
        (λ u apart. get_or-set_other heads w u next 0 (apart front)))

    -- another slot leaves
    pub later_left : (last ≡ 0 → ⊥) → AreLinked heads (set nodes p 0) after2 before2
    later_left some = linked_left is (leaves heads (λ front. absurd (some (last_is ∙ front))) (λ u apart. refl))

  -- a slot is added
  pub come : {next : ℕ} {before2 : List ℕ} → p < length nodes → length after ≡ length nodes → length before ≡ length nodes → w < length heads
      → word_at nodes p ≡ 0 → next ≡ word_at heads w → IsWrittenFor next (p + 1) before before2
      → AreLinked (set heads w (p + 1)) (set nodes p (w + 1)) (set after p next) (set before2 p 0)
  come {next} {before2} lt afters befores node_lt free next_is back =
      let other : (i : ℕ) → word_at heads w ≡ i + 1 → i ≡ p → ⊥ = λ i head same.
      omega (arith, (is.first i w head).0, free, ap (word_at nodes) same) in
      linked_more is
      (record {
        free = free;
        waits = get_or-set_same nodes p (w + 1) 0 lt;
        nodes_same = λ i ne. get_or-set_other nodes p i (w + 1) 0 ne;
        before_new = get_or-set_same before2 p 0 0 (omega (arith, lt, befores, back.each));
        before_next = λ i head. get_or-set_other before2 p i 0 0 (other i head) ∙ back.written i (next_is ∙ head);
        before_same = λ i ne apart. get_or-set_other before2 p i 0 0 ne ∙ back.kept i (λ e. apart (sym next_is ∙ e));
        after_new = get_or-set_same after p next 0 (omega (arith, lt, afters)) ∙ next_is;
        after_same = λ i ne. get_or-set_other after p i next 0 ne;
        head_new = get_or-set_same heads w (p + 1) 0 node_lt;
        heads_same = λ u ne. get_or-set_other heads w u (p + 1) 0 ne;
      })
