-- What the slots of suspended searches wait for.
use Rattle.std.proofs.Common.{◌≡◌, inl, inr, ℕ, zero, suc, ◌<◌, ◌≤◌, ◌+◌, List, length, get_or, replicate, set, Option, None, Some, refl, ap, ◌∙◌, sym, arith, get_or-set_same, get_or-set_other}
use Rattle.std.proofs.lemmas.Bool.{cases_eq}
use Rattle.std.proofs.lemmas.List.{get_or_past}
use Rattle.search_stack.specs.Search.{SearchValue}
use Rattle.blocked_table.specs.Blocked.{IsTaken}
use Rattle.blocked_table.specs.BlockedFields.{AreWaiting, wait_word, wanted_word}
use Rattle.blocked_table.specs.Kept.{kept_at}
use Rattle.blocked_table.specs.Waking.{IsOneWoken}
use Rattle.blocked_table.proofs.WaiterSteps.{zeros}

-- no search is suspended, and no slot waits
pub waiting_none : (kept : List (Option SearchValue)) (n : ℕ) → length kept ≡ 0 → AreWaiting (replicate n 0) kept
waiting_none kept n none place = zeros n place ∙ sym (ap wait_word (get_or_past kept place None (omega (arith, none))))

-- a search that waits for nothing has left its slot
pub waiting_taken : {old new : List (Option SearchValue)} {search : SearchValue} (words : List ℕ) → IsTaken old new search → AreWaiting words old
    → AreWaiting words new
waiting_taken {old} {new} {search} words taken are i =
    elim (cases_eq i taken.place) as (λ _. get_or words i 0 ≡ wait_word (kept_at new i)) [
      | inr ne ↦ are i ∙ ap wait_word (sym (taken.same i ne))
      | inl is ↦
          are i ∙ ap wait_word (ap (kept_at old) is ∙ taken.at) ∙ ap wanted_word taken.wants_nothing
          ∙ sym (ap wait_word (ap (kept_at new) is ∙ taken.vacant))
    ]

-- the word of a slot is written, as what is there waits for it
pub waiting_put : (old new : List (Option SearchValue)) (words : List ℕ) (place word : ℕ) → AreWaiting words old → place < length words
    → wait_word (kept_at new place) ≡ word → ((i : ℕ) → (i ≡ place → ⊥) → kept_at new i ≡ kept_at old i)
    → AreWaiting (set words place word) new
waiting_put old new words place word are lt here same i =
    elim (cases_eq i place) as (λ _. get_or (set words place word) i 0 ≡ wait_word (kept_at new i)) [
      | inl is ↦
          ap (λ k. get_or (set words place word) k 0) is ∙ get_or-set_same words place word 0 lt ∙ sym here
          ∙ ap (λ k. wait_word (kept_at new k)) (sym is)
      | inr ne ↦ get_or-set_other words place i word 0 ne ∙ are i ∙ ap wait_word (sym (same i ne))
    ]

-- the word of a search that waits for a node, and of one that waits for none
pub word_some : (kept : List (Option SearchValue)) (place w : ℕ) (search : SearchValue) → kept_at kept place ≡ Some search → search.wanted ≡ Some w
    → wait_word (kept_at kept place) ≡ w + 1
word_some kept place w search at wants = ap wait_word at ∙ ap wanted_word wants

pub word_none : (kept : List (Option SearchValue)) (place : ℕ) (search : SearchValue) → kept_at kept place ≡ Some search → search.wanted ≡ None
    → wait_word (kept_at kept place) ≡ 0
word_none kept place search at wants = ap wait_word at ∙ ap wanted_word wants

-- a slot that waits has a search that waits for the node

pub record IsWaiting (kept : List (Option SearchValue)) (place w : ℕ) : Type 0 where
  pub search : SearchValue
  pub at : kept_at kept place ≡ Some search
  pub wants : search.wanted ≡ Some w

waiting_by : (kept : List (Option SearchValue)) (place w : ℕ) (search : SearchValue) → kept_at kept place ≡ Some search → (wanted : Option ℕ)
    → search.wanted ≡ wanted → wait_word (kept_at kept place) ≡ w + 1 → IsWaiting kept place w
waiting_by kept place w search at None is word = absurd (omega (arith, word, word_none kept place search at is))
waiting_by kept place w search at (Some x) is word =
    let same : x ≡ w = omega (arith, word, word_some kept place x search at is) in
    record { search = search; at = at; wants = is ∙ ap (λ k. Some k) same }

waiting_from : (kept : List (Option SearchValue)) (place w : ℕ) (o : Option SearchValue) → kept_at kept place ≡ o
    → wait_word (kept_at kept place) ≡ w + 1 → IsWaiting kept place w
waiting_from kept place w None at word = absurd (omega (arith, word, ap wait_word at))
waiting_from kept place w (Some search) at word = waiting_by kept place w search at search.wanted refl word

pub waiting_here : (words : List ℕ) (kept : List (Option SearchValue)) → AreWaiting words kept → (place w : ℕ) → get_or words place 0 ≡ w + 1
    → IsWaiting kept place w
waiting_here words kept are place w word =
    waiting_from kept place w (kept_at kept place) refl (sym (are place) ∙ word)

-- the sum of the words of the slots below a bound
abbrev pub wants_below : List (Option SearchValue) → ℕ → ℕ
wants_below kept zero = 0
wants_below kept (suc n) = wait_word (kept_at kept n) + wants_below kept n

module _ {w : ℕ} {old new : List (Option SearchValue)} (one : IsOneWoken w old new) where
  wants_same : (n : ℕ) → n ≤ one.place → wants_below new n ≡ wants_below old n
  wants_same zero le = refl
  wants_same (suc n) le =
      omega (arith, ap wait_word (one.same n (λ is. omega (arith, is, le))), wants_same n (omega (arith, le)))

  pub wants_less : (n : ℕ) → one.place < n → wants_below new n < wants_below old n
  wants_less zero lt = absurd (omega (arith, lt))
  wants_less (suc n) lt =
      elim (cases_eq n one.place) as (λ _. wait_word (kept_at new n) + wants_below new n < wait_word (kept_at old n) + wants_below old n) [
        | inl is ↦
            omega (
              arith,
              wants_same n (omega (arith, is)),
              ap (λ k. wait_word (kept_at new k)) is ∙ ap wait_word one.ready,
              ap (λ k. wait_word (kept_at old k)) is ∙ word_some old one.place w one.search one.at one.wants,
            )
        | inr ne ↦ omega (arith, ap wait_word (one.same n ne), wants_less n (omega (arith, lt, ne)))
      ]
