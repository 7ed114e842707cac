-- The lists of the predicates of a piece, and where their goals aren't callable.
use Rattle.std.proofs.Common.{◌≡◌, ◌⊎◌, ◌↔◌, inl, inr, ℕ, ◌+◌, ◌-◌, ◌*◌, ◌<◌, ◌≤◌, List, [], ◌∷◌, ◌++◌, length, get_or, min, ap, sym, ◌∙◌, subst, refl, arith}
use Rattle.std.specs.Prelude.{Contains}
use Rattle.std.proofs.lemmas.Bool.{cases_lt}
use Rattle.import_rules.specs.Program.{Seen}
use Rattle.call_edges.specs.Goals.{Adds}
use Rattle.call_edges.specs.ProgramRows.{rows_of}
use Rattle.call_edges.specs.Calls.{IsAmong}
use Rattle.call_edges.specs.Bodies.{bodies_in}
use Rattle.call_edges.specs.FaultPlaces.{IsFaultIn}
use Rattle.call_edges.specs.CallLists.{IsOpened, IsPieceFault, piece_lists}
use Rattle.call_edges.specs.Successors.{successor_lists}
use Rattle.call_edges.proofs.AddsLemmas.{adds_as, adds_then, adds_nothing}
use Rattle.call_edges.proofs.CallLemmas.{adds_from_none}
use Rattle.call_edges.proofs.LaidOutLemmas.{AreFirst, one_more, piece_list}
use Rattle.call_edges.proofs.SuccessorLemmas.{is_list}

-- the list of one predicate more
pub piece_more : (seen : Seen) (number node : ℕ) (list given starts all starts_then all_then : List ℕ) → number * 512 ≤ node → node < length seen.predicates
    → node < number * 512 + 512 → AreFirst (piece_lists (successor_lists seen) number) (node - number * 512) starts all → IsOpened seen node list → given ≡ list
    → all_then ≡ all ++ given → starts_then ≡ starts ++ length (all ++ given) ∷ []
    → AreFirst (piece_lists (successor_lists seen) number) (node + 1 - number * 512) starts_then all_then
piece_more seen number node list given starts all starts_then all_then low below high first opened same all_is starts_is =
    let every = successor_lists seen in
    let lists = piece_lists every number in
    let k : ℕ = node - number * 512 in
    let short : k < 512 = omega (arith, low, high) in
    let here : number * 512 + k ≡ node = omega (arith, low) in
    let read : given ≡ get_or lists k [] =
    same ∙ (is_list seen node list below opened.ascending opened.calls ∙ sym (piece_list every number k short ∙ ap (λ (n : ℕ). get_or every n []) here)) in
    let more : AreFirst lists (k + 1) (starts ++ length (all ++ given) ∷ []) (all ++ given) = one_more lists k (length (all ++ given)) given starts all first read refl in
    let next : k + 1 ≡ node + 1 - number * 512 = omega (arith, low) in
    subst (λ (n : ℕ). AreFirst lists n starts_then all_then) next
    (subst (λ (xs : List ℕ). AreFirst lists (k + 1) xs all_then) (sym starts_is)
    (subst (λ (xs : List ℕ). AreFirst lists (k + 1) (starts ++ length (all ++ given) ∷ []) xs) (sym all_is) more))

-- a goal of a predicate from one number up to another isn't callable, there
pub record IsFaultBetween (seen : Seen) (from to : ℕ) (p : ℕ × ℕ) : Type 0 where
  pub node : ℕ
  pub low : from ≤ node
  pub high : node < to
  pub is : IsAmong (IsFaultIn (rows_of seen)) (bodies_in seen node) p

pub between_none : (seen : Seen) (from : ℕ) (faults : List (ℕ × ℕ)) → Adds (IsFaultBetween seen from from) faults faults
between_none seen from faults = adds_nothing (IsFaultBetween seen from from) faults (λ p fault. omega (arith, fault.low, fault.high))

-- one predicate more
pub between_more : (seen : Seen) (from node : ℕ) (old mid new : List (ℕ × ℕ)) → from ≤ node → Adds (IsFaultBetween seen from node) old mid
    → Adds (IsAmong (IsFaultIn (rows_of seen)) (bodies_in seen node)) mid new → Adds (IsFaultBetween seen from (node + 1)) old new
between_more seen from node old mid new le first second =
    let Here : ℕ × ℕ → Type 0 = IsAmong (IsFaultIn (rows_of seen)) (bodies_in seen node) in
    adds_as (λ p. IsFaultBetween seen from node p ⊎ Here p) (IsFaultBetween seen from (node + 1)) old new
    (λ p either.
    elim either [
      | inl before ↦ record { node = before.node; low = before.low; high = omega (arith, before.high); is = before.is }
      | inr here ↦ record { node = node; low = le; high = omega arith; is = here }
    ])
    (λ p fault.
    elim (cases_lt fault.node node) [
      | inl lt ↦ inl (record { node = fault.node; low = fault.low; high = lt; is = fault.is })
      | inr ge ↦
          let same : fault.node ≡ node = omega (arith, ge, fault.high) in
          inr (subst (λ (n : ℕ). IsAmong (IsFaultIn (rows_of seen)) (bodies_in seen n) p) same fault.is)
    ])
    (adds_then (IsFaultBetween seen from node) Here old mid new first second)

-- those of a piece
pub piece_faults : (seen : Seen) (number to : ℕ) (faults : List (ℕ × ℕ)) → to ≡ number * 512 + min (length seen.predicates - number * 512) 512
    → Adds (IsFaultBetween seen (number * 512) to) [] faults → (p : ℕ × ℕ) → Contains faults p ↔ IsPieceFault seen number p
piece_faults seen number to faults end adds p =
    let has = adds_from_none (IsFaultBetween seen (number * 512) to) [] faults refl adds p in (
      λ there.
          let fault = has.0 there in
          record {
            node = fault.node;
            below = omega (arith, fault.low, fault.high, end);
            in_piece = omega (arith, fault.low, fault.high, end);
            is = fault.is;
          },
      λ fault.
          has.1
          (record {
            node = fault.node;
            low = omega (arith, fault.in_piece);
            high = omega (arith, fault.in_piece, fault.below, end);
            is = fault.is;
          }),
    )
