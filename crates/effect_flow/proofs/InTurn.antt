-- Flows of groups in a legal order, one after another.
use Rattle.std.proofs.Common.{◌≡◌, inl, inr, ℕ, ◌<◌, ◌≤◌, ◌+◌, List, [], length, set, Option, subst, sym, ◌∙◌, arith}
use Rattle.std.proofs.lemmas.Bool.{cases_eq}
use Rattle.std.proofs.lemmas.List.{get_or-set_same, get_or-set_other, length-set}
use Rattle.graph_law.specs.Classes.{group_at}
use Rattle.graph_law.specs.Graph.{Calls}
use Rattle.group_release.proofs.LevelSteps.{calls_before}
use Rattle.effect_flow.specs.Carriers.{AreFlows, IsFlow, flow_at}
use Rattle.effect_flow.specs.Flows.{AreReady, IsNext}

-- the groups before a place have their flows
pub record AreRightBefore (lists : List (List ℕ)) (own : List ℕ) (groups : List (List ℕ)) (place : ℕ) (flows : List (List (Option ℕ))) : Type 0 where
  pub each : length flows ≡ length groups
  pub right : (k : ℕ) → k < place → IsFlow (Calls lists) own (group_at groups k) (flow_at flows k)

pub next_in_turn : {lists : List (List ℕ)} {own : List ℕ} {groups : List (List ℕ)} {places : List ℕ} {place : ℕ} {flows : List (List (Option ℕ))}
    → AreReady lists own groups places → AreRightBefore lists own groups place flows → place < length groups → IsNext lists own groups flows place
next_in_turn {lists} {own} {groups} {places} {place} {flows} ready right within =
    record { within = within; each = right.each; known = λ j call. right.right j (calls_before ready.legal call) }

-- one group more
pub right_next : {lists : List (List ℕ)} {own : List ℕ} {groups : List (List ℕ)} {place : ℕ} {flows : List (List (Option ℕ))} (flow : List (Option ℕ))
    → AreRightBefore lists own groups place flows → place < length groups → IsFlow (Calls lists) own (group_at groups place) flow
    → AreRightBefore lists own groups (place + 1) (set flows place flow)
right_next {lists} {own} {groups} {place} {flows} flow right within is =
    let Is : ℕ → List (Option ℕ) → Type 0 = λ k one. IsFlow (Calls lists) own (group_at groups k) one in
    let low : place < length flows = omega (arith, within, right.each) in
    record {
      each = length-set flows place flow ∙ right.each;
      right = λ k lt.
          elim (cases_eq k place) [
            | inl same ↦ subst (λ n. Is n (flow_at (set flows place flow) n)) (sym same) (subst (Is place) (sym (get_or-set_same flows place flow [] low)) is)
            | inr other ↦ subst (Is k) (sym (get_or-set_other flows place k flow [] other)) (right.right k (omega (arith, lt, other)))
          ];
    }

-- all groups
pub right_all : {lists : List (List ℕ)} {own : List ℕ} {groups : List (List ℕ)} {place : ℕ} {flows : List (List (Option ℕ))}
    → AreRightBefore lists own groups place flows → length groups ≤ place → AreFlows (Calls lists) own groups flows
right_all {lists} {own} {groups} {place} {flows} right passed =
    record { each = right.each; carriers = λ k lt. right.right k (omega (arith, lt, passed)) }
