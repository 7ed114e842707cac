-- Events and runs keep a good state.
use Rattle.std.proofs.Common.{inl, inr, ℕ, Bool, false, List, [], ◌∷◌, subst}
use Rattle.blocked_table.specs.Kept.{IsChain}
use Rattle.blocked_table.proofs.Chain.{no_ring}
use Rattle.search_machine.specs.Events.{IsEvent, IsPlainEvent, skip, resume, back, pass, suspend, transfer, retreat, release}
use Rattle.search_machine.specs.Runs.{AreEvents, IsRun, next_number}
use Rattle.search_machine.specs.State.{State, IsGoodState}
use Rattle.search_machine.proofs.Claiming.{asks_keep, opens_keep}
use Rattle.search_machine.proofs.Good.{table}
use Rattle.search_machine.proofs.Idle.{resume_keeps, skip_keeps}
use Rattle.search_machine.proofs.KeptEnds.{ends_from}
use Rattle.search_machine.proofs.Releasing.{release_keeps}
use Rattle.search_machine.proofs.Suspending.{suspend_keeps, transfer_keeps}
use Rattle.search_machine.proofs.Turns.{back_keeps, pass_keeps, retreat_keeps}

pub plain_keeps : {lists : List (List ℕ)} {roots : List ℕ} {place : ℕ} {s t : State} → IsGoodState lists roots false s → IsPlainEvent place s t
    → IsGoodState lists roots false t
plain_keeps good (skip e) = skip_keeps good e
plain_keeps good (resume e) = resume_keeps good e
plain_keeps good (back e) = back_keeps good e
plain_keeps good (pass e) = pass_keeps good e
plain_keeps good (suspend e) = suspend_keeps good e
plain_keeps good (transfer e) = transfer_keeps good e
plain_keeps good (retreat e) = retreat_keeps good e
plain_keeps good (release e) = release_keeps good e

pub event_keeps : {lists : List (List ℕ)} {roots : List ℕ} {place : ℕ} {s t : State} → IsGoodState lists roots false s → IsEvent lists place s t
    → IsGoodState lists roots false t
event_keeps good (inl plain) = plain_keeps good plain
event_keeps good (inr claims) = opens_keep (asks_keep good claims.asks) claims.opens

-- and so does each list of events
pub all_keep : (lists : List (List ℕ)) (roots : List ℕ) (states : List State) (s end : State) → IsGoodState lists roots false s
    → AreEvents lists s states end → IsGoodState lists roots false end
all_keep lists roots [] s end good run = subst (IsGoodState lists roots false) run good
all_keep lists roots (t ∷ ts) s end good run = all_keep lists roots ts t end (event_keeps good run.0.1) run.1

pub run_keeps : (lists : List (List ℕ)) (roots : List ℕ) (states : List State) (x : ℕ) (s end : State) → IsGoodState lists roots false s
    → IsRun lists x s states end → IsGoodState lists roots false end
run_keeps lists roots [] x s end good run = subst (IsGoodState lists roots false) run good
run_keeps lists roots (t ∷ ts) x s end good run = run_keeps lists roots ts (next_number x) t end (event_keeps good run.0.2) run.1

-- no kept searches want each other in a ring
pub no_rings : {lists : List (List ℕ)} {roots : List ℕ} {failed : Bool} {s : State} → IsGoodState lists roots failed s → (v x : ℕ) (steps : List ℕ)
    → IsChain s.kept v (x ∷ steps) v → ⊥
no_rings {lists} {roots} {failed} {s} good v x steps chain =
    no_ring s.kept (table good).apart v (ends_from good.ends v) (record { next = x; steps = steps; chain = chain })
