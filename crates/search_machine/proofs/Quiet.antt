-- Between events no place waits for an opening, and the number of places stays.
use Rattle.std.proofs.Common.{◌≡◌, inl, inr, ℕ, List, [], ◌∷◌, length, get_or, set, Option, None, Some, ap, ◌∙◌, sym, arith, get_or-set_same, get_or-set_other}
use Rattle.std.proofs.lemmas.Bool.{cases_eq, cases_lt}
use Rattle.std.proofs.lemmas.List.{get_or_past, length-set, length-replicate}
use Rattle.search_machine.specs.Events.{Asks, Claims, IsEvent, IsPlainEvent, skip, resume, back, pass, suspend, transfer, retreat, release, Releases}
use Rattle.search_machine.specs.Runs.{IsRun, next_number, opening_state}
use Rattle.search_machine.specs.State.{State, waiting_at}
use Rattle.search_machine.proofs.Starting.{read_replicate}

-- no place waits
abbrev pub IsQuiet : State → Type 0
IsQuiet s = (i : ℕ) → waiting_at s i ≡ None

pub record StaysQuiet (s t : State) : Type 0 where
  pub counted : length t.running ≡ length s.running
  pub free : IsQuiet s → IsQuiet t

same_quiet : {s t : State} → length t.running ≡ length s.running → t.waiting ≡ s.waiting → StaysQuiet s t
same_quiet {s} {t} counted waiting = record { counted = counted; free = λ quiet i. ap (λ xs. get_or xs i None) waiting ∙ quiet i }

waiting_is : {s t : State} → t ≡ s → t.waiting ≡ s.waiting
waiting_is is = ap (λ (state : State). state.waiting) is

running_is : {s t : State} → t ≡ s → length t.running ≡ length s.running
running_is is = ap (λ (state : State). length state.running) is

release_counted : {s t : State} {place : ℕ} → Releases s place t → length t.running ≡ length s.running
release_counted {s} {t} {place} e =
    elim e.goes_on as (λ _. length t.running ≡ length s.running) [ inl (none, sets) ↦ sets.counted | inr (some, goes_on) ↦ goes_on.sets.counted ]

plain_quiet : {s t : State} {place : ℕ} → IsPlainEvent place s t → StaysQuiet s t
plain_quiet (skip e) = same_quiet (running_is e.only) (waiting_is e.only)
plain_quiet (resume e) = same_quiet e.goes_on.sets.counted (waiting_is e.only)
plain_quiet (back e) = same_quiet e.goes_on.sets.counted (waiting_is e.only)
plain_quiet (pass e) = same_quiet e.goes_on.sets.counted (waiting_is e.only)
plain_quiet (suspend e) = same_quiet e.leaves.counted (waiting_is e.only)
plain_quiet (transfer e) = same_quiet e.goes_on.sets.counted (waiting_is e.only)
plain_quiet (retreat e) = same_quiet e.goes_on.sets.counted (waiting_is e.only)
plain_quiet (release e) = same_quiet (release_counted e) (waiting_is e.only)

-- what the first half of a claim leaves
record Asked (s between : State) (place v : ℕ) : Type 0 where
  counted : length between.running ≡ length s.running
  waiting : between.waiting ≡ set s.waiting place (Some v)

asked : {s between : State} {place v : ℕ} → Asks s place v between → Asked s between place v
asked (inl e) = record { counted = running_is e.only; waiting = waiting_is e.only }
asked (inr e) = record { counted = e.goes_on.sets.counted; waiting = waiting_is e.only }

cleared : (xs : List (Option ℕ)) (place : ℕ) (waits : Option ℕ) → ((i : ℕ) → get_or xs i None ≡ None) → (i : ℕ)
    → get_or (set (set xs place waits) place None) i None ≡ None
cleared xs place waits none i =
    elim (cases_eq i place) as (λ _. get_or (set (set xs place waits) place None) i None ≡ None) [
      | inr ne ↦ get_or-set_other (set xs place waits) place i None None ne ∙ get_or-set_other xs place i waits None ne ∙ none i
      | inl is ↦
          let ys : List (Option ℕ) = set xs place waits in
          let here : get_or (set ys place None) place None ≡ None =
          elim (cases_lt place (length ys)) as (λ _. get_or (set ys place None) place None ≡ None) [
            | inl lt ↦ get_or-set_same ys place None None lt
            | inr past ↦ get_or_past (set ys place None) place None (omega (arith, past, length-set ys place None))
          ] in
          ap (λ k. get_or (set ys place None) k None) is ∙ here
    ]

claim_quiet : {lists : List (List ℕ)} {s t : State} {place : ℕ} → Claims lists s place t → StaysQuiet s t
claim_quiet {lists} {s} {t} {place} e =
    let first : Asked s e.between place e.v = asked e.asks in
    let waiting : t.waiting ≡ set e.between.waiting place None = waiting_is e.opens.only in
    record {
      counted = e.opens.goes_on.sets.counted ∙ first.counted;
      free = λ quiet i.
          ap (λ xs. get_or xs i None) (waiting ∙ ap (λ xs. set xs place None) first.waiting) ∙ cleared s.waiting place (Some e.v) quiet i;
    }

event_quiet : {lists : List (List ℕ)} {s t : State} {place : ℕ} → IsEvent lists place s t → StaysQuiet s t
event_quiet (inl plain) = plain_quiet plain
event_quiet (inr claims) = claim_quiet claims

pub run_quiet : (lists : List (List ℕ)) (states : List State) (x : ℕ) (s end : State) → IsRun lists x s states end → StaysQuiet s end
run_quiet lists [] x s end run = same_quiet (ap (λ (state : State). length state.running) (sym run)) (waiting_is (sym run))
run_quiet lists (t ∷ ts) x s end run =
    let first : StaysQuiet s t = event_quiet run.0.2 in
    let rest : StaysQuiet t end = run_quiet lists ts (next_number x) t end run.1 in
    record { counted = rest.counted ∙ first.counted; free = λ quiet. rest.free (first.free quiet) }

-- and from the opening state
pub run_free : (lists : List (List ℕ)) (states : List State) (x count : ℕ) (roots : List ℕ) (places : ℕ) (end : State)
    → IsRun lists x (opening_state count roots places) states end → IsQuiet end
run_free lists states x count roots places end run =
    (run_quiet lists states x (opening_state count roots places) end run).free (λ i. read_replicate None places i)

pub run_places : (lists : List (List ℕ)) (states : List State) (x count : ℕ) (roots : List ℕ) (places : ℕ) (end : State)
    → IsRun lists x (opening_state count roots places) states end → length end.running ≡ places
run_places lists states x count roots places end run =
    (run_quiet lists states x (opening_state count roots places) end run).counted ∙ length-replicate places None
