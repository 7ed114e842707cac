-- What the calls read of the fields of `Blocked`.
use Rattle.std.proofs.Common.{nat_eq, ne_eqb, ◌≡◌, inl, inr, ℕ, ◌<◌, ◌≤◌, List, [], ◌∷◌, ◌++◌, length, get_or, replicate, set, vec_len, vec_capacity, Option, None, Some, ap, ◌∙◌, sym, subst, arith, get_or-set_same, get_or-set_other, length-set, true≢false}
use Rattle.std.proofs.lemmas.Bool.{cases_lt, eq-eqb}
use Rattle.std.proofs.lemmas.List.{get_or_default, length_push}
use Rattle.std.proofs.lemmas.List.Elements.{Contains-get_or, Contains-push}
use Rattle.std.specs.Prelude.{Bool, true, not, Contains}
use Rattle.search_stack.specs.Search.{SearchValue}
use Rattle.blocked_table.specs.declared.blocked.Blocked.TheInside.{Inside}
use Rattle.blocked_table.specs.Blocked.{BlockedValue, HasReady, IsReadyAt, IsTable, IsTaken}
use Rattle.blocked_table.specs.BlockedFields.{AreWaiting, AreWhole, AreWords, IsBlocked, value_of}
use Rattle.blocked_table.specs.Kept.{kept_at}
use Rattle.blocked_table.specs.Listed.{AreJust}
use Rattle.blocked_table.specs.Waiters.{WaitersValue}
use Rattle.blocked_table.proofs.Chain.{none_is_not, place_within, some_is}
use Rattle.blocked_table.proofs.Listed.{just_few}
use Rattle.blocked_table.proofs.Tables.{take_vacant}
use Rattle.blocked_table.proofs.WaiterSteps.{zero_words}
use Rattle.blocked_table.proofs.Waits.{waiting_none}

-- the last of the ready slots
pub ready_last : {fields : Inside} → IsBlocked fields → (rest : List ℕ) (p : ℕ) → fields.ready.items ≡ rest ++ p ∷ []
    → IsReadyAt fields.kept.items p
ready_last {fields} is rest p last = is.ready.to p (subst (λ xs. Contains xs p) (sym last) (Contains-push rest p))

pub ready_within : {fields : Inside} → IsBlocked fields → (rest : List ℕ) (p : ℕ) → fields.ready.items ≡ rest ++ p ∷ []
    → p < length fields.kept.items
ready_within {fields} is rest p last =
    let there : IsReadyAt fields.kept.items p = ready_last is rest p last in
    place_within fields.kept.items p there.search there.at

-- nothing but the suspended searches has changed, in two steps
pub still_only : (old : BlockedValue) {middle new : BlockedValue} → middle ≡ record old { kept = middle.kept } → new ≡ record middle { kept = new.kept }
    → new ≡ record old { kept = new.kept }
still_only old {middle} {new} first second =
    second ∙ ap (λ (value : BlockedValue). record value { kept = new.kept }) first

-- what is read in a slot
pub read_kept : (kept : List (Option SearchValue)) (p : ℕ) (read : Option SearchValue) → p < length kept → read ≡ get_or kept p read
    → kept_at kept p ≡ read
read_kept kept p read lt is = get_or_default kept p None read lt ∙ sym is

-- a ready search leaves its slot
abbrev pub taken_from : {fields : Inside} → IsBlocked fields → (rest : List ℕ) (p : ℕ) (read after : Option SearchValue) (search : SearchValue)
    → fields.ready.items ≡ rest ++ p ∷ [] → read ≡ get_or fields.kept.items p read → read ≡ Some search → after ≡ None
    → IsTaken fields.kept.items (set fields.kept.items p after) search
taken_from {fields} is rest p read after search last here some gone =
    let kept = fields.kept.items in
    let there : IsReadyAt kept p = ready_last is rest p last in
    let lt : p < length kept = ready_within is rest p last in
    let at : kept_at kept p ≡ Some search = read_kept kept p read lt here ∙ some in
    record {
      place = p;
      at = at;
      wants_nothing =
          sym (ap (λ (one : SearchValue). one.wanted) (some_is there.search search (sym there.at ∙ at))) ∙ there.wants_nothing;
      each = length-set kept p after;
      vacant = get_or-set_same kept p after None lt ∙ gone;
      same = λ i ne. get_or-set_other kept p i after None ne;
    }

-- a slot that is ready isn't vacant
pub ready_is_kept : {fields : Inside} → IsBlocked fields → (rest : List ℕ) (p : ℕ) (read : Option SearchValue)
    → fields.ready.items ≡ rest ++ p ∷ [] → read ≡ get_or fields.kept.items p read → read ≡ None → ⊥
ready_is_kept {fields} is rest p read last here none =
    let there : IsReadyAt fields.kept.items p = ready_last is rest p last in
    none_is_not there.search (kept_at fields.kept.items p) (read_kept fields.kept.items p read (ready_within is rest p last) here ∙ none) there.at

-- there is capacity to mark one more slot as vacant
pub vacant_room : {fields : Inside} → IsBlocked fields → {new : List (Option SearchValue)} {search : SearchValue}
    → IsTaken fields.kept.items new search → vec_len fields.vacant < vec_capacity fields.vacant
vacant_room {fields} is {new} {search} taken =
    let few : length (fields.vacant.items ++ taken.place ∷ []) ≤ length new =
    just_few (fields.vacant.items ++ taken.place ∷ []) (length new) (take_vacant taken fields.vacant.items is.vacant) (λ place vacant. vacant.0) in
    omega (arith, few, length_push fields.vacant.items taken.place, taken.each, is.table.few, is.vacant_room, fields.vacant.ok.0)

-- the list of ready slots isn't empty if and only if a suspended search is ready

pub some_ready : {fields : Inside} → IsBlocked fields → {empty : Bool} → empty ≡ nat_eq (vec_len fields.ready) 0 → not empty ≡ true
    → HasReady fields.kept.items
some_ready {fields} is {empty} test some_left =
    let some : 0 < length fields.ready.items =
    elim (cases_lt 0 (length fields.ready.items)) as (λ _. 0 < length fields.ready.items) [
      | inl lt ↦ lt
      | inr none ↦
          let full : empty ≡ true = test ∙ eq-eqb (vec_len fields.ready) 0 (omega (arith, none, fields.ready.ok.0)) in
          absurd (true≢false (sym some_left ∙ ap not full))
    ] in
    let member = Contains-get_or fields.ready.items 0 0 some in
    record { place = get_or fields.ready.items 0 0; ready = is.ready.to (get_or fields.ready.items 0 0) member }

pub none_ready : {fields : Inside} → IsBlocked fields → {empty : Bool} → empty ≡ nat_eq (vec_len fields.ready) 0 → HasReady fields.kept.items
    → not empty ≡ true
none_ready {fields} is {empty} test has =
    let member = is.ready.from has.place has.ready in
    let lt : member.0 < length fields.ready.items = member.1 in
    ap not (test ∙ ne_eqb (vec_len fields.ready) 0 (λ none. omega (arith, none, lt, fields.ready.ok.0)))

-- a table without searches

nothing_kept : (kept : List (Option SearchValue)) (p : ℕ) (search : SearchValue) → kept ≡ [] → kept_at kept p ≡ Some search → ⊥
nothing_kept kept p search none at =
    let lt : p < length kept = place_within kept p search at in omega (arith, lt, ap length none)

pub empty_table : (fields : Inside) → fields.kept.items ≡ [] → IsTable (value_of fields)
empty_table fields none = record {
  few = omega (arith, ap length none);
  each = λ p search at. absurd (nothing_kept fields.kept.items p search none at);
  below = λ p v holds. absurd (nothing_kept fields.kept.items p holds.search none holds.at);
  apart = λ i j v first second. absurd (nothing_kept fields.kept.items i first.search none first.at);
  ends = λ p w search at wanted. absurd (nothing_kept fields.kept.items p search none at);
}

no_place : {P : ℕ → Type 0} (places : List ℕ) → places ≡ [] → ((p : ℕ) → P p → ⊥) → AreJust P places
no_place {P} places none never = record {
  once = λ i j before lt same. omega (arith, lt, ap length none);
  to = λ p member. let lt : member.0 < length places = member.1 in absurd (omega (arith, lt, ap length none));
  from = λ p holds. absurd (never p holds);
}

-- the words stay whole if no list gets longer or shorter
pub still_whole : {count most : ℕ} {holders after : List ℕ} {waiters later : WaitersValue} → AreWhole count most holders waiters
    → length after ≡ length holders → later.count ≡ waiters.count → length later.words ≡ length waiters.words → AreWhole count most after later
still_whole {count} {most} {holders} {after} {waiters} {later} whole words nodes places = record {
  words = words ∙ whole.words;
  nodes = nodes ∙ whole.nodes;
  places = omega (arith, whole.places, places);
}

pub empty_words : (kept : List (Option SearchValue)) (holders : List ℕ) (n : ℕ) → length kept ≡ 0 → holders ≡ replicate n 0
    → AreWords holders kept
empty_words kept holders n none words p v = (
  λ word. absurd (omega (arith, word, zero_words holders n words v)),
  λ holds. let lt : p < length kept = place_within kept p holds.search holds.at in absurd (omega (arith, lt, none)),
)

pub empty_waiting : (kept : List (Option SearchValue)) (waiters : WaitersValue) (count n : ℕ) → length kept ≡ 0
    → waiters ≡ record { count = count; words = replicate n 0 } → AreWaiting waiters.words kept
empty_waiting kept waiters count n none are =
    subst (λ words. AreWaiting words kept) (sym (ap (λ (all : WaitersValue). all.words) are)) (waiting_none kept n none)

pub empty_blocked : (fields : Inside) → fields.kept.items ≡ [] → fields.vacant.items ≡ [] → fields.ready.items ≡ []
    → fields.holders.items ≡ [] → fields.waiters ≡ record { count = 0; words = replicate 0 0 }
    → fields.most ≤ vec_capacity fields.kept → fields.most ≤ vec_capacity fields.vacant → fields.most ≤ vec_capacity fields.ready
    → IsBlocked fields
empty_blocked fields none no_vacant no_ready no_words no_waiters kept_room vacant_places ready_places = record {
  table = empty_table fields none;
  words = empty_words fields.kept.items fields.holders.items 0 (ap length none) no_words;
  waiting = empty_waiting fields.kept.items fields.waiters 0 0 (ap length none) no_waiters;
  whole = λ some. absurd (omega (arith, some, ap length none));
  vacant = no_place fields.vacant.items no_vacant (λ p vacant. let lt = vacant.0 in omega (arith, lt, ap length none));
  ready = no_place fields.ready.items no_ready (λ p ready. nothing_kept fields.kept.items p ready.search none ready.at);
  kept_room = kept_room;
  vacant_room = vacant_places;
  ready_room = ready_places;
}
