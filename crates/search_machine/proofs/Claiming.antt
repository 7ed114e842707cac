-- A node is claimed, and is opened: the state stays good.
use Rattle.std.proofs.Common.{◌≡◌, ◌⊎◌, inl, inr, ℕ, ◌<◌, ◌+◌, Bool, true, false, List, [], ◌∷◌, length, get_or, set, Option, None, Some, is_some, refl, ap, ◌∙◌, sym, subst, arith, get_or-set_same, get_or-set_other}
use Rattle.std.proofs.lemmas.Bool.{cases_eq, cases_lt}
use Rattle.std.proofs.lemmas.List.{get_or_past, length-set}
use Rattle.std.proofs.lemmas.List.Elements.{All-contains}
use Rattle.std.specs.Prelude.{Contains}
use Rattle.list_laws.proofs.OneOrder.{in_first}
use Rattle.list_laws.specs.Counts.{times, flat}
use Rattle.list_laws.proofs.Counting.{times_here, times_other}
use Rattle.search_stack.specs.Stack.{Stack, size}
use Rattle.search_stack.specs.GoodSearch.{IsGood}
use Rattle.search_stack.specs.Search.{SearchValue, IsLastBegun, pushed}
use Rattle.blocked_table.specs.Kept.{kept_at}
use Rattle.blocked_table.proofs.Chain.{none_is_not, place_within, some_is}
use Rattle.group_release.specs.Outline.{listed, nodes_of, nodes_on}
use Rattle.group_release.proofs.Beside.{last_below}
use Rattle.search_machine.specs.Events.{Asks, ClaimsNext, Opens, SetsAt, TakesRoot, running_stack}
use Rattle.search_machine.specs.State.{State, IsClaimed, IsGoodState, IsRunning, WaitsFor, times_standing, waiting_at}
use Rattle.search_machine.proofs.Counts.{pushed_counted}
use Rattle.search_machine.proofs.Good.{IsSettled, running_after, runs_settled, standing_change, waits_after}
use Rattle.search_machine.proofs.Idle.{come_rest, given_rest}
use Rattle.search_machine.proofs.Stacks.{first_good, push_good, push_some}
use Rattle.search_machine.proofs.Turns.{HasBegun, has_begun}

-- a place of a list is written over
pub written : {X : Type 0} (xs : List X) (place : ℕ) (x d : X) → place < length xs
    → (get_or (set xs place x) place d ≡ x) × ((i : ℕ) → (i ≡ place → ⊥) → get_or (set xs place x) i d ≡ get_or xs i d)
written xs place x d lt = (get_or-set_same xs place x d lt, λ i ne. get_or-set_other xs place i x d ne)

-- the node is claimed
module _ {lists : List (List ℕ)} {roots : List ℕ} {failed : Bool} {s : State} (good : IsGoodState lists roots failed s) (v : ℕ)
    (unclaimed : IsClaimed s v → ⊥) (below : v < length lists) {place : ℕ} (within : place < length s.running) (free : waiting_at s place ≡ None)
    {after : Option SearchValue} (running : List (Option SearchValue)) (to_come : List ℕ) (sets : SetsAt s.running running place after) where
  abbrev asked : State
  asked = record s {
    running = running;
    waiting = set s.waiting place (Some v);
    claimed = set s.claimed v true;
    to_come = to_come;
  }

  marks : (get_or (set s.claimed v true) v false ≡ true) × ((i : ℕ) → (i ≡ v → ⊥) → get_or (set s.claimed v true) i false ≡ get_or s.claimed i false)
  marks = written s.claimed v true false (omega (arith, below, good.counted))

  pub claims_it : IsClaimed asked v
  claims_it = marks.0

  pub claims_more : (u : ℕ) → IsClaimed s u → IsClaimed asked u
  claims_more u was =
      elim (cases_eq u v) as (λ _. IsClaimed asked u)
      [ inl is ↦ subst (IsClaimed asked) (sym is) claims_it | inr ne ↦ marks.1 u ne ∙ was ]

  places : (waiting_at asked place ≡ Some v) × ((i : ℕ) → (i ≡ place → ⊥) → waiting_at asked i ≡ waiting_at s i)
  places = written s.waiting place (Some v) None (omega (arith, within, good.places))

  module _ (nodes : (x : ℕ) → times x (nodes_of after) ≡ times x (nodes_of (kept_at s.running place))) where
    one_more : (x : ℕ) → times_standing asked x ≡ times_standing s x + times x (v ∷ [])
    one_more x =
        let sums = standing_change good asked sets places.1 x in
        let none : times x (listed (waiting_at s place)) ≡ 0 = ap (λ o. times x (listed o)) free in
        let one : times x (listed (waiting_at asked place)) ≡ times x (v ∷ []) = ap (λ o. times x (listed o)) places.0 in
        omega (arith, sums, none, one, nodes x)

    asked_once : (u : ℕ) → IsClaimed asked u → times_standing asked u ≡ 1
    asked_once u now =
        elim (cases_eq u v) as (λ _. times_standing asked u ≡ 1) [
          | inl is ↦
              let here : times_standing asked v ≡ 1 = omega (arith, one_more v, good.never v unclaimed, times_here v) in
              subst (λ k. times_standing asked k ≡ 1) (sym is) here
          | inr ne ↦
              let was : IsClaimed s u = sym (marks.1 u ne) ∙ now in
              omega (arith, one_more u, good.once u was, times_other u v (λ is. ne (sym is)))
        ]

    asked_never : (u : ℕ) → (IsClaimed asked u → ⊥) → times_standing asked u ≡ 0
    asked_never u isnt =
        let other : v ≡ u → ⊥ = λ is. isnt (subst (IsClaimed asked) is claims_it) in
        omega (arith, one_more u, good.never u (λ was. isnt (claims_more u was)), times_other u v other)

    pub asked_good : ((search : SearchValue) → after ≡ Some search → IsRunning lists roots failed s.groups (Some v) search)
        → WaitsFor lists roots after v → ((u : ℕ) → Contains to_come u → Contains roots u)
        → ((u : ℕ) → Contains roots u → Contains to_come u ⊎ IsClaimed asked u) → IsGoodState lists roots failed asked
    asked_good here waits come given = record {
      counted = length-set s.claimed v true ∙ good.counted;
      places = length-set s.waiting place (Some v) ∙ good.places ∙ sym sets.counted;
      book = good.book;
      some = good.some;
      ends = good.ends;
      running =
          running_after good asked sets places.1 (λ u has. has)
          (λ search is. subst (λ o. IsRunning lists roots failed s.groups o search) (sym places.0) (here search is));
      waits =
          waits_after good asked sets places.1
          (λ u is. subst (WaitsFor lists roots after) (some_is v u (sym places.0 ∙ is)) waits);
      wants = λ i w search at wants. claims_more w (good.wants i w search at wants);
      once = asked_once;
      never = asked_never;
      come = come;
      given = given;
    }

-- an idle place takes a root
module _ {lists : List (List ℕ)} {roots : List ℕ} {failed : Bool} {s : State} (good : IsGoodState lists roots failed s) where
  pub root_keeps : {place v : ℕ} {t : State} → TakesRoot s place v t → IsGoodState lists roots failed t
  root_keeps {place} {v} {t} e =
      let member : Contains roots v = good.come v (subst (λ xs. Contains xs v) (sym e.next) (in_first v t.to_come)) in
      let below : v < length lists = All-contains (λ root. root < length lists) roots v good.book.rooted member in
      let sets : SetsAt s.running s.running place None = record { counted = refl; at = e.idle.at; same = λ i ne. refl } in
      let claims = claims_it good v e.unclaimed below e.idle.within e.idle.free s.running t.to_come sets in
      let more = claims_more good v e.unclaimed below e.idle.within e.idle.free s.running t.to_come sets in
      subst (IsGoodState lists roots failed) (sym e.only)
      (asked_good good v e.unclaimed below e.idle.within e.idle.free s.running t.to_come sets
      (λ x. sym (ap (λ o. times x (nodes_of o)) e.idle.at)) (λ search is. absurd (none_is_not search None refl is))
      (record {
        idle = λ none. record { start = v; is_start = member; reaches = record { path = []; walk = refl } };
        last = λ search is. absurd (none_is_not search None refl is);
      })
      (come_rest roots e.next good.come)
      (given_rest roots (λ u. get_or (set s.claimed v true) u false ≡ true) e.next claims
      (λ u has. elim (good.given u has) as (λ _. Contains s.to_come u ⊎ (get_or (set s.claimed v true) u false ≡ true)) [ inl to ↦ inl to | inr was ↦ inr (more u was) ])))

-- the top's next successor is claimed
module _ {lists : List (List ℕ)} {roots : List ℕ} {s : State} (good : IsGoodState lists roots false s) where
  pub next_keeps : {place v : ℕ} {t : State} → ClaimsNext s place v t → IsGoodState lists roots false t
  next_keeps {place} {v} {t} e =
      let begun : HasBegun good place v e.begun = has_begun good e.begins in
      let below : v < length lists = last_below begun.has.good begun.last good.book.closed in
      let within : place < length s.running = place_within s.running place e.begins.runs.search e.begins.runs.at in
      let free : waiting_at s place ≡ None = e.begins.runs.free in
      let more = claims_more good v e.unclaimed below within free t.running s.to_come e.goes_on.sets in
      let here : (x : ℕ) → times x (nodes_on e.goes_on.after.stack) ≡ times x (nodes_on e.begun) = λ x. ap (λ stack. times x (nodes_on stack)) e.goes_on.stack_is in
      let running : IsRunning lists roots false s.groups (Some v) e.goes_on.after = record {
        some = omega (arith, begun.has.some, ap size e.goes_on.stack_is);
        wants_nothing = e.goes_on.wants_nothing;
        opened = true;
        is_open = λ sound. refl;
        waits_open = λ waits. refl;
        good = subst (IsGood lists roots (flat s.groups) true) (sym e.goes_on.stack_is) begun.has.good;
      } in
      subst (IsGoodState lists roots false) (sym e.only)
      (asked_good good v e.unclaimed below within free t.running s.to_come e.goes_on.sets (λ x. here x ∙ begun.has.counted x)
      (λ search is. subst (IsRunning lists roots false s.groups (Some v)) (some_is e.goes_on.after search is) running)
      (record {
        idle = λ none. absurd (none_is_not e.goes_on.after (Some e.goes_on.after) none refl);
        last = λ search is.
            subst (λ (one : SearchValue). IsLastBegun one.stack v) (some_is e.goes_on.after search is)
            (subst (λ stack. IsLastBegun stack v) (sym e.goes_on.stack_is) begun.last);
      })
      good.come
      (λ u has. elim (good.given u has) as (λ _. Contains s.to_come u ⊎ (get_or (set s.claimed v true) u false ≡ true)) [ inl to ↦ inl to | inr was ↦ inr (more u was) ]))

  pub asks_keep : {place v : ℕ} {t : State} → Asks s place v t → IsGoodState lists roots false t
  asks_keep {place} {v} {t} e =
      elim e as (λ _. IsGoodState lists roots false t) [ inl root ↦ root_keeps good root | inr next ↦ next_keeps next ]

-- the node that a place waits for is opened
module _ {lists : List (List ℕ)} {roots : List ℕ} {failed : Bool} {s : State} (good : IsGoodState lists roots failed s) where
  -- what was at the place has the open edge, or is nothing
  pushed_good : (place v : ℕ) → waiting_at s place ≡ Some v → (o : Option SearchValue) → kept_at s.running place ≡ o
      → IsGood lists roots (flat s.groups) false (pushed (running_stack o) v (get_or lists v []))
  pushed_good place v waits None at = first_good lists roots (flat s.groups) v ((good.waits place v waits).idle at)
  pushed_good place v waits (Some search) at =
      let was = good.running place search at in
      let opened : was.opened ≡ true = was.waits_open (ap is_some waits) in
      push_good (subst (λ b. IsGood lists roots (flat s.groups) b search.stack) opened was.good) ((good.waits place v waits).last search at)

  stack_counted : (o : Option SearchValue) (x : ℕ) → times x (nodes_on (running_stack o)) ≡ times x (nodes_of o)
  stack_counted None x = refl
  stack_counted (Some search) x = refl

  pub waits_within : (place v : ℕ) → waiting_at s place ≡ Some v → place < length s.waiting
  waits_within place v waits =
      elim (cases_lt place (length s.waiting)) as (λ _. place < length s.waiting)
      [ inl lt ↦ lt | inr past ↦ absurd (none_is_not v (waiting_at s place) (get_or_past s.waiting place None past) waits) ]

  module _ {place v : ℕ} {t : State} (e : Opens lists s place v t) where
    abbrev opened_to : State
    opened_to = record s { running = t.running; waiting = set s.waiting place None }

    abbrev stack : Stack
    stack = pushed (running_stack (kept_at s.running place)) v (get_or lists v [])

    free : (waiting_at opened_to place ≡ None) × ((i : ℕ) → (i ≡ place → ⊥) → waiting_at opened_to i ≡ waiting_at s i)
    free = written s.waiting place None None (waits_within place v e.waits)

    settled : IsSettled lists roots s.groups e.goes_on.after
    settled = record {
      some = omega (arith, ap size e.goes_on.stack_is, push_some (running_stack (kept_at s.running place)) v (get_or lists v []));
      wants_nothing = e.goes_on.wants_nothing;
      good =
          subst (IsGood lists roots (flat s.groups) false) (sym e.goes_on.stack_is)
          (pushed_good place v e.waits (kept_at s.running place) refl);
    }

    standing_same : (x : ℕ) → times_standing opened_to x ≡ times_standing s x
    standing_same x =
        let sums = standing_change good opened_to e.goes_on.sets free.1 x in
        let none : times x (listed (waiting_at opened_to place)) ≡ 0 = ap (λ o. times x (listed o)) free.0 in
        let one : times x (listed (waiting_at s place)) ≡ times x (v ∷ []) = ap (λ o. times x (listed o)) e.waits in
        let here : times x (nodes_on e.goes_on.after.stack) ≡ times x (nodes_on stack) = ap (λ to. times x (nodes_on to)) e.goes_on.stack_is in
        omega (
          arith,
          sums,
          none,
          one,
          here,
          pushed_counted (running_stack (kept_at s.running place)) v (get_or lists v []) x,
          stack_counted (kept_at s.running place) x,
        )

    pub opens_keep : IsGoodState lists roots failed t
    opens_keep =
        subst (IsGoodState lists roots failed) (sym e.only)
        (record {
          counted = good.counted;
          places = length-set s.waiting place None ∙ good.places ∙ sym e.goes_on.sets.counted;
          book = good.book;
          some = good.some;
          ends = good.ends;
          running =
              running_after good opened_to e.goes_on.sets free.1 (λ u has. has)
              (λ search is. runs_settled (subst (IsSettled lists roots s.groups) (some_is e.goes_on.after search is) settled) free.0);
          waits =
              waits_after good opened_to e.goes_on.sets free.1
              (λ u waits. absurd (none_is_not u (waiting_at opened_to place) free.0 waits));
          wants = good.wants;
          once = λ u is. standing_same u ∙ good.once u is;
          never = λ u isnt. standing_same u ∙ good.never u isnt;
          come = good.come;
          given = good.given;
        })
