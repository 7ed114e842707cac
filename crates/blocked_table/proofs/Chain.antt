-- Chains of suspended searches that wait for one another: none is a cycle, and each still ends if a
-- search is suspended that wouldn't wait for itself.
use Rattle.std.proofs.Common.{◌≡◌, ◌⊎◌, inl, inr, ℕ, zero, suc, ◌<◌, ◌≤◌, List, [], ◌∷◌, ◌++◌, length, Option, None, Some, refl, ap, ◌∙◌, sym, subst, arith}
use Rattle.std.proofs.lemmas.Bool.{cases_eq, cases_lt}
use Rattle.std.proofs.lemmas.List.{get_or_past}
use Rattle.search_stack.specs.Stack.{Stack, size, node}
use Rattle.search_stack.specs.Search.{SearchValue, IsOn}
use Rattle.blocked_table.specs.Kept.{kept_at, Holds, IsApart, Follows, IsChain, IsFree, IsAtReady, Ends, AllEnd, ComesTo}
use Rattle.blocked_table.specs.Suspending.{Adds}

pub some_is : {X : Type 0} (x y : X) → Some x ≡ Some y → x ≡ y
some_is x y is = cc

pub none_is_not : {X : Type 0} (x : X) (o : Option X) → o ≡ None → o ≡ Some x → ⊥
none_is_not x o none some = let both : None ≡ Some x = sym none ∙ some in cc

-- a node is on a stack or not

on_below : (s : Stack) (v n : ℕ) → n ≤ size s → IsOn s v ⊎ ((i : ℕ) → i < n → node s i ≡ v → ⊥)
on_below s v zero le = inr (λ i lt is. omega (arith, lt))
on_below s v (suc n) le =
    elim (cases_eq (node s n) v) as (λ _. IsOn s v ⊎ ((i : ℕ) → i < suc n → node s i ≡ v → ⊥)) [
      | inl is ↦ inl (record { place = n; within = omega (arith, le); is = is })
      | inr ne ↦
          elim (on_below s v n (omega (arith, le))) as (λ _. IsOn s v ⊎ ((i : ℕ) → i < suc n → node s i ≡ v → ⊥)) [
            | inl on ↦ inl on
            | inr none ↦
                inr
                (λ i lt is.
                elim (cases_eq i n) as (λ _. ⊥) [
                  | inl here ↦ ne (sym (ap (node s) here) ∙ is)
                  | inr other ↦ none i (omega (arith, lt, other)) is
                ])
          ]
    ]

pub on_or_off : (s : Stack) (v : ℕ) → IsOn s v ⊎ (IsOn s v → ⊥)
on_or_off s v =
    elim (on_below s v (size s) (omega arith)) as (λ _. IsOn s v ⊎ (IsOn s v → ⊥))
    [ inl on ↦ inl on | inr none ↦ inr (λ on. none on.place on.within on.is) ]

-- a suspended search holds a node or not

pub same_search : (kept : List (Option SearchValue)) (place : ℕ) (first second : SearchValue) → kept_at kept place ≡ Some first
    → kept_at kept place ≡ Some second → first ≡ second
same_search kept place first second at is = some_is first second (sym at ∙ is)

pub place_within : (kept : List (Option SearchValue)) (place : ℕ) (search : SearchValue) → kept_at kept place ≡ Some search → place < length kept
place_within kept place search at =
    elim (cases_lt place (length kept)) as (λ _. place < length kept)
    [ inl lt ↦ lt | inr past ↦ absurd (none_is_not search (kept_at kept place) (get_or_past kept place None past) at) ]

holds_here : (kept : List (Option SearchValue)) (place v : ℕ) (o : Option SearchValue) → kept_at kept place ≡ o
    → Holds kept place v ⊎ (Holds kept place v → ⊥)
holds_here kept place v None at = inr (λ holds. none_is_not holds.search (kept_at kept place) at holds.at)
holds_here kept place v (Some search) at =
    elim (on_or_off search.stack v) as (λ _. Holds kept place v ⊎ (Holds kept place v → ⊥)) [
      | inl on ↦ inl (record { search = search; at = at; on = on })
      | inr off ↦
          inr
          (λ holds.
          off (subst (λ (other : SearchValue). IsOn other.stack v) (same_search kept place holds.search search holds.at at) holds.on))
    ]

-- the slot of the search that holds the node
pub record IsHeld (kept : List (Option SearchValue)) (v : ℕ) : Type 0 where
  pub place : ℕ
  pub holds : Holds kept place v

held_below : (kept : List (Option SearchValue)) (v n : ℕ) → IsHeld kept v ⊎ ((i : ℕ) → i < n → Holds kept i v → ⊥)
held_below kept v zero = inr (λ i lt holds. omega (arith, lt))
held_below kept v (suc n) =
    elim (holds_here kept n v (kept_at kept n) refl) as (λ _. IsHeld kept v ⊎ ((i : ℕ) → i < suc n → Holds kept i v → ⊥)) [
      | inl holds ↦ inl (record { place = n; holds = holds })
      | inr off ↦
          elim (held_below kept v n) as (λ _. IsHeld kept v ⊎ ((i : ℕ) → i < suc n → Holds kept i v → ⊥)) [
            | inl held ↦ inl held
            | inr none ↦
                inr
                (λ i lt holds.
                elim (cases_eq i n) as (λ _. ⊥) [
                  | inl here ↦ off (subst (λ k. Holds kept k v) here holds)
                  | inr other ↦ none i (omega (arith, lt, other)) holds
                ])
          ]
    ]

pub held_or_free : (kept : List (Option SearchValue)) (v : ℕ) → IsHeld kept v ⊎ IsFree kept v
held_or_free kept v =
    elim (held_below kept v (length kept)) as (λ _. IsHeld kept v ⊎ IsFree kept v)
    [ inl held ↦ inl held | inr none ↦ inr (λ place holds. none place (place_within kept place holds.search holds.at) holds) ]

-- steps and walks

-- a search in a slot that holds the node is the one of `Follows`
pub same_holder : (kept : List (Option SearchValue)) → IsApart kept → (v : ℕ) (place other : ℕ) (holds : Holds kept place v)
    (also : Holds kept other v) → holds.search ≡ also.search
same_holder kept apart v place other holds also =
    same_search kept other holds.search also.search
    (subst (λ i. kept_at kept i ≡ Some holds.search) (apart place other v holds also) holds.at) also.at

pub follows_one : (kept : List (Option SearchValue)) → IsApart kept → (v x y : ℕ) → Follows kept v x → Follows kept v y → x ≡ y
follows_one kept apart v x y first second =
    let same : first.holds.search ≡ second.holds.search =
    same_holder kept apart v first.place second.place first.holds second.holds in
    some_is x y (sym first.wants ∙ ap (λ (search : SearchValue). search.wanted) same ∙ second.wants)

pub chain_on : (kept : List (Option SearchValue)) (u : ℕ) (xs : List ℕ) (v : ℕ) (ys : List ℕ) (w : ℕ) → IsChain kept u xs v → IsChain kept v ys w
    → IsChain kept u (xs ++ ys) w
chain_on kept u [] v ys w first second = subst (λ k. IsChain kept k ys w) (sym first) second
chain_on kept u (x ∷ xs) v ys w first second = (first.0, chain_on kept x xs v ys w first.1 second)

pub ends_on : (kept : List (Option SearchValue)) (u : ℕ) (xs : List ℕ) (v : ℕ) → IsChain kept u xs v → Ends kept v → Ends kept u
ends_on kept u xs v chain ends = record {
  end = ends.end;
  steps = xs ++ ends.steps;
  chain = chain_on kept u xs v ends.steps ends.end chain ends.chain;
  is = ends.is;
}

-- no step leads on from a node that is free or on a ready search
pub end_stops : (kept : List (Option SearchValue)) → IsApart kept → (v x : ℕ) → IsFree kept v ⊎ IsAtReady kept v → Follows kept v x → ⊥
end_stops kept apart v x is follows =
    elim is as (λ _. ⊥) [
      | inl free ↦ free follows.place follows.holds
      | inr ready ↦
          let same : ready.holds.search ≡ follows.holds.search =
          same_holder kept apart v ready.place follows.place ready.holds follows.holds in
          none_is_not x ready.holds.search.wanted ready.ready (ap (λ (search : SearchValue). search.wanted) same ∙ follows.wants)
    ]

-- following what searches wait for leads from v back to v
pub record IsRing (kept : List (Option SearchValue)) (v : ℕ) : Type 0 where
  pub next : ℕ
  pub steps : List ℕ
  pub chain : IsChain kept v (next ∷ steps) v

-- if there is a cycle through a node, there is one through the next
ring_from : (kept : List (Option SearchValue)) (v next : ℕ) (steps : List ℕ) → Follows kept v next → IsChain kept next steps v → IsRing kept next
ring_from kept v next [] follows is = subst (λ k. IsRing kept k) (sym is) (record { next = next; steps = []; chain = (follows, is) })
ring_from kept v next (x ∷ xs) follows chain = record {
  next = x;
  steps = xs ++ next ∷ [];
  chain = (chain.0, chain_on kept x xs v (next ∷ []) next chain.1 (follows, refl));
}

ring_next : (kept : List (Option SearchValue)) → IsApart kept → (v x : ℕ) → Follows kept v x → IsRing kept v → IsRing kept x
ring_next kept apart v x follows ring =
    let same : ring.next ≡ x = follows_one kept apart v ring.next x ring.chain.0 follows in
    subst (λ k. IsRing kept k) same (ring_from kept v ring.next ring.steps ring.chain.0 ring.chain.1)

no_ring_along : (kept : List (Option SearchValue)) → IsApart kept → (v : ℕ) (steps : List ℕ) (end : ℕ) → IsChain kept v steps end
    → IsFree kept end ⊎ IsAtReady kept end → IsRing kept v → ⊥
no_ring_along kept apart v [] end chain is ring =
    end_stops kept apart end ring.next is (subst (λ k. Follows kept k ring.next) chain ring.chain.0)
no_ring_along kept apart v (x ∷ xs) end chain is ring =
    no_ring_along kept apart x xs end chain.1 is (ring_next kept apart v x chain.0 ring)

-- if following what searches wait for ends, there is no cycle
pub no_ring : (kept : List (Option SearchValue)) → IsApart kept → (v : ℕ) → Ends kept v → IsRing kept v → ⊥
no_ring kept apart v ends = no_ring_along kept apart v ends.steps ends.end ends.chain ends.is

module _ {old new : List (Option SearchValue)} {place : ℕ} {search : SearchValue} (adds : Adds old new place search) where
  other_place : (i : ℕ) (there : SearchValue) → kept_at old i ≡ Some there → i ≡ place → ⊥
  other_place i there at is = none_is_not there (kept_at old i) (ap (kept_at old) is ∙ adds.vacant) at

  pub still_holds : (i v : ℕ) → (holds : Holds old i v) → Holds new i v
  still_holds i v holds = record {
    search = holds.search;
    at = adds.same i (other_place i holds.search holds.at) ∙ holds.at;
    on = holds.on;
  }

  pub still_follows : (v w : ℕ) → Follows old v w → Follows new v w
  still_follows v w follows = record {
    place = follows.place;
    holds =
        record {
          search = follows.holds.search;
          at = adds.same follows.place (other_place follows.place follows.holds.search follows.holds.at) ∙ follows.holds.at;
          on = follows.holds.on;
        };
    wants = follows.wants;
  }

  pub still_chain : (v : ℕ) (steps : List ℕ) (w : ℕ) → IsChain old v steps w → IsChain new v steps w
  still_chain v [] w chain = chain
  still_chain v (x ∷ xs) w chain = (still_follows v x chain.0, still_chain x xs w chain.1)

  -- what holds a node now did before, or is the search that is suspended now
  pub held_before : (i v : ℕ) → Holds new i v → Holds old i v ⊎ ((i ≡ place) × IsOn search.stack v)
  held_before i v holds =
      elim (cases_eq i place) as (λ _. Holds old i v ⊎ ((i ≡ place) × IsOn search.stack v)) [
        | inl is ↦
            let same : holds.search ≡ search =
            some_is holds.search search (sym holds.at ∙ ap (kept_at new) is ∙ adds.at) in
            inr (is, subst (λ (there : SearchValue). IsOn there.stack v) same holds.on)
        | inr ne ↦ inl (record { search = holds.search; at = sym (adds.same i ne) ∙ holds.at; on = holds.on })
      ]

  pub add_apart : IsApart old → ((i v : ℕ) → Holds old i v → IsOn search.stack v → ⊥) → IsApart new
  add_apart apart off i j v first second =
      elim (held_before i v first) as (λ _. i ≡ j) [
        | inl before ↦
            elim (held_before j v second) as (λ _. i ≡ j)
            [ inl also ↦ apart i j v before also | inr here ↦ absurd (off i v before here.1) ]
        | inr here ↦
            elim (held_before j v second) as (λ _. i ≡ j)
            [ inl before ↦ absurd (off j v before here.1) | inr also ↦ here.0 ∙ sym also.0 ]
      ]

  still_ready : (v : ℕ) → IsAtReady old v → IsAtReady new v
  still_ready v ready = record {
    place = ready.place;
    holds =
        record {
          search = ready.holds.search;
          at = adds.same ready.place (other_place ready.place ready.holds.search ready.holds.at) ∙ ready.holds.at;
          on = ready.holds.on;
        };
    ready = ready.ready;
  }

  still_free : (v : ℕ) → IsFree old v → (IsOn search.stack v → ⊥) → IsFree new v
  still_free v free off i holds =
      elim (held_before i v holds) as (λ _. ⊥) [ inl before ↦ free i before | inr here ↦ off here.1 ]

  -- following what searches wait for ends, if it doesn't come back
  wanted_ends : (on : ℕ) → Ends old on → (ComesTo old search.stack on → ⊥) → Ends new on
  wanted_ends on ends never = record {
    end = ends.end;
    steps = ends.steps;
    chain = still_chain on ends.steps ends.end ends.chain;
    is = elim ends.is as (λ _. IsFree new ends.end ⊎ IsAtReady new ends.end) [
      | inl free ↦
          inl (still_free ends.end free (λ back. never (record { end = ends.end; steps = ends.steps; chain = ends.chain; on = back })))
      | inr ready ↦ inr (still_ready ends.end ready)
    ];
  }

  still_ends : (on : ℕ) → search.wanted ≡ Some on → Ends new on → (v : ℕ) → Ends old v → Ends new v
  still_ends on wants wanted v ends =
      let chain : IsChain new v ends.steps ends.end = still_chain v ends.steps ends.end ends.chain in
      elim ends.is as (λ _. Ends new v) [
        | inl free ↦
            elim (on_or_off search.stack ends.end) as (λ _. Ends new v) [
              | inl back ↦
                  let follows : Follows new ends.end on =
                  record { place = place; holds = record { search = search; at = adds.at; on = back }; wants = wants } in
                  ends_on new v ends.steps ends.end chain (ends_on new ends.end (on ∷ []) on (follows, refl) wanted)
              | inr off ↦ record { end = ends.end; steps = ends.steps; chain = chain; is = inl (still_free ends.end free off) }
            ]
        | inr ready ↦ record { end = ends.end; steps = ends.steps; chain = chain; is = inr (still_ready ends.end ready) }
      ]

  -- each chain still ends if a search is suspended that wouldn't wait for itself
  pub add_ends : (on : ℕ) → search.wanted ≡ Some on → AllEnd old → Ends old on → (ComesTo old search.stack on → ⊥) → AllEnd new
  add_ends on wants all ends never i w there at wanted =
      let then : Ends new on = wanted_ends on ends never in
      elim (cases_eq i place) as (λ _. Ends new w) [
        | inl is ↦
            let same : there ≡ search = some_is there search (sym at ∙ ap (kept_at new) is ∙ adds.at) in
            let is_on : on ≡ w =
            some_is on w (sym wants ∙ sym (ap (λ (one : SearchValue). one.wanted) same) ∙ wanted) in
            subst (λ k. Ends new k) is_on then
        | inr ne ↦ still_ends on wants then w (all i w there (sym (adds.same i ne) ∙ at) wanted)
      ]
