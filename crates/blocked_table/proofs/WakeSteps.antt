-- How suspended searches are made ready one by one.
use Rattle.std.proofs.Common.{◌≡◌, ◌⊎◌, inl, inr, ℕ, ◌<◌, ◌≤◌, ◌+◌, List, [], ◌∷◌, ◌++◌, length, get_or, set, get_or-set_same, get_or-set_other, length-set, Option, None, Some, refl, ap, ◌∙◌, sym, subst, arith}
use Rattle.std.proofs.lemmas.Bool.{cases_eq}
use Rattle.std.proofs.lemmas.List.{length_push}
use Rattle.std.proofs.lemmas.List.Elements.{Contains-push_cases}
use Rattle.std.specs.Prelude.{Contains}
use Rattle.search_stack.specs.Search.{SearchValue}
use Rattle.blocked_table.specs.Blocked.{IsReadyAt, IsWoken}
use Rattle.blocked_table.specs.BlockedFields.{AreWaiting}
use Rattle.blocked_table.specs.Kept.{kept_at}
use Rattle.blocked_table.specs.Listed.{AreJust}
use Rattle.blocked_table.specs.Waking.{AreSomeWoken, IsOneWoken, IsReadied, IsUnwanted}
use Rattle.blocked_table.proofs.Chain.{none_is_not, place_within, some_is}
use Rattle.blocked_table.proofs.FieldSteps.{read_kept}
use Rattle.blocked_table.proofs.Listed.{just_few, just_push}
use Rattle.blocked_table.proofs.Waits.{IsWaiting, waiting_here}

-- the list of ready slots, if the search in a slot becomes ready
pub ready_more : {now new : List (Option SearchValue)} (ready : List ℕ) (i w : ℕ) (search : SearchValue) → kept_at now i ≡ Some search
    → search.wanted ≡ Some w → kept_at new i ≡ Some (record search { wanted = None }) → ((j : ℕ) → (j ≡ i → ⊥) → kept_at new j ≡ kept_at now j)
    → AreJust (IsReadyAt now) ready → AreJust (IsReadyAt new) (ready ++ i ∷ [])
ready_more {now} {new} ready i w search at wants there others are =
    just_push ready i are
    (λ was.
    let same : was.search ≡ search = some_is was.search search (sym was.at ∙ at) in
    none_is_not w was.search.wanted was.wants_nothing (ap (λ (one : SearchValue). one.wanted) same ∙ wants))
    (record { search = record search { wanted = None }; at = there; wants_nothing = refl })
    (λ j was.
    let other : j ≡ i → ⊥ = λ is.
    let same : was.search ≡ search = some_is was.search search (sym was.at ∙ ap (kept_at now) is ∙ at) in
    none_is_not w was.search.wanted was.wants_nothing (ap (λ (one : SearchValue). one.wanted) same ∙ wants) in
    record { search = was.search; at = others j other ∙ was.at; wants_nothing = was.wants_nothing })
    (λ j is ne. record { search = is.search; at = sym (others j ne) ∙ is.at; wants_nothing = is.wants_nothing })

pub ready_room : {new : List (Option SearchValue)} (ready : List ℕ) (i n : ℕ) → AreJust (IsReadyAt new) (ready ++ i ∷ []) → length new ≡ n
    → length ready + 1 ≤ n
ready_room {new} ready i n are same_length =
    let few : length (ready ++ i ∷ []) ≤ length new =
    just_few (ready ++ i ∷ []) (length new) are (λ place is. place_within new place is.search is.at) in
    omega (arith, few, length_push ready i, same_length)

-- a search is taken from its slot and another is put there

pub put_at : (now : List (Option SearchValue)) (i : ℕ) (gone after : Option SearchValue) → i < length now
    → kept_at (set (set now i gone) i after) i ≡ after
put_at now i gone after lt = get_or-set_same (set now i gone) i after None (omega (arith, lt, length-set now i gone))

pub put_others : (now : List (Option SearchValue)) (i : ℕ) (gone after : Option SearchValue) (j : ℕ) → (j ≡ i → ⊥)
    → kept_at (set (set now i gone) i after) j ≡ kept_at now j
put_others now i gone after j ne = get_or-set_other (set now i gone) i j after None ne ∙ get_or-set_other now i j gone None ne

pub put_length : (now : List (Option SearchValue)) (i : ℕ) (gone after : Option SearchValue) → length (set (set now i gone) i after) ≡ length now
put_length now i gone after = length-set (set now i gone) i after ∙ length-set now i gone

-- one search becomes ready

abbrev pub one_woken : (kept : List (Option SearchValue)) (place w : ℕ) (search : SearchValue) (gone after : Option SearchValue) → kept_at kept place ≡ Some search
    → search.wanted ≡ Some w → after ≡ Some (record search { wanted = None }) → IsOneWoken w kept (set (set kept place gone) place after)
one_woken kept place w search gone after at wants is = record {
  place = place;
  search = search;
  at = at;
  wants = wants;
  each = put_length kept place gone after;
  ready = put_at kept place gone after (place_within kept place search at) ∙ is;
  same = put_others kept place gone after;
}

-- the search in a slot that waits becomes ready
abbrev pub woken_here : (words : List ℕ) (kept : List (Option SearchValue)) → AreWaiting words kept → (place w : ℕ) (read : Option SearchValue)
    (search : SearchValue) (gone after : Option SearchValue) → get_or words place 0 ≡ w + 1 → read ≡ get_or kept place read → read ≡ Some search
    → after ≡ Some (record search { wanted = None }) → IsOneWoken w kept (set (set kept place gone) place after)
woken_here words kept are place w read search gone after word here some is =
    let waits : IsWaiting kept place w = waiting_here words kept are place w word in
    let at : kept_at kept place ≡ Some search = read_kept kept place read (place_within kept place waits.search waits.at) here ∙ some in
    one_woken kept place w search gone after at
    (ap (λ (one : SearchValue). one.wanted) (some_is search waits.search (sym at ∙ waits.at)) ∙ waits.wants) is

one_none : {w : ℕ} {old new : List (Option SearchValue)} → (one : IsOneWoken w old new) → (i : ℕ) → kept_at old i ≡ None → kept_at new i ≡ None
one_none {w} {old} {new} one i at =
    one.same i (λ is. none_is_not one.search (kept_at old i) at (ap (kept_at old) is ∙ one.at)) ∙ at

pub one_some : {w : ℕ} {old new : List (Option SearchValue)} → IsOneWoken w old new → AreSomeWoken (λ u. u ≡ w) old new
one_some {w} {old} {new} one = record {
  each = one.each;
  none = one_none one;
  some = λ i search at.
      elim (cases_eq i one.place) as (λ _. (kept_at new i ≡ Some search) ⊎ IsReadied (λ u. u ≡ w) new i search) [
        | inr ne ↦ inl (one.same i ne ∙ at)
        | inl is ↦
            let same : one.search ≡ search = some_is one.search search (sym one.at ∙ ap (kept_at old) (sym is) ∙ at) in
            inr
            (record {
              wanted = w;
              wants = ap (λ (one : SearchValue). one.wanted) (sym same) ∙ one.wants;
              holds = refl;
              ready =
                  ap (kept_at new) is ∙ one.ready ∙ ap (λ (one : SearchValue). Some (record one { wanted = None })) same;
            })
      ];
}

-- several become ready, one after another

pub some_none : {P : ℕ → Type 0} (kept : List (Option SearchValue)) → AreSomeWoken P kept kept
some_none kept = record { each = refl; none = λ i at. at; some = λ i search at. inl at }

pub some_more : {P Q : ℕ → Type 0} {old now new : List (Option SearchValue)} → AreSomeWoken P old now → AreSomeWoken Q now new
    → ((w : ℕ) → Q w → P w) → AreSomeWoken P old new
some_more {P} {Q} {old} {now} {new} before then wider = record {
  each = then.each ∙ before.each;
  none = λ i at. then.none i (before.none i at);
  some = λ i search at.
      elim (before.some i search at) as (λ _. (kept_at new i ≡ Some search) ⊎ IsReadied P new i search) [
        | inl stays ↦
            elim (then.some i search stays) as (λ _. (kept_at new i ≡ Some search) ⊎ IsReadied P new i search) [
              | inl still ↦ inl still
              | inr is ↦ inr (record { wanted = is.wanted; wants = is.wants; holds = wider is.wanted is.holds; ready = is.ready })
            ]
        | inr was ↦
            let ready : SearchValue = record search { wanted = None } in
            elim (then.some i ready was.ready) as (λ _. (kept_at new i ≡ Some search) ⊎ IsReadied P new i search) [
              | inl still ↦ inr (record { wanted = was.wanted; wants = was.wants; holds = was.holds; ready = still })
              | inr is ↦ absurd (none_is_not is.wanted ready.wanted refl is.wants)
            ]
      ];
}

-- a node that no search waits for isn't waited for later
pub unwanted_still : {P : ℕ → Type 0} {old new : List (Option SearchValue)} (w : ℕ) → AreSomeWoken P old new → IsUnwanted old w
    → IsUnwanted new w
unwanted_still {P} {old} {new} w some none i after at wants = by_place (kept_at old i) refl
  where
    by_place : (o : Option SearchValue) → kept_at old i ≡ o → ⊥
    by_place None was = none_is_not after (kept_at new i) (some.none i was) at
    by_place (Some before) was =
        elim (some.some i before was) as (λ _. ⊥) [
          | inl stays ↦ none i before was (ap (λ (one : SearchValue). one.wanted) (some_is before after (sym stays ∙ at)) ∙ wants)
          | inr is ↦
              let same : record before { wanted = None } ≡ after = some_is (record before { wanted = None }) after (sym is.ready ∙ at) in
              none_is_not w after.wanted (sym (ap (λ (one : SearchValue). one.wanted) same)) wants
        ]

-- no search waits for one more node of the group
pub none_more : {P : ℕ → Type 0} {old new : List (Option SearchValue)} (xs : List ℕ) (node : ℕ) → AreSomeWoken P old new
    → ((w : ℕ) → Contains xs w → IsUnwanted old w) → IsUnwanted new node → (w : ℕ) → Contains (xs ++ node ∷ []) w → IsUnwanted new w
none_more {P} {old} {new} xs node some before here w member =
    elim (Contains-push_cases xs node w member) as (λ _. IsUnwanted new w)
    [ inl earlier ↦ unwanted_still w some (before w earlier) | inr is ↦ subst (IsUnwanted new) is here ]

-- then no search waits for a node of the group
pub all_woken : {group : List ℕ} {old new : List (Option SearchValue)} → AreSomeWoken (Contains group) old new
    → ((w : ℕ) → Contains group w → IsUnwanted new w) → IsWoken group old new
all_woken {group} {old} {new} some none = record {
  each = some.each;
  none = some.none;
  woken = λ i w search at wants member.
      elim (some.some i search at) as (λ _. kept_at new i ≡ Some (record search { wanted = None }))
      [ inl stays ↦ absurd (none w member i search stays wants) | inr is ↦ is.ready ];
  same = λ i search at out.
      elim (some.some i search at) as (λ _. kept_at new i ≡ Some search)
      [ inl stays ↦ stays | inr is ↦ absurd (out is.wanted is.wants is.holds) ];
}
