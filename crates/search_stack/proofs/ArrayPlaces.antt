-- Where the nodes of a search of a whole graph are.
use Rattle.std.proofs.Common.{◌≡◌, ◌⊎◌, inl, inr, ℕ, zero, suc, ◌<◌, ◌+◌, Bool, true, false, not, List, [], ◌∷◌, length, get_or, set, nat_eq, refl, ap, ◌∙◌, sym, subst, arith, ne_eqb, true≢false, get_or-set_same, get_or-set_other, length-set}
use Rattle.std.proofs.lemmas.Bool.{cases_eq, cases_lt}
use Rattle.std.proofs.lemmas.List.{length-map, map-set, ext_get_or}
use Rattle.std.specs.Prelude.{Contains, count_by}
use Rattle.graph_law.specs.Stamp.{IsStamped}
use Rattle.search_stack.specs.declared.array_search.TheConstants.{FOUND}
use Rattle.search_stack.specs.ArrayFields.{ArePlaces, met_in}
use Rattle.search_stack.specs.GoodSearch.{StandsIn}
use Rattle.search_stack.specs.PlainSearch.{IsSeen}
use Rattle.search_stack.specs.Search.{IsOn}
use Rattle.search_stack.specs.Stack.{Stack, IsShaped, size, node, position}
use Rattle.search_stack.proofs.Changes.{Pushes, Keeps}
use Rattle.search_stack.proofs.Frames.{position_within}
use Rattle.search_stack.proofs.Taken.{HoldsFrom}
use Rattle.search_stack.proofs.UnderWay.{SameNodes, is_on_to, fewer_unseen}

-- whether a node was met is what its place says
pub met_read : (places : List ℕ) (v : ℕ) → get_or (met_in places) v false ≡ not (nat_eq (get_or places v 0) 0)
met_read [] v = refl
met_read (place ∷ places) zero = refl
met_read (place ∷ places) (suc v) = met_read places v

pub unmet_place : (places : List ℕ) (v : ℕ) → get_or (met_in places) v false ≡ false → get_or places v 0 ≡ 0
unmet_place places v unmet =
    elim (cases_eq (get_or places v 0) 0) as (λ _. get_or places v 0 ≡ 0) [
      | inl is ↦ is
      | inr ne ↦ absurd (true≢false (ap not (sym (ne_eqb (get_or places v 0) 0 ne)) ∙ sym (met_read places v) ∙ unmet))
    ]

pub met_place : (places : List ℕ) (v : ℕ) → IsSeen (met_in places) v → get_or places v 0 ≡ 0 → ⊥
met_place places v met none =
    true≢false (sym met ∙ met_read places v ∙ ap (λ k. not (nat_eq k 0)) none)

-- a node with a place was met
pub place_met : (places : List ℕ) (v : ℕ) → (get_or places v 0 ≡ 0 → ⊥) → IsSeen (met_in places) v
place_met places v some = met_read places v ∙ ap not (ne_eqb (get_or places v 0) 0 some)

-- a node on the stack stands at its place
pub stands_at : {places : List ℕ} {s : Stack} {v : ℕ} → ArePlaces places s → (on : IsOn s v) → get_or places v 0 ≡ on.place + 1
stands_at {places} {s} {v} are on = ap (λ u. get_or places u 0) (sym on.is) ∙ are.standing on.place on.within

pub unmet_is_off : {places : List ℕ} {s : Stack} {v : ℕ} → ArePlaces places s → get_or places v 0 ≡ 0 → IsOn s v → ⊥
unmet_is_off are none on = omega (arith, none, stands_at are on)

-- a node that was met and isn't on the stack is found
pub off_is_found : {places : List ℕ} {s : Stack} {v : ℕ} → ArePlaces places s → IsSeen (met_in places) v → (IsOn s v → ⊥)
    → get_or places v 0 ≡ FOUND
off_is_found {places} {s} {v} are met off =
    elim (are.others v) as (λ _. get_or places v 0 ≡ FOUND) [
      | inl none ↦ absurd (met_place places v met none)
      | inr either ↦ elim either as (λ _. get_or places v 0 ≡ FOUND) [ inl found ↦ found | inr on ↦ absurd (off on) ]
    ]

pub places_same : {places : List ℕ} {s t : Stack} → SameNodes s t → ArePlaces places s → ArePlaces places t
places_same {places} {s} {t} same are = record {
  standing = λ i lt. ap (λ u. get_or places u 0) (same.node_is i) ∙ are.standing i (omega (arith, lt, same.size_is));
  others = λ v.
      elim (are.others v) as (λ _. (get_or places v 0 ≡ 0) ⊎ ((get_or places v 0 ≡ FOUND) ⊎ IsOn t v)) [
        | inl none ↦ inl none
        | inr either ↦
            elim either as (λ _. (get_or places v 0 ≡ 0) ⊎ ((get_or places v 0 ≡ FOUND) ⊎ IsOn t v))
            [ inl found ↦ inr (inl found) | inr on ↦ inr (inr (is_on_to same on)) ]
      ];
  room = omega (arith, are.room, same.size_is);
  small = are.small;
}

-- a node that wasn't met is marked
pub met_push : (places : List ℕ) (v place : ℕ) → met_in (set places v (place + 1)) ≡ set (met_in places) v true
met_push places v place =
    map-set (λ each. not (nat_eq each 0)) places v (place + 1)
    ∙ ap (set (met_in places) v) (ap not (ne_eqb (place + 1) 0 (λ is. omega (arith, is))))

-- a node that wasn't met goes on top
pub places_push : {places : List ℕ} {s t : Stack} {v : ℕ} {list : List ℕ} (place : ℕ) → ArePlaces places s → Pushes s t v list
    → v < length places → get_or places v 0 ≡ 0 → place ≡ size s → ArePlaces (set places v (place + 1)) t
places_push {places} {s} {t} {v} {list} place are new lt none at =
    let after : List ℕ = set places v (place + 1) in
    let here : get_or after v 0 ≡ place + 1 = get_or-set_same places v (place + 1) 0 lt in
    let there : (u : ℕ) → (u ≡ v → ⊥) → get_or after u 0 ≡ get_or places u 0 = λ u ne. get_or-set_other places v u (place + 1) 0 ne in
    let on_new : IsOn t v = record { place = size s; within = omega (arith, new.size_is); is = new.node_new } in
    let on_old : (u : ℕ) → IsOn s u → IsOn t u = λ u on.
    record { place = on.place; within = omega (arith, on.within, new.size_is); is = new.node_is on.place on.within ∙ on.is } in
    let long : length (met_in places) ≡ length places = length-map places (λ each. not (nat_eq each 0)) in
    let unmet : get_or (met_in places) v false ≡ false = met_read places v ∙ ap (λ k. not (nat_eq k 0)) none in
    let fewer : count_by not (set (met_in places) v true) + 1 ≡ count_by not (met_in places) =
    fewer_unseen (met_in places) v (omega (arith, lt, long)) unmet in
    let marks : count_by not (met_in after) ≡ count_by not (set (met_in places) v true) = ap (count_by not) (met_push places v place) in
    record {
      standing = λ i i_lt.
          elim (cases_lt i (size s)) as (λ _. get_or after (node t i) 0 ≡ i + 1) [
            | inl old ↦
                let stands : get_or places (node s i) 0 ≡ i + 1 = are.standing i old in
                let ne : node s i ≡ v → ⊥ = λ is. omega (arith, stands, ap (λ u. get_or places u 0) is, none) in
                ap (λ u. get_or after u 0) (new.node_is i old) ∙ there (node s i) ne ∙ stands
            | inr le ↦
                let is : i ≡ size s = omega (arith, le, i_lt, new.size_is) in
                let number : place + 1 ≡ i + 1 = omega (arith, at, is) in
                ap (λ u. get_or after u 0) (ap (node t) is ∙ new.node_new) ∙ here ∙ number
          ];
      others = λ u.
          elim (cases_eq u v) as (λ _. (get_or after u 0 ≡ 0) ⊎ ((get_or after u 0 ≡ FOUND) ⊎ IsOn t u)) [
            | inl is ↦ let P : ℕ → Type 0 = λ w. IsOn t w in inr (inr (subst P (sym is) on_new))
            | inr ne ↦
                elim (are.others u) as (λ _. (get_or after u 0 ≡ 0) ⊎ ((get_or after u 0 ≡ FOUND) ⊎ IsOn t u)) [
                  | inl zero_there ↦ inl (there u ne ∙ zero_there)
                  | inr either ↦
                      elim either as (λ _. (get_or after u 0 ≡ 0) ⊎ ((get_or after u 0 ≡ FOUND) ⊎ IsOn t u))
                      [ inl found ↦ inr (inl (there u ne ∙ found)) | inr on ↦ inr (inr (on_old u on)) ]
                ]
          ];
      room = omega (arith, are.room, new.size_is, fewer, marks, length-set places v (place + 1));
      small = omega (arith, are.small, length-set places v (place + 1));
    }

-- there is room for one more node
pub has_room : {places : List ℕ} {s : Stack} {v : ℕ} → ArePlaces places s → v < length places → get_or places v 0 ≡ 0
    → size s < length places
has_room {places} {s} {v} are lt none =
    let long : length (met_in places) ≡ length places = length-map places (λ each. not (nat_eq each 0)) in
    let unmet : get_or (met_in places) v false ≡ false = met_read places v ∙ ap (λ k. not (nat_eq k 0)) none in
    omega (arith, are.room, fewer_unseen (met_in places) v (omega (arith, lt, long)) unmet)

-- the top segment is found
module _ {places new : List ℕ} {s t : Stack} {frame : ℕ} {group : List ℕ} (are : ArePlaces places s) (shaped : IsShaped s)
    (kept : Keeps s t frame) (holds : HoldsFrom s (position s frame) group) (stamped : IsStamped group FOUND places new) where
  member_on : (v : ℕ) → Contains group v → IsOn s v
  member_on v member =
      let stands : StandsIn s (position s frame) (size s) v = holds.to v member in
      record { place = stands.place; within = stands.below; is = stands.is }

  below_off : (i : ℕ) → i < position s frame → Contains group (node s i) → ⊥
  below_off i below member =
      let stands : StandsIn s (position s frame) (size s) (node s i) = holds.to (node s i) member in
      let within : i < size s = omega (arith, below, position_within shaped frame kept.within) in
      let on : IsOn s (node s i) = record { place = stands.place; within = stands.below; is = stands.is } in
      omega (arith, are.standing i within, stands_at are on, stands.from, below)

  place_kept : (v : ℕ) → (Contains group v → ⊥) → get_or new v 0 ≡ get_or places v 0
  place_kept v off =
      elim (stamped.kept v 0) as (λ _. get_or new v 0 ≡ get_or places v 0) [ inl member ↦ absurd (off member) | inr same ↦ same ]

  is_met : (v : ℕ) → get_or (met_in new) v false ≡ get_or (met_in places) v false
  is_met v =
      elim (stamped.kept v 0) as (λ _. get_or (met_in new) v false ≡ get_or (met_in places) v false) [
        | inl member ↦
            place_met new v (λ none. omega (arith, none, stamped.stamped v 0 member))
            ∙ sym (place_met places v (λ none. unmet_is_off are none (member_on v member)))
        | inr same ↦ met_read new v ∙ ap (λ k. not (nat_eq k 0)) same ∙ sym (met_read places v)
      ]

  -- each node is met as before
  pub met_take : met_in new ≡ met_in places
  met_take =
      let f : ℕ → Bool = λ each. not (nat_eq each 0) in
      ext_get_or false (met_in new) (met_in places) (length-map new f ∙ stamped.each ∙ sym (length-map places f)) (λ v lt. is_met v)

  pub places_take : ArePlaces new t
  places_take =
      let fewer : position s frame < size s = position_within shaped frame kept.within in
      record {
        standing = λ i lt.
            let below : i < position s frame = omega (arith, lt, kept.size_is) in
            ap (λ u. get_or new u 0) (kept.node_is i below) ∙ place_kept (node s i) (below_off i below)
            ∙ are.standing i (omega (arith, below, fewer));
        others = λ v.
            elim (stamped.kept v 0) as (λ _. (get_or new v 0 ≡ 0) ⊎ ((get_or new v 0 ≡ FOUND) ⊎ IsOn t v)) [
              | inl member ↦ inr (inl (stamped.stamped v 0 member))
              | inr same ↦
                  elim (are.others v) as (λ _. (get_or new v 0 ≡ 0) ⊎ ((get_or new v 0 ≡ FOUND) ⊎ IsOn t v)) [
                    | inl none ↦ inl (same ∙ none)
                    | inr either ↦
                        elim either as (λ _. (get_or new v 0 ≡ 0) ⊎ ((get_or new v 0 ≡ FOUND) ⊎ IsOn t v)) [
                          | inl found ↦ inr (inl (same ∙ found))
                          | inr on ↦
                              elim (cases_lt on.place (position s frame)) as (λ _. (get_or new v 0 ≡ 0) ⊎ ((get_or new v 0 ≡ FOUND) ⊎ IsOn t v)) [
                                | inl below ↦
                                    inr
                                    (inr
                                    (record {
                                      place = on.place;
                                      within = omega (arith, below, kept.size_is);
                                      is = kept.node_is on.place below ∙ on.is;
                                    }))
                                | inr le ↦
                                    let P : ℕ → Type 0 = λ u. Contains group u in
                                    inr (inl (stamped.stamped v 0 (subst P on.is (holds.from on.place le on.within))))
                              ]
                        ]
                  ]
            ];
        room = omega (arith, are.room, kept.size_is, fewer, ap (count_by not) met_take, stamped.each);
        small = omega (arith, are.small, stamped.each);
      }
