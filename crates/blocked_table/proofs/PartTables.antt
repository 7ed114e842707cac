-- What becomes of the tables if a suspended search is cut and its upper part moves away.
use Rattle.std.proofs.Common.{◌≡◌, ◌⊎◌, inl, inr, ℕ, ◌<◌, ◌+◌, List, [], ◌∷◌, ◌++◌, length, get_or, Option, None, Some, ap, ◌∙◌, sym, subst, arith}
use Rattle.std.proofs.lemmas.Bool.{cases_eq}
use Rattle.std.specs.Prelude.{◌↔◌}
use Rattle.search_stack.specs.Stack.{Stack, size, node, position}
use Rattle.search_stack.specs.GoodSearch.{StandsIn}
use Rattle.search_stack.specs.Search.{SearchValue, IsOn}
use Rattle.search_stack.proofs.Frames.{position_le}
use Rattle.blocked_table.specs.Blocked.{IsKept, IsTable, IsReadyAt}
use Rattle.blocked_table.specs.BlockedFields.{AreWords, IsVacant}
use Rattle.blocked_table.specs.Kept.{kept_at, Holds}
use Rattle.blocked_table.specs.Listed.{AreJust}
use Rattle.blocked_table.specs.Transfer.{IsCutAway}
use Rattle.blocked_table.specs.Words.{AreWritten}
use Rattle.blocked_table.proofs.Along.{IsOnTheWay, above, at_cut, cut_away, donor_holds, donor_kept, left, next_kept, on_donor, rest_of, rest_wanted, shaped, split_place, was_held}
use Rattle.blocked_table.proofs.Chain.{none_is_not, on_or_off, place_within, some_is}
use Rattle.blocked_table.proofs.Listed.{just_push, just_same}
use Rattle.blocked_table.proofs.Rests.{on_rest}

-- a node is in a part of a stack or not
stands_or_not : (s : Stack) (middle v : ℕ) → ((i j : ℕ) → i < size s → j < size s → node s i ≡ node s j → i ≡ j)
    → StandsIn s middle (size s) v ⊎ (StandsIn s middle (size s) v → ⊥)
stands_or_not s middle v distinct =
    elim (on_or_off s v) as (λ _. StandsIn s middle (size s) v ⊎ (StandsIn s middle (size s) v → ⊥)) [
      | inr off ↦ inr (λ stands. off (record { place = stands.place; within = stands.below; is = stands.is }))
      | inl on ↦
          elim (split_place s middle v on) as (λ _. StandsIn s middle (size s) v ⊎ (StandsIn s middle (size s) v → ⊥)) [
            | inr high ↦ inl high
            | inl low ↦
                inr
                (λ stands.
                let one : low.place ≡ on.place = distinct low.place on.place (omega (arith, low.below, on.within, stands.from, stands.below)) on.within (low.is ∙ sym on.is) in
                let two : stands.place ≡ low.place =
                distinct stands.place low.place stands.below (omega (arith, one, on.within)) (stands.is ∙ sym low.is) in
                omega (arith, two, low.below, stands.from))
          ]
    ]

module _ {lists : List (List ℕ)} {roots done : List ℕ} {now : List (Option SearchValue)} {s : Stack} {v : ℕ} (cut : ℕ × ℕ)
    (way : IsOnTheWay lists roots done now s v) (away : IsCutAway now v cut) where
  pub part_table : (count most : ℕ) → length away.next ≡ length now → IsTable (record { count = count; most = most; kept = now })
      → IsTable (record { count = count; most = most; kept = away.next })
  part_table count most same_length table = record {
    few = omega (arith, table.few, same_length);
    each = λ place search at.
        elim (cases_eq place cut.0) as (λ _. IsKept search) [
          | inr ne ↦ table.each place search (sym (away.same place ne) ∙ at)
          | inl is ↦
              let rest = rest_of cut way away search (at_cut cut way away place search is at) in
              record {
                some =
                    omega (
                      arith,
                      ap size rest.stack_is,
                      (left cut way away).size_is,
                      rest.some,
                      position_le (shaped cut way away) 0 cut.1 (omega arith) (omega (arith, away.cut_is.within)),
                    );
                distinct = (next_kept cut way away place search at).0;
              }
        ];
    below = λ place u holds. table.below place u (was_held cut way away place u holds).before;
    apart = (cut_away cut way away).apart;
    ends = (cut_away cut way away).ends;
  }

  pub part_words : {words after : List ℕ} → AreWords words now
      → AreWritten away.donor.stack (position away.donor.stack cut.1) (size away.donor.stack) 0 words after → AreWords after away.next
  part_words {words} {after} are is i u =
      let middle : ℕ = position away.donor.stack cut.1 in
      let distinct = (donor_kept cut way away).0 in
      elim (stands_or_not away.donor.stack middle u distinct) as (λ _. (get_or after u 0 ≡ i + 1) ↔ Holds away.next i u) [
        | inl high ↦
            let zero_word : get_or after u 0 ≡ 0 = is.written u high in (
              λ word. absurd (omega (arith, word, zero_word)),
              λ holds.
                  let was = was_held cut way away i u holds in
                  let low = was.low (way.apart i cut.0 u was.before (donor_holds cut way away u high)) in
                  let one : low.place ≡ high.place =
                  distinct low.place high.place (omega (arith, low.below, high.from, high.below)) high.below (low.is ∙ sym high.is) in
                  absurd (omega (arith, one, low.below, high.from)),
            )
        | inr off ↦
            let same : get_or after u 0 ≡ get_or words u 0 = is.kept u off in (
              λ word.
                  let holds : Holds now i u = (are i u).0 (sym same ∙ word) in
                  elim (cases_eq i cut.0) as (λ _. Holds away.next i u) [
                    | inr ne ↦ record { search = holds.search; at = away.same i ne ∙ holds.at; on = holds.on }
                    | inl here ↦
                        elim (split_place away.donor.stack middle u (on_donor cut way away i u here holds)) as (λ _. Holds away.next i u) [
                          | inr high ↦ absurd (off high)
                          | inl low ↦
                              elim away.left as (λ _. Holds away.next i u) [
                                | inl none ↦
                                    absurd (omega (arith, low.below, ap (position away.donor.stack) none.0, (shaped cut way away).first))
                                | inr (rest, at, stack_is, some, wants) ↦
                                    record {
                                      search = rest;
                                      at = ap (kept_at away.next) here ∙ at;
                                      on =
                                          subst (λ stack. IsOn stack u) (sym stack_is)
                                          (on_rest (shaped cut way away) (left cut way away) u low);
                                    }
                              ]
                        ]
                  ],
              λ holds. same ∙ (are i u).1 (was_held cut way away i u holds).before,
            )
      ]

  -- the ready searches are those that were ready
  pub part_ready : {ready : List ℕ} → AreJust (IsReadyAt now) ready → AreJust (IsReadyAt away.next) ready
  part_ready {ready} are =
      just_same are
      (λ i was.
      let other : i ≡ cut.0 → ⊥ = λ is.
      let same : was.search ≡ away.donor = some_is was.search away.donor (sym was.at ∙ ap (kept_at now) is ∙ away.at) in
      none_is_not away.wants was.search.wanted was.wants_nothing (ap (λ (one : SearchValue). one.wanted) same ∙ away.wanted) in
      record { search = was.search; at = away.same i other ∙ was.at; wants_nothing = was.wants_nothing })
      (λ i new.
      let other : i ≡ cut.0 → ⊥ = λ is.
      let rest = rest_of cut way away new.search (at_cut cut way away i new.search is new.at) in
      none_is_not (above cut way away rest.some).wants new.search.wanted new.wants_nothing (rest_wanted cut way away new.search rest) in
      record { search = new.search; at = sym (away.same i other) ∙ new.at; wants_nothing = new.wants_nothing })

  -- if nothing is left, the slot is vacant
  pub part_vacant : (vacant : List ℕ) → length away.next ≡ length now → kept_at away.next cut.0 ≡ None → AreJust (IsVacant now) vacant
      → AreJust (IsVacant away.next) (vacant ++ cut.0 ∷ [])
  part_vacant vacant same_length none are =
      just_push vacant cut.0 are (λ was. none_is_not away.donor (kept_at now cut.0) was.1 away.at)
      (omega (arith, place_within now cut.0 away.donor away.at, same_length), none)
      (λ i was.
      let other : i ≡ cut.0 → ⊥ = λ is. none_is_not away.donor (kept_at now i) was.1 (ap (kept_at now) is ∙ away.at) in
      (omega (arith, was.0, same_length), away.same i other ∙ was.1))
      (λ i new other. (omega (arith, new.0, same_length), sym (away.same i other) ∙ new.1))

  pub part_kept : {vacant : List ℕ} (rest : SearchValue) → length away.next ≡ length now → kept_at away.next cut.0 ≡ Some rest
      → AreJust (IsVacant now) vacant → AreJust (IsVacant away.next) vacant
  part_kept {vacant} rest same_length some are =
      just_same are
      (λ i was.
      let other : i ≡ cut.0 → ⊥ = λ is. none_is_not away.donor (kept_at now i) was.1 (ap (kept_at now) is ∙ away.at) in
      (omega (arith, was.0, same_length), away.same i other ∙ was.1))
      (λ i new.
      let other : i ≡ cut.0 → ⊥ = λ is. none_is_not rest (kept_at away.next i) new.1 (ap (kept_at away.next) is ∙ some) in
      (omega (arith, new.0, same_length), sym (away.same i other) ∙ new.1))

  -- what the rest waits for is on the donor
  pub rest_held : (rest : SearchValue) (w : ℕ) → kept_at away.next cut.0 ≡ Some rest → rest.wanted ≡ Some w → Holds now cut.0 w
  rest_held rest w at wants =
      let is = rest_of cut way away rest at in
      let same : (above cut way away is.some).wants ≡ w = some_is (above cut way away is.some).wants w (sym (rest_wanted cut way away rest is) ∙ wants) in
      subst (λ u. Holds now cut.0 u) same
      (donor_holds cut way away (above cut way away is.some).wants (above cut way away is.some).stands)
