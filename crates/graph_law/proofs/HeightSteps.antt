-- How heights are found, one after another.
use Rattle.std.proofs.Common.{◌≡◌, ◌⊎◌, inl, inr, ℕ, ◌<◌, ◌≤◌, ◌+◌, max, List, [], ◌∷◌, ◌++◌, length, get_or, set, refl, subst, sym, ap, ◌∙◌, arith, get_or-set_same, get_or-set_other}
use Rattle.std.proofs.lemmas.Bool.{cases_eq, cases_lt}
use Rattle.std.proofs.lemmas.List.{get_or_default, length-set}
use Rattle.std.proofs.lemmas.List.Elements.{All-set, All-weaker, Contains-append_left, Contains-push, Contains-push_cases}
use Rattle.std.specs.Prelude.{All, Contains}
use Rattle.graph_law.specs.Classes.{GroupCalls}
use Rattle.graph_law.specs.Heights.{HaveHeights}
use Rattle.graph_law.specs.CallOrder.{IsCalleesFirst, LeadsTo, MembersLeadTo, IsJustAbove}

-- two ways to say what is led to
pub just_above_same : (P Q : ℕ → Type 0) (heights : List ℕ) (height : ℕ) → ((j : ℕ) → P j → Q j) → ((j : ℕ) → Q j → P j)
    → IsJustAbove P heights height → IsJustAbove Q heights height
just_above_same P Q heights height to from is = record {
  above = λ j led. is.above j (from j led);
  least = elim is.least [ inl none ↦ inl none | inr (j, led, at) ↦ inr (j, to j led, at) ];
}

-- the greater of two heights, over what either leads to
pub just_above_max : (P Q R : ℕ → Type 0) (heights : List ℕ) (first second : ℕ)
    → ((j : ℕ) → R j → P j ⊎ Q j) → ((j : ℕ) → P j → R j) → ((j : ℕ) → Q j → R j)
    → IsJustAbove P heights first → IsJustAbove Q heights second → IsJustAbove R heights (max first second)
just_above_max P Q R heights first second either left right is also = record {
  above = λ j led. elim (either j led) [ inl by ↦ omega (arith, is.above j by) | inr by ↦ omega (arith, also.above j by) ];
  least = elim (cases_lt first second) [
    | inl lt ↦ elim also.least [ inl none ↦ inl (omega (arith, lt, none)) | inr (j, led, at) ↦ inr (j, right j led, omega (arith, lt, at)) ]
    | inr le ↦ elim is.least [ inl none ↦ inl (omega (arith, le, none)) | inr (j, led, at) ↦ inr (j, left j led, omega (arith, le, at)) ]
  ];
}

-- a callee in the group itself leads nowhere
pub lead_skip : (places : List ℕ) (place : ℕ) (xs : List ℕ) (callee : ℕ) (heights : List ℕ) (height : ℕ)
    → get_or places callee 0 ≡ place
    → IsJustAbove (LeadsTo places place xs) heights height → IsJustAbove (LeadsTo places place (xs ++ callee ∷ [])) heights height
lead_skip places place xs callee heights height own =
    just_above_same (LeadsTo places place xs) (LeadsTo places place (xs ++ callee ∷ [])) heights height
    (λ j led. record { callee = led.callee; is_callee = Contains-append_left xs (callee ∷ []) led.callee led.is_callee; at = led.at; other = led.other })
    (λ j led.
    elim (Contains-push_cases xs callee led.callee led.is_callee) [
      | inl before ↦ record { callee = led.callee; is_callee = before; at = led.at; other = led.other }
      | inr last ↦ absurd (led.other (sym own ∙ ap (λ k. get_or places k 0) last ∙ led.at))
    ])

-- a callee in another group leads there
pub lead_more : (places : List ℕ) (place : ℕ) (xs : List ℕ) (callee : ℕ) (heights : List ℕ) (height : ℕ)
    → (get_or places callee 0 ≡ place → ⊥)
    → IsJustAbove (LeadsTo places place xs) heights height
    → IsJustAbove (LeadsTo places place (xs ++ callee ∷ [])) heights (max height (get_or heights (get_or places callee 0) 0 + 1))
lead_more places place xs callee heights height other =
    let there : ℕ = get_or places callee 0 in
    λ is.
    just_above_max (LeadsTo places place xs) (λ j. j ≡ there) (LeadsTo places place (xs ++ callee ∷ [])) heights height (get_or heights there 0 + 1)
    (λ j led.
    elim (Contains-push_cases xs callee led.callee led.is_callee) [
      | inl before ↦ inl (record { callee = led.callee; is_callee = before; at = led.at; other = led.other })
      | inr last ↦ inr (sym led.at ∙ ap (λ k. get_or places k 0) (sym last))
    ])
    (λ j led. record { callee = led.callee; is_callee = Contains-append_left xs (callee ∷ []) led.callee led.is_callee; at = led.at; other = led.other })
    (λ j is_there. record { callee = callee; is_callee = Contains-push xs callee; at = sym is_there; other = λ same. other (sym is_there ∙ sym same) })
    is
    (record {
      above = λ j is_there. let same : get_or heights j 0 ≡ get_or heights there 0 = ap (λ k. get_or heights k 0) is_there in omega (arith, same);
      least = inr (there, refl, refl);
    })

-- one member more
pub members_more : (lists : List (List ℕ)) (places : List ℕ) (place : ℕ) (xs : List ℕ) (member : ℕ) (heights : List ℕ) (height over : ℕ)
    → IsJustAbove (MembersLeadTo lists places place xs) heights height
    → IsJustAbove (LeadsTo places place (get_or lists member [])) heights over
    → IsJustAbove (MembersLeadTo lists places place (xs ++ member ∷ [])) heights (max height over)
members_more lists places place xs member heights height over =
    just_above_max (MembersLeadTo lists places place xs) (LeadsTo places place (get_or lists member []))
    (MembersLeadTo lists places place (xs ++ member ∷ [])) heights height over
    (λ j led.
    elim (Contains-push_cases xs member led.member led.is_member) [
      | inl before ↦ inl (record { member = led.member; is_member = before; leads = led.leads })
      | inr last ↦ inr (let P : ℕ → Type 0 = λ k. LeadsTo places place (get_or lists k []) j in subst P (sym last) led.leads)
    ])
    (λ j led. record { member = led.member; is_member = Contains-append_left xs (member ∷ []) led.member led.is_member; leads = led.leads })
    (λ j led. record { member = member; is_member = Contains-push xs member; leads = led })

-- the heights of the first n groups of the order
pub record AreHeightsSoFar (calls : ℕ → ℕ → Type 0) (groups : List (List ℕ)) (order : List ℕ) (n : ℕ) (heights : List ℕ) : Type 0 where
  pub each : length heights ≡ length groups
  pub low : All (λ height. height ≤ n) heights
  pub known : (k : ℕ) → k < n → IsJustAbove (GroupCalls calls groups (get_or order k 0)) heights (get_or heights (get_or order k 0) 0)

-- where another height changes, what is just above stays so
just_above_kept : (calls : ℕ → ℕ → Type 0) (groups : List (List ℕ)) (i place : ℕ) (heights : List ℕ) (height value : ℕ)
    → (GroupCalls calls groups i place → ⊥)
    → IsJustAbove (GroupCalls calls groups i) heights height → IsJustAbove (GroupCalls calls groups i) (set heights place value) height
just_above_kept calls groups i place heights height value none is =
    let kept : (j : ℕ) → GroupCalls calls groups i j → get_or (set heights place value) j 0 ≡ get_or heights j 0 =
    λ j led. get_or-set_other heights place j value 0 (λ same. none (subst (GroupCalls calls groups i) same led)) in
    record {
      above = λ j led. omega (arith, kept j led, is.above j led);
      least = elim is.least [ inl zero_height ↦ inl zero_height | inr (j, led, at) ↦ inr (j, led, omega (arith, kept j led, at)) ];
    }

pub heights_more : {calls : ℕ → ℕ → Type 0} {groups : List (List ℕ)} {order : List ℕ} (n : ℕ) (heights : List ℕ) (place height : ℕ)
    → IsCalleesFirst calls groups order → n < length order → get_or order n 0 ≡ place
    → AreHeightsSoFar calls groups order n heights → IsJustAbove (GroupCalls calls groups place) heights height
    → AreHeightsSoFar calls groups order (n + 1) (set heights place height)
heights_more {calls} {groups} {order} n heights place height is_order lt at so_far is =
    let within : place < length heights = omega (arith, so_far.each, at, is_order.within n 0 lt) in
    let own : GroupCalls calls groups place place → ⊥ = λ led. led.other refl in
    let here : IsJustAbove (GroupCalls calls groups place) (set heights place height) (get_or (set heights place height) place 0) =
    rw (get_or-set_same heights place height 0 within) (just_above_kept calls groups place place heights height height own is) in
    record {
      each = length-set heights place height ∙ so_far.each;
      low = All-set (λ each. each ≤ n + 1) heights place height
          (elim is.least [
            | inl none ↦ omega (arith, none)
            | inr (j, led, above) ↦
                let callee : j < length heights = (let inside = led.callee_within in omega (arith, so_far.each, inside)) in
                omega (arith, above, so_far.low j 0 callee)
          ])
          (All-weaker (λ each. each ≤ n) (λ each. each ≤ n + 1) (λ each le. omega (arith, le)) heights so_far.low);
      known = λ k before.
          let P : ℕ → Type 0 = λ i. IsJustAbove (GroupCalls calls groups i) (set heights place height) (get_or (set heights place height) i 0) in
          elim (cases_eq (get_or order k 0) place) [
            | inl same ↦ subst P (sym same) here
            | inr ne ↦
                elim (cases_eq k n) [
                  | inl last ↦ absurd (ne (ap (λ m. get_or order m 0) last ∙ at))
                  | inr other ↦
                      let earlier : k < n = omega (arith, before, other) in
                      let uncalled : GroupCalls calls groups (get_or order k 0) place → ⊥ =
                      λ led.
                      let after : n < k =
                      is_order.callees_first k n (omega (arith, earlier, lt)) lt (subst (GroupCalls calls groups (get_or order k 0)) (sym at) led) in
                      omega (arith, after, earlier) in
                      rw (get_or-set_other heights place (get_or order k 0) height 0 ne)
                      (just_above_kept calls groups (get_or order k 0) place heights (get_or heights (get_or order k 0) 0) height uncalled (so_far.known k earlier))
                ]
          ];
    }

-- all groups are passed
pub heights_done : {calls : ℕ → ℕ → Type 0} {groups : List (List ℕ)} {order : List ℕ} (n : ℕ) (heights : List ℕ)
    → IsCalleesFirst calls groups order → length order ≤ n → AreHeightsSoFar calls groups order n heights → HaveHeights calls groups heights
heights_done {calls} {groups} {order} n heights is_order passed so_far =
    let known : (i : ℕ) → i < length groups → IsJustAbove (GroupCalls calls groups i) heights (get_or heights i 0) =
    λ i lt.
    let found : Contains order i = is_order.all i lt in
    let P : ℕ → Type 0 = λ j. IsJustAbove (GroupCalls calls groups j) heights (get_or heights j 0) in
    let within : found.0 < length order = found.1 in
    let at : get_or order found.0 0 ≡ i = get_or_default order found.0 0 i within ∙ found.2 in
    subst P at (so_far.known found.0 (omega (arith, within, passed))) in
    record {
      each = so_far.each;
      above = λ i j led. (known i led.caller_within).above j led;
      least = λ i lt. (known i lt).least;
    }
