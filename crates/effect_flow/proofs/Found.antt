-- How the flow of a group is found, one member and one callee after another.
use Rattle.std.proofs.Common.{◌≡◌, ◌⊎◌, inl, inr, ℕ, ◌<◌, ◌-◌, List, [], ◌∷◌, ◌++◌, length, get_or, Option, Some, None, refl, ap, subst, sym, ◌∙◌, arith}
use Rattle.std.proofs.lemmas.Bool.{cases_lt}
use Rattle.std.proofs.lemmas.List.{get_or_append_left, get_or-append_right, length-append}
use Rattle.std.proofs.lemmas.List.Elements.{Contains-append_left, Contains-get_or, Contains-push, Contains-push_cases}
use Rattle.std.specs.Prelude.{Contains}
use Rattle.graph_law.specs.Classes.{GroupCalls, group_at}
use Rattle.graph_law.specs.Graph.{Calls}
use Rattle.graph_law.specs.LegalOrder.{StandsUpTo}
use Rattle.effect_flow.specs.Carriers.{HasKind, IsCarrier, IsFirst, IsFlow, IsUpTo, first_at, flow_at}
use Rattle.effect_flow.specs.Flows.{AreFound, AreReady, IsNext, IsOfCallee}
use Rattle.effect_flow.proofs.Carried.{carried_below, carried_cases, carried_member}
use Rattle.effect_flow.proofs.LeastOnes.{first_both, first_more, first_none, first_same, upto_more, upto_some}
use Rattle.effect_flow.specs.declared.kinds.TheConstants.{KINDS}

-- what callees give: one more

callee_kept : (places : List ℕ) (place : ℕ) (flows : List (List (Option ℕ))) (kind : ℕ) (xs : List ℕ) (callee q : ℕ)
    → IsOfCallee places place flows kind xs q → IsOfCallee places place flows kind (xs ++ callee ∷ []) q
callee_kept places place flows kind xs callee q is =
    record { callee = is.callee; is_callee = Contains-append_left xs (callee ∷ []) is.callee is.is_callee; other = is.other; carrier = is.carrier }

-- a callee of the group itself gives nothing
pub callee_skip : (A : ℕ → Type 0) (places : List ℕ) (place : ℕ) (flows : List (List (Option ℕ))) (kind : ℕ) (xs : List ℕ) (callee : ℕ) (first : Option ℕ)
    → get_or places callee 0 ≡ place → IsFirst (λ q. A q ⊎ IsOfCallee places place flows kind xs q) first
    → IsFirst (λ q. A q ⊎ IsOfCallee places place flows kind (xs ++ callee ∷ []) q) first
callee_skip A places place flows kind xs callee first own =
    first_same (λ q. A q ⊎ IsOfCallee places place flows kind xs q) (λ q. A q ⊎ IsOfCallee places place flows kind (xs ++ callee ∷ []) q) first
    (λ q is. elim is [ inl a ↦ inl a | inr old ↦ inr (callee_kept places place flows kind xs callee q old) ])
    (λ q is.
    elim is [
      | inl a ↦ inl a
      | inr more ↦
          elim (Contains-push_cases xs callee more.callee more.is_callee) [
            | inl old ↦ inr (record { callee = more.callee; is_callee = old; other = more.other; carrier = more.carrier })
            | inr last ↦ absurd (more.other (ap (λ k. get_or places k 0) (sym last) ∙ own))
          ]
    ])

-- a callee of another group gives that group's carrier
pub callee_more : (A : ℕ → Type 0) (places : List ℕ) (place : ℕ) (flows : List (List (Option ℕ))) (kind : ℕ) (xs : List ℕ) (callee : ℕ) (before after : Option ℕ)
    → (get_or places callee 0 ≡ place → ⊥) → IsFirst (λ q. A q ⊎ IsOfCallee places place flows kind xs q) before
    → IsFirst (λ q. (before ≡ Some q) ⊎ (first_at (flow_at flows (get_or places callee 0)) kind ≡ Some q)) after
    → IsFirst (λ q. A q ⊎ IsOfCallee places place flows kind (xs ++ callee ∷ []) q) after
callee_more A places place flows kind xs callee before after other is more =
    let P : ℕ → Type 0 = λ q. A q ⊎ IsOfCallee places place flows kind xs q in
    let Q : ℕ → Type 0 = λ q. first_at (flow_at flows (get_or places callee 0)) kind ≡ Some q in
    first_same (λ q. P q ⊎ Q q) (λ q. A q ⊎ IsOfCallee places place flows kind (xs ++ callee ∷ []) q) after
    (λ q has.
    elim has [
      | inl old ↦ elim old [ inl a ↦ inl a | inr one ↦ inr (callee_kept places place flows kind xs callee q one) ]
      | inr new ↦ inr (record { callee = callee; is_callee = Contains-push xs callee; other = other; carrier = new })
    ])
    (λ q has.
    elim has [
      | inl a ↦ inl (inl a)
      | inr one ↦
          elim (Contains-push_cases xs callee one.callee one.is_callee) [
            | inl old ↦ inl (inr (record { callee = one.callee; is_callee = old; other = one.other; carrier = one.carrier }))
            | inr last ↦
                inr (subst (λ k. first_at (flow_at flows (get_or places k 0)) kind ≡ Some q) (sym last) one.carrier)
          ]
    ])
    (first_more P Q before after is more)

-- no callee gives nothing
pub callee_none : (places : List ℕ) (place : ℕ) (flows : List (List (Option ℕ))) (kind : ℕ) (first : Option ℕ)
    → IsFirst (λ q. (first ≡ Some q) ⊎ IsOfCallee places place flows kind [] q) first
callee_none places place flows kind first = record {
  is = λ q is. inl is;
  least = λ q has.
      elim has [
        | inl is ↦ subst (λ one. IsUpTo one q) (sym is) (omega arith)
        | inr none ↦ let lt = none.is_callee.1 in absurd (omega (arith, lt))
      ];
}

-- a member has the kind, or one of its callees is in another group, whose carrier this is
pub record IsOfMember (lists : List (List ℕ)) (own places : List ℕ) (place : ℕ) (flows : List (List (Option ℕ))) (kind : ℕ) (members : List ℕ) (q : ℕ) : Type 0 where
  pub member : ℕ
  pub is_member : Contains members member
  pub gives : ((q ≡ member) × HasKind own kind q) ⊎ IsOfCallee places place flows kind (get_or lists member []) q

pub member_none : (lists : List (List ℕ)) (own places : List ℕ) (place : ℕ) (flows : List (List (Option ℕ))) (kind : ℕ) (first : Option ℕ) → first ≡ None
    → IsFirst (IsOfMember lists own places place flows kind []) first
member_none lists own places place flows kind first none =
    first_none (IsOfMember lists own places place flows kind []) first none (λ q is. let lt = is.is_member.1 in omega (arith, lt))

pub member_more : (lists : List (List ℕ)) (own places : List ℕ) (place : ℕ) (flows : List (List (Option ℕ))) (kind : ℕ) (xs : List ℕ) (member : ℕ)
    (before self both after : Option ℕ) → IsFirst (IsOfMember lists own places place flows kind xs) before
    → IsFirst (λ q. (q ≡ member) × HasKind own kind member) self
    → IsFirst (λ q. (before ≡ Some q) ⊎ (self ≡ Some q)) both
    → IsFirst (λ q. (both ≡ Some q) ⊎ IsOfCallee places place flows kind (get_or lists member []) q) after
    → IsFirst (IsOfMember lists own places place flows kind (xs ++ member ∷ [])) after
member_more lists own places place flows kind xs member before self both after is one lesser more =
    let P : ℕ → Type 0 = IsOfMember lists own places place flows kind xs in
    let Q : ℕ → Type 0 = λ q. (q ≡ member) × HasKind own kind member in
    let C : ℕ → Type 0 = IsOfCallee places place flows kind (get_or lists member []) in
    first_same (λ q. (P q ⊎ Q q) ⊎ C q) (IsOfMember lists own places place flows kind (xs ++ member ∷ [])) after
    (λ q has.
    elim has [
      | inl old ↦
          elim old [
            | inl seen ↦ record { member = seen.member; is_member = Contains-append_left xs (member ∷ []) seen.member seen.is_member; gives = seen.gives }
            | inr here ↦ record { member = member; is_member = Contains-push xs member; gives = inl (here.0, subst (HasKind own kind) (sym here.0) here.1) }
          ]
      | inr new ↦ record { member = member; is_member = Contains-push xs member; gives = inr new }
    ])
    (λ q has.
    elim (Contains-push_cases xs member has.member has.is_member) [
      | inl old ↦ inl (inl (record { member = has.member; is_member = old; gives = has.gives }))
      | inr last ↦
          elim has.gives [
            | inl here ↦ inl (inr (here.0 ∙ sym last, subst (HasKind own kind) (here.0 ∙ sym last) here.1))
            | inr new ↦ inr (subst (λ k. IsOfCallee places place flows kind (get_or lists k []) q) (sym last) new)
          ]
    ])
    (first_more (λ q. P q ⊎ Q q) C both after (first_both P Q before self both is one lesser) more)

-- what the members give is the carrier
pub carrier_found : (lists : List (List ℕ)) (own : List ℕ) (groups : List (List ℕ)) (places : List ℕ) (flows : List (List (Option ℕ))) (place kind : ℕ) (first : Option ℕ)
    → AreReady lists own groups places → IsNext lists own groups flows place → kind < KINDS
    → IsFirst (IsOfMember lists own places place flows kind (group_at groups place)) first
    → IsCarrier (Calls lists) own kind (group_at groups place) first
carrier_found lists own groups places flows place kind first ready next low is = record {
  is = λ q at.
      let one = is.is q at in
      elim one.gives [
        | inl here ↦
            carried_member (Calls lists) own (group_at groups place) kind q (subst (Contains (group_at groups place)) (sym here.0) one.is_member) here.1
        | inr of ↦
            let stands : StandsUpTo groups place of.callee = ready.legal.callees_first place one.member of.callee next.within one.is_member of.is_callee in
            let inside : stands.place < length groups = (let upto = stands.upto in let within = next.within in omega (arith, upto, within)) in
            let there : get_or places of.callee 0 ≡ stands.place = ready.placed.at stands.place of.callee inside stands.member in
            let call : GroupCalls (Calls lists) groups place stands.place =
            record {
              caller = one.member;
              callee = of.callee;
              caller_within = next.within;
              callee_within = inside;
              other = λ same. of.other (there ∙ sym same);
              is_caller = one.is_member;
              is_callee = stands.member;
              call = of.is_callee;
            } in
            carried_below (Calls lists) own groups kind place q ready.legal
            (record {
              other = stands.place;
              call = call;
              carried =
                  (next.known stands.place call kind low).is q
                  (subst (λ j. first_at (flow_at flows j) kind ≡ Some q) there of.carrier);
            })
      ];
  least = λ q carried.
      elim (carried_cases (Calls lists) own groups kind place q ready.legal next.within carried) [
        | inl member ↦
            is.least q (record { member = q; is_member = member; gives = inl (refl, carried.has) })
        | inr below ↦
            let call : GroupCalls (Calls lists) groups place below.other = below.call in
            let there : get_or places call.callee 0 ≡ below.other = ready.placed.at below.other call.callee call.callee_within call.is_callee in
            let least = upto_some (first_at (flow_at flows below.other) kind) q ((next.known below.other call kind low).least q below.carried) in
            let gives : IsOfCallee places place flows kind (get_or lists call.caller []) least.0 =
            record {
              callee = call.callee;
              is_callee = call.call;
              other = λ same. call.other (sym same ∙ there);
              carrier = subst (λ j. first_at (flow_at flows j) kind ≡ Some least.0) (sym there) least.1.0;
            } in
            upto_more first least.0 q (is.least least.0 (record { member = call.caller; is_member = call.is_caller; gives = inr gives })) least.1.1
      ];
}

-- a member of a group is a node
pub member_within : {lists : List (List ℕ)} {own : List ℕ} {groups : List (List ℕ)} {places : List ℕ} {flows : List (List (Option ℕ))} {place : ℕ}
    → AreReady lists own groups places → IsNext lists own groups flows place → (items : List ℕ) (n : ℕ) → items ≡ group_at groups place
    → n < length items → get_or items n 0 < length lists
member_within {lists} {own} {groups} {places} {flows} {place} ready next items n is lt =
    ready.nodes (get_or items n 0)
    (record { place = place; within = next.within; member = subst (λ each. Contains each (get_or items n 0)) is (Contains-get_or items n 0 lt) })

-- what a member calls is in a group with a flow
pub callee_within : {lists : List (List ℕ)} {own : List ℕ} {groups : List (List ℕ)} {places : List ℕ} {flows : List (List (Option ℕ))} {place : ℕ}
    → AreReady lists own groups places → IsNext lists own groups flows place → (items : List ℕ) (n q : ℕ) → items ≡ group_at groups place
    → n < length items → Calls lists (get_or items n 0) q → get_or places q 0 < length flows
callee_within {lists} {own} {groups} {places} {flows} {place} ready next items n q is lt call =
    let member : Contains (group_at groups place) (get_or items n 0) =
    subst (λ each. Contains each (get_or items n 0)) is (Contains-get_or items n 0 lt) in
    let stands : StandsUpTo groups place q = ready.legal.callees_first place (get_or items n 0) q next.within member call in
    let inside : stands.place < length groups = (let upto = stands.upto in let within = next.within in omega (arith, upto, within)) in
    let there : get_or places q 0 ≡ stands.place = ready.placed.at stands.place q inside stands.member in
    omega (arith, there, inside, next.each)

-- flows that are found, one list of places after another

pub found_none : (lists : List (List ℕ)) (own : List ℕ) (groups : List (List ℕ)) → AreFound lists own groups [] []
found_none lists own groups = record { each = refl; flows = λ k lt. absurd (omega (arith, lt)) }

pub found_one : (lists : List (List ℕ)) (own : List ℕ) (groups : List (List ℕ)) (place : ℕ) (flow : List (Option ℕ))
    → IsFlow (Calls lists) own (group_at groups place) flow → AreFound lists own groups (place ∷ []) (flow ∷ [])
found_one lists own groups place flow is = record {
  each = refl;
  flows = λ k lt.
      let first : 0 ≡ k = omega (arith, lt) in
      subst (λ n. IsFlow (Calls lists) own (group_at groups (get_or (place ∷ []) n 0)) (flow_at (flow ∷ []) n)) first is;
}

pub found_append : (lists : List (List ℕ)) (own : List ℕ) (groups : List (List ℕ)) (xs ys : List ℕ) (found more : List (List (Option ℕ)))
    → AreFound lists own groups xs found → AreFound lists own groups ys more → AreFound lists own groups (xs ++ ys) (found ++ more)
found_append lists own groups xs ys found more are also =
    let first = are.each in
    let second = also.each in record {
      each = omega (arith, length-append xs ys, length-append found more, first, second);
      flows = λ k lt.
          elim (cases_lt k (length xs)) [
            | inl before ↦
                rw (get_or_append_left xs ys 0 k before, get_or_append_left found more [] k (omega (arith, before, first))) (are.flows k before)
            | inr from ↦
                let place : get_or (xs ++ ys) k 0 ≡ get_or ys (k - length xs) 0 = get_or-append_right xs ys (length xs) k 0 refl from in
                let there : flow_at (found ++ more) k ≡ flow_at more (k - length xs) =
                get_or-append_right found more (length xs) k [] first from in
                rw (place, there) (also.flows (k - length xs) (omega (arith, lt, from, length-append xs ys)))
          ];
    }
