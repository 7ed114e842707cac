-- How the level of a group is found, one member after another.
use Rattle.std.proofs.Common.{◌≡◌, ◌⊎◌, ◌↔◌, ◌||◌, inl, inr, ℕ, ◌<◌, ◌≤◌, ◌+◌, Bool, IsTrue, List, [], ◌∷◌, ◌++◌, length, take, get_or, subst, sym, ap, ◌∙◌, arith}
use Rattle.std.proofs.lemmas.Bool.{cases_lt, or_cases, or_left, or_right}
use Rattle.std.proofs.lemmas.List.{take_more, take_all, get_or_default}
use Rattle.std.proofs.lemmas.List.Elements.{Contains-append_left, Contains-get_or, Contains-push, Contains-push_cases}
use Rattle.std.specs.Prelude.{Contains}
use Rattle.graph_law.specs.Classes.{IsRecursive}
use Rattle.graph_law.specs.Graph.{Calls}
use Rattle.group_release.specs.declared.level.Level.{Level}
use Rattle.group_release.specs.Levels.{IsLevelOf, IsRaised, LeadDown, MembersLeadDown}
use Rattle.group_release.proofs.RaisedSteps.{members_more}

-- one of the members calls itself
pub record HasOwnCall (lists : List (List ℕ)) (members : List ℕ) : Type 0 where
  pub member : ℕ
  pub is_member : Contains members member
  pub call : Calls lists member member

-- what the first n members of the group give
pub record AreMembersSeen (lists : List (List ℕ)) (places : List ℕ) (levels : List Level) (group : List ℕ) (n height : ℕ) (recursive : Bool) : Type 0 where
  pub raised : IsRaised (MembersLeadDown lists places (length levels) (take n group)) levels 0 height
  pub mark : IsTrue recursive ↔ ((2 ≤ length group) ⊎ HasOwnCall lists (take n group))

-- one member more
pub seen_more : {lists : List (List ℕ)} {places : List ℕ} {levels : List Level} {group : List ℕ} {n height : ℕ} {recursive : Bool} (after : ℕ) (own : Bool)
    → AreMembersSeen lists places levels group n height recursive → n < length group
    → IsRaised (LeadDown places (length levels) (get_or lists (get_or group n 0) [])) levels height after
    → (IsTrue own ↔ Calls lists (get_or group n 0) (get_or group n 0))
    → AreMembersSeen lists places levels group (n + 1) after (recursive || own)
seen_more {lists} {places} {levels} {group} {n} {height} {recursive} after own seen lt raised call =
    let member : ℕ = get_or group n 0 in
    let more : take (n + 1) group ≡ take n group ++ member ∷ [] = take_more group n 0 lt in
    let wider : HasOwnCall lists (take n group) → HasOwnCall lists (take (n + 1) group) =
    λ before.
    rw more
    (record { member = before.member; is_member = Contains-append_left (take n group) (member ∷ []) before.member before.is_member; call = before.call }) in
    let last : Calls lists member member → HasOwnCall lists (take (n + 1) group) =
    λ calls. rw more (record { member = member; is_member = Contains-push (take n group) member; call = calls }) in
    let split : HasOwnCall lists (take (n + 1) group) → HasOwnCall lists (take n group) ⊎ Calls lists member member =
    λ has.
    elim (Contains-push_cases (take n group) member has.member (subst (λ members. Contains members has.member) more has.is_member)) [
      | inl before ↦ inl (record { member = has.member; is_member = before; call = has.call })
      | inr same ↦ inr (let P : ℕ → Type 0 = λ p. Calls lists p p in subst P (sym same) has.call)
    ] in
    record {
      raised = rw more (members_more lists places (length levels) (take n group) member levels height after seen.raised raised);
      mark = (
        λ is.
            elim (or_cases recursive own is) [
              | inl before ↦ elim (seen.mark.0 before) [ inl two ↦ inl two | inr has ↦ inr (wider has) ]
              | inr here ↦ inr (last (call.0 here))
            ],
        λ marked.
            elim marked [
              | inl two ↦ or_left recursive own (seen.mark.1 (inl two))
              | inr has ↦
                  elim (split has)
                  [ inl before ↦ or_left recursive own (seen.mark.1 (inr before)) | inr calls ↦ or_right recursive own (call.1 calls) ]
            ],
      );
    }

-- in a list of one, each member is the first
only_member : (group : List ℕ) (p : ℕ) → length group ≤ 1 → Contains group p → (length group ≡ 1) × (p ≡ get_or group 0 0)
only_member group p few (k, lt, at) =
    let first : k ≡ 0 = omega (arith, few, lt) in
    (omega (arith, few, lt), sym at ∙ ap (λ n. get_or group n p) first ∙ get_or_default group 0 p 0 (omega (arith, lt)))

-- all members are seen
pub seen_all : {lists : List (List ℕ)} {places : List ℕ} {levels : List Level} {group : List ℕ} {n height : ℕ} {recursive : Bool}
    → AreMembersSeen lists places levels group n height recursive → length group ≤ n
    → IsLevelOf lists places levels group (record { height = height; recursive = recursive })
seen_all {lists} {places} {levels} {group} {n} {height} {recursive} seen passed =
    let all : take n group ≡ group = take_all n group passed in
    let to : HasOwnCall lists (take n group) → IsRecursive (Calls lists) group =
    λ own.
    elim (cases_lt 1 (length group)) [
      | inl two ↦ inl (omega (arith, two))
      | inr few ↦
          let one = only_member group own.member few (subst (λ members. Contains members own.member) all own.is_member) in
          inr (one.0, let P : ℕ → Type 0 = λ p. Calls lists p p in subst P one.1 own.call)
    ] in
    record {
      height = rw all at seen.raised;
      mark = (
        λ is. elim (seen.mark.0 is) [ inl two ↦ inl two | inr own ↦ to own ],
        λ is.
            elim is [
              | inl two ↦ seen.mark.1 (inl two)
              | inr one ↦
                  let first : Contains group (get_or group 0 0) = (let is_one = one.0 in Contains-get_or group 0 0 (omega (arith, is_one))) in
                  seen.mark.1 (inr (rw all (record { member = get_or group 0 0; is_member = first; call = one.1 })))
            ],
      );
    }
