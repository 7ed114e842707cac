-- The carrier of a group comes from its members and from the groups that it calls.
use Rattle.std.proofs.Common.{◌⊎◌, inl, inr, ℕ, ◌<◌, List, [], ◌∷◌, length, subst, sym, arith}
use Rattle.std.proofs.lemmas.Bool.{cases_eq}
use Rattle.std.specs.Prelude.{Contains}
use Rattle.graph_law.specs.Classes.{GroupCalls, group_at}
use Rattle.graph_law.specs.LegalOrder.{IsLegalOrder, StandsUpTo}
use Rattle.graph_law.specs.Reach.{IsReached, IsWalk, Reaches}
use Rattle.graph_law.proofs.ReachLaws.{is_reached_start, reaches_first, reaches_trans}
use Rattle.effect_flow.specs.Carriers.{HasKind, IsCarried}

-- a group that is called carries the node
pub record IsCarriedBelow (calls : ℕ → ℕ → Type 0) (own : List ℕ) (groups : List (List ℕ)) (kind place q : ℕ) : Type 0 where
  pub other : ℕ
  pub call : GroupCalls calls groups place other
  pub carried : IsCarried calls own kind (group_at groups other) q

-- where a walk from a member leads: to a member, or out of the group at its first node that is none
walk_below : (calls : ℕ → ℕ → Type 0) (own : List ℕ) (groups : List (List ℕ)) (kind place q : ℕ) → IsLegalOrder calls groups
    → place < length groups → HasKind own kind q → (p : ℕ) (path : List ℕ) → Contains (group_at groups place) p → IsWalk calls p path q
    → Contains (group_at groups place) q ⊎ IsCarriedBelow calls own groups kind place q
walk_below calls own groups kind place q legal within has p [] member walk = inl (subst (Contains (group_at groups place)) walk member)
walk_below calls own groups kind place q legal within has p (n ∷ path) member walk =
    let stands : StandsUpTo groups place n = legal.callees_first place p n within member walk.0 in
    elim (cases_eq place stands.place) [
      | inl same ↦
          walk_below calls own groups kind place q legal within has n path
          (subst (λ k. Contains (group_at groups k) n) (sym same) stands.member) walk.1
      | inr other ↦
          inr (record {
            other = stands.place;
            call = record {
              caller = p;
              callee = n;
              caller_within = within;
              callee_within = omega (arith, stands.upto, within);
              other = other;
              is_caller = member;
              is_callee = stands.member;
              call = walk.0;
            };
            carried = record {
              reached = record { start = n; is_start = stands.member; reaches = record { path = path; walk = walk.1 } };
              has = has;
            };
          })
    ]

-- what a group carries is a member with the kind, or a group that it calls carries it
pub carried_cases : (calls : ℕ → ℕ → Type 0) (own : List ℕ) (groups : List (List ℕ)) (kind place q : ℕ) → IsLegalOrder calls groups
    → place < length groups → IsCarried calls own kind (group_at groups place) q
    → Contains (group_at groups place) q ⊎ IsCarriedBelow calls own groups kind place q
carried_cases calls own groups kind place q legal within carried =
    let reached : IsReached calls (group_at groups place) q = carried.reached in
    walk_below calls own groups kind place q legal within carried.has reached.start reached.reaches.path reached.is_start reached.reaches.walk

pub carried_member : (calls : ℕ → ℕ → Type 0) (own : List ℕ) (group : List ℕ) (kind q : ℕ) → Contains group q → HasKind own kind q
    → IsCarried calls own kind group q
carried_member calls own group kind q member has = record { reached = is_reached_start calls group q member; has = has }

-- what a group that it calls carries, it carries
pub carried_below : (calls : ℕ → ℕ → Type 0) (own : List ℕ) (groups : List (List ℕ)) (kind place q : ℕ) → IsLegalOrder calls groups
    → IsCarriedBelow calls own groups kind place q → IsCarried calls own kind (group_at groups place) q
carried_below calls own groups kind place q legal below =
    let call : GroupCalls calls groups place below.other = below.call in
    let reached : IsReached calls (group_at groups below.other) q = below.carried.reached in
    let within : Reaches calls call.callee reached.start =
    ((legal.each below.other [] call.callee_within).mutual_reach call.callee reached.start call.is_callee reached.is_start).there in
    record {
      reached = record {
        start = call.caller;
        is_start = call.is_caller;
        reaches = reaches_first calls call.caller call.callee q call.call (reaches_trans within reached.reaches);
      };
      has = below.carried.has;
    }
