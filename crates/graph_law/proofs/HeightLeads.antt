-- What the classes of a graph give to the search for heights.
use Rattle.std.proofs.Common.{◌≡◌, ℕ, ◌<◌, List, length, get_or, subst, sym, ◌∙◌, arith, Vec}
use Rattle.std.specs.Prelude.{Contains}
use Rattle.graph_law.specs.Graph.{Calls, lists_of}
use Rattle.graph_law.specs.Classes.{AreClasses, GroupCalls, HasMember, group_at}
use Rattle.graph_law.specs.CallOrder.{IsCalleesFirst, AreGroupPlaces, MembersLeadTo}
use Rattle.graph_law.proofs.ClassLaws.{HasMember-call}
use Rattle.graph_law.proofs.GraphLaws.{group_read, length-lists_of}

-- to lead to a group is to call it
pub call_from_lead : {lists : List (List ℕ)} {roots : List ℕ} {classes : List (List ℕ)} {count : ℕ} {places : List ℕ}
    → AreClasses (Calls lists) roots classes → AreGroupPlaces count classes places → (place : ℕ) → place < length classes
    → (j : ℕ) → MembersLeadTo lists places place (group_at classes place) j → GroupCalls (Calls lists) classes place j
call_from_lead {lists} {roots} {classes} {count} {places} are table place lt j led =
    let has : HasMember classes led.leads.callee =
    HasMember-call are led.member led.leads.callee (record { place = place; within = lt; member = led.is_member }) led.leads.is_callee in
    let same : has.place ≡ j = sym (table.at has.place led.leads.callee has.within has.member) ∙ led.leads.at in
    let P : ℕ → Type 0 = λ i. Contains (group_at classes i) led.leads.callee in
    record {
      caller = led.member;
      callee = led.leads.callee;
      caller_within = lt;
      callee_within = subst (λ i. i < length classes) same has.within;
      other = led.leads.other;
      is_caller = led.is_member;
      is_callee = subst P same has.member;
      call = led.leads.is_callee;
    }

pub lead_from_call : {lists : List (List ℕ)} {classes : List (List ℕ)} {count : ℕ} {places : List ℕ}
    → AreGroupPlaces count classes places → (place j : ℕ)
    → GroupCalls (Calls lists) classes place j → MembersLeadTo lists places place (group_at classes place) j
lead_from_call {lists} {classes} {count} {places} table place j led = record {
  member = led.caller;
  is_member = led.is_caller;
  leads = record { callee = led.callee; is_callee = led.call; at = table.at j led.callee led.callee_within led.is_callee; other = led.other };
}

-- the group at a place of the order, as it is read
pub ordered_group : {A : Type 0} {calls : ℕ → ℕ → Type 0} (groups : List (Vec ℕ A)) (order : List ℕ)
    → IsCalleesFirst calls (lists_of groups) order → (n : ℕ) → n < length order → (group : Vec ℕ A) (now : List ℕ)
    → group ≡ get_or groups (get_or order n 0) group → now ≡ group.items → now ≡ group_at (lists_of groups) (get_or order n 0)
ordered_group groups order is n lt group now read items =
    let within : get_or order n 0 < length (lists_of groups) = is.within n 0 lt in
    group_read groups (get_or order n 0) group now (omega (arith, within, length-lists_of groups)) read items
