-- What holds over one relation of calls holds over another that has the same calls.
use Rattle.std.proofs.Common.{inl, inr, ℕ, List}
use Rattle.std.proofs.lemmas.List.Elements.{All-weaker}
use Rattle.graph_law.specs.Reach.{Agree}
use Rattle.graph_law.specs.Classes.{IsClass, IsRecursive, GroupCalls, least_member}
use Rattle.graph_law.specs.Heights.{HaveHeights}
use Rattle.graph_law.specs.LegalOrder.{IsLegalOrder}
use Rattle.graph_law.proofs.ReachLaws.{each_other_along}

pub Agree-sym : {c d : ℕ → ℕ → Type 0} → Agree c d → Agree d c
Agree-sym agree = record { to = agree.from; from = agree.to }

pub IsClass-agree : {c d : ℕ → ℕ → Type 0} {class : List ℕ} → Agree c d → IsClass c class → IsClass d class
IsClass-agree {c} {d} {class} agree is = record {
  inhabited = is.inhabited;
  ascending = is.ascending;
  mutual_reach = λ p q here there. each_other_along c d agree.to p q (is.mutual_reach p q here there);
  whole = λ p q here both. is.whole p q here (each_other_along d c agree.from p q both);
}

pub IsRecursive-agree : {c d : ℕ → ℕ → Type 0} (class : List ℕ) → Agree c d → IsRecursive c class → IsRecursive d class
IsRecursive-agree class agree is =
    elim is [ inl two ↦ inl two | inr one ↦ inr (one.0, agree.to (least_member class) (least_member class) one.1) ]

pub GroupCalls-agree : {c d : ℕ → ℕ → Type 0} {groups : List (List ℕ)} {i j : ℕ}
    → Agree c d → GroupCalls c groups i j → GroupCalls d groups i j
GroupCalls-agree {c} {d} {groups} {i} {j} agree led = record {
  caller = led.caller;
  callee = led.callee;
  caller_within = led.caller_within;
  callee_within = led.callee_within;
  other = led.other;
  is_caller = led.is_caller;
  is_callee = led.is_callee;
  call = agree.to led.caller led.callee led.call;
}

pub HaveHeights-agree : {c d : ℕ → ℕ → Type 0} {groups : List (List ℕ)} {heights : List ℕ}
    → Agree c d → HaveHeights c groups heights → HaveHeights d groups heights
HaveHeights-agree {c} {d} {groups} {heights} agree are = record {
  each = are.each;
  above = λ i j led. are.above i j (GroupCalls-agree (Agree-sym agree) led);
  least = λ i lt.
      elim (are.least i lt) [ inl none ↦ inl none | inr (j, led, at) ↦ inr (j, GroupCalls-agree agree led, at) ];
}

pub IsLegalOrder-agree : {c d : ℕ → ℕ → Type 0} {groups : List (List ℕ)}
    → Agree c d → IsLegalOrder c groups → IsLegalOrder d groups
IsLegalOrder-agree {c} {d} {groups} agree is = record {
  each = All-weaker (IsClass c) (IsClass d) (λ class one. IsClass-agree agree one) groups is.each;
  once = is.once;
  callees_first = λ i p q lt member call. is.callees_first i p q lt member (agree.from p q call);
}
