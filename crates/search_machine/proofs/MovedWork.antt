-- What moves along the chain of wants leaves no more work than there was.
use Rattle.std.proofs.Common.{◌≡◌, inl, inr, ℕ, ◌≤◌, ◌+◌, List, [], ◌∷◌, Option, None, refl, ap, ◌∙◌, arith}
use Rattle.list_laws.specs.Counts.{total}
use Rattle.list_laws.proofs.Standing.{total_at}
use Rattle.search_stack.specs.Stack.{Stack}
use Rattle.search_stack.specs.Search.{SearchValue, below_frame, joined}
use Rattle.blocked_table.specs.Kept.{kept_at}
use Rattle.blocked_table.specs.Transfer.{IsCutAway, IsLeft, ArePartsMoved, IsTransfer}
use Rattle.search_machine.specs.Work.{kept_work, stack_work, taking_work}
use Rattle.search_machine.proofs.StackWork.{joined_work, lowered_work}
use Rattle.search_machine.proofs.StateWork.{most_taking}

-- what is left of a search that was cut
left_work : (left : Option SearchValue) (donor : Stack) (frame : ℕ) → IsLeft left donor frame
    → kept_work left ≤ stack_work (below_frame donor frame) + 2
left_work left donor frame (inl (first, none)) = let nothing : kept_work left ≡ 0 = ap kept_work none in omega (arith, nothing)
left_work left donor frame (inr (rest, is, stack_is, some, wants)) =
    let here : kept_work left ≡ stack_work rest.stack + taking_work rest.wanted = ap kept_work is in
    let stack : stack_work rest.stack ≡ stack_work (below_frame donor frame) = ap stack_work stack_is in
    omega (arith, here, stack, most_taking rest.wanted)

-- one cut
cut_work : {now : List (Option SearchValue)} {v : ℕ} {cut : ℕ × ℕ} (s : Stack) (away : IsCutAway now v cut)
    → total kept_work away.next + stack_work (joined s away.donor.stack cut.1) ≤ total kept_work now + stack_work s
cut_work {now} {v} {cut} s away =
    let sums : total kept_work away.next + kept_work (kept_at now cut.0) ≡ total kept_work now + kept_work (kept_at away.next cut.0) =
    total_at kept_work None refl now away.next cut.0 away.same in
    let was : kept_work (kept_at now cut.0) ≡ stack_work away.donor.stack + taking_work away.donor.wanted = ap kept_work away.at in
    let blocked : taking_work away.donor.wanted ≡ 2 = ap taking_work away.wanted in
    omega (
      arith,
      sums,
      was,
      blocked,
      left_work (kept_at away.next cut.0) away.donor.stack cut.1 away.left,
      joined_work s away.donor.stack cut.1,
    )

moved_work : (now : List (Option SearchValue)) (s : Stack) (v : ℕ) (cuts : List (ℕ × ℕ)) (new : List (Option SearchValue)) (t : Stack) (end : ℕ)
    → ArePartsMoved now s v cuts new t end → total kept_work new + stack_work t ≤ total kept_work now + stack_work s
moved_work now s v [] new t end moved =
    let kept : total kept_work new ≡ total kept_work now = ap (total kept_work) moved.0 in
    let stack : stack_work t ≡ stack_work s = ap stack_work moved.1 in
    omega (arith, kept, stack)
moved_work now s v (cut ∷ cuts) new t end (away, rest) =
    let first = cut_work s away in
    let more = moved_work away.next (joined s away.donor.stack cut.1) away.wants cuts new t end rest in
    omega (arith, first, more)

pub transfer_work : {old new : List (Option SearchValue)} {s t : Stack} {v : ℕ} → IsTransfer old new s v t
    → total kept_work new + stack_work t ≤ total kept_work old + stack_work s
transfer_work {old} {new} {s} {t} {v} transfer =
    let whole = moved_work old s v transfer.cuts new transfer.whole transfer.end transfer.moved in
    let stack : stack_work t ≡ stack_work transfer.whole = ap stack_work transfer.lowered ∙ lowered_work transfer.whole transfer.place in
    omega (arith, whole, stack)
