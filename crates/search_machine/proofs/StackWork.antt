-- What the calls of a search make of the work that is left on its stack.
use Rattle.std.proofs.Common.{◌≡◌, inl, inr, ℕ, zero, suc, ◌<◌, ◌+◌, ◌*◌, ◌-◌, List, [], ◌∷◌, ◌++◌, length, map, take, drop, get_or, set, min, Some, refl, ap, arith, get_or-set_same, get_or-set_other}
use Rattle.std.proofs.lemmas.Bool.{cases_lt}
use Rattle.std.proofs.lemmas.List.{get_or_past, length-append, length-drop, length-map, length-set, length-take}
use Rattle.std.proofs.lemmas.Option.{slice_get_within}
use Rattle.std.specs.Prelude.{slice_get}
use Rattle.list_laws.specs.Counts.{total}
use Rattle.list_laws.proofs.Standing.{total_at}
use Rattle.search_stack.specs.declared.frame.Frame.{Frame}
use Rattle.search_stack.specs.Stack.{Entry, Stack, height, node, succs, begun, position, low, size, top}
use Rattle.search_stack.specs.Search.{IsDone, below_frame, joined, lowered, moved, next_successor, one_more_begun, pushed, retreated}
use Rattle.search_machine.specs.Work.{entry_work, stack_work}

total-append : {A : Type 0} (f : A → ℕ) (xs ys : List A) → total f (xs ++ ys) ≡ total f xs + total f ys
total-append f [] ys = omega arith
total-append f (x ∷ xs) ys = let rest = total-append f xs ys in omega (arith, rest)

total-split : {A : Type 0} (f : A → ℕ) (p : ℕ) (xs : List A) → total f (take p xs) + total f (drop p xs) ≡ total f xs
total-split f zero xs = omega arith
total-split f (suc p) [] = omega arith
total-split f (suc p) (x ∷ xs) = let rest = total-split f p xs in omega (arith, rest)

-- the entry past the end
abbrev past_end : Entry
past_end = record { node = 0; succs = []; begun = 0 }

-- an entry that begins one more of its successors
entry_begins : (es : List Entry) (i v : ℕ) → slice_get (get_or es i past_end).succs (get_or es i past_end).begun ≡ Some v
    → total entry_work
    (set es i (record { node = (get_or es i past_end).node; succs = (get_or es i past_end).succs; begun = (get_or es i past_end).begun + 1 }))
    + 3
    ≡ total entry_work es
entry_begins es i v next =
    let old : Entry = get_or es i past_end in
    let new : Entry = record { node = old.node; succs = old.succs; begun = old.begun + 1 } in
    let more : old.begun < length old.succs = slice_get_within old.succs old.begun v next in
    let within : i < length es =
    elim (cases_lt i (length es)) as (λ _. i < length es) [
      | inl lt ↦ lt
      | inr past ↦
          let none : length old.succs ≡ 0 = ap (λ (entry : Entry). length entry.succs) (get_or_past es i past_end past) in
          absurd (omega (arith, more, none))
    ] in
    let sums : total entry_work (set es i new) + entry_work old ≡ total entry_work es + entry_work (get_or (set es i new) i past_end) =
    total_at entry_work past_end refl es (set es i new) i (λ k ne. get_or-set_other es i k new past_end ne) in
    let here : entry_work (get_or (set es i new) i past_end) ≡ 3 * (length old.succs - (old.begun + 1)) =
    ap entry_work (get_or-set_same es i new past_end within) in
    omega (arith, sums, here, more)

pub begun_work : (s : Stack) (v : ℕ) → next_successor s ≡ Some v → stack_work (one_more_begun s (position s (top s))) + 3 ≡ stack_work s
unfolding next_successor one_more_begun node succs begun
begun_work s v next = let less = entry_begins s.entries (position s (top s)) v next in omega (arith, less)

pub lowered_work : (s : Stack) (place : ℕ) → stack_work (lowered s place) ≡ stack_work s
unfolding lowered
lowered_work s place =
    let frame : Frame = record { position = position s (top s); low = min (low s (top s)) place } in
    let long : length (set s.frames (top s) frame) ≡ length s.frames = length-set s.frames (top s) frame in
    omega (arith, long)

pub retreated_work : (s : Stack) → IsDone s → stack_work (retreated s) + 1 ≡ stack_work s
unfolding retreated height
retreated_work s done =
    let frame : Frame = record { position = position s (top s - 1); low = min (low s (top s - 1)) (low s (top s)) } in
    let long : length (set (take (top s) s.frames) (top s - 1) frame) ≡ length (take (top s) s.frames) =
    length-set (take (top s) s.frames) (top s - 1) frame in
    let some : 0 < length s.frames = done.some in
    omega (arith, long, some, length-take (top s) s.frames)

pub pushed_work : (s : Stack) (v : ℕ) (list : List ℕ) → stack_work (pushed s v list) ≡ stack_work s + (3 * length list + 1)
unfolding pushed size
pushed_work s v list =
    let entry : Entry = record { node = v; succs = list; begun = 0 } in
    let frame : Frame = record { position = size s; low = size s } in
    let more : total entry_work (s.entries ++ entry ∷ []) ≡ total entry_work s.entries + total entry_work (entry ∷ []) =
    total-append entry_work s.entries (entry ∷ []) in
    let long : length (s.frames ++ frame ∷ []) ≡ length s.frames + length (frame ∷ []) = length-append s.frames (frame ∷ []) in
    omega (arith, more, long)

-- what goes from one stack comes to the other
pub joined_work : (s d : Stack) (a : ℕ) → stack_work (joined s d a) + stack_work (below_frame d a) ≡ stack_work s + stack_work d
unfolding joined below_frame
joined_work s d a =
    let p : ℕ = position d a in
    let above : List Frame = map (moved (size s) p) (drop a d.frames) in
    let entries : total entry_work (s.entries ++ drop p d.entries) ≡ total entry_work s.entries + total entry_work (drop p d.entries) =
    total-append entry_work s.entries (drop p d.entries) in
    let parts : total entry_work (take p d.entries) + total entry_work (drop p d.entries) ≡ total entry_work d.entries =
    total-split entry_work p d.entries in
    let frames : length (s.frames ++ above) ≡ length s.frames + length above = length-append s.frames above in
    let same : length above ≡ length (drop a d.frames) = length-map (drop a d.frames) (moved (size s) p) in
    omega (arith, entries, parts, frames, same, length-drop a d.frames, length-take a d.frames)

-- the top frame goes
pub below_work : (s : Stack) → IsDone s → stack_work (below_frame s (top s)) < stack_work s
unfolding below_frame height
below_work s done =
    let p : ℕ = position s (top s) in
    let parts : total entry_work (take p s.entries) + total entry_work (drop p s.entries) ≡ total entry_work s.entries =
    total-split entry_work p s.entries in
    let some : 0 < length s.frames = done.some in
    omega (arith, parts, some, length-take (top s) s.frames)
