-- What the fields of a search say of its stack, and what its calls write into them.
use Rattle.std.proofs.Common.{◌≡◌, inl, inr, ℕ, zero, suc, ◌<◌, ◌≤◌, ◌+◌, ◌-◌, min, Bool, false, if◌then◌else◌, nat_eq, nat_lt, List, [], ◌∷◌, ◌++◌, length, get_or, take, drop, set, map, slice_get, position, Option, None, Some, refl, ap, ◌∙◌, sym, arith, eqb-true, ne_eqb, true≢false}
use Rattle.std.proofs.lemmas.Bool.{cases_lt, cases_order, eq-eqb, lt-ltb, cond-true}
use Rattle.std.proofs.lemmas.List.{length-map, get_or-map, get_or_default, take-map, map_push}
use Rattle.std.proofs.lemmas.List.Sums.{fails_before_first}
use Rattle.std.proofs.lemmas.List.Quantifiers.{position-Some}
use Rattle.std.proofs.lemmas.Map.Keys.{apart_from_distinct}
use Rattle.std.proofs.lemmas.Option.{get_or_from_slice_get, slice_get_within, slice_get_past, slice_get_read}
use Rattle.std.specs.Map.{keys_of, values_of}
use Rattle.std.specs.List.{position_or_len, IsDistinct as AreDistinct}
use Rattle.indexmap.specs.IndexMap.{insert_entry, set_value_at}
use Rattle.search_stack.specs.declared.frame.Frame.{Frame}
use Rattle.search_stack.specs.declared.search.Opened.{Opened}
use Rattle.search_stack.specs.Fields.{entry_of, stack_of}
use Rattle.search_stack.specs.Stack.{Entry, Stack, IsShaped, size, height, top, node, succs, begun, target}
use Rattle.search_stack.specs.Stack.{position as position_on}
use Rattle.search_stack.specs.Search.{IsOn, IsDistinct, IsDone, IsLastBegun, pushed, next_successor, one_more_begun, lowered, retreated, below_frame, nodes_from}
use Rattle.search_stack.proofs.Changes.{Begins}
use Rattle.search_stack.proofs.FrameSteps.{Tops, has_frames, lowered_with, retreated_with, tops_sliced, tops_with}
use Rattle.search_stack.proofs.Steps.{begins}

pub size_is : (es : List (ℕ × Opened)) (fs : List Frame) → size (stack_of es fs) ≡ length es
unfolding size
size_is es fs = length-map es entry_of

pub height_is : (es : List (ℕ × Opened)) (fs : List Frame) → height (stack_of es fs) ≡ length fs
unfolding height
height_is es fs = refl

pub some_frames : (es : List (ℕ × Opened)) (fs : List Frame) → IsShaped (stack_of es fs) → 0 < size (stack_of es fs) → 0 < length fs
some_frames es fs shaped some = has_frames (map entry_of es) fs shaped some

-- what is read of entry i
entry_read : (es : List (ℕ × Opened)) (i : ℕ) (e : ℕ × Opened) (d : Entry) → slice_get es i ≡ Some e → get_or (map entry_of es) i d ≡ entry_of e
entry_read es i e d at =
    get_or-map entry_of es i e d (slice_get_within es i e at) ∙ ap entry_of (get_or_from_slice_get es i e e at)

pub node_read : (es : List (ℕ × Opened)) (fs : List Frame) (i v : ℕ) (o : Opened) → slice_get es i ≡ Some (v, o) → node (stack_of es fs) i ≡ v
unfolding node
node_read es fs i v o at = ap (λ e. e.node) (entry_read es i (v, o) (record { node = 0; succs = []; begun = 0 }) at)

-- what is read of the value at i
pub record Holds (s : Stack) (i : ℕ) (o : Opened) : Type 0 where
  pub within : i < size s
  pub succs_is : succs s i ≡ o.succs.items
  pub begun_is : begun s i ≡ o.begun

pub value_read : (es : List (ℕ × Opened)) (fs : List Frame) (i : ℕ) (o : Opened) → slice_get (values_of es) i ≡ Some o → Holds (stack_of es fs) i o
unfolding succs begun
value_read es fs i o at =
    let lt : i < length es = omega (arith, slice_get_within (values_of es) i o at, length-map es (λ (e : ℕ × Opened). e.1)) in
    let e : ℕ × Opened = get_or es i (0, o) in
    let no_entry : Entry = record { node = 0; succs = []; begun = 0 } in
    let is : e.1 ≡ o = sym (get_or-map (λ (e : ℕ × Opened). e.1) es i (0, o) o lt) ∙ get_or_from_slice_get (values_of es) i o o at in
    let read : get_or (map entry_of es) i no_entry ≡ entry_of e = get_or-map entry_of es i (0, o) no_entry lt in
    record {
      within = omega (arith, lt, size_is es fs);
      succs_is = ap (λ e. e.succs) read ∙ ap (λ (o : Opened). o.succs.items) is;
      begun_is = ap (λ e. e.begun) read ∙ ap (λ (o : Opened). o.begun) is;
    }

pub tops_read : (es : List (ℕ × Opened)) (fs : List Frame) (frame d : Frame) → IsShaped (stack_of es fs) → 0 < length fs
    → frame ≡ get_or fs (length fs - 1) d → Tops (stack_of es fs) frame
tops_read es fs frame d shaped some read = tops_with (map entry_of es) fs (length fs - 1) frame d shaped some refl read

-- what is read of the entry of the top frame
pub record TopHolds (s : Stack) (frame : Frame) (o : Opened) : Type 0 where
  pub frame_is : Tops s frame
  pub succs_is : succs s (position_on s (top s)) ≡ o.succs.items
  pub begun_is : begun s (position_on s (top s)) ≡ o.begun

pub top_holds : {s : Stack} {frame : Frame} {o : Opened} → Tops s frame → Holds s frame.position o → TopHolds s frame o
top_holds {s} {frame} {o} tops holds = record {
  frame_is = tops;
  succs_is = ap (succs s) tops.position_is ∙ holds.succs_is;
  begun_is = ap (begun s) tops.position_is ∙ holds.begun_is;
}

pub done_read : {s : Stack} {frame : Frame} {o : Opened} → TopHolds s frame o → o.begun ≡ length o.succs.items → IsDone s
done_read {s} {frame} {o} read all = record {
  some = read.frame_is.some;
  all = read.begun_is ∙ all ∙ sym (ap length read.succs_is);
}

pub all_from_done : {s : Stack} {frame : Frame} {o : Opened} → TopHolds s frame o → IsDone s → o.begun ≡ length o.succs.items
all_from_done {s} {frame} {o} read done = sym read.begun_is ∙ done.all ∙ ap length read.succs_is

pub next_none : {s : Stack} {frame : Frame} {o : Opened} → TopHolds s frame o → o.begun ≡ length o.succs.items → next_successor s ≡ None
unfolding next_successor
next_none {s} {frame} {o} read all =
    slice_get_past (succs s (position_on s (top s))) (begun s (position_on s (top s)))
    (omega (arith, read.begun_is, all, ap length read.succs_is))

pub next_some : {s : Stack} {frame : Frame} {o : Opened} (v : ℕ) → TopHolds s frame o → o.begun < length o.succs.items
    → v ≡ get_or o.succs.items o.begun v → next_successor s ≡ Some v
unfolding next_successor
next_some {s} {frame} {o} v read more at =
    slice_get_read (succs s (position_on s (top s))) (length (succs s (position_on s (top s)))) (begun s (position_on s (top s))) v refl
    (omega (arith, read.begun_is, more, ap length read.succs_is))
    (at ∙ ap (λ xs. get_or xs o.begun v) (sym read.succs_is) ∙ ap (λ k. get_or (succs s (position_on s (top s))) k v) (sym read.begun_is))

-- the node of entry i is its key
pub node_key : (es : List (ℕ × Opened)) (fs : List Frame) (i d : ℕ) → i < length es → get_or (keys_of es) i d ≡ node (stack_of es fs) i
unfolding node
node_key [] fs i d lt = absurd (omega (arith, lt))
node_key (e ∷ es) fs zero d lt = refl
node_key (e ∷ es) fs (suc i) d lt = node_key es fs i d (omega (arith, lt))

-- the place of a node
pub found_place : (es : List (ℕ × Opened)) (fs : List Frame) (v place : ℕ) → position (nat_eq v) (keys_of es) ≡ Some place
    → (place < size (stack_of es fs)) × (node (stack_of es fs) place ≡ v)
found_place es fs v place at =
    let found = position-Some (nat_eq v) (keys_of es) place v at in
    let lt : place < length es = omega (arith, found.0, length-map es (λ (e : ℕ × Opened). e.0)) in
    let is : v ≡ get_or (keys_of es) place v = eqb-true v (get_or (keys_of es) place v) found.1 in
    (omega (arith, lt, size_is es fs), sym (node_key es fs place v lt) ∙ sym is)

none_found : (p : ℕ → Bool) (xs : List ℕ) → position p xs ≡ None → length xs ≤ position_or_len p xs
none_found p xs none =
    elim (cases_lt (position_or_len p xs) (length xs)) as (λ _. length xs ≤ position_or_len p xs) [
      | inl before ↦
          let found : position p xs ≡ Some (position_or_len p xs) =
          cond-true (nat_lt (position_or_len p xs) (length xs)) (Some (position_or_len p xs)) None
          (lt-ltb (position_or_len p xs) (length xs) before) in
          let both : Some (position_or_len p xs) ≡ None = sym found ∙ none in
          absurd cc
      | inr le ↦ le
    ]

-- no node that the map doesn't find is on the stack
pub missing : (es : List (ℕ × Opened)) (fs : List Frame) (v : ℕ) → position (nat_eq v) (keys_of es) ≡ None → IsOn (stack_of es fs) v → ⊥
missing es fs v none on =
    let lt : on.place < length es = omega (arith, on.within, size_is es fs) in
    let is : get_or (keys_of es) on.place v ≡ v = node_key es fs on.place v lt ∙ on.is in
    let before : on.place < position_or_len (nat_eq v) (keys_of es) =
    omega (arith, lt, length-map es (λ (e : ℕ × Opened). e.0), none_found (nat_eq v) (keys_of es) none) in
    true≢false
    (sym (eq-eqb v (get_or (keys_of es) on.place v) (sym is)) ∙ fails_before_first (nat_eq v) (keys_of es) on.place v before)

-- two places don't have one node
pub distinct : (es : List (ℕ × Opened)) (fs : List Frame) → AreDistinct nat_eq (keys_of es) → IsDistinct (stack_of es fs)
distinct es fs apart i j within inside same =
    let long : length (keys_of es) ≡ length es = length-map es (λ (e : ℕ × Opened). e.0) in
    let lt_i : i < length es = omega (arith, within, size_is es fs) in
    let lt_j : j < length es = omega (arith, inside, size_is es fs) in
    let keys : get_or (keys_of es) i 0 ≡ get_or (keys_of es) j 0 = node_key es fs i 0 lt_i ∙ same ∙ sym (node_key es fs j 0 lt_j) in
    elim (cases_order i j) as (λ _. i ≡ j) [
      | inl is ↦ is
      | inr ne ↦
          elim ne as (λ _. i ≡ j) [
            | inl below ↦
                absurd
                (true≢false
                (sym (eq-eqb (get_or (keys_of es) i 0) (get_or (keys_of es) j 0) keys)
                ∙ apart_from_distinct nat_eq (keys_of es) i j 0 apart below (omega (arith, lt_j, long))))
            | inr above ↦
                absurd
                (true≢false
                (sym (eq-eqb (get_or (keys_of es) j 0) (get_or (keys_of es) i 0) (sym keys))
                ∙ apart_from_distinct nat_eq (keys_of es) j i 0 apart above (omega (arith, lt_i, long))))
          ]
    ]

-- a new key goes last
pub inserted : (es : List (ℕ × Opened)) (v : ℕ) (o : Opened) → ((i : ℕ) → i < length es → get_or (keys_of es) i v ≡ v → ⊥)
    → insert_entry nat_eq es v o ≡ es ++ (v, o) ∷ []
inserted [] v o fresh = refl
inserted (e ∷ es) v o fresh =
    let rest : insert_entry nat_eq es v o ≡ es ++ (v, o) ∷ [] = inserted es v o (λ i lt is. fresh (suc i) (omega (arith, lt)) is) in
    let other : nat_eq v e.0 ≡ false = ne_eqb v e.0 (λ is. fresh 0 (omega arith) (sym is)) in
    ap (λ b. if b then (e.0, o) ∷ es else e ∷ insert_entry nat_eq es v o) other ∙ ap (λ xs. e ∷ xs) rest

pub pushed_is : (es : List (ℕ × Opened)) (fs : List Frame) (v count : ℕ) (o : Opened) → o.begun ≡ 0 → count ≡ length es
    → (IsOn (stack_of es fs) v → ⊥)
    → stack_of (insert_entry nat_eq es v o) (fs ++ (record { position = count; low = count }) ∷ []) ≡ pushed (stack_of es fs) v o.succs.items
unfolding pushed
pushed_is es fs v count o none counted fresh =
    let last : insert_entry nat_eq es v o ≡ es ++ (v, o) ∷ [] =
    inserted es v o
    (λ i lt is. fresh (record { place = i; within = omega (arith, lt, size_is es fs); is = sym (node_key es fs i v lt) ∙ is })) in
    let entry : Entry = record { node = v; succs = o.succs.items; begun = o.begun } in
    let entries : map entry_of (insert_entry nat_eq es v o) ≡ map entry_of es ++ entry ∷ [] = ap (map entry_of) last ∙ map_push entry_of es (v, o) in
    let at : count ≡ size (stack_of es fs) = counted ∙ sym (size_is es fs) in
    ap (λ xs. record { entries = xs; frames = fs ++ (record { position = count; low = count }) ∷ [] }) entries
    ∙ (λ k.
    record {
      entries = map entry_of es ++ (record { node = v; succs = o.succs.items; begun = none k }) ∷ [];
      frames = fs ++ (record { position = at k; low = at k }) ∷ [];
    })

map_set_value : (es : List (ℕ × Opened)) (i : ℕ) (w : Opened) → i < length es
    → map entry_of (set_value_at es i w) ≡ set (map entry_of es) i (record { node = get_or (keys_of es) i 0; succs = w.succs.items; begun = w.begun })
map_set_value [] i w lt = absurd (omega (arith, lt))
map_set_value (e ∷ es) zero w lt = refl
map_set_value (e ∷ es) (suc i) w lt = ap (λ xs. entry_of e ∷ xs) (map_set_value es i w (omega (arith, lt)))

pub begun_is : (es : List (ℕ × Opened)) (fs : List Frame) (i : ℕ) (o : Opened) → Holds (stack_of es fs) i o
    → stack_of (set_value_at es i (record { succs = o.succs; begun = o.begun + 1 })) fs ≡ one_more_begun (stack_of es fs) i
unfolding one_more_begun
begun_is es fs i o holds =
    let lt : i < length es = omega (arith, holds.within, size_is es fs) in
    let succs_are : o.succs.items ≡ succs (stack_of es fs) i = sym holds.succs_is in
    let begun_at : o.begun ≡ begun (stack_of es fs) i = sym holds.begun_is in
    let key : get_or (keys_of es) i 0 ≡ node (stack_of es fs) i = node_key es fs i 0 lt in
    (λ k. record { entries = map_set_value es i (record { succs = o.succs; begun = o.begun + 1 }) lt k; frames = fs })
    ∙ (λ k.
    record {
      entries = set (map entry_of es) i (record { node = key k; succs = succs_are k; begun = begun_at k + 1 });
      frames = fs;
    })

-- the last frame is written over
pub lowered_is : (es : List (ℕ × Opened)) (fs : List Frame) (k place least : ℕ) (frame : Frame) → Tops (stack_of es fs) frame
    → k ≡ length fs - 1 → least ≡ min frame.low place
    → stack_of es (set fs k (record { position = frame.position; low = least })) ≡ lowered (stack_of es fs) place
lowered_is es fs k place least frame tops last lesser = lowered_with (map entry_of es) fs k place least frame tops last lesser

-- the last frame is gone, and the one below is written over
pub retreated_is : (es : List (ℕ × Opened)) (fs : List Frame) (k least : ℕ) (joined frame d e : Frame) → 2 ≤ length fs → k ≡ length fs - 1
    → joined ≡ get_or fs k d → frame ≡ get_or (take k fs) (k - 1) e → least ≡ min frame.low joined.low
    → stack_of es (set (take k fs) (k - 1) (record { position = frame.position; low = least })) ≡ retreated (stack_of es fs)
retreated_is es fs k least joined frame d e two last read_top read_below lesser =
    retreated_with (map entry_of es) fs k least joined frame d e two last read_top read_below lesser

-- what is left of the lists
pub taken_is : (es : List (ℕ × Opened)) (fs : List Frame) (k : ℕ) (frame : Frame) → Tops (stack_of es fs) frame → k ≡ length fs - 1
    → stack_of (take frame.position es) (take k fs) ≡ below_frame (stack_of es fs) (top (stack_of es fs))
unfolding below_frame
taken_is es fs k frame tops last =
    let at : k ≡ top (stack_of es fs) = last ∙ ap (λ h. h - 1) (sym (height_is es fs)) in
    let position_at : frame.position ≡ position_on (stack_of es fs) (top (stack_of es fs)) = sym tops.position_is in
    let cut : map entry_of (take frame.position es) ≡ take frame.position (map entry_of es) = sym (take-map entry_of frame.position es) in
    (λ j. record { entries = cut j; frames = take k fs })
    ∙ (λ j. record { entries = take (position_at j) (map entry_of es); frames = take (at j) fs })

nodes_are : (es : List (ℕ × Opened)) → keys_of es ≡ map (λ entry. entry.node) (map entry_of es)
nodes_are [] = refl
nodes_are (e ∷ es) = ap (λ xs. e.0 ∷ xs) (nodes_are es)

pub nodes_is : (es : List (ℕ × Opened)) (fs : List Frame) (frame : Frame) → Tops (stack_of es fs) frame
    → drop frame.position (keys_of es) ≡ nodes_from (stack_of es fs) (top (stack_of es fs))
unfolding nodes_from
nodes_is es fs frame tops =
    let position_at : frame.position ≡ position_on (stack_of es fs) (top (stack_of es fs)) = sym tops.position_is in
    (λ j. drop (position_at j) (nodes_are es j))

-- the edge that has begun is the last
pub last_begun : {s t : Stack} (v : ℕ) → 0 < height s → Begins s t (position_on s (top s))
    → v ≡ target s (position_on s (top s)) (begun s (position_on s (top s))) → IsLastBegun t v
last_begun {s} {t} v some new is =
    let top_is : top t ≡ top s = ap (λ h. h - 1) new.height_is in
    let at : position_on t (top t) ≡ position_on s (top s) = ap (position_on t) top_is ∙ new.position_is (top s) in
    let more : begun t (position_on t (top t)) ≡ begun s (position_on s (top s)) + 1 = ap (begun t) at ∙ new.begun_one_more in
    let same : begun t (position_on t (top t)) - 1 ≡ begun s (position_on s (top s)) = omega (arith, more) in
    let list : succs t (position_on t (top t)) ≡ succs s (position_on s (top s)) = ap (succs t) at ∙ new.succs_is (position_on s (top s)) in
    record {
      some = omega (arith, some, new.height_is);
      begins = omega (arith, more);
      is =
          ap (λ xs. get_or xs (begun t (position_on t (top t)) - 1) 0) list ∙ ap (λ k. get_or (succs s (position_on s (top s))) k 0) same
          ∙ sym is;
    }

-- the top frame, where it is read at a number that is the last place
pub tops_at : (es : List (ℕ × Opened)) (fs : List Frame) (k : ℕ) (frame d : Frame) → IsShaped (stack_of es fs) → 0 < length fs
    → k ≡ length fs - 1 → frame ≡ get_or fs k d → Tops (stack_of es fs) frame
tops_at es fs k frame d shaped some last read = tops_with (map entry_of es) fs k frame d shaped some last read

-- and where it is read from a slice
pub tops_of_slice : (es : List (ℕ × Opened)) (fs now : List Frame) (frame d : Frame) → IsShaped (stack_of es fs) → 0 < length fs
    → now ≡ fs → frame ≡ get_or now (length now - 1) d → Tops (stack_of es fs) frame
tops_of_slice es fs now frame d shaped some is read = tops_sliced (map entry_of es) fs now frame d shaped some is read

-- the entry of the top frame has begun one more
pub top_begun_is : (es : List (ℕ × Opened)) (fs : List Frame) (frame : Frame) (o : Opened) → Tops (stack_of es fs) frame
    → Holds (stack_of es fs) frame.position o
    → stack_of (set_value_at es frame.position (record { succs = o.succs; begun = o.begun + 1 })) fs
    ≡ one_more_begun (stack_of es fs) (position_on (stack_of es fs) (top (stack_of es fs)))
top_begun_is es fs frame o tops holds =
    begun_is es fs frame.position o holds ∙ ap (one_more_begun (stack_of es fs)) (sym tops.position_is)

pub top_begins : (es : List (ℕ × Opened)) (fs : List Frame) (frame : Frame) → Tops (stack_of es fs) frame
    → Begins (stack_of es fs) (one_more_begun (stack_of es fs) (position_on (stack_of es fs) (top (stack_of es fs))))
    (position_on (stack_of es fs) (top (stack_of es fs)))
top_begins es fs frame tops =
    begins (stack_of es fs) (position_on (stack_of es fs) (top (stack_of es fs))) (omega (arith, tops.within, tops.position_is))

-- there is one more to begin
pub more_to_begin : {s : Stack} {frame : Frame} {o : Opened} → TopHolds s frame o → o.begun < length o.succs.items
    → begun s (position_on s (top s)) < length (succs s (position_on s (top s)))
more_to_begin {s} {frame} {o} read more = omega (arith, read.begun_is, ap length read.succs_is, more)

-- an entry that hasn't begun all has more to begin
pub not_all : {s : Stack} {frame : Frame} {o : Opened} → IsShaped s → TopHolds s frame o → (o.begun ≡ length o.succs.items → ⊥)
    → o.begun < length o.succs.items
not_all {s} {frame} {o} shaped read some =
    omega (
      arith,
      some,
      shaped.begun_le (position_on s (top s)) (omega (arith, read.frame_is.within, read.frame_is.position_is)),
      read.begun_is,
      ap length read.succs_is,
    )

-- the successor that has begun is the last
pub node_is_last : {s : Stack} {frame : Frame} {o : Opened} (v : ℕ) → TopHolds s frame o → o.begun < length o.succs.items
    → v ≡ get_or o.succs.items o.begun v → v ≡ target s (position_on s (top s)) (begun s (position_on s (top s)))
node_is_last {s} {frame} {o} v read more at =
    at ∙ get_or_default o.succs.items o.begun v 0 more ∙ ap (λ k. get_or o.succs.items k 0) (sym read.begun_is)
    ∙ ap (λ xs. get_or xs (begun s (position_on s (top s))) 0) (sym read.succs_is)

pub same_some : {X : Type 0} (x y : X) (o : Option X) → o ≡ Some x → o ≡ Some y → x ≡ y
same_some x y o first second = let both : Some x ≡ Some y = sym first ∙ second in cc
