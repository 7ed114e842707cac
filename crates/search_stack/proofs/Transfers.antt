-- What moves between the fields of two searches where the upper part of one comes on top of the other.
use Rattle.std.proofs.Common.{false, vec_capacity, ne_eqb, ◌≡◌, ℕ, ◌<◌, ◌≤◌, ◌+◌, ◌-◌, ◌^◌, ◌++◌, List, length, get_or, take, drop, map, nat_eq, None, Some, All, ap, ◌∙◌, sym, subst, arith}
use Rattle.std.proofs.lemmas.Bool.{cond-true, cond-false, eq-eqb, eqb-false}
use Rattle.std.proofs.lemmas.List.{get_or_default, map-append, drop-map, take-map, get_or-drop, length-drop, length-map}
use Rattle.std.specs.Prelude.{Contains}
use Rattle.std.specs.Map.{keys_of}
use Rattle.search_stack.specs.declared.cut.Cut.{Cut}
use Rattle.search_stack.specs.declared.frame.Frame.{Frame}
use Rattle.search_stack.specs.declared.search.Opened.{Opened}
use Rattle.search_stack.specs.Fields.{IsSearch, entry_of, stack_of, value_of}
use Rattle.indexmap.specs.IndexMap.{spare}
use Rattle.search_stack.specs.declared.search.Search.TheInside.{Inside}
use Rattle.search_stack.specs.GoodSearch.{Dips}
use Rattle.search_stack.specs.Search.{SearchValue, IsCut, IsLastBegun, IsOn, below_frame, joined, last_begun, moved}
use Rattle.search_stack.specs.Stack.{Stack, IsShaped, begun, height, low, size, target, top}
use Rattle.search_stack.specs.Stack.{position as position_on}
use Rattle.search_stack.proofs.Changes.{Joins, Keeps}
use Rattle.search_stack.proofs.FieldLaws.{TopHolds, size_is, height_is, node_key}
use Rattle.search_stack.proofs.FieldSteps.{held}
use Rattle.search_stack.proofs.Frames.{position_end, position_le, position_within}
use Rattle.search_stack.proofs.Join.{lows_from, shaped_join}
use Rattle.search_stack.proofs.Joined.{joins}
use Rattle.search_stack.proofs.Shapes.{shaped_below}
use Rattle.search_stack.proofs.Steps.{position_of, low_of}
use Rattle.search_stack.proofs.Steps.{keeps as keeps_below}

-- the entries and frames that have moved are those of the joined stack
pub joined_is : (es eb : List (ℕ × Opened)) (fs fb : List Frame) (base first frame : ℕ) → base ≡ size (stack_of es fs)
    → first ≡ position_on (stack_of eb fb) frame
    → stack_of (es ++ drop first eb) (fs ++ map (moved base first) (drop frame fb)) ≡ joined (stack_of es fs) (stack_of eb fb) frame
unfolding joined
joined_is es eb fs fb base first frame based at =
    let entries : map entry_of (es ++ drop first eb) ≡ map entry_of es ++ drop first (map entry_of eb) =
    map-append entry_of es (drop first eb) ∙ ap (λ xs. map entry_of es ++ xs) (sym (drop-map entry_of first eb)) in
    (λ k. record { entries = entries k; frames = fs ++ map (moved base first) (drop frame fb) })
    ∙ (λ k.
    record {
      entries = map entry_of es ++ drop (at k) (map entry_of eb);
      frames = fs ++ map (moved (based k) (at k)) (drop frame fb);
    })

-- and those that are left are the part below
pub rest_is : (eb : List (ℕ × Opened)) (fb : List Frame) (first frame : ℕ) → first ≡ position_on (stack_of eb fb) frame
    → stack_of (take first eb) (take frame fb) ≡ below_frame (stack_of eb fb) frame
unfolding below_frame
rest_is eb fb first frame at =
    (λ k. record { entries = sym (take-map entry_of first eb) k; frames = take frame fb })
    ∙ (λ k. record { entries = take (at k) (map entry_of eb); frames = take frame fb })

-- there are at least as many entries above the cut as frames
pub frames_above : {d : Stack} → IsShaped d → (frame : ℕ) → frame < height d → height d + position_on d frame ≤ size d + frame
frames_above {d} shaped frame lt =
    omega (arith, lt, position_le shaped frame (height d) (omega (arith, lt)) (omega arith), position_end d)

-- a frame of those that move, as it stands on the stack
record Stands (s : Stack) (j : ℕ) (frame : Frame) : Type 0 where
  lt : j < height s
  position_is : frame.position ≡ position_on s j
  low_is : frame.low ≡ low s j

stands_at : (eb : List (ℕ × Opened)) (fb : List Frame) (frame k : ℕ) (d : Frame) → k < length (drop frame fb)
    → Stands (stack_of eb fb) (frame + k) (get_or (drop frame fb) k d)
stands_at eb fb frame k d within =
    let s : Stack = stack_of eb fb in
    let lt : frame + k < height s = omega (arith, within, length-drop frame fb, height_is eb fb) in
    let read : get_or (drop frame fb) k d ≡ get_or fb (frame + k) d = get_or-drop frame fb k d in
    record {
      lt = lt;
      position_is = sym (position_of s (frame + k) (get_or (drop frame fb) k d) d lt (sym read));
      low_is = sym (low_of s (frame + k) (get_or (drop frame fb) k d) d lt (sym read));
    }

-- the frames that move stand at or above the cut, with their lows, and where they come is counted by a `u32`
pub record CanMove (first base : ℕ) (frames : List Frame) : Type 0 where
  pub positions : All (λ (frame : Frame). first ≤ frame.position) frames
  pub lows : All (λ (frame : Frame). first ≤ frame.low) frames
  pub small_positions : All (λ (frame : Frame). base + frame.position < 2 ^ 32 + first) frames
  pub small_lows : All (λ (frame : Frame). base + frame.low < 2 ^ 32 + first) frames

pub can_move : (eb : List (ℕ × Opened)) (fb : List Frame) (first base frame : ℕ) → IsShaped (stack_of eb fb) → frame < height (stack_of eb fb)
    → (Dips (stack_of eb fb) frame → ⊥) → first ≡ position_on (stack_of eb fb) frame → base + size (stack_of eb fb) < 2 ^ 32 + first
    → CanMove first base (drop frame fb)
can_move eb fb first base frame shaped within lawful at small = record {
  positions = λ k d lt.
      let is : Stands (stack_of eb fb) (frame + k) (get_or (drop frame fb) k d) = stands_at eb fb frame k d lt in
      omega (arith, is.position_is, at, position_le shaped frame (frame + k) (omega arith) (omega (arith, is.lt)));
  lows = λ k d lt.
      let is : Stands (stack_of eb fb) (frame + k) (get_or (drop frame fb) k d) = stands_at eb fb frame k d lt in
      omega (arith, is.low_is, at, lows_from lawful (frame + k) (omega arith) is.lt);
  small_positions = λ k d lt.
      let is : Stands (stack_of eb fb) (frame + k) (get_or (drop frame fb) k d) = stands_at eb fb frame k d lt in
      omega (arith, is.position_is, small, position_within shaped (frame + k) is.lt);
  small_lows = λ k d lt.
      let is : Stands (stack_of eb fb) (frame + k) (get_or (drop frame fb) k d) = stands_at eb fb frame k d lt in
      omega (arith, is.low_is, small, shaped.low_le (frame + k) is.lt, position_within shaped (frame + k) is.lt);
}

-- the rest's top has begun an edge, where it has a top
pub rest_begins : {s t : Stack} {frame : ℕ} → IsShaped s → Keeps s t frame → 0 < height t → 0 < begun t (position_on t (top t))
rest_begins {s} {t} {frame} shaped keeps some =
    let last : top t + 1 ≡ frame = omega (arith, some, keeps.height_is) in
    let at : position_on t (top t) ≡ position_on s (top t) = keeps.position_is (top t) (omega (arith, last)) in
    let inside : position_on s (top t) < position_on s frame =
    omega (arith, position_le shaped (top t) frame (omega (arith, last)) (omega (arith, keeps.within)), last) in
    omega (
      arith,
      ap (begun t) at,
      keeps.begun_is (position_on s (top t)) inside,
      shaped.begins (top t) (omega (arith, last, keeps.within)),
    )

-- a key is the node of an entry
pub key_is_on : (es : List (ℕ × Opened)) (fs : List Frame) (v : ℕ) → Contains (keys_of es) v → IsOn (stack_of es fs) v
key_is_on es fs v (k, lt, is) =
    let within : k < length es = omega (arith, lt, length-map es (λ (e : ℕ × Opened). e.0)) in
    record { place = k; within = omega (arith, within, size_is es fs); is = sym (node_key es fs k v within) ∙ is }

pub some_from_not_empty : (frames : List Frame) → nat_eq (length frames) 0 ≡ false → 0 < length frames
some_from_not_empty frames is = omega (arith, eqb-false (length frames) 0 is)

pub last_none : (es : List (ℕ × Opened)) (fs : List Frame) → length fs ≡ 0 → last_begun (stack_of es fs) ≡ None
last_none es fs none =
    let s : Stack = stack_of es fs in
    cond-true (nat_eq (height s) 0) None (Some (target s (position_on s (top s)) (begun s (position_on s (top s)) - 1)))
    (eq-eqb (height s) 0 (height_is es fs ∙ none))

pub last_within : {s : Stack} {frame : Frame} {o : Opened} → IsShaped s → TopHolds s frame o → o.begun ≤ length o.succs.items
last_within {s} {frame} {o} shaped read =
    omega (
      arith,
      shaped.begun_le (position_on s (top s)) (omega (arith, read.frame_is.within, read.frame_is.position_is)),
      read.begun_is,
      ap length read.succs_is,
    )

pub last_some : {s : Stack} {frame : Frame} {o : Opened} (v : ℕ) → TopHolds s frame o → o.begun - 1 < length o.succs.items
    → v ≡ get_or o.succs.items (o.begun - 1) v → last_begun s ≡ Some v
last_some {s} {frame} {o} v read lt at =
    cond-false (nat_eq (height s) 0) None (Some (target s (position_on s (top s)) (begun s (position_on s (top s)) - 1)))
    (ne_eqb (height s) 0 (λ none. omega (arith, none, read.frame_is.some)))
    ∙ ap (λ u. Some u)
    (ap (λ xs. get_or xs (begun s (position_on s (top s)) - 1) 0) read.succs_is
    ∙ ap (λ k. get_or o.succs.items (k - 1) 0) read.begun_is ∙ sym (at ∙ get_or_default o.succs.items (o.begun - 1) v 0 lt))

-- what a search and its donor allow where the donor is cut at the node that the search's last edge leads to
pub record CanAppend (a b : Inside) (first frame : ℕ) : Type 0 where
  pub within : first ≤ length b.opened.entries
  pub frame_within : frame < length b.frames.items
  pub entry_room : length b.opened.entries ≤ spare a.opened + first
  pub frame_room : length a.frames.items + length b.frames.items + a.spare + first
      ≤ vec_capacity a.frames + frame + length b.opened.entries
  pub count : length b.opened.entries ≤ a.spare + first
  pub small : length a.opened.entries + length b.opened.entries < 2 ^ 32 + first
  pub moves : CanMove first (length a.opened.entries) (drop frame b.frames.items)
  pub joins : Joins (held a) (held b) (joined (held a) (held b) frame) frame
  pub keeps : Keeps (held b) (below_frame (held b) frame) frame
  pub shaped : IsShaped (joined (held a) (held b) frame)
  pub rest_shaped : IsShaped (below_frame (held b) frame)

can_append_cut : {a b : Inside} {v first frame : ℕ} → IsSearch a → IsSearch b → IsLastBegun (held a) v → IsCut (held b) v frame
    → first ≡ position_on (held b) frame → size (held b) ≤ a.spare + first → CanAppend a b first frame
can_append_cut {a} {b} {v} {first} {frame} is_a is_b last cut at room =
    let long : size (held b) ≡ length b.opened.entries = size_is b.opened.entries b.frames.items in
    let long_a : size (held a) ≡ length a.opened.entries = size_is a.opened.entries a.frames.items in
    let tall : height (held b) ≡ length b.frames.items = height_is b.opened.entries b.frames.items in
    let few : height (held b) + position_on (held b) frame ≤ size (held b) + frame = frames_above is_b.shaped frame cut.within in
    let inside : position_on (held b) frame < size (held b) = position_within is_b.shaped frame cut.within in
    let new : Joins (held a) (held b) (joined (held a) (held b) frame) frame = joins (held a) (held b) frame is_b.shaped cut.within in
    let left : Keeps (held b) (below_frame (held b) frame) frame = keeps_below (held b) frame is_b.shaped cut.within in
    record {
      within = omega (arith, at, inside, long);
      frame_within = omega (arith, cut.within, tall);
      entry_room = omega (arith, room, long, is_a.entry_room);
      frame_room = omega (arith, few, at, long, tall, room, is_a.frame_room);
      count = omega (arith, room, long);
      small = omega (arith, room, long, is_a.small);
      moves =
          can_move b.opened.entries b.frames.items first (length a.opened.entries) frame is_b.shaped cut.within cut.lawful at
          (omega (arith, room, long, is_a.small));
      joins = new;
      keeps = left;
      shaped = shaped_join is_a.shaped is_b.shaped last cut new;
      rest_shaped = shaped_below is_b.shaped left;
    }

-- as a caller sees both
pub can_append : {a b : Inside} {self donor : SearchValue} {first frame : ℕ} → value_of a ≡ self → value_of b ≡ donor → IsSearch a → IsSearch b
    → (v : ℕ) × IsLastBegun self.stack v × IsCut donor.stack v frame → first ≡ position_on donor.stack frame → size donor.stack ≤ self.spare + first
    → CanAppend a b first frame
can_append {a} {b} {self} {donor} {first} {frame} self_is donor_is is_a is_b (v, last, cut) at room =
    let stack_is : held a ≡ self.stack = ap (λ (value : SearchValue). value.stack) self_is in
    let donor_stack_is : held b ≡ donor.stack = ap (λ (value : SearchValue). value.stack) donor_is in
    can_append_cut is_a is_b (subst (λ s. IsLastBegun s v) (sym stack_is) last) (subst (λ s. IsCut s v frame) (sym donor_stack_is) cut)
    (at ∙ ap (λ s. position_on s frame) (sym donor_stack_is))
    (omega (arith, room, ap size donor_stack_is, ap (λ (value : SearchValue). value.spare) self_is))

-- the fields that have moved are those of the joined stack
pub joined_fields : (a b : Inside) (cut : Cut) {base : ℕ} {entries : List (ℕ × Opened)} {frames : List Frame} → base ≡ length a.opened.entries
    → cut.position ≡ position_on (held b) cut.frame → entries ≡ a.opened.entries ++ drop cut.position b.opened.entries
    → frames ≡ a.frames.items ++ map (moved base cut.position) (drop cut.frame b.frames.items)
    → stack_of entries frames ≡ joined (held a) (held b) cut.frame
joined_fields a b cut {base} {entries} {frames} based at entries_are frames_are =
    (λ k. stack_of (entries_are k) (frames_are k))
    ∙ joined_is a.opened.entries b.opened.entries a.frames.items b.frames.items base cut.position cut.frame
    (based ∙ sym (size_is a.opened.entries a.frames.items)) at

-- and what is left is the part below
pub rest_fields : (b : Inside) (cut : Cut) {entries : List (ℕ × Opened)} {frames : List Frame} → cut.position ≡ position_on (held b) cut.frame
    → entries ≡ take cut.position b.opened.entries → frames ≡ take cut.frame b.frames.items
    → stack_of entries frames ≡ below_frame (held b) cut.frame
rest_fields b cut {entries} {frames} at entries_are frames_are =
    (λ k. stack_of (entries_are k) (frames_are k)) ∙ rest_is b.opened.entries b.frames.items cut.position cut.frame at
