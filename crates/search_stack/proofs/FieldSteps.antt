-- What each call reads of the fields and writes into them, said of the whole stack at once.
use Rattle.std.proofs.Common.{◌≡◌, ◌⊎◌, inl, inr, ℕ, ◌<◌, ◌≤◌, ◌+◌, ◌-◌, min, List, [], ◌∷◌, ◌++◌, length, vec_len, get_or, take, set, slice_get, Some, nat_eq, ap, ◌∙◌, sym, subst, arith}
use Rattle.std.specs.Map.{values_of}
use Rattle.indexmap.specs.IndexMap.{insert_entry, set_value_at}
use Rattle.search_stack.specs.declared.frame.Frame.{Frame}
use Rattle.search_stack.specs.declared.search.Opened.{Opened}
use Rattle.search_stack.specs.declared.search.Search.TheInside.{Inside}
use Rattle.search_stack.specs.Fields.{IsSearch, stack_of}
use Rattle.search_stack.specs.Search.{IsLastBegun, IsOn, lowered, one_more_begun, pushed, retreated, below_frame}
use Rattle.search_stack.specs.Stack.{Stack, IsShaped, begun, height, position, size, succs, top}
use Rattle.search_stack.proofs.Changes.{Begins}
use Rattle.search_stack.proofs.FieldLaws.{Holds, TopHolds, height_is, lowered_is, more_to_begin, not_all, pushed_is, retreated_is, same_some, some_frames, taken_is, top_begins, top_begun_is, top_holds, tops_at, tops_of_slice, value_read}
use Rattle.search_stack.proofs.FrameSteps.{Tops}
use Rattle.search_stack.proofs.Shapes.{no_frames, shaped_begin}

-- the stack of the fields
abbrev pub held : Inside → Stack
held fields = stack_of fields.opened.entries fields.frames.items

-- the top frame, as it is read from a slice
pub top_read : {fields : Inside} {now : List Frame} {frame : Frame} → IsSearch fields → 0 < size (held fields)
    → now ≡ fields.frames.items → frame ≡ get_or now (length now - 1) (record { position = 0; low = 0 }) → Tops (held fields) frame
top_read {fields} {now} {frame} is some slice read =
    tops_of_slice fields.opened.entries fields.frames.items now frame (record { position = 0; low = 0 }) is.shaped
    (some_frames fields.opened.entries fields.frames.items is.shaped some) slice read

-- and where some frame is known of
pub some_top_read : {fields : Inside} {now : List Frame} {frame : Frame} → IsSearch fields → 0 < length fields.frames.items
    → now ≡ fields.frames.items → frame ≡ get_or now (length now - 1) (record { position = 0; low = 0 }) → Tops (held fields) frame
some_top_read {fields} {now} {frame} is some slice read =
    tops_of_slice fields.opened.entries fields.frames.items now frame (record { position = 0; low = 0 }) is.shaped some slice read

-- and the entry of the top frame
pub entry_read : {fields : Inside} {frame : Frame} {opened : Opened} → IsSearch fields → Tops (held fields) frame
    → slice_get (values_of fields.opened.entries) frame.position ≡ Some opened → TopHolds (held fields) frame opened
entry_read {fields} {frame} {opened} is tops at =
    top_holds tops (value_read fields.opened.entries fields.frames.items frame.position opened at)

-- the entry of the top frame, as it is read and as it is lent, begins one more
pub record OneMore (fields : Inside) (frame : Frame) (opened lent : Opened) : Type 0 where
  pub more : opened.begun < length opened.succs.items
  pub same : opened ≡ lent
  pub to_begin : begun (held fields) (position (held fields) (top (held fields))) < length (succs (held fields) (position (held fields) (top (held fields))))
  pub begins : Begins (held fields) (one_more_begun (held fields) (position (held fields) (top (held fields)))) (position (held fields) (top (held fields)))
  pub is : stack_of (set_value_at fields.opened.entries frame.position (record { succs = lent.succs; begun = lent.begun + 1 })) fields.frames.items
      ≡ one_more_begun (held fields) (position (held fields) (top (held fields)))
  pub shaped : IsShaped (stack_of (set_value_at fields.opened.entries frame.position (record { succs = lent.succs; begun = lent.begun + 1 })) fields.frames.items)

pub one_more : {fields : Inside} {frame : Frame} {opened lent : Opened} {count : ℕ} → IsSearch fields → TopHolds (held fields) frame opened
    → slice_get (values_of fields.opened.entries) frame.position ≡ Some opened
    → slice_get (values_of fields.opened.entries) frame.position ≡ Some lent
    → count ≡ vec_len opened.succs → (opened.begun ≡ count → ⊥) → OneMore fields frame opened lent
one_more {fields} {frame} {opened} {lent} {count} search read at lent_at counted some =
    let es = fields.opened.entries in
    let fs = fields.frames.items in
    let more = not_all search.shaped read (λ is. some (omega (arith, is, counted, opened.succs.ok.0))) in
    let same = same_some opened lent (slice_get (values_of es) frame.position) at lent_at in
    let begins = top_begins es fs frame read.frame_is in
    let is =
    top_begun_is es fs frame lent read.frame_is (subst (Holds (held fields) frame.position) same (value_read es fs frame.position opened at)) in
    record {
      more = more;
      same = same;
      to_begin = more_to_begin read more;
      begins = begins;
      is = is;
      shaped = subst IsShaped (sym is) (shaped_begin search.shaped begins (more_to_begin read more));
    }

-- the top frame is written over
pub lowered_top : {fields : Inside} {frame : Frame} {count least : ℕ} (place : ℕ) → IsSearch fields → 0 < height (held fields)
    → count ≡ vec_len fields.frames → frame ≡ get_or fields.frames.items (count - 1) frame → least ≡ min frame.low place
    → stack_of fields.opened.entries (set fields.frames.items (count - 1) (record { position = frame.position; low = least })) ≡ lowered (held fields) place
lowered_top {fields} {frame} {count} {least} place search some counted read lesser =
    let es = fields.opened.entries in
    let fs = fields.frames.items in
    let last : count - 1 ≡ length fs - 1 = omega (arith, counted, fields.frames.ok.0) in
    lowered_is es fs (count - 1) place least frame
    (tops_at es fs (count - 1) frame frame search.shaped (omega (arith, some, height_is es fs)) last read) last lesser

-- the top frame is gone, and the one below is written over
pub retreated_top : {fields : Inside} {joined frame : Frame} {frames : List Frame} {count least : ℕ} → IsSearch fields → 2 ≤ height (held fields)
    → count ≡ vec_len fields.frames → joined ≡ get_or fields.frames.items (count - 1) joined → frames ≡ take (count - 1) fields.frames.items
    → frame ≡ get_or frames (count - 1 - 1) frame → least ≡ min frame.low joined.low
    → stack_of fields.opened.entries (set frames (count - 1 - 1) (record { position = frame.position; low = least })) ≡ retreated (held fields)
retreated_top {fields} {joined} {frame} {frames} {count} {least} search two counted read left below lesser =
    let es = fields.opened.entries in
    let fs = fields.frames.items in
    let tall : 2 ≤ length fs = omega (arith, two, height_is es fs) in
    let last : count - 1 ≡ length fs - 1 = omega (arith, counted, fields.frames.ok.0) in
    (λ k. stack_of es (set (left k) (count - 1 - 1) (record { position = frame.position; low = least })))
    ∙ retreated_is es fs (count - 1) least joined frame joined frame tall last read
    (below ∙ ap (λ list. get_or list (count - 1 - 1) frame) left) lesser

-- the top frame, as it is read at the last place
pub top_at : {fields : Inside} {frame : Frame} {count : ℕ} → IsSearch fields → 0 < height (held fields)
    → count ≡ vec_len fields.frames → frame ≡ get_or fields.frames.items (count - 1) frame → Tops (held fields) frame
top_at {fields} {frame} {count} search some counted read =
    let es = fields.opened.entries in
    let fs = fields.frames.items in
    tops_at es fs (count - 1) frame frame search.shaped (omega (arith, some, height_is es fs)) (omega (arith, counted, fields.frames.ok.0)) read

-- the top segment and its frame are gone
pub taken_top : {fields : Inside} {frame : Frame} {entries : List (ℕ × Opened)} {frames : List Frame} {count : ℕ} → IsSearch fields → Tops (held fields) frame
    → count ≡ vec_len fields.frames → entries ≡ take frame.position fields.opened.entries → frames ≡ take (count - 1) fields.frames.items
    → stack_of entries frames ≡ below_frame (held fields) (top (held fields))
taken_top {fields} {frame} {entries} {frames} {count} search tops counted entries_left frames_left =
    (λ k. stack_of (entries_left k) (frames_left k))
    ∙ taken_is fields.opened.entries fields.frames.items (count - 1) frame tops (omega (arith, counted, fields.frames.ok.0))

-- a new entry and its frame come last
pub pushed_top : {fields : Inside} {entries : List (ℕ × Opened)} {frames : List Frame} {count : ℕ} (v : ℕ) (opened : Opened)
    → IsSearch fields → (IsOn (held fields) v → ⊥) → count ≡ length fields.opened.entries → entries ≡ insert_entry nat_eq fields.opened.entries v opened
    → frames ≡ fields.frames.items ++ (record { position = count; low = count }) ∷ [] → opened.begun ≡ 0
    → stack_of entries frames ≡ pushed (held fields) v opened.succs.items
pushed_top {fields} {entries} {frames} {count} v opened search fresh counted entries_are frames_are none =
    (λ k. stack_of (entries_are k) (frames_are k)) ∙ pushed_is fields.opened.entries fields.frames.items v count opened none counted fresh

-- what leads to a pushed node, where nothing is said of the frames
pub led_to : {fields : Inside} (v : ℕ) → IsSearch fields → (size (held fields) ≡ 0) ⊎ IsLastBegun (held fields) v
    → (height (held fields) ≡ 0) ⊎ IsLastBegun (held fields) v
led_to {fields} v search either =
    elim either as (λ _. (height (held fields) ≡ 0) ⊎ IsLastBegun (held fields) v) [ inl none ↦ inl (no_frames search.shaped none) | inr last ↦ inr last ]
