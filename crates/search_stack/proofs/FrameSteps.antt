-- What calls of a search read of its frames and write into them, whatever its entries are.
use Rattle.std.proofs.Common.{◌≡◌, ℕ, ◌<◌, ◌≤◌, ◌-◌, min, List, length, get_or, take, set, refl, ap, ◌∙◌, sym, arith}
use Rattle.std.proofs.lemmas.Bool.{cases_eq}
use Rattle.std.proofs.lemmas.List.{get_or-take, set-get_or}
use Rattle.std.proofs.Common.{inl, inr}
use Rattle.search_stack.specs.declared.frame.Frame.{Frame}
use Rattle.search_stack.specs.Search.{lowered, retreated}
use Rattle.search_stack.specs.Stack.{Entry, Stack, IsShaped, size, height, top, position, low}
use Rattle.search_stack.proofs.Frames.{position_within}
use Rattle.search_stack.proofs.Shapes.{no_entries}
use Rattle.search_stack.proofs.Steps.{position_of, low_of}

abbrev pub stack_with : List Entry → List Frame → Stack
stack_with es fs = record { entries = es; frames = fs }

pub tall_as : (es : List Entry) (fs : List Frame) → height (stack_with es fs) ≡ length fs
unfolding height
tall_as es fs = refl

pub has_frames : (es : List Entry) (fs : List Frame) → IsShaped (stack_with es fs) → 0 < size (stack_with es fs) → 0 < length fs
has_frames es fs shaped some =
    elim (cases_eq (length fs) 0) as (λ _. 0 < length fs) [
      | inl none ↦ absurd (omega (arith, some, no_entries shaped (tall_as es fs ∙ none)))
      | inr ne ↦ omega (arith, ne)
    ]

-- what is read of the top frame
pub record Tops (s : Stack) (frame : Frame) : Type 0 where
  pub some : 0 < height s
  pub position_is : position s (top s) ≡ frame.position
  pub low_is : low s (top s) ≡ frame.low
  pub within : frame.position < size s

-- it is read at a number that is the last place
pub tops_with : (es : List Entry) (fs : List Frame) (k : ℕ) (frame d : Frame) → IsShaped (stack_with es fs) → 0 < length fs
    → k ≡ length fs - 1 → frame ≡ get_or fs k d → Tops (stack_with es fs) frame
tops_with es fs k frame d shaped some last read =
    let s : Stack = stack_with es fs in
    let tall : height s ≡ length fs = tall_as es fs in
    let at : top s ≡ k = omega (arith, last, tall) in
    let is : get_or fs (top s) d ≡ frame = ap (λ j. get_or fs j d) at ∙ sym read in
    let lt : top s < height s = omega (arith, some, tall) in
    let position_at : position s (top s) ≡ frame.position = position_of s (top s) frame d lt is in
    record {
      some = omega (arith, some, tall);
      position_is = position_at;
      low_is = low_of s (top s) frame d lt is;
      within = omega (arith, position_at, position_within shaped (top s) lt);
    }

-- or from a slice
pub tops_sliced : (es : List Entry) (fs now : List Frame) (frame d : Frame) → IsShaped (stack_with es fs) → 0 < length fs
    → now ≡ fs → frame ≡ get_or now (length now - 1) d → Tops (stack_with es fs) frame
tops_sliced es fs now frame d shaped some is read =
    tops_with es fs (length fs - 1) frame d shaped some refl (read ∙ ap (λ xs. get_or xs (length xs - 1) d) is)

-- the last frame is written over
pub lowered_with : (es : List Entry) (fs : List Frame) (k place least : ℕ) (frame : Frame) → Tops (stack_with es fs) frame
    → k ≡ length fs - 1 → least ≡ min frame.low place
    → stack_with es (set fs k (record { position = frame.position; low = least })) ≡ lowered (stack_with es fs) place
unfolding lowered
lowered_with es fs k place least frame tops last lesser =
    let s : Stack = stack_with es fs in
    let at : k ≡ top s = last ∙ ap (λ h. h - 1) (sym (tall_as es fs)) in
    let position_at : frame.position ≡ position s (top s) = sym tops.position_is in
    let low_at : least ≡ min (low s (top s)) place = lesser ∙ ap (λ b. min b place) (sym tops.low_is) in
    (λ j. record { entries = es; frames = set fs (at j) (record { position = position_at j; low = low_at j }) })

-- a place that isn't below the low changes nothing
pub lowered_same : (s : Stack) (place : ℕ) → 0 < height s → low s (top s) ≤ place → lowered s place ≡ s
unfolding lowered height
lowered_same s place some le =
    let d : Frame = record { position = 0; low = 0 } in
    let frame : Frame = get_or s.frames (top s) d in
    let lt : top s < height s = omega (arith, some) in
    let position_at : position s (top s) ≡ frame.position = position_of s (top s) frame d lt refl in
    let low_at : low s (top s) ≡ frame.low = low_of s (top s) frame d lt refl in
    let least : min (low s (top s)) place ≡ frame.low = omega (arith, le, low_at) in
    (λ j. record { entries = s.entries; frames = set s.frames (top s) (record { position = position_at j; low = least j }) })
    ∙ (λ j. record { entries = s.entries; frames = set-get_or s.frames (top s) d j })

-- the last frame is gone, and the one below is written over
pub retreated_with : (es : List Entry) (fs : List Frame) (k least : ℕ) (joined frame d e : Frame) → 2 ≤ length fs → k ≡ length fs - 1
    → joined ≡ get_or fs k d → frame ≡ get_or (take k fs) (k - 1) e → least ≡ min frame.low joined.low
    → stack_with es (set (take k fs) (k - 1) (record { position = frame.position; low = least })) ≡ retreated (stack_with es fs)
unfolding retreated
retreated_with es fs k least joined frame d e two last read_top read_below lesser =
    let s : Stack = stack_with es fs in
    let tall : height s ≡ length fs = tall_as es fs in
    let at : k ≡ top s = last ∙ ap (λ h. h - 1) (sym tall) in
    let second : k - 1 < k = omega (arith, last, two) in
    let below : get_or fs (k - 1) e ≡ frame = sym (get_or-take k fs (k - 1) e second) ∙ sym read_below in
    let below_at : position s (k - 1) ≡ frame.position = position_of s (k - 1) frame e (omega (arith, last, two, tall)) below in
    let below_low : low s (k - 1) ≡ frame.low = low_of s (k - 1) frame e (omega (arith, last, two, tall)) below in
    let top_low : low s k ≡ joined.low = low_of s k joined d (omega (arith, last, two, tall)) (sym read_top) in
    let position_at : frame.position ≡ position s (top s - 1) = sym below_at ∙ ap (λ b. position s (b - 1)) at in
    let low_at : least ≡ min (low s (top s - 1)) (low s (top s)) =
    lesser ∙ ap (λ b. min b joined.low) (sym below_low) ∙ ap (λ b. min (low s (k - 1)) b) (sym top_low)
    ∙ ap (λ b. min (low s (b - 1)) (low s b)) at in
    (λ j.
    record { entries = es; frames = set (take (at j) fs) (at j - 1) (record { position = position_at j; low = low_at j }) })
