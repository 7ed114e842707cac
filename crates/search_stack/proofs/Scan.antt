-- How the greatest frame is found at which a list of frames can be cut.
use Rattle.std.proofs.Common.{◌≡◌, ◌⊎◌, inl, inr, ℕ, ◌<◌, ◌≤◌, ◌-◌, min, List, length, refl, ap, ◌∙◌, sym, arith}
use Rattle.std.proofs.lemmas.Bool.{cases_lt}
use Rattle.search_stack.specs.declared.cut.Cut.{Cut}
use Rattle.search_stack.specs.declared.frame.Frame.{Frame}
use Rattle.search_stack.specs.FrameCuts.{DipsIn, IsGreatestCut, frame_in}
use Rattle.search_stack.specs.GoodSearch.{Dips}
use Rattle.search_stack.specs.Search.{IsCut}
use Rattle.search_stack.specs.Stack.{Stack, IsShaped, size, height, node, position, low}
use Rattle.search_stack.proofs.Steps.{position_of, low_of}

-- a frame from here on has this low
pub record HasLow (frames : List Frame) (above least : ℕ) : Type 0 where
  pub frame : ℕ
  pub from : above ≤ frame
  pub within : frame < length frames
  pub is : (frame_in frames frame).low ≡ least

-- the frames from here on are looked at: this is the least of their lows, and those at or below the place dip
pub record IsScanned (frames : List Frame) (place above least : ℕ) : Type 0 where
  pub within : above ≤ length frames
  pub under : (c : ℕ) → above ≤ c → c < length frames → least ≤ (frame_in frames c).low
  pub met : (least ≡ 4294967295) ⊎ HasLow frames above least
  pub dips : (b : ℕ) → above ≤ b → b < length frames → (frame_in frames b).position ≤ place → DipsIn frames b

pub scan_start : (frames : List Frame) (place above : ℕ) → above ≡ length frames → IsScanned frames place above 4294967295
scan_start frames place above is = record {
  within = omega (arith, is);
  under = λ c from lt. absurd (omega (arith, from, lt, is));
  met = inl refl;
  dips = λ b from lt. absurd (omega (arith, from, lt, is));
}

-- what the next frame makes of the least low
next_met : (frames : List Frame) (above least next low : ℕ) → 0 < above → above ≤ length frames → low ≡ (frame_in frames (above - 1)).low
    → next ≡ min least low → (least ≡ 4294967295) ⊎ HasLow frames above least → (next ≡ 4294967295) ⊎ HasLow frames (above - 1) next
next_met frames above least next low some within read is met =
    elim (cases_lt low least) as (λ _. (next ≡ 4294967295) ⊎ HasLow frames (above - 1) next) [
      | inl less ↦
          inr (record { frame = above - 1; from = omega arith; within = omega (arith, some, within); is = omega (arith, read, is, less) })
      | inr le ↦
          elim met as (λ _. (next ≡ 4294967295) ⊎ HasLow frames (above - 1) next) [
            | inl most ↦ inl (omega (arith, is, le, most))
            | inr has ↦
                inr (record { frame = has.frame; from = omega (arith, has.from); within = has.within; is = omega (arith, has.is, is, le) })
          ]
    ]

next_under : (frames : List Frame) (above least next low : ℕ) → low ≡ (frame_in frames (above - 1)).low → next ≡ min least low
    → ((c : ℕ) → above ≤ c → c < length frames → least ≤ (frame_in frames c).low)
    → (c : ℕ) → above - 1 ≤ c → c < length frames → next ≤ (frame_in frames c).low
next_under frames above least next low read is under c from lt =
    elim (cases_lt c above) as (λ _. next ≤ (frame_in frames c).low) [
      | inl before ↦ omega (arith, ap (λ b. (frame_in frames b).low) (here before), read, is)
      | inr past ↦ omega (arith, is, under c past lt)
    ]
  where
    here : c < above → c ≡ above - 1
    here before = omega (arith, before, from)

pub scan_step : {frames : List Frame} {place above least : ℕ} (next : ℕ) (frame : Frame) → IsScanned frames place above least → 0 < above
    → frame ≡ frame_in frames (above - 1) → next ≡ min least frame.low → (frame.position ≤ place → next < frame.position)
    → place < 4294967296 → IsScanned frames place (above - 1) next
scan_step {frames} {place} {above} {least} next frame was some read is dipping small =
    let met : (next ≡ 4294967295) ⊎ HasLow frames (above - 1) next =
    next_met frames above least next frame.low some was.within (ap (λ f. f.low) read) is was.met in
    record {
      within = omega (arith, was.within);
      under = next_under frames above least next frame.low (ap (λ f. f.low) read) is was.under;
      met = met;
      dips = λ b from lt at.
          elim (cases_lt b above) as (λ _. DipsIn frames b) [
            | inl before ↦
                let here : above - 1 ≡ b = omega (arith, before, from) in
                let position_is : frame.position ≡ (frame_in frames b).position =
                ap (λ f. f.position) read ∙ ap (λ k. (frame_in frames k).position) here in
                let low_next : next < frame.position = dipping (omega (arith, at, position_is)) in
                elim met as (λ _. DipsIn frames b) [
                  | inl most ↦ absurd (omega (arith, most, low_next, small, at, position_is))
                  | inr has ↦
                      record {
                        frame = has.frame;
                        from = omega (arith, has.from, here);
                        within = has.within;
                        is = omega (arith, has.is, low_next, position_is);
                      }
                ]
            | inr past ↦ was.dips b past lt at
          ];
    }

pub scan_found : {frames : List Frame} {place above least : ℕ} (next : ℕ) (frame : Frame) → IsScanned frames place above least → 0 < above
    → frame ≡ frame_in frames (above - 1) → next ≡ min least frame.low → frame.position ≤ place → frame.position ≤ next
    → IsGreatestCut frames place (record { position = frame.position; frame = above - 1 })
scan_found {frames} {place} {above} {least} next frame was some read is low_place low_next = record {
  within = omega (arith, some, was.within);
  position_is = ap (λ f. f.position) read;
  at_or_below = low_place;
  lawful = λ dips.
      omega (
        arith,
        dips.is,
        ap (λ f. f.position) read,
        low_next,
        next_under frames above least next frame.low (ap (λ f. f.low) read) is was.under dips.frame dips.from dips.within,
      );
  greatest = λ b above_cut lt at. was.dips b (omega (arith, above_cut, some)) lt at;
}

pub scan_none : {frames : List Frame} {place least : ℕ} (above : ℕ) → IsScanned frames place above least → above ≡ 0 → 0 < length frames
    → (frame_in frames 0).position ≡ 0 → ⊥
scan_none {frames} {place} {least} above was none some first =
    let dips : DipsIn frames 0 = was.dips 0 (omega (arith, none)) some (omega (arith, first)) in
    omega (arith, dips.is, first)

-- frames of a stack

pub frame_position : (s : Stack) (j : ℕ) → j < height s → position s j ≡ (frame_in s.frames j).position
frame_position s j lt = position_of s j (frame_in s.frames j) (record { position = 0; low = 0 }) lt refl

pub frame_low : (s : Stack) (j : ℕ) → j < height s → low s j ≡ (frame_in s.frames j).low
frame_low s j lt = low_of s j (frame_in s.frames j) (record { position = 0; low = 0 }) lt refl

dips_from : (s : Stack) (a : ℕ) → a < height s → DipsIn s.frames a → Dips s a
unfolding height
dips_from s a lt dips = record {
  frame = dips.frame;
  from = dips.from;
  within = dips.within;
  is = omega (arith, dips.is, frame_position s a lt, frame_low s dips.frame dips.within);
}

dips_to : (s : Stack) (a : ℕ) → a < height s → Dips s a → DipsIn s.frames a
unfolding height
dips_to s a lt dips = record {
  frame = dips.frame;
  from = dips.from;
  within = dips.within;
  is = omega (arith, dips.is, frame_position s a lt, frame_low s dips.frame dips.within);
}

pub cut_of : (s : Stack) (v place : ℕ) (cut : Cut) → place < size s → node s place ≡ v → IsGreatestCut s.frames place cut → IsCut s v cut.frame
unfolding height
cut_of s v place cut on is found = record {
  place = place;
  on = on;
  is = is;
  within = found.within;
  at_or_below = omega (arith, found.at_or_below, found.position_is, frame_position s cut.frame found.within);
  lawful = λ dips. found.lawful (dips_to s cut.frame found.within dips);
  greatest = λ b above lt at.
      dips_from s b lt (found.greatest b above lt (omega (arith, at, frame_position s b lt)));
}

pub cut_position : (s : Stack) (place : ℕ) (cut : Cut) → IsGreatestCut s.frames place cut → cut.position ≡ position s cut.frame
unfolding height
cut_position s place cut found = found.position_is ∙ sym (frame_position s cut.frame found.within)

pub first_frame : {s : Stack} → IsShaped s → 0 < length s.frames → (frame_in s.frames 0).position ≡ 0
unfolding height
first_frame {s} shaped some = sym (frame_position s 0 some) ∙ shaped.first
