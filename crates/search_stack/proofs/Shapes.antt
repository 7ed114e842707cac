-- The steps of a search keep the shape of its stack.
use Rattle.std.proofs.Common.{◌≡◌, ◌⊎◌, inl, inr, ℕ, ◌<◌, ◌≤◌, ◌+◌, List, [], length, refl, ap, ◌∙◌, sym, arith}
use Rattle.std.proofs.lemmas.Bool.{cases_lt, cases_eq}
use Rattle.search_stack.specs.Stack.{Stack, IsShaped, size, height, top, succs, begun, position, low}
use Rattle.search_stack.specs.Search.{IsLastBegun}
use Rattle.search_stack.proofs.Changes.{Pushes, Begins, Lowers, Retreats, Keeps}
use Rattle.search_stack.proofs.Frames.{position_end, position_at, position_le, position_within}

-- an empty stack has no frames
pub no_frames : {s : Stack} → IsShaped s → size s ≡ 0 → height s ≡ 0
no_frames {s} shaped none =
    elim (cases_eq (height s) 0) as (λ _. height s ≡ 0)
    [ inl is ↦ is | inr some ↦ absurd (omega (arith, position_within shaped 0 (omega (arith, some)), none)) ]

pub no_entries : {s : Stack} → IsShaped s → height s ≡ 0 → size s ≡ 0
no_entries {s} shaped none = omega (arith, shaped.first, position_end s, position_at s 0 (height s) (sym none))

pub shaped_push : {s t : Stack} {v : ℕ} {list : List ℕ} → IsShaped s → Pushes s t v list → (height s ≡ 0) ⊎ IsLastBegun s v → IsShaped t
shaped_push {s} {t} {v} {list} shaped new led = record {
  first = new.position_is 0 (omega arith) ∙ shaped.first;
  rises = λ j lt.
      elim (cases_lt j (height s)) [
        | inl old ↦
            omega (arith, new.position_is j (omega (arith, old)), new.position_is (j + 1) (omega (arith, old)), shaped.rises j old)
        | inr le ↦
            let is : j ≡ height s = omega (arith, le, lt, new.height_is) in
            omega (
              arith,
              new.position_is j (omega (arith, is)),
              position_at s j (height s) is,
              position_end s,
              position_end t,
              position_at t (j + 1) (height t) (omega (arith, is, new.height_is)),
              new.size_is,
            )
      ];
  low_le = λ j lt.
      elim (cases_lt j (height s)) [
        | inl old ↦ omega (arith, new.position_is j (omega (arith, old)), new.low_is j old, shaped.low_le j old)
        | inr le ↦
            let is : j ≡ height s = omega (arith, le, lt, new.height_is) in
            omega (arith, new.position_is j (omega (arith, is)), position_at s j (height s) is, position_end s, new.low_new, ap (low t) is)
      ];
  begins = λ j lt.
      let old : j < height s = omega (arith, lt, new.height_is) in
      let same : begun t (position t j) ≡ begun s (position s j) =
      ap (begun t) (new.position_is j (omega (arith, old))) ∙ new.begun_is (position s j) (position_within shaped j old) in
      elim (cases_lt (j + 1) (height s)) [
        | inl below ↦ omega (arith, same, shaped.begins j below)
        | inr le ↦
            elim led [
              | inl none ↦ absurd (omega (arith, none, old))
              | inr last ↦
                  let is : j ≡ top s = omega (arith, le, old) in
                  omega (arith, same, last.begins, ap (λ b. begun s (position s b)) is)
            ]
      ];
  begun_le = λ i lt.
      elim (cases_lt i (size s)) [
        | inl old ↦ omega (arith, new.begun_is i old, ap length (new.succs_is i old), shaped.begun_le i old)
        | inr le ↦
            let is : i ≡ size s = omega (arith, le, lt, new.size_is) in
            omega (arith, new.begun_new, ap (begun t) is)
      ];
}

pub shaped_begin : {s t : Stack} {place : ℕ} → IsShaped s → Begins s t place → begun s place < length (succs s place) → IsShaped t
shaped_begin {s} {t} {place} shaped new more =
    let risen : (i : ℕ) → begun s i ≤ begun t i = λ i.
    elim (cases_eq i place) [
      | inl is ↦ omega (arith, new.begun_one_more, ap (begun s) is, ap (begun t) is)
      | inr ne ↦ omega (arith, new.begun_is i ne)
    ] in
    record {
      first = new.position_is 0 ∙ shaped.first;
      rises = λ j lt. omega (arith, new.position_is j, new.position_is (j + 1), shaped.rises j (omega (arith, lt, new.height_is)));
      low_le = λ j lt. omega (arith, new.position_is j, new.low_is j, shaped.low_le j (omega (arith, lt, new.height_is)));
      begins = λ j lt.
          omega
          (arith, shaped.begins j (omega (arith, lt, new.height_is)), risen (position s j), ap (begun t) (new.position_is j));
      begun_le = λ i lt.
          elim (cases_eq i place) [
            | inl is ↦
                omega
                (arith, new.begun_one_more, ap (begun t) is, ap length (new.succs_is i), ap (λ k. length (succs s k)) is, more)
            | inr ne ↦ omega (arith, new.begun_is i ne, ap length (new.succs_is i), shaped.begun_le i (omega (arith, lt, new.size_is)))
          ];
    }

pub shaped_back : {s t : Stack} {frame place : ℕ} → IsShaped s → Lowers s t frame place → IsShaped t
shaped_back {s} {t} {frame} {place} shaped new = record {
  first = new.position_is 0 ∙ shaped.first;
  rises = λ j lt. omega (arith, new.position_is j, new.position_is (j + 1), shaped.rises j (omega (arith, lt, new.height_is)));
  low_le = λ j lt.
      let old : low s j ≤ position s j = shaped.low_le j (omega (arith, lt, new.height_is)) in
      elim (cases_eq j frame) [
        | inl is ↦ omega (arith, new.position_is j, new.low_new, ap (low t) is, ap (low s) is, old)
        | inr ne ↦ omega (arith, new.position_is j, new.low_is j ne, old)
      ];
  begins = λ j lt.
      omega
      (arith, shaped.begins j (omega (arith, lt, new.height_is)), new.begun_is (position s j), ap (begun t) (new.position_is j));
  begun_le = λ i lt. omega (arith, new.begun_is i, ap length (new.succs_is i), shaped.begun_le i (omega (arith, lt, new.size_is)));
}

pub shaped_retreat : {s t : Stack} {frame : ℕ} → IsShaped s → Retreats s t frame → IsShaped t
shaped_retreat {s} {t} {frame} shaped new =
    let last : position t (frame + 1) ≡ size s =
    position_at t (frame + 1) (height t) (sym new.height_is) ∙ position_end t ∙ new.size_is in
    record {
      first = new.position_is 0 (omega arith) ∙ shaped.first;
      rises = λ j lt.
          elim (cases_lt j frame) [
            | inl below ↦
                omega (
                  arith,
                  new.position_is j (omega (arith, below)),
                  new.position_is (j + 1) (omega (arith, below)),
                  shaped.rises j (omega (arith, below, new.is_second)),
                )
            | inr le ↦
                let is : j ≡ frame = omega (arith, le, lt, new.height_is) in
                omega (
                  arith,
                  new.position_is j (omega (arith, is)),
                  position_at t (j + 1) (frame + 1) (omega (arith, is)),
                  last,
                  position_within shaped j (omega (arith, is, new.is_second)),
                )
          ];
      low_le = λ j lt.
          let old : low s j ≤ position s j = shaped.low_le j (omega (arith, lt, new.height_is, new.is_second)) in
          elim (cases_lt j frame) [
            | inl below ↦ omega (arith, new.position_is j (omega (arith, below)), new.low_is j below, old)
            | inr le ↦
                let is : j ≡ frame = omega (arith, le, lt, new.height_is) in
                omega (arith, new.position_is j (omega (arith, is)), new.low_new, ap (low t) is, ap (low s) is, old)
          ];
      begins = λ j lt.
          omega (
            arith,
            shaped.begins j (omega (arith, lt, new.height_is, new.is_second)),
            new.begun_is (position s j),
            ap (begun t) (new.position_is j (omega (arith, lt, new.height_is))),
          );
      begun_le = λ i lt. omega (arith, new.begun_is i, ap length (new.succs_is i), shaped.begun_le i (omega (arith, lt, new.size_is)));
    }

pub shaped_below : {s t : Stack} {frame : ℕ} → IsShaped s → Keeps s t frame → IsShaped t
shaped_below {s} {t} {frame} shaped new =
    let inside : (j : ℕ) → j < frame → position s j < position s frame = λ j lt.
    omega (arith, position_le shaped j frame (omega (arith, lt)) (omega (arith, new.within)), lt) in
    record {
      first = new.position_is 0 (omega arith) ∙ shaped.first;
      rises = λ j lt.
          omega (
            arith,
            new.position_is j (omega (arith, lt, new.height_is)),
            new.position_is (j + 1) (omega (arith, lt, new.height_is)),
            shaped.rises j (omega (arith, lt, new.height_is, new.within)),
          );
      low_le = λ j lt.
          let old : low s j ≤ position s j = shaped.low_le j (omega (arith, lt, new.height_is, new.within)) in
          omega
          (arith, new.position_is j (omega (arith, lt, new.height_is)), new.low_is j (omega (arith, lt, new.height_is)), old);
      begins = λ j lt.
          let below : j < frame = omega (arith, lt, new.height_is) in
          omega (
            arith,
            shaped.begins j (omega (arith, lt, new.height_is, new.within)),
            new.begun_is (position s j) (inside j below),
            ap (begun t) (new.position_is j (omega (arith, below))),
          );
      begun_le = λ i lt.
          let old : i < position s frame = omega (arith, lt, new.size_is) in
          omega
          (arith, new.begun_is i old, ap length (new.succs_is i old), shaped.begun_le i (omega (arith, old, position_within shaped frame new.within)));
    }

pub shaped_empty : IsShaped (record { entries = []; frames = [] })
unfolding size height position
shaped_empty = record {
  first = refl;
  rises = λ j lt. absurd (omega (arith, lt));
  low_le = λ j lt. absurd (omega (arith, lt));
  begins = λ j lt. absurd (omega (arith, lt));
  begun_le = λ i lt. absurd (omega (arith, lt));
}

-- there are no more frames than entries
pub few_frames : {s : Stack} → IsShaped s → height s ≤ size s
few_frames {s} shaped = omega (arith, position_le shaped 0 (height s) (omega arith) (omega arith), position_end s)

pub empty_size : size (record { entries = []; frames = [] }) ≡ 0
unfolding size
empty_size = refl

pub empty_height : height (record { entries = []; frames = [] }) ≡ 0
unfolding height
empty_height = refl

-- a stack with frames isn't empty
pub long_from_tall : {s : Stack} → IsShaped s → 0 < height s → size s ≡ 0 → ⊥
long_from_tall shaped tall none = omega (arith, few_frames shaped, tall, none)
