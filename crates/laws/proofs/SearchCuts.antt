-- A stack can be cut at each of its nodes, and so can a kept search on the way of a transfer.
use Rattle.std.proofs.Common.{◌≡◌, inl, inr, ℕ, zero, suc, ◌<◌, ◌≤◌, List, set, Option, None, Some, refl, ap, sym, subst, arith, get_or-set_same, get_or-set_other}
use Rattle.std.proofs.lemmas.Bool.{cases_eq, cases_lt}
use Rattle.search_stack.specs.Stack.{Stack, IsShaped, height, low, position, size}
use Rattle.search_stack.specs.GoodSearch.{Dips}
use Rattle.search_stack.specs.Search.{SearchValue, IsCut, IsOn, below_frame, last_begun}
use Rattle.search_stack.proofs.Shapes.{no_entries}
use Rattle.blocked_table.specs.Kept.{kept_at}
use Rattle.blocked_table.specs.Paths.{StepsAt}
use Rattle.blocked_table.specs.Transfer.{IsCutAway, IsLeft}
use Rattle.blocked_table.proofs.Chain.{place_within}
use Rattle.laws.proofs.Choices.{Decided, found_or}

low_or : (s : Stack) (a frame : ℕ) → Decided ((a ≤ frame) × (low s frame < position s a))
low_or s a frame = elim (cases_lt frame a) [
  | inl before ↦ inr (λ both. (let from = both.0 in omega (arith, from, before)))
  | inr from ↦ elim (cases_lt (low s frame) (position s a)) [
    | inl lt ↦ inl (from, lt)
    | inr le ↦ inr (λ both. (let lt = both.1 in omega (arith, lt, le)))
  ]
]

dips_or : (s : Stack) (a : ℕ) → Decided (Dips s a)
dips_or s a = elim (found_or (λ frame. (a ≤ frame) × (low s frame < position s a)) (low_or s a) (height s)) [
  | inl found ↦ inl (record { frame = found.at; from = found.holds.0; within = found.below; is = found.holds.1 })
  | inr none ↦ inr (λ dips. none dips.frame dips.within (dips.from, dips.is))
]

-- each frame from here on, at or below the place of the node, dips
abbrev DipFrom : Stack → ℕ → ℕ → Type 0
DipFrom s place a = (b : ℕ) → a ≤ b → b < height s → position s b ≤ place → Dips s b

dip_more : (s : Stack) (place c : ℕ) → DipFrom s place (suc c) → (position s c ≤ place → Dips s c) → DipFrom s place c
dip_more s place c above here b from lt at = elim (cases_eq b c) [
  | inl is ↦
      let same : position s b ≡ position s c = ap (position s) is in
      subst (Dips s) (sym is) (here (omega (arith, same, at)))
  | inr ne ↦ above b (omega (arith, from, ne)) lt at
]

cut_below : (s : Stack) (v : ℕ) → IsShaped s → 0 < height s → (on : IsOn s v) → (a : ℕ) → a ≤ height s → DipFrom s on.place a
    → (frame : ℕ) × IsCut s v frame
cut_below s v shaped some on zero le above =
    let dips : Dips s 0 = above 0 (omega arith) some (omega (arith, shaped.first)) in
    let is : low s dips.frame < position s 0 = dips.is in
    absurd (omega (arith, is, shaped.first))
cut_below s v shaped some on (suc c) le above = elim (cases_lt on.place (position s c)) [
  | inl over ↦ cut_below s v shaped some on c (omega (arith, le)) (dip_more s on.place c above (λ at. absurd (omega (arith, at, over))))
  | inr under ↦ elim (dips_or s c) [
    | inl dips ↦ cut_below s v shaped some on c (omega (arith, le)) (dip_more s on.place c above (λ at. dips))
    | inr lawful ↦ (
      c,
      record {
        place = on.place;
        on = on.within;
        is = on.is;
        within = omega (arith, le);
        at_or_below = under;
        lawful = lawful;
        greatest = λ b over lt at. above b (omega (arith, over)) lt at;
      },
    )
  ]
]

pub frames_there : (s : Stack) → IsShaped s → 0 < size s → 0 < height s
frames_there s shaped some = elim (cases_eq (height s) 0) [
  | inl none ↦ absurd (omega (arith, some, no_entries shaped none))
  | inr ne ↦ omega (arith, ne)
]

pub cut_at : (s : Stack) (v : ℕ) → IsShaped s → IsOn s v → (frame : ℕ) × IsCut s v frame
cut_at s v shaped on =
    let lt : on.place < size s = on.within in
    cut_below s v shaped (frames_there s shaped (omega (arith, lt))) on (height s) (omega arith)
    (λ b from below at. absurd (omega (arith, from, below)))

-- what is left of a kept search

left_of : SearchValue → ℕ → Option SearchValue
left_of donor zero = None
left_of donor (suc f) = Some (record {
  stack = below_frame donor.stack (suc f);
  wanted = last_begun (below_frame donor.stack (suc f));
  spare = 0;
})

is_left : (donor : SearchValue) (frame : ℕ) → IsLeft (left_of donor frame) donor.stack frame
unfolding left_of
is_left donor zero = inl (refl, refl)
is_left donor (suc f) = inr (
  record { stack = below_frame donor.stack (suc f); wanted = last_begun (below_frame donor.stack (suc f)); spare = 0 },
  refl,
  refl,
  omega arith,
  refl,
)

pub away_at : (now : List (Option SearchValue)) (v place x : ℕ) → (step : StepsAt now v place x) → IsShaped step.holds.search.stack
    → (frame : ℕ) × IsCutAway now v (place, frame)
away_at now v place x step shaped =
    let donor : SearchValue = step.holds.search in
    let cut : (frame : ℕ) × IsCut donor.stack v frame = cut_at donor.stack v shaped step.holds.on in
    let left : Option SearchValue = left_of donor cut.0 in
    let there : kept_at (set now place left) place ≡ left =
    get_or-set_same now place left None (place_within now place donor step.holds.at) in (
      cut.0,
      record {
        donor = donor;
        at = step.holds.at;
        cut_is = cut.1;
        wants = x;
        wanted = step.wants;
        next = set now place left;
        left = subst (λ o. IsLeft o donor.stack cut.0) (sym there) (is_left donor cut.0);
        same = λ i ne. get_or-set_other now place i left None ne;
      },
    )
