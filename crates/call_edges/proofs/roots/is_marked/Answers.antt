use Rattle.std.proofs.Common.{◌≡◌, ◌<◌, ℕ, false, get_or, ap, sym, ◌∙◌, refl, arith}
use Rattle.std.proofs.lemmas.Bool.{false≢true}
use Rattle.std.proofs.lemmas.List.{get_or_default}
use Rattle.std.proofs.lemmas.List.Elements.{Contains-get_or}
use Rattle.call_edges.proofs.roots.is_marked.Goals as goal

pub bounds-marks-place : goal.bounds-marks-place
bounds-marks-place c = c.requires c.loop-place.place-index (0, 0) c.loop-place-test.true

pub returns-then-marks-place : goal.returns-then-marks-place
returns-then-marks-place c =
    let places = c.args.places.now in
    let k = c.loop-place.place-index in (
      λ is.
          record { at = get_or places k (0, 0); has = Contains-get_or places k (0, 0) c.loop-place-test.true; marked = c.if-marks-place.true },
      λ has. refl,
    )

pub returns : goal.returns
returns c = (
  λ is. absurd (false≢true is),
  λ has.
      let places = c.args.places.now in
      let marks = c.args.marks.now in
      let k = has.has.0 in
      let before : k < c.loop-place.place-index = omega (arith, has.has.1, c.loop-place-test.false) in
      let here : get_or places k (0, 0) ≡ has.at = get_or_default places k (0, 0) has.at has.has.1 ∙ has.has.2 in
      sym (c.loop-place.invariant k before) ∙ ap (λ (at : ℕ × ℕ). get_or marks at.0 false) here ∙ has.marked,
)
