use Rattle.std.proofs.Common.{length, ap, sym, arith}
use Rattle.search_stack.proofs.FieldLaws.{size_is, height_is, some_frames, found_place, missing}
use Rattle.search_stack.proofs.FieldSteps.{held}
use Rattle.search_stack.proofs.Scan.{cut_of, cut_position, first_frame}
use Rattle.search_stack.proofs.Shapes.{few_frames}
use Rattle.search_stack.proofs.search.Search.cut.Goals as goal

pub returns-in_default-clause-none : goal.returns-in_default-clause-none
returns-in_default-clause-none c =
    rw (← c.self.view_is)
    (λ on. missing c.self.inside.opened.entries c.self.inside.frames.items c.args.node (sym c.in_default.ensures.index) on)

pub greatest_cut-requires-clause-some : goal.greatest_cut-requires-clause-some
greatest_cut-requires-clause-some c =
    let found = found_place c.self.inside.opened.entries c.self.inside.frames.items c.args.node c.in-Some.place (sym c.in-Some.ensures.index) in
    omega (
      arith,
      some_frames c.self.inside.opened.entries c.self.inside.frames.items c.self.invariant.shaped (omega (arith, found.0)),
      ap length c.deref.ensures.value,
    )

pub greatest_cut-requires-clause-few : goal.greatest_cut-requires-clause-few
greatest_cut-requires-clause-few c =
    omega (
      arith,
      few_frames c.self.invariant.shaped,
      size_is c.self.inside.opened.entries c.self.inside.frames.items,
      height_is c.self.inside.opened.entries c.self.inside.frames.items,
      c.self.invariant.small,
      ap length c.deref.ensures.value,
    )

pub greatest_cut-requires-clause-first : goal.greatest_cut-requires-clause-first
greatest_cut-requires-clause-first c =
    let found = found_place c.self.inside.opened.entries c.self.inside.frames.items c.args.node c.in-Some.place (sym c.in-Some.ensures.index) in
    rw c.deref.ensures.value
    (first_frame c.self.invariant.shaped (some_frames c.self.inside.opened.entries c.self.inside.frames.items c.self.invariant.shaped (omega (arith, found.0))))

pub returns-clause-cut : goal.returns-clause-cut
returns-clause-cut c =
    let found = found_place c.self.inside.opened.entries c.self.inside.frames.items c.args.node c.in-Some.place (sym c.in-Some.ensures.index) in
    let cut = rw c.deref.ensures.value at c.greatest_cut.ensures in
    rw (← c.self.view_is) (cut_of (held c.self.inside) c.args.node c.in-Some.place c.greatest_cut.result found.0 found.1 cut)

pub returns-clause-position : goal.returns-clause-position
returns-clause-position c =
    let cut = rw c.deref.ensures.value at c.greatest_cut.ensures in
    rw (← c.self.view_is) (cut_position (held c.self.inside) c.in-Some.place c.greatest_cut.result cut)
