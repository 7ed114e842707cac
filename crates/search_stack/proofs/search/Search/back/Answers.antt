use Rattle.std.proofs.Common.{◌≡◌, ◌-◌, ◌∙◌, refl, sym, ap, subst, arith, inl, inr, length-set, true≢false}
use Rattle.std.specs.Prelude.{false}
use Rattle.search_stack.specs.Search.{IsLastBegun, lowered}
use Rattle.search_stack.specs.Stack.{Stack, IsShaped}
use Rattle.search_stack.specs.GoodSearch.{IsGood}
use Rattle.search_stack.proofs.Back.{good_back}
use Rattle.search_stack.proofs.Edges.{good_finished}
use Rattle.search_stack.proofs.FieldLaws.{height_is, found_place, missing, distinct}
use Rattle.search_stack.proofs.FieldSteps.{held, lowered_top}
use Rattle.search_stack.proofs.Shapes.{shaped_back}
use Rattle.search_stack.proofs.Steps.{lowers}
use Rattle.search_stack.proofs.search.Search.back.Goals as goal

pub returns-in_default-clause-on : goal.returns-in_default-clause-on
returns-in_default-clause-on c =
    rw (← c.self.view_is) (
      λ yes. absurd (true≢false (sym yes)),
      λ on. absurd (missing c.self.inside.opened.entries c.self.inside.frames.items c.args.node (sym c.in_default.ensures.index) on),
    )

pub overflow_sub-top : goal.overflow_sub-top
overflow_sub-top c =
    let some = rw (← c.self.view_is) at c.requires.last.some in
    omega (arith, some, c.len-top.ensures, c.self.inside.frames.ok.0, height_is c.self.inside.opened.entries c.self.inside.frames.items)

pub index_mut-frame-requires : goal.index_mut-frame-requires
index_mut-frame-requires c =
    let some = rw (← c.self.view_is) at c.requires.last.some in
    omega (arith, some, c.len-top.ensures, c.self.inside.frames.ok.0, height_is c.self.inside.opened.entries c.self.inside.frames.items)

pub invariant_of-self : goal.invariant_of-self
invariant_of-self c =
    let height = rw (← c.self.view_is) at c.requires.last.some in
    let is = lowered_top c.in-Some.place c.self.invariant height c.len-top.ensures c.index_mut-frame.ensures.value c.min-frame.ensures in
    record {
      shaped = subst IsShaped (sym is) (shaped_back c.self.invariant.shaped (lowers (held c.self.inside) c.in-Some.place height));
      entry_room = c.self.invariant.entry_room;
      frame_room =
          omega (
            arith,
            c.self.invariant.frame_room,
            length-set c.self.inside.frames.items (c.len-top.result - 1)
                (record { position = c.index_mut-frame.result.now.position; low = c.min-frame.result }),
          );
      small = c.self.invariant.small;
    }

pub returns-clause-on : goal.returns-clause-on
returns-clause-on c =
    let found = found_place c.self.inside.opened.entries c.self.inside.frames.items c.args.node c.in-Some.place (sym c.in-Some.ensures.index) in
    rw (← c.self.view_is) (λ yes. record { place = c.in-Some.place; within = found.0; is = found.1 }, λ on. refl)

pub returns-clause-lowered : goal.returns-clause-lowered
returns-clause-lowered c =
    let height = rw (← c.self.view_is) at c.requires.last.some in
    let is = lowered_top c.in-Some.place c.self.invariant height c.len-top.ensures c.index_mut-frame.ensures.value c.min-frame.ensures in
    let found = found_place c.self.inside.opened.entries c.self.inside.frames.items c.args.node c.in-Some.place (sym c.in-Some.ensures.index) in
    rw (← c.self.view_is)
    (λ yes place lt at.
    let same : c.in-Some.place ≡ place =
    distinct c.self.inside.opened.entries c.self.inside.frames.items c.get_index_of.ensures.unique c.in-Some.place place found.0 lt (found.1 ∙ sym at) in
    ap (λ (stack : Stack). record { stack = stack; wanted = c.self.inside.wanted; spare = c.self.inside.spare })
    (is ∙ ap (lowered (held c.self.inside)) same))

pub returns-clause-good : goal.returns-clause-good
returns-clause-good c =
    let height = rw (← c.self.view_is) at c.requires.last.some in
    let is = lowered_top c.in-Some.place c.self.invariant height c.len-top.ensures c.index_mut-frame.ensures.value c.min-frame.ensures in
    let found = found_place c.self.inside.opened.entries c.self.inside.frames.items c.args.node c.in-Some.place (sym c.in-Some.ensures.index) in
    let begun = rw (← c.self.view_is) at c.requires.last in
    let edge = subst (IsLastBegun (held c.self.inside)) (sym found.1) begun in
    rw (← c.self.view_is)
    (λ lists roots done opened good either.
    subst (IsGood lists roots done false) (sym is)
    (good_back good (lowers (held c.self.inside) c.in-Some.place height) found.0 edge))

pub returns-in_default-clause-good : goal.returns-in_default-clause-good
returns-in_default-clause-good c = λ lists roots done opened good either.
    elim either as (λ _. IsGood lists roots done false c.args.self.now.stack)
    [ inl on ↦ absurd (true≢false (sym on)) | inr finished ↦ good_finished good c.requires.last finished ]
