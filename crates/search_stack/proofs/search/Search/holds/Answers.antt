use Rattle.std.proofs.Common.{refl, sym, true≢false}
use Rattle.search_stack.proofs.FieldLaws.{found_place, missing}
use Rattle.search_stack.proofs.search.Search.holds.Goals as goal

pub returns-in_default : goal.returns-in_default
returns-in_default c =
    rw (← c.self.view_is) (
      λ yes. absurd (true≢false (sym yes)),
      λ on. absurd (missing c.self.inside.opened.entries c.self.inside.frames.items c.args.node (sym c.in_default.ensures.index) on),
    )

pub returns : goal.returns
returns c =
    let found = found_place c.self.inside.opened.entries c.self.inside.frames.items c.args.node c.in-Some.field-0 (sym c.in-Some.ensures.index) in
    rw (← c.self.view_is) (λ yes. record { place = c.in-Some.field-0; within = found.0; is = found.1 }, λ on. refl)
