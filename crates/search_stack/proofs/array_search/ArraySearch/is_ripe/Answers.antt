use Rattle.std.proofs.Common.{◌<◌, ◌∙◌, length, ap, sym, arith, eqb-true}
use Rattle.std.proofs.lemmas.Bool.{eq-eqb}
use Rattle.search_stack.proofs.ArraySteps.{tall, top_sliced}
use Rattle.search_stack.proofs.array_search.ArraySearch.is_ripe.Goals as goal

pub top_frame-frame-requires : goal.top_frame-frame-requires
top_frame-frame-requires c =
    let some = rw (← c.self.view_is) at c.requires.some in
    omega (arith, some, tall c.self.invariant, ap length c.deref.ensures.value)

pub returns-clause-ripe : goal.returns-clause-ripe
returns-clause-ripe c =
    let done = rw (← c.self.view_is) at c.requires in
    let some : 0 < length c.self.inside.frames.items = omega (arith, done.some, tall c.self.invariant) in
    let tops = top_sliced c.self.invariant some c.deref.ensures.value c.top_frame-frame.ensures in
    rw (← c.self.view_is) (
      λ yes.
          record {
            done = done;
            low_is = tops.low_is ∙ eqb-true c.top_frame-frame.result.low c.top_frame-frame.result.position yes ∙ sym tops.position_is;
          },
      λ ripe.
          eq-eqb c.top_frame-frame.result.low c.top_frame-frame.result.position (sym tops.low_is ∙ ripe.low_is ∙ tops.position_is),
    )
