use Rattle.std.proofs.Common.{◌≡◌, ◌≤◌, length, ap, sym, subst, arith}
use Rattle.std.specs.Prelude.{false}
use Rattle.search_stack.specs.ArrayFields.{met_in}
use Rattle.search_stack.specs.GoodSearch.{IsGood}
use Rattle.search_stack.specs.Stack.{Stack}
use Rattle.search_stack.proofs.ArraySteps.{arrayed, retreated_arrays, tall}
use Rattle.search_stack.proofs.Retreat.{good_second}
use Rattle.search_stack.proofs.Steps.{retreats}
use Rattle.search_stack.proofs.array_search.ArraySearch.retreat.Goals as goal

pub overflow_sub-top : goal.overflow_sub-top
overflow_sub-top c =
    let two = rw (← c.self.view_is) at c.requires.two in
    omega (arith, two, tall c.self.invariant, c.len-top.ensures, c.self.inside.frames.ok.0)

pub index-joined-requires : goal.index-joined-requires
index-joined-requires c =
    let two = rw (← c.self.view_is) at c.requires.two in
    omega (arith, two, tall c.self.invariant, c.len-top.ensures, c.self.inside.frames.ok.0)

pub overflow_sub-top-2 : goal.overflow_sub-top-2
overflow_sub-top-2 c =
    let two = rw (← c.self.view_is) at c.requires.two in
    omega (arith, two, tall c.self.invariant, c.len-top.ensures, c.self.inside.frames.ok.0)

pub index_mut-frame-requires : goal.index_mut-frame-requires
index_mut-frame-requires c =
    let two = rw (← c.self.view_is) at c.requires.two in
    omega (arith, two, tall c.self.invariant, c.len-top.ensures, c.self.inside.frames.ok.0, c.truncate.ensures.len)

pub invariant_of-self : goal.invariant_of-self
invariant_of-self c =
    let two = rw (← c.self.view_is) at c.requires.two in
    let many : 2 ≤ length c.self.inside.frames.items = omega (arith, two, tall c.self.invariant) in
    let counted : c.len-top.result ≡ length c.self.inside.frames.items = omega (arith, c.len-top.ensures, c.self.inside.frames.ok.0) in
    (retreated_arrays c.self.invariant many counted c.index-joined.ensures c.truncate.ensures.items c.index_mut-frame.ensures.value c.min-frame.ensures).1

pub returns-clause-retreated : goal.returns-clause-retreated
returns-clause-retreated c =
    let two = rw (← c.self.view_is) at c.requires.two in
    let many : 2 ≤ length c.self.inside.frames.items = omega (arith, two, tall c.self.invariant) in
    let counted : c.len-top.result ≡ length c.self.inside.frames.items = omega (arith, c.len-top.ensures, c.self.inside.frames.ok.0) in
    let is = retreated_arrays c.self.invariant many counted c.index-joined.ensures c.truncate.ensures.items c.index_mut-frame.ensures.value c.min-frame.ensures in
    rw (← c.self.view_is) (ap (λ (stack : Stack). record { stack = stack; seen = met_in c.self.inside.places.items }) is.0)

pub returns-clause-good : goal.returns-clause-good
returns-clause-good c =
    let two = rw (← c.self.view_is) at c.requires.two in
    let many : 2 ≤ length c.self.inside.frames.items = omega (arith, two, tall c.self.invariant) in
    let counted : c.len-top.result ≡ length c.self.inside.frames.items = omega (arith, c.len-top.ensures, c.self.inside.frames.ok.0) in
    let is = retreated_arrays c.self.invariant many counted c.index-joined.ensures c.truncate.ensures.items c.index_mut-frame.ensures.value c.min-frame.ensures in
    let all = rw (← c.self.view_is) at c.requires.done.all in
    let low_below = rw (← c.self.view_is) at c.requires.low in
    rw (← c.self.view_is)
    (λ lists roots done good.
    subst (IsGood lists roots done false) (sym is.0) (good_second good (retreats (arrayed c.self.inside) two) two all low_below))
