use Rattle.std.proofs.Common.{◌≡◌, ◌-◌, ◌∙◌, length, sym, subst, arith}
use Rattle.std.specs.Prelude.{false}
use Rattle.search_stack.specs.GoodSearch.{IsGood}
use Rattle.search_stack.proofs.ArraySteps.{good_settled, lowered_arrays, lowered_by_found, place_on, slot_read, tall, top_counted}
use Rattle.search_stack.proofs.array_search.ArraySearch.back.Goals as goal

pub overflow_sub-top : goal.overflow_sub-top
overflow_sub-top c =
    let some = rw (← c.self.view_is) at c.requires.last.some in
    omega (arith, some, tall c.self.invariant, c.len-top.ensures, c.self.inside.frames.ok.0)

pub index_mut-frame-requires : goal.index_mut-frame-requires
index_mut-frame-requires c =
    let some = rw (← c.self.view_is) at c.requires.last.some in
    omega (arith, some, tall c.self.invariant, c.len-top.ensures, c.self.inside.frames.ok.0)

pub invariant_of-self : goal.invariant_of-self
invariant_of-self c =
    let some = rw (← c.self.view_is) at c.requires.last.some in
    let counted : c.len-top.result ≡ length c.self.inside.frames.items = omega (arith, c.len-top.ensures, c.self.inside.frames.ok.0) in
    let tops = top_counted c.self.invariant (omega (arith, some, tall c.self.invariant)) counted c.index_mut-frame.ensures.value in
    (lowered_arrays c.self.invariant (c.index.result.now - 1) tops counted c.min-frame.ensures).1

pub returns-clause-settled : goal.returns-clause-settled
returns-clause-settled c =
    let some = rw (← c.self.view_is) at c.requires.last.some in
    let met = rw (← c.self.view_is) at c.requires.met in
    let counted : c.len-top.result ≡ length c.self.inside.frames.items = omega (arith, c.len-top.ensures, c.self.inside.frames.ok.0) in
    let tops = top_counted c.self.invariant (omega (arith, some, tall c.self.invariant)) counted c.index_mut-frame.ensures.value in
    let is = (lowered_arrays c.self.invariant (c.index.result.now - 1) tops counted c.min-frame.ensures).0 in
    let slot = slot_read c.self.invariant c.args.node met c.index.ensures in
    rw (← c.self.view_is)
    (record {
      place = c.index.result.now - 1;
      is = is;
      on = λ i lt at. place_on c.self.invariant slot lt at;
      off = λ off. is ∙ lowered_by_found c.self.invariant slot met off some;
    })

pub returns-clause-good : goal.returns-clause-good
returns-clause-good c =
    let last = rw (← c.self.view_is) at c.requires.last in
    let met = rw (← c.self.view_is) at c.requires.met in
    let counted : c.len-top.result ≡ length c.self.inside.frames.items = omega (arith, c.len-top.ensures, c.self.inside.frames.ok.0) in
    let tops = top_counted c.self.invariant (omega (arith, last.some, tall c.self.invariant)) counted c.index_mut-frame.ensures.value in
    let is = (lowered_arrays c.self.invariant (c.index.result.now - 1) tops counted c.min-frame.ensures).0 in
    let slot = slot_read c.self.invariant c.args.node met c.index.ensures in
    rw (← c.self.view_is)
    (λ lists roots done good either. subst (IsGood lists roots done false) (sym is) (good_settled c.self.invariant slot met last good either))
