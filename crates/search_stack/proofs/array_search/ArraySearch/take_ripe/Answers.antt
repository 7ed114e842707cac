use Rattle.std.proofs.Common.{◌≡◌, ◌<◌, ◌∙◌, ◌++◌, length, drop, ap, sym, subst, arith}
use Rattle.std.specs.Prelude.{false}
use Rattle.std.proofs.lemmas.List.{take_at, take_rest}
use Rattle.search_stack.specs.ArrayFields.{met_in}
use Rattle.search_stack.specs.GoodSearch.{IsGood}
use Rattle.search_stack.specs.Stack.{position, top}
use Rattle.search_stack.proofs.ArraySteps.{arrayed, group_is, group_within, node_within, taken_arrays, tall, top_counted, top_node}
use Rattle.search_stack.proofs.Steps.{holds_from, keeps}
use Rattle.search_stack.proofs.Taken.{HoldsFrom, good_take, releasable}
use Rattle.search_stack.proofs.array_search.ArraySearch.take_ripe.Goals as goal

pub overflow_sub-top : goal.overflow_sub-top
overflow_sub-top c =
    let ripe = rw (← c.self.view_is) at c.requires in
    omega (arith, ripe.done.some, tall c.self.invariant, c.len-top.ensures, c.self.inside.frames.ok.0)

pub index-frame-requires : goal.index-frame-requires
index-frame-requires c =
    let ripe = rw (← c.self.view_is) at c.requires in
    omega (arith, ripe.done.some, tall c.self.invariant, c.len-top.ensures, c.self.inside.frames.ok.0)

pub index-first-requires : goal.index-first-requires
index-first-requires c =
    let ripe = rw (← c.self.view_is) at c.requires in
    let some : 0 < length c.self.inside.frames.items = omega (arith, ripe.done.some, tall c.self.invariant) in
    let counted : c.len-top.result ≡ length c.self.inside.frames.items = omega (arith, c.len-top.ensures, c.self.inside.frames.ok.0) in
    let tops = top_counted c.self.invariant some counted c.index-frame.ensures in
    omega (arith, node_within c.self.invariant tops, c.self.inside.nodes.ok.0)

pub slice_bounds-nodes_in-count : goal.slice_bounds-nodes_in-count
slice_bounds-nodes_in-count c =
    let ripe = rw (← c.self.view_is) at c.requires in
    let some : 0 < length c.self.inside.frames.items = omega (arith, ripe.done.some, tall c.self.invariant) in
    let counted : c.len-top.result ≡ length c.self.inside.frames.items = omega (arith, c.len-top.ensures, c.self.inside.frames.ok.0) in
    let tops = top_counted c.self.invariant some counted c.index-frame.ensures in
    omega (arith, node_within c.self.invariant tops, ap length c.deref.ensures.value)

pub slice_bounds-nodes_in-start : goal.slice_bounds-nodes_in-start
slice_bounds-nodes_in-start c =
    let ripe = rw (← c.self.view_is) at c.requires in
    let some : 0 < length c.self.inside.frames.items = omega (arith, ripe.done.some, tall c.self.invariant) in
    let counted : c.len-top.result ≡ length c.self.inside.frames.items = omega (arith, c.len-top.ensures, c.self.inside.frames.ok.0) in
    let tops = top_counted c.self.invariant some counted c.index-frame.ensures in
    omega (arith, node_within c.self.invariant tops, ap length c.deref.ensures.value)

pub stamp-requires : goal.stamp-requires
stamp-requires c =
    let ripe = rw (← c.self.view_is) at c.requires in
    let some : 0 < length c.self.inside.frames.items = omega (arith, ripe.done.some, tall c.self.invariant) in
    let counted : c.len-top.result ≡ length c.self.inside.frames.items = omega (arith, c.len-top.ensures, c.self.inside.frames.ok.0) in
    let tops = top_counted c.self.invariant some counted c.index-frame.ensures in
    let rest = take_rest c.deref.result.now c.index-frame.result.now.position ∙ ap (drop c.index-frame.result.now.position) c.deref.ensures.value in
    let group = group_is c.self.invariant tops c.in_ok-group.ensures rest in
    rw (c.deref-2.ensures.value, c.deref_mut.ensures.value) (group_within c.self.invariant group)

pub invariant_of-self : goal.invariant_of-self
invariant_of-self c =
    let ripe = rw (← c.self.view_is) at c.requires in
    let some : 0 < length c.self.inside.frames.items = omega (arith, ripe.done.some, tall c.self.invariant) in
    let counted : c.len-top.result ≡ length c.self.inside.frames.items = omega (arith, c.len-top.ensures, c.self.inside.frames.ok.0) in
    let tops = top_counted c.self.invariant some counted c.index-frame.ensures in
    let rest = take_rest c.deref.result.now c.index-frame.result.now.position ∙ ap (drop c.index-frame.result.now.position) c.deref.ensures.value in
    let group = group_is c.self.invariant tops c.in_ok-group.ensures rest in
    let read = top_node c.self.invariant tops c.index-first.ensures in
    let stamped = rw (c.deref-2.ensures.value, c.deref_mut.ensures.value) at c.stamp.ensures in
    let taken = taken_arrays c.self.invariant read c.index-first.ensures counted group stamped c.truncate-2.ensures.items c.truncate-3.ensures.items c.truncate.ensures.items in
    let back = take_at c.stamp.new.table (drop (length c.stamp.new.table) c.self.inside.places.items) c.self.inside.places.len (stamped.each ∙ sym c.self.inside.places.ok.0) in
    rw back taken.1.1

pub returns-clause-group : goal.returns-clause-group
returns-clause-group c =
    let ripe = rw (← c.self.view_is) at c.requires in
    let some : 0 < length c.self.inside.frames.items = omega (arith, ripe.done.some, tall c.self.invariant) in
    let counted : c.len-top.result ≡ length c.self.inside.frames.items = omega (arith, c.len-top.ensures, c.self.inside.frames.ok.0) in
    let tops = top_counted c.self.invariant some counted c.index-frame.ensures in
    let rest = take_rest c.deref.result.now c.index-frame.result.now.position ∙ ap (drop c.index-frame.result.now.position) c.deref.ensures.value in
    let group = group_is c.self.invariant tops c.in_ok-group.ensures rest in
    rw (← c.self.view_is) group

pub returns-clause-taken : goal.returns-clause-taken
returns-clause-taken c =
    let ripe = rw (← c.self.view_is) at c.requires in
    let some : 0 < length c.self.inside.frames.items = omega (arith, ripe.done.some, tall c.self.invariant) in
    let counted : c.len-top.result ≡ length c.self.inside.frames.items = omega (arith, c.len-top.ensures, c.self.inside.frames.ok.0) in
    let tops = top_counted c.self.invariant some counted c.index-frame.ensures in
    let rest = take_rest c.deref.result.now c.index-frame.result.now.position ∙ ap (drop c.index-frame.result.now.position) c.deref.ensures.value in
    let group = group_is c.self.invariant tops c.in_ok-group.ensures rest in
    let read = top_node c.self.invariant tops c.index-first.ensures in
    let stamped = rw (c.deref-2.ensures.value, c.deref_mut.ensures.value) at c.stamp.ensures in
    let taken = taken_arrays c.self.invariant read c.index-first.ensures counted group stamped c.truncate-2.ensures.items c.truncate-3.ensures.items c.truncate.ensures.items in
    let back = take_at c.stamp.new.table (drop (length c.stamp.new.table) c.self.inside.places.items) c.self.inside.places.len (stamped.each ∙ sym c.self.inside.places.ok.0) in
    rw (← c.self.view_is) (λ k. record { stack = taken.0 k; seen = (ap met_in back ∙ taken.1.0) k })

pub returns-clause-releasable : goal.returns-clause-releasable
returns-clause-releasable c =
    let ripe = rw (← c.self.view_is) at c.requires in
    let some : 0 < length c.self.inside.frames.items = omega (arith, ripe.done.some, tall c.self.invariant) in
    let counted : c.len-top.result ≡ length c.self.inside.frames.items = omega (arith, c.len-top.ensures, c.self.inside.frames.ok.0) in
    let tops = top_counted c.self.invariant some counted c.index-frame.ensures in
    let rest = take_rest c.deref.result.now c.index-frame.result.now.position ∙ ap (drop c.index-frame.result.now.position) c.deref.ensures.value in
    let group = group_is c.self.invariant tops c.in_ok-group.ensures rest in
    let holds = subst (HoldsFrom (arrayed c.self.inside) (position (arrayed c.self.inside) (top (arrayed c.self.inside)))) (sym group) (holds_from (arrayed c.self.inside) (top (arrayed c.self.inside))) in
    rw (← c.self.view_is) (λ lists roots done good. releasable good ripe holds)

pub returns-clause-good : goal.returns-clause-good
returns-clause-good c =
    let ripe = rw (← c.self.view_is) at c.requires in
    let some : 0 < length c.self.inside.frames.items = omega (arith, ripe.done.some, tall c.self.invariant) in
    let counted : c.len-top.result ≡ length c.self.inside.frames.items = omega (arith, c.len-top.ensures, c.self.inside.frames.ok.0) in
    let tops = top_counted c.self.invariant some counted c.index-frame.ensures in
    let rest = take_rest c.deref.result.now c.index-frame.result.now.position ∙ ap (drop c.index-frame.result.now.position) c.deref.ensures.value in
    let group = group_is c.self.invariant tops c.in_ok-group.ensures rest in
    let read = top_node c.self.invariant tops c.index-first.ensures in
    let stamped = rw (c.deref-2.ensures.value, c.deref_mut.ensures.value) at c.stamp.ensures in
    let taken = taken_arrays c.self.invariant read c.index-first.ensures counted group stamped c.truncate-2.ensures.items c.truncate-3.ensures.items c.truncate.ensures.items in
    let holds = subst (HoldsFrom (arrayed c.self.inside) (position (arrayed c.self.inside) (top (arrayed c.self.inside)))) (sym group) (holds_from (arrayed c.self.inside) (top (arrayed c.self.inside))) in
    let new = keeps (arrayed c.self.inside) (top (arrayed c.self.inside)) c.self.invariant.shaped (omega (arith, ripe.done.some)) in
    rw (← c.self.view_is)
    (λ lists roots done good.
    subst (IsGood lists roots (done ++ c.in_ok-group.group.items) false) (sym taken.0) (good_take good ripe holds new))
