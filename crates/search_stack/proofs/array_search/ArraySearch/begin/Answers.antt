use Rattle.std.proofs.Common.{refl, ap, sym, subst, length, arith}
use Rattle.std.specs.Prelude.{true}
use Rattle.search_stack.specs.ArrayFields.{met_in}
use Rattle.search_stack.specs.GoodSearch.{IsGood}
use Rattle.search_stack.specs.Search.{IsLastBegun}
use Rattle.search_stack.specs.Stack.{Stack}
use Rattle.search_stack.proofs.ArraySteps.{all_begun, begun_arrays, more_within, next_read, node_within, some_frames, to_begin, top_begins, top_node, top_sliced}
use Rattle.search_stack.proofs.Edges.{good_begin}
use Rattle.search_stack.proofs.FieldLaws.{last_begun}
use Rattle.search_stack.proofs.array_search.ArraySearch.begin.Goals as goal

pub top_frame-position-requires : goal.top_frame-position-requires
top_frame-position-requires c =
    let some = rw (← c.self.view_is) at c.requires.some in
    omega (arith, some_frames c.self.invariant some, ap length c.deref.ensures.value)

pub index-entry-requires : goal.index-entry-requires
index-entry-requires c =
    let some = some_frames c.self.invariant (rw (← c.self.view_is) at c.requires.some) in
    let tops = top_sliced c.self.invariant some c.deref.ensures.value c.top_frame-position.ensures in
    omega (arith, node_within c.self.invariant tops, c.self.inside.nodes.ok.0)

pub returns-then-entry-clause-next : goal.returns-then-entry-clause-next
returns-then-entry-clause-next c =
    let some = some_frames c.self.invariant (rw (← c.self.view_is) at c.requires.some) in
    let tops = top_sliced c.self.invariant some c.deref.ensures.value c.top_frame-position.ensures in
    let all = all_begun c.self.invariant (top_node c.self.invariant tops c.index-entry.ensures) c.if-entry.true in
    rw (← c.self.view_is) (sym all.1)

pub returns-then-entry-clause-done : goal.returns-then-entry-clause-done
returns-then-entry-clause-done c =
    let some = some_frames c.self.invariant (rw (← c.self.view_is) at c.requires.some) in
    let tops = top_sliced c.self.invariant some c.deref.ensures.value c.top_frame-position.ensures in
    let all = all_begun c.self.invariant (top_node c.self.invariant tops c.index-entry.ensures) c.if-entry.true in
    rw (← c.self.view_is) all.0

pub overflow_add-entry : goal.overflow_add-entry
overflow_add-entry c =
    let some = some_frames c.self.invariant (rw (← c.self.view_is) at c.requires.some) in
    let tops = top_sliced c.self.invariant some c.deref.ensures.value c.top_frame-position.ensures in
    let read = top_node c.self.invariant tops c.index-entry.ensures in
    omega (arith, more_within c.self.invariant read c.if-entry.false, read.fits, c.self.inside.succs.ok.0, c.self.inside.succs.small)

pub index_mut-requires : goal.index_mut-requires
index_mut-requires c =
    let some = some_frames c.self.invariant (rw (← c.self.view_is) at c.requires.some) in
    let tops = top_sliced c.self.invariant some c.deref.ensures.value c.top_frame-position.ensures in
    omega (arith, node_within c.self.invariant tops, c.self.inside.nodes.ok.0)

pub overflow_add-entry-2 : goal.overflow_add-entry-2
overflow_add-entry-2 c =
    let some = some_frames c.self.invariant (rw (← c.self.view_is) at c.requires.some) in
    let tops = top_sliced c.self.invariant some c.deref.ensures.value c.top_frame-position.ensures in
    let read = top_node c.self.invariant tops c.index-entry.ensures in
    omega (arith, more_within c.self.invariant read c.if-entry.false, read.fits, c.self.inside.succs.ok.0, c.self.inside.succs.small)

pub index-requires : goal.index-requires
index-requires c =
    let some = some_frames c.self.invariant (rw (← c.self.view_is) at c.requires.some) in
    let tops = top_sliced c.self.invariant some c.deref.ensures.value c.top_frame-position.ensures in
    let read = top_node c.self.invariant tops c.index-entry.ensures in
    omega (arith, more_within c.self.invariant read c.if-entry.false, read.fits, c.self.inside.succs.ok.0)

pub invariant_of-self : goal.invariant_of-self
invariant_of-self c =
    let some = some_frames c.self.invariant (rw (← c.self.view_is) at c.requires.some) in
    let tops = top_sliced c.self.invariant some c.deref.ensures.value c.top_frame-position.ensures in
    let read = top_node c.self.invariant tops c.index-entry.ensures in
    let more = more_within c.self.invariant read c.if-entry.false in
    (begun_arrays c.self.invariant read more c.index-entry.ensures c.index_mut.ensures.value).1

pub returns-clause-next : goal.returns-clause-next
returns-clause-next c =
    let some = some_frames c.self.invariant (rw (← c.self.view_is) at c.requires.some) in
    let tops = top_sliced c.self.invariant some c.deref.ensures.value c.top_frame-position.ensures in
    let read = top_node c.self.invariant tops c.index-entry.ensures in
    let more = more_within c.self.invariant read c.if-entry.false in
    rw (← c.self.view_is) (sym (next_read c.self.invariant read more c.index.ensures).0)

pub returns-clause-begun : goal.returns-clause-begun
returns-clause-begun c =
    let some = some_frames c.self.invariant (rw (← c.self.view_is) at c.requires.some) in
    let tops = top_sliced c.self.invariant some c.deref.ensures.value c.top_frame-position.ensures in
    let read = top_node c.self.invariant tops c.index-entry.ensures in
    let more = more_within c.self.invariant read c.if-entry.false in
    let begun = begun_arrays c.self.invariant read more c.index-entry.ensures c.index_mut.ensures.value in
    rw (← c.self.view_is) (ap (λ (stack : Stack). record { stack = stack; seen = met_in c.self.inside.places.items }) begun.0)

pub returns-clause-last : goal.returns-clause-last
returns-clause-last c =
    let some = some_frames c.self.invariant (rw (← c.self.view_is) at c.requires.some) in
    let tops = top_sliced c.self.invariant some c.deref.ensures.value c.top_frame-position.ensures in
    let read = top_node c.self.invariant tops c.index-entry.ensures in
    let more = more_within c.self.invariant read c.if-entry.false in
    let begun = begun_arrays c.self.invariant read more c.index-entry.ensures c.index_mut.ensures.value in
    subst (λ stack. IsLastBegun stack c.index.result.now) (sym begun.0)
    (last_begun c.index.result.now tops.some (top_begins c.self.invariant read) (next_read c.self.invariant read more c.index.ensures).1)

pub returns-clause-good : goal.returns-clause-good
returns-clause-good c =
    let some = some_frames c.self.invariant (rw (← c.self.view_is) at c.requires.some) in
    let tops = top_sliced c.self.invariant some c.deref.ensures.value c.top_frame-position.ensures in
    let read = top_node c.self.invariant tops c.index-entry.ensures in
    let more = more_within c.self.invariant read c.if-entry.false in
    let begun = begun_arrays c.self.invariant read more c.index-entry.ensures c.index_mut.ensures.value in
    rw (← c.self.view_is)
    (λ lists roots done good.
    subst (IsGood lists roots done true) (sym begun.0)
    (good_begin good (top_begins c.self.invariant read) tops.some refl (to_begin c.self.invariant read more)))
