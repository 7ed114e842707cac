use Rattle.std.proofs.Common.{◌+◌, refl, ap, sym, subst, length, arith}
use Rattle.std.specs.Prelude.{true}
use Rattle.search_stack.specs.declared.search.Opened.{Opened}
use Rattle.search_stack.specs.GoodSearch.{IsGood}
use Rattle.search_stack.specs.Search.{IsLastBegun}
use Rattle.search_stack.specs.Stack.{Stack}
use Rattle.search_stack.proofs.Edges.{good_begin}
use Rattle.search_stack.proofs.FieldLaws.{size_is, some_frames, done_read, next_none, next_some, node_is_last, last_begun}
use Rattle.search_stack.proofs.FieldSteps.{top_read, entry_read, one_more}
use Rattle.indexmap.proofs.CallerLemmas.{index_map_len-with_value_at}
use Rattle.search_stack.proofs.search.Search.begin.Goals as goal

pub top_frame-position-requires : goal.top_frame-position-requires
top_frame-position-requires c =
    let some = rw (← c.self.view_is) at c.requires.some in
    omega (arith, some_frames c.self.inside.opened.entries c.self.inside.frames.items c.self.invariant.shaped some, ap length c.deref.ensures.value)

pub index-opened-requires : goal.index-opened-requires
index-opened-requires c =
    let tops = top_read c.self.invariant (rw (← c.self.view_is) at c.requires.some) c.deref.ensures.value c.top_frame-position.ensures in
    omega (arith, tops.within, size_is c.self.inside.opened.entries c.self.inside.frames.items)

pub returns-then-opened-len-clause-next : goal.returns-then-opened-len-clause-next
returns-then-opened-len-clause-next c =
    let tops = top_read c.self.invariant (rw (← c.self.view_is) at c.requires.some) c.deref.ensures.value c.top_frame-position.ensures in
    rw (← c.self.view_is)
    (sym (next_none (entry_read c.self.invariant tops c.index-opened.ensures) (omega (arith, c.if-opened-len.true, c.len.ensures, c.index-opened.result.now.succs.ok.0))))

pub returns-then-opened-len-clause-done : goal.returns-then-opened-len-clause-done
returns-then-opened-len-clause-done c =
    let tops = top_read c.self.invariant (rw (← c.self.view_is) at c.requires.some) c.deref.ensures.value c.top_frame-position.ensures in
    rw (← c.self.view_is)
    (done_read (entry_read c.self.invariant tops c.index-opened.ensures) (omega (arith, c.if-opened-len.true, c.len.ensures, c.index-opened.result.now.succs.ok.0)))

pub index-node-requires : goal.index-node-requires
index-node-requires c =
    let tops = top_read c.self.invariant (rw (← c.self.view_is) at c.requires.some) c.deref.ensures.value c.top_frame-position.ensures in
    let read = entry_read c.self.invariant tops c.index-opened.ensures in
    let begun = one_more c.self.invariant read c.index-opened.ensures c.index-opened.ensures c.len.ensures c.if-opened-len.false in
    omega (arith, begun.more, c.index-opened.result.now.succs.ok.0)

pub index_mut-opened-requires : goal.index_mut-opened-requires
index_mut-opened-requires c =
    let tops = top_read c.self.invariant (rw (← c.self.view_is) at c.requires.some) c.deref.ensures.value c.top_frame-position.ensures in
    omega (arith, tops.within, size_is c.self.inside.opened.entries c.self.inside.frames.items)

pub overflow_add-opened : goal.overflow_add-opened
overflow_add-opened c =
    let tops = top_read c.self.invariant (rw (← c.self.view_is) at c.requires.some) c.deref.ensures.value c.top_frame-position.ensures in
    let read = entry_read c.self.invariant tops c.index-opened.ensures in
    let begun = one_more c.self.invariant read c.index-opened.ensures c.index_mut-opened.ensures.value c.len.ensures c.if-opened-len.false in
    omega (arith, begun.more, c.len.ensures, c.len.type_inv, c.index-opened.result.now.succs.ok.0, ap (λ (o : Opened). o.begun) begun.same)

pub invariant_of-self : goal.invariant_of-self
invariant_of-self c =
    let tops = top_read c.self.invariant (rw (← c.self.view_is) at c.requires.some) c.deref.ensures.value c.top_frame-position.ensures in
    let read = entry_read c.self.invariant tops c.index-opened.ensures in
    let begun = one_more c.self.invariant read c.index-opened.ensures c.index_mut-opened.ensures.value c.len.ensures c.if-opened-len.false in
    record {
      shaped = begun.shaped;
      entry_room = c.self.invariant.entry_room;
      frame_room = c.self.invariant.frame_room;
      small =
          omega (
            arith,
            c.self.invariant.small,
            index_map_len-with_value_at c.self.inside.opened c.top_frame-position.result.position
                (record { succs = c.index_mut-opened.result.now.succs; begun = c.index_mut-opened.result.now.begun + 1 }),
          );
    }

pub returns-clause-next : goal.returns-clause-next
returns-clause-next c =
    let tops = top_read c.self.invariant (rw (← c.self.view_is) at c.requires.some) c.deref.ensures.value c.top_frame-position.ensures in
    let read = entry_read c.self.invariant tops c.index-opened.ensures in
    let begun = one_more c.self.invariant read c.index-opened.ensures c.index-opened.ensures c.len.ensures c.if-opened-len.false in
    rw (← c.self.view_is) (sym (next_some c.index-node.result.now read begun.more c.index-node.ensures))

pub returns-clause-begun : goal.returns-clause-begun
returns-clause-begun c =
    let tops = top_read c.self.invariant (rw (← c.self.view_is) at c.requires.some) c.deref.ensures.value c.top_frame-position.ensures in
    let read = entry_read c.self.invariant tops c.index-opened.ensures in
    let begun = one_more c.self.invariant read c.index-opened.ensures c.index_mut-opened.ensures.value c.len.ensures c.if-opened-len.false in
    rw (← c.self.view_is)
    (ap (λ (stack : Stack). record { stack = stack; wanted = c.self.inside.wanted; spare = c.self.inside.spare }) begun.is)

pub returns-clause-last : goal.returns-clause-last
returns-clause-last c =
    let tops = top_read c.self.invariant (rw (← c.self.view_is) at c.requires.some) c.deref.ensures.value c.top_frame-position.ensures in
    let read = entry_read c.self.invariant tops c.index-opened.ensures in
    let begun = one_more c.self.invariant read c.index-opened.ensures c.index_mut-opened.ensures.value c.len.ensures c.if-opened-len.false in
    subst (λ stack. IsLastBegun stack c.index-node.result.now) (sym begun.is)
    (last_begun c.index-node.result.now tops.some begun.begins (node_is_last c.index-node.result.now read begun.more c.index-node.ensures))

pub returns-clause-good : goal.returns-clause-good
returns-clause-good c =
    let tops = top_read c.self.invariant (rw (← c.self.view_is) at c.requires.some) c.deref.ensures.value c.top_frame-position.ensures in
    let read = entry_read c.self.invariant tops c.index-opened.ensures in
    let begun = one_more c.self.invariant read c.index-opened.ensures c.index_mut-opened.ensures.value c.len.ensures c.if-opened-len.false in
    rw (← c.self.view_is)
    (λ lists roots done good.
    subst (IsGood lists roots done true) (sym begun.is) (good_begin good begun.begins tops.some refl begun.to_begin))
