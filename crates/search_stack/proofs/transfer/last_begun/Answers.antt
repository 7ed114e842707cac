use Rattle.std.proofs.Common.{length, sym, arith, eqb-true}
use Rattle.search_stack.proofs.FieldLaws.{size_is, tops_read, top_holds, value_read}
use Rattle.search_stack.proofs.Transfers.{some_from_not_empty, last_none, last_within, last_some}
use Rattle.search_stack.proofs.transfer.last_begun.Goals as goal

pub returns-then-is_empty : goal.returns-then-is_empty
returns-then-is_empty c = sym (last_none c.args.opened.now.entries c.args.frames.now (eqb-true (length c.args.frames.now) 0 (sym c.if-is_empty.ensures)))

pub index-opened-requires : goal.index-opened-requires
index-opened-requires c =
    let some = some_from_not_empty c.args.frames.now (sym c.if-is_empty.ensures) in
    let tops = tops_read c.args.opened.now.entries c.args.frames.now c.top_frame-frame.result (record { position = 0; low = 0 }) c.requires.shaped some c.top_frame-frame.ensures in
    omega (arith, tops.within, size_is c.args.opened.now.entries c.args.frames.now)

pub overflow_sub-opened : goal.overflow_sub-opened
overflow_sub-opened c =
    let some = some_from_not_empty c.args.frames.now (sym c.if-is_empty.ensures) in
    let tops = tops_read c.args.opened.now.entries c.args.frames.now c.top_frame-frame.result (record { position = 0; low = 0 }) c.requires.shaped some c.top_frame-frame.ensures in
    let read =
    top_holds tops
    (value_read c.args.opened.now.entries c.args.frames.now c.top_frame-frame.result.position c.index-opened.result.now c.index-opened.ensures) in
    omega (arith, read.begun_is, c.requires.begins some)

pub index-requires : goal.index-requires
index-requires c =
    let some = some_from_not_empty c.args.frames.now (sym c.if-is_empty.ensures) in
    let tops = tops_read c.args.opened.now.entries c.args.frames.now c.top_frame-frame.result (record { position = 0; low = 0 }) c.requires.shaped some c.top_frame-frame.ensures in
    let read =
    top_holds tops
    (value_read c.args.opened.now.entries c.args.frames.now c.top_frame-frame.result.position c.index-opened.result.now c.index-opened.ensures) in
    omega (arith, read.begun_is, c.requires.begins some, last_within c.requires.shaped read, c.index-opened.result.now.succs.ok.0)

pub returns : goal.returns
returns c =
    let some = some_from_not_empty c.args.frames.now (sym c.if-is_empty.ensures) in
    let tops = tops_read c.args.opened.now.entries c.args.frames.now c.top_frame-frame.result (record { position = 0; low = 0 }) c.requires.shaped some c.top_frame-frame.ensures in
    let read =
    top_holds tops
    (value_read c.args.opened.now.entries c.args.frames.now c.top_frame-frame.result.position c.index-opened.result.now c.index-opened.ensures) in
    sym
    (last_some c.index.result.now read (omega (arith, last_within c.requires.shaped read, read.begun_is, c.requires.begins some)) c.index.ensures)
