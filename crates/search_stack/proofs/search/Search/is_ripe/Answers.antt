use Rattle.std.proofs.Common.{◌<◌, ◌∙◌, length, vec_len, sym, arith, true≢false, eqb-true}
use Rattle.std.proofs.lemmas.Bool.{eqb-false, eq-eqb}
use Rattle.search_stack.proofs.FieldLaws.{size_is, height_is, done_read, all_from_done}
use Rattle.search_stack.proofs.FieldSteps.{some_top_read, entry_read}
use Rattle.search_stack.proofs.search.Search.is_ripe.Goals as goal

pub returns-then-is_empty-clause-ripe : goal.returns-then-is_empty-clause-ripe
returns-then-is_empty-clause-ripe c =
    let none = eqb-true (vec_len c.self.inside.frames) 0 (sym c.if-is_empty.ensures) in
    rw (← c.self.view_is) (
      λ yes. absurd (true≢false (sym yes)),
      λ ripe.
          absurd
          (omega
          (arith, ripe.done.some, none, c.self.inside.frames.ok.0, height_is c.self.inside.opened.entries c.self.inside.frames.items)),
    )

pub index-opened-requires : goal.index-opened-requires
index-opened-requires c =
    let some : 0 < length c.self.inside.frames.items =
    omega (arith, eqb-false (vec_len c.self.inside.frames) 0 (sym c.if-is_empty.ensures), c.self.inside.frames.ok.0) in
    let tops = some_top_read c.self.invariant some c.deref.ensures.value c.top_frame-frame.ensures in
    omega (arith, tops.within, size_is c.self.inside.opened.entries c.self.inside.frames.items)

pub returns-then-opened-len-clause-ripe : goal.returns-then-opened-len-clause-ripe
returns-then-opened-len-clause-ripe c =
    let some : 0 < length c.self.inside.frames.items =
    omega (arith, eqb-false (vec_len c.self.inside.frames) 0 (sym c.if-is_empty.ensures), c.self.inside.frames.ok.0) in
    let tops = some_top_read c.self.invariant some c.deref.ensures.value c.top_frame-frame.ensures in
    let read = entry_read c.self.invariant tops c.index-opened.ensures in
    rw (← c.self.view_is) (
      λ yes. absurd (true≢false (sym yes)),
      λ ripe.
          absurd
          (c.if-opened-len.true
          (omega (arith, all_from_done read ripe.done, c.len.ensures, c.index-opened.result.now.succs.ok.0))),
    )

pub returns-clause-ripe : goal.returns-clause-ripe
returns-clause-ripe c =
    let some : 0 < length c.self.inside.frames.items =
    omega (arith, eqb-false (vec_len c.self.inside.frames) 0 (sym c.if-is_empty.ensures), c.self.inside.frames.ok.0) in
    let tops = some_top_read c.self.invariant some c.deref.ensures.value c.top_frame-frame.ensures in
    let read = entry_read c.self.invariant tops c.index-opened.ensures in
    rw (← c.self.view_is) (
      λ yes.
          record {
            done =
                done_read read (omega (arith, c.if-opened-len.false, c.len.ensures, c.index-opened.result.now.succs.ok.0));
            low_is = tops.low_is ∙ eqb-true c.top_frame-frame.result.low c.top_frame-frame.result.position yes ∙ sym tops.position_is;
          },
      λ ripe.
          eq-eqb c.top_frame-frame.result.low c.top_frame-frame.result.position (sym tops.low_is ∙ ripe.low_is ∙ tops.position_is),
    )
