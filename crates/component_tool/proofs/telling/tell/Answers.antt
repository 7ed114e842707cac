use Rattle.std.proofs.Common.{inl, inr, arith}
use Rattle.component_tool.specs.End.{end_of}
use Rattle.component_words.specs.Settings.{see_settings}
use Rattle.component_tool.proofs.TextEnds.{read_answered, read_large}
use Rattle.component_tool.proofs.telling.tell.Goals as goal

pub returns-then-len-gt-MOST_BYTES : goal.returns-then-len-gt-MOST_BYTES
returns-then-len-gt-MOST_BYTES g c =
    let read = rw c.as_str.ensures at c.in-Found.ensures in
    inr
    (read_large (see_settings c.args.settings.now) (g.S.Source.seen c.args.source.now) (g.S.Source.seen c.read.new.self) c.read.new.room.items read.answer read.given
    (omega (arith, c.if-len-gt-MOST_BYTES.true, c.len.ensures)))

pub returns : goal.returns
returns g c =
    let read = rw c.as_str.ensures at c.in-Found.ensures in
    elim c.tell_text.ensures [
      | inl none ↦ inl none
      | inr is ↦ inr
          (read_answered (see_settings c.args.settings.now) (g.S.Source.seen c.args.source.now) (g.S.Source.seen c.read.new.self) c.read.new.room.items
          (end_of c.args.settings.now.file c.tell_text.result) read.answer read.given (omega (arith, c.if-len-gt-MOST_BYTES.false, c.len.ensures))
          (rw c.deref.ensures.value at is))
    ]
