use Rattle.std.proofs.Common.{}
use Rattle.std.specs.String.{string_bytes}
use Rattle.tool_run.specs.Lines.{memory_line, missing_line, unread_line}
use Rattle.tool_run.specs.Run.{Taking, SaidWith}
use Rattle.tool_run.proofs.Writing.{lines_or_wanting}
use Rattle.tool_run.proofs.ending.say_stop.Goals as goal

pub returns-in-NoPredicate : goal.returns-in-NoPredicate
returns-in-NoPredicate g c =
    let taking : Taking = (g.S.Sink.seen c.args.sink.now, g.S.Sink.seen c.say_lines-in-NoPredicate.new.sink) in
    rw c.in-NoPredicate.is
    (lines_or_wanting c.missing_line.result string_bytes (missing_line g.T.Tool.is.name c.in-NoPredicate.root)
    (λ bytes. SaidWith bytes 2 c.say_lines-in-NoPredicate.result taking) (SaidWith (memory_line g.T.Tool.is.name) 7 c.say_lines-in-NoPredicate.result taking)
    (rw c.name.ensures at c.missing_line.ensures) c.say_lines-in-NoPredicate.ensures)

pub returns-in-ReadFault : goal.returns-in-ReadFault
returns-in-ReadFault g c =
    let taking : Taking = (g.S.Sink.seen c.args.sink.now, g.S.Sink.seen c.say_lines-in-ReadFault.new.sink) in
    rw c.in-ReadFault.is
    (lines_or_wanting c.unread_line.result string_bytes (unread_line g.T.Tool.is.name c.in-ReadFault.name)
    (λ bytes. SaidWith bytes 4 c.say_lines-in-ReadFault.result taking) (SaidWith (memory_line g.T.Tool.is.name) 7 c.say_lines-in-ReadFault.result taking)
    (rw c.name-in-ReadFault.ensures at c.unread_line.ensures) c.say_lines-in-ReadFault.ensures)
