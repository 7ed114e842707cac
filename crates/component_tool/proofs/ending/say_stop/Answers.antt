use Rattle.std.proofs.Common.{inl}
use Rattle.std.specs.String.{string_bytes}
use Rattle.tool_run.specs.Lines.{memory_line, unread_line}
use Rattle.tool_run.specs.Run.{Taking, SaidWith}
use Rattle.tool_run.proofs.Writing.{lines_or_wanting}
use Rattle.component_tool.specs.Lines.{program_name, large_line, missing_line}
use Rattle.component_tool.proofs.ending.say_stop.Goals as goal

pub returns-in-Unread : goal.returns-in-Unread
returns-in-Unread g c =
    let taking : Taking = (g.S.Sink.seen c.args.sink.now, g.S.Sink.seen c.say_line.new.sink) in
    rw c.in-Unread.is
    (lines_or_wanting c.unread_line.result string_bytes (unread_line program_name c.args.file.now) (λ bytes. SaidWith bytes 4 c.say_line.result taking)
    (SaidWith (memory_line program_name) 7 c.say_line.result taking) c.unread_line.ensures c.say_line.ensures)

pub returns-in-TooLarge : goal.returns-in-TooLarge
returns-in-TooLarge g c =
    let taking : Taking = (g.S.Sink.seen c.args.sink.now, g.S.Sink.seen c.say_line-in-TooLarge.new.sink) in
    rw c.in-TooLarge.is
    (lines_or_wanting c.large_line.result string_bytes (large_line c.args.file.now) (λ bytes. SaidWith bytes 6 c.say_line-in-TooLarge.result taking)
    (SaidWith (memory_line program_name) 7 c.say_line-in-TooLarge.result taking) c.large_line.ensures c.say_line-in-TooLarge.ensures)

pub returns-in-TooManyEdges : goal.returns-in-TooManyEdges
returns-in-TooManyEdges g c = rw c.in-TooManyEdges.is (inl (rw c.as_bytes.ensures.value at c.say_with.ensures))

pub returns-in-TooManyNodes : goal.returns-in-TooManyNodes
returns-in-TooManyNodes g c = rw c.in-TooManyNodes.is (inl (rw c.as_bytes-in-TooManyNodes.ensures.value at c.say_with-in-TooManyNodes.ensures))

pub returns-in-NoMemory : goal.returns-in-NoMemory
returns-in-NoMemory g c = rw c.in-NoMemory.is (inl (rw c.as_bytes-in-NoMemory.ensures.value at c.say_with-in-NoMemory.ensures))

pub returns-in-NoNode : goal.returns-in-NoNode
returns-in-NoNode g c =
    let taking : Taking = (g.S.Sink.seen c.args.sink.now, g.S.Sink.seen c.say_line-in-NoNode.new.sink) in
    rw c.in-NoNode.is
    (lines_or_wanting c.missing_line.result string_bytes (missing_line c.in-NoNode.root) (λ bytes. SaidWith bytes 2 c.say_line-in-NoNode.result taking)
    (SaidWith (memory_line program_name) 7 c.say_line-in-NoNode.result taking) c.missing_line.ensures c.say_line-in-NoNode.ensures)
