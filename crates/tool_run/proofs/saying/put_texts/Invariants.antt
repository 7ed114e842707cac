use Rattle.std.proofs.Common.{◌≡◌, ◌≤◌, take}
use Rattle.tool_run.specs.Sink.{more_taken}
use Rattle.tool_run.specs.Say.{concatenated}
use Rattle.tool_run.proofs.saying.put_texts.Given as goal

-- the texts so far were taken
abbrev pub invariant-loop-text : goal.invariant-loop-text
invariant-loop-text g l =
    ((g.S.Sink.seen l.sink).taken ≡ more_taken (g.S.Sink.seen l.initial.sink).taken (concatenated (take l.text-index l.texts)))
    × ((g.S.Sink.seen l.initial.sink).faults ≤ (g.S.Sink.seen l.sink).faults)
