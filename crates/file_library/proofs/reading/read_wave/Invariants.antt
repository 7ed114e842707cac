use Rattle.std.proofs.Common.{map}
use Rattle.file_library.specs.Library.{IsLater}
use Rattle.file_library.specs.Answers.{see_answer}
use Rattle.file_library.proofs.AnswersJoined.{ReadSoFar}
use Rattle.file_library.proofs.reading.read_wave.Given as goal

abbrev pub invariant-loop-name : goal.invariant-loop-name
invariant-loop-name g l = IsLater (g.L.Library.seen l.initial.library) (g.L.Library.seen l.library)
    × ReadSoFar (g.L.Library.seen l.initial.library) (g.L.Library.seen l.library) l.wave l.total l.read (map see_answer l.answers.items) l.name-index
