use Rattle.blocked_table.specs.Words.{AreWritten}
use Rattle.blocked_table.proofs.words.write_words.Given as goal

abbrev pub invariant-positions : goal.invariant-positions
invariant-positions l = AreWritten l.search.stack l.from l.position l.word l.fn.holders.items l.holders.items
