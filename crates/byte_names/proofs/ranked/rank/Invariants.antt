use Rattle.byte_names.specs.Names.{names_of}
use Rattle.byte_names.proofs.Ranking.{AreRanked}
use Rattle.byte_names.proofs.ranked.rank.Given as goal

-- the names of the keys so far have ranks
abbrev pub invariant-loop-key : goal.invariant-loop-key
invariant-loop-key l = AreRanked (names_of l.names) l.key-items l.key-index (names_of l.different.items) l.ranks.items
