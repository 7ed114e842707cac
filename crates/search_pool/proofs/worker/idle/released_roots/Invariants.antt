use Rattle.std.proofs.Common.{take}
use Rattle.std.specs.Prelude.{All}
use Rattle.graph_law.specs.Classes.{HasMember}
use Rattle.search_pool.proofs.worker.idle.released_roots.Given as goal

-- the roots before this one are released
abbrev pub invariant-loop-index : goal.invariant-loop-index
invariant-loop-index l = All (λ root. HasMember l.book.groups root) (take l.index l.book.roots)
