use Rattle.std.proofs.Common.{◌≡◌, map, take}
use Rattle.call_edges.specs.Called.{see_called}
use Rattle.call_edges.proofs.unresolved.own_names.Given as goal

-- the names so far
abbrev pub invariant-loop-one : goal.invariant-loop-one
invariant-loop-one l = l.names.items ≡ map see_called (take l.one-index l.called)
