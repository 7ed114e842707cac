use Rattle.std.proofs.Common.{◌≡◌, take}
use Rattle.std.specs.List.{flat_map}
use Rattle.call_edges.proofs.join_lists.join_lists.Given as goal

-- the lists so far
abbrev pub invariant-loop-list : goal.invariant-loop-list
invariant-loop-list g l = l.all.items ≡ flat_map (λ list. list.items) (take l.list-index l.each)
