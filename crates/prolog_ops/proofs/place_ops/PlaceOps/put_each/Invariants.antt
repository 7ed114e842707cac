use Rattle.std.proofs.Common.{◌≡◌, map, take}
use Rattle.prolog_ops.specs.ByName.{op_at, with_each}
use Rattle.prolog_ops.proofs.place_ops.PlaceOps.put_each.Given as goal

abbrev pub invariant-loop-name : goal.invariant-loop-name
invariant-loop-name l = op_at l.self ≡ with_each (op_at l.initial.self) (map (λ name. name.now) (take l.name-index l.names)) (record { priority = l.priority; kind = l.kind })
