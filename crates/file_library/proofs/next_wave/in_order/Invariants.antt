use Rattle.std.proofs.Common.{◌≡◌, ◌++◌}
use Rattle.file_library.proofs.next_wave.in_order.Given as goal

abbrev pub invariant-loop-name : goal.invariant-loop-name
invariant-loop-name l = l.names.items ++ l.name-iterator ≡ l.set.keys
