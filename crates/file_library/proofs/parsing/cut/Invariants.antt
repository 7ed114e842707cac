use Rattle.std.proofs.Common.{◌≡◌, ◌+◌, ◌*◌, ◌++◌, length}
use Rattle.file_library.specs.AskedFile.{items_in}
use Rattle.file_library.proofs.parsing.cut.Given as goal

abbrev pub invariant-loop-rest : goal.invariant-loop-rest
invariant-loop-rest l = (items_in l.lists.items ++ l.rest.items ≡ l.fn.answers.items) × (length l.lists.items * l.size + length l.rest.items ≡ length l.fn.answers.items)

abbrev pub decreases-loop-rest : goal.decreases-loop-rest
decreases-loop-rest l = length l.rest.items
