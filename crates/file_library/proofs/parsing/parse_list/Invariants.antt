use Rattle.std.proofs.Common.{◌≡◌, ◌++◌}
use Rattle.std.specs.List.{AllZip}
use Rattle.file_library.specs.AskedFile.{IsParsed}
use Rattle.file_library.proofs.parsing.parse_list.Given as goal

abbrev pub invariant-loop-answer : goal.invariant-loop-answer
invariant-loop-answer g l = (l.yielded ++ l.answer-iterator.rest.items ≡ l.fn.list.items) × AllZip IsParsed l.yielded l.files.items
