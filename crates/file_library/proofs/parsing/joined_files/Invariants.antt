use Rattle.std.proofs.Common.{List}
use Rattle.std.specs.List.{AllZip, flat_map}
use Rattle.file_library.specs.declared.answer.Answer.{Answer}
use Rattle.file_library.specs.AskedFile.{IsParsed, AreParsed}
use Rattle.file_library.proofs.parsing.joined_files.Given as goal

abbrev pub invariant-loop-list : goal.invariant-loop-list
invariant-loop-list l = (answers : List (List Answer)) → AllZip AreParsed answers l.yielded → AllZip IsParsed (flat_map (λ list. list) answers) l.all.items
