use Rattle.std.proofs.Common.{◌≡◌, take, sum_by}
use Rattle.file_library.specs.Answers.{bytes_of}
use Rattle.file_library.specs.AskedFile.{see_file, answered_of}
use Rattle.file_library.proofs.asking.bytes_in.Given as goal

abbrev pub invariant-loop-file : goal.invariant-loop-file
invariant-loop-file l = l.total ≡ sum_by (λ file. bytes_of (answered_of (see_file file))) (take l.file-index l.files)
