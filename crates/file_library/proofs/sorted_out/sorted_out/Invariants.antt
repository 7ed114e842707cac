use Rattle.std.proofs.Common.{◌≡◌, ◌++◌, map}
use Rattle.file_library.specs.AskedFile.{see_file}
use Rattle.file_library.specs.SortedOut.{AreSortedOut}
use Rattle.file_library.proofs.sorted_out.sorted_out.Given as goal

abbrev pub invariant-loop-file : goal.invariant-loop-file
invariant-loop-file l = (l.yielded ++ l.file-iterator.rest.items ≡ l.fn.files.items) × AreSortedOut l.roots (map see_file l.yielded) l.out
