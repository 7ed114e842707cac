use Rattle.std.proofs.Common.{◌≡◌, ◌++◌, length}
use denote.Text.{Utf8}
use denote.Shadow.{shadow}
use Rattle.std.specs.String.{string_bytes}
use Rattle.module_table.specs.FileName.{folder}
use Rattle.module_table.proofs.file_name.push_folder.Given as goal

-- the folder of what is left, added to the path so far, gives the folder of the name
abbrev pub invariant-loop-segment : goal.invariant-loop-segment
invariant-loop-segment l =
    shadow (Utf8 l.rest) × (string_bytes l.path ++ folder l.rest ≡ string_bytes l.initial.path ++ folder l.initial.rest)

abbrev pub decreases-loop-segment : goal.decreases-loop-segment
decreases-loop-segment l = length l.rest
