use Rattle.std.proofs.Common.{◌≡◌, [], map, fold}
use Rattle.module_table.specs.FileName.{kept_with, last_first}
use Rattle.module_table.proofs.file_name.kept_segments.Given as goal

-- what the segments so far leave
abbrev pub invariant-loop-segment : goal.invariant-loop-segment
invariant-loop-segment l = last_first l.kept.items ≡ fold (kept_with l.absolute) [] (map (λ segment. segment.now) l.yielded)
