use Rattle.std.proofs.Common.{◌≡◌, ◌++◌, map, take}
use Rattle.std.specs.String.{string_bytes}
use Rattle.module_table.specs.FileName.{with_slashes}
use Rattle.module_table.proofs.file_name.push_segments.Given as goal

-- the segments so far are added
abbrev pub invariant-loop-part : goal.invariant-loop-part
invariant-loop-part l =
    string_bytes l.name ≡ string_bytes l.initial.name ++ with_slashes (map (λ part. part.now) (take l.part-index l.parts))
