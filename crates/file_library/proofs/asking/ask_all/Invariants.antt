use Rattle.std.proofs.Common.{◌-◌, map, length}
use Rattle.file_library.specs.declared.limits.TheConstants.{MOST_FILES}
use Rattle.file_library.specs.Library.{IsLater}
use Rattle.file_library.specs.AskedFile.{see_file}
use Rattle.file_library.proofs.AskedSoFar.{AskedSoFar}
use Rattle.file_library.proofs.asking.ask_all.Given as goal

abbrev pub invariant-loop-alloc : goal.invariant-loop-alloc
invariant-loop-alloc g l = IsLater (g.L.Library.seen l.initial.library) (g.L.Library.seen l.library)
    × AskedSoFar (g.L.Library.seen l.initial.library) (g.L.Library.seen l.library) l.roots l.total (map see_file l.files.items) l.known.keys l.wave.keys

abbrev pub decreases-loop-alloc : goal.decreases-loop-alloc
decreases-loop-alloc g l = MOST_FILES - length l.files.items
