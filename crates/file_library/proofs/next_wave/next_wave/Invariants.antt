use Rattle.std.proofs.Common.{[], take}
use Rattle.std.specs.List.{flat_map}
use Rattle.file_library.specs.AskedFile.{see_file, loads_of}
use Rattle.file_library.specs.NextWave.{AddsFiles}
use Rattle.file_library.proofs.next_wave.next_wave.Given as goal

abbrev pub invariant-loop-file : goal.invariant-loop-file
invariant-loop-file l = AddsFiles l.asked.keys l.room [] (flat_map (λ file. loads_of (see_file file).found) (take l.file-index l.files)) l.next.keys
