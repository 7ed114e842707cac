use Rattle.std.proofs.Common.{◌∷◌, [], take}
use Rattle.std.specs.List.{flat_map}
use Rattle.file_library.specs.NextWave.{AddsFiles}
use Rattle.file_library.proofs.next_wave.name_set.Given as goal

abbrev pub invariant-loop-name : goal.invariant-loop-name
invariant-loop-name l = AddsFiles l.asked.keys l.room [] (flat_map (λ name. name ∷ []) (take l.name-index l.names)) l.set.keys
