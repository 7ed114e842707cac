use Rattle.std.proofs.Common.{◌∷◌, [], take}
use Rattle.std.specs.List.{flat_map}
use Rattle.file_library.specs.NextWave.{AddsFiles}
use Rattle.file_library.proofs.next_wave.add_loads.Given as goal

abbrev pub invariant-loop-load : goal.invariant-loop-load
invariant-loop-load l = AddsFiles l.asked.keys l.room l.initial.next.keys (flat_map (λ load. load.file ∷ []) (take l.load-index l.loads)) l.next.keys
