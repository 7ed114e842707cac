-- Each load adds its file.
use Rattle.std.proofs.Common.{◌∷◌, [], arith, subst, ◌∙◌}
use Rattle.std.proofs.lemmas.List.Concat.{flat_map_single}
use Rattle.module_table.specs.declared.load.Load.{Load}
use Rattle.file_library.specs.NextWave.{AddsFiles}
use Rattle.file_library.proofs.NextWaveLemmas.{none_added, adds_more, whole_list}
use Rattle.file_library.proofs.next_wave.add_loads.Goals as goal

pub loop-load-init : goal.loop-load-init
loop-load-init c = none_added c.args.asked.now.keys c.args.room c.args.next.now.keys

pub loop-load-preserved : goal.loop-load-preserved
loop-load-preserved c =
    adds_more c.args.asked.now.keys c.args.room (λ (load : Load). load.file ∷ []) c.args.loads.now c.loop-load.load-index c.load-item.result c.args.next.now.keys c.loop-load.next.keys
    c.add_file.new.next.keys (omega (arith, c.loop-load-test.true)) c.load-item.is c.loop-load.invariant c.in_ok-add_file.ensures

pub returns : goal.returns
returns c =
    subst (λ files. AddsFiles c.args.asked.now.keys c.args.room c.args.next.now.keys files c.loop-load.next.keys)
    (whole_list (λ (load : Load). load.file ∷ []) c.args.loads.now c.loop-load.load-index (omega (arith, c.loop-load-test.false)) ∙ flat_map_single (λ (load : Load). load.file) c.args.loads.now)
    c.loop-load.invariant
