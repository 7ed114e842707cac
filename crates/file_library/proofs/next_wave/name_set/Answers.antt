-- Each name is added.
use Rattle.std.proofs.Common.{◌∷◌, [], arith, subst, ◌∙◌}
use Rattle.file_library.specs.NextWave.{AddsFiles}
use Rattle.file_library.proofs.NextWaveLemmas.{adds_more, whole_list, single_names}
use Rattle.file_library.proofs.next_wave.name_set.Goals as goal

pub loop-name-preserved : goal.loop-name-preserved
loop-name-preserved c =
    adds_more c.new-asked.result.keys c.args.room (λ name. name ∷ []) c.args.names.now c.loop-name.name-index c.name-item.result [] c.loop-name.set.keys c.add_file.new.next.keys
    (omega (arith, c.loop-name-test.true)) c.name-item.is c.loop-name.invariant c.in_ok-add_file.ensures

pub returns : goal.returns
returns c =
    subst (λ asked. AddsFiles asked c.args.room [] c.args.names.now c.loop-name.set.keys) c.new-asked.ensures.empty
    (subst (λ files. AddsFiles c.new-asked.result.keys c.args.room [] files c.loop-name.set.keys)
    (whole_list (λ name. name ∷ []) c.args.names.now c.loop-name.name-index (omega (arith, c.loop-name-test.false)) ∙ single_names c.args.names.now)
    c.loop-name.invariant)
