-- The loads of each file are added.
use Rattle.std.proofs.Common.{[], arith, subst, ◌∙◌}
use Rattle.file_library.specs.declared.asked_file.AskedFile.{AskedFile}
use Rattle.file_library.specs.AskedFile.{see_file, loads_of, FileFound}
use Rattle.file_library.specs.NextWave.{AddsFiles}
use Rattle.file_library.proofs.NextWaveLemmas.{adds_more, whole_list, seen_names}
use Rattle.file_library.proofs.next_wave.next_wave.Goals as goal

pub loop-file-preserved : goal.loop-file-preserved
loop-file-preserved c =
    adds_more c.args.asked.now.keys c.args.room (λ (file : AskedFile). loads_of (see_file file).found) c.args.files.now c.loop-file.file-index c.file-item.result [] c.loop-file.next.keys
    c.add_loads.new.next.keys (omega (arith, c.loop-file-test.true)) c.file-item.is c.loop-file.invariant
    (subst (λ files. AddsFiles c.args.asked.now.keys c.args.room c.loop-file.next.keys files c.add_loads.new.next.keys) c.loads_of.ensures c.in_ok-add_loads.ensures)

pub returns : goal.returns
returns c =
    subst (λ files. AddsFiles c.args.asked.now.keys c.args.room [] files c.loop-file.next.keys)
    (whole_list (λ (file : AskedFile). loads_of (see_file file).found) c.args.files.now c.loop-file.file-index (omega (arith, c.loop-file-test.false))
    ∙ seen_names see_file (λ (file : FileFound). loads_of file.found) c.args.files.now)
    c.loop-file.invariant
