-- The set has gained the wave, and the files what was found.
use Rattle.std.proofs.Common.{◌∙◌, ◌+◌, ◌-◌, [], ap, map, length, subst, arith, ◌≡◌}
use Rattle.std.proofs.lemmas.List.{map-append, length-map}
use Rattle.file_library.specs.declared.limits.TheConstants.{MOST_FILES}
use Rattle.file_library.specs.AskedFile.{see_file, loads_in}
use Rattle.file_library.specs.NextWave.{AddsFiles}
use Rattle.file_library.proofs.AskingKept.{union_sound, union_all}
use Rattle.file_library.proofs.asking.keep.Goals as goal

pub returns : goal.returns
returns c =
    let room : MOST_FILES - (c.len.result + c.len-2.result) ≡ MOST_FILES - (length (map see_file c.args.files.now.items) + length (map see_file c.args.found.items)) =
    omega (arith, c.len.ensures, c.len-2.ensures, length-map c.args.files.now.items see_file, length-map c.args.found.items see_file) in
    record {
      sound = union_sound c.args.known.now c.args.wave c.append.new.self c.in_ok-append.ensures.inserts_all.0;
      all = union_all c.args.known.now c.args.wave c.append.new.self c.in_ok-append.ensures.inserts_all.0;
      joined = ap (map see_file) c.in_ok-append-2.ensures.items ∙ map-append see_file c.args.files.now.items c.args.found.items;
      adds = subst (λ n. AddsFiles c.append.new.self.keys n [] (loads_in (map see_file c.args.found.items)) c.in_ok-next.next.keys) room
          (subst (λ found. AddsFiles c.append.new.self.keys (MOST_FILES - (c.len.result + c.len-2.result)) [] (loads_in (map see_file found)) c.in_ok-next.next.keys) c.deref.ensures.value c.in_ok-next.ensures);
    }
