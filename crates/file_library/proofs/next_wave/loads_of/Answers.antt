use Rattle.std.proofs.Common.{ap, sym, ◌∙◌, map}
use Rattle.std.proofs.lemmas.Simd.{map-map}
use Rattle.module_table.specs.declared.load.Load.{Load}
use Rattle.module_table.specs.Said.{Loads}
use Rattle.module_table.specs.Said.{see_load}
use Rattle.file_library.specs.AskedFile.{see_content, loads_of}
use Rattle.file_library.proofs.next_wave.loads_of.Goals as goal

pub returns-in-Sound : goal.returns-in-Sound
returns-in-Sound c =
    ap (map (λ (load : Load). load.file)) c.deref.ensures.value
    ∙ (sym (map-map (λ (load : Loads). load.file) see_load c.in-Sound.facts.loads.items)
    ∙ ap (λ content. loads_of (see_content content)) (sym c.in-Sound.is))
