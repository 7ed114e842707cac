-- What was read and parsed is the wave.
use Rattle.std.proofs.Common.{◌∙◌, map, subst}
use Rattle.file_library.specs.Answers.{see_answer, HasGiven}
use Rattle.file_library.proofs.WaveAsked.{small_answers, wave_asked}
use Rattle.file_library.proofs.asking.ask_wave.Goals as goal

pub parse_wave-requires-after_bounds : goal.parse_wave-requires-after_bounds
parse_wave-requires-after_bounds g c = λ lifetimes outlives. small_answers c.in-Ok-read_wave.answers.items c.in-Ok-read_wave.ensures.answers.small

pub returns-clause-asked : goal.returns-clause-asked
returns-clause-asked g c =
    let same = c.deref.ensures.value ∙ c.in-Ok.ensures.same in
    wave_asked (g.L.Library.seen c.args.library.now) (g.L.Library.seen c.read_wave.new.library) c.args.wave.now.keys c.args.total
    c.in-Ok-read_wave.answers.items c.in-Ok-parse_wave.files.items c.in-Ok.ensures.ordered (c.in-Ok-read_wave.ensures.names ∙ same)
    (subst (λ names. HasGiven (g.L.Library.seen c.args.library.now) (g.L.Library.seen c.read_wave.new.library) names (map see_answer c.in-Ok-read_wave.answers.items)) same
    c.in-Ok-read_wave.ensures.gained) c.in-Ok-read_wave.ensures.answers c.in-Ok-parse_wave.ensures
