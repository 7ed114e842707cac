-- Each answer joins those before it.
use Rattle.std.proofs.Common.{◌≡◌, ◌∷◌, [], ◌+◌, map, arith, sym, subst, ◌∙◌, ap, inr, ◌++◌}
use Rattle.std.proofs.lemmas.List.{map-append}
use Rattle.file_library.specs.Answers.{see_answer, bytes_of}
use Rattle.file_library.proofs.AnswersJoined.{ReadSoFar, later_on, read_more, read_stops}
use Rattle.file_library.specs.declared.loaded.LoadStop.TheVariants.{NoMemory}
use Rattle.file_library.proofs.reading.read_wave.Goals as goal

pub size_of-read-requires : goal.size_of-read-requires
size_of-read-requires g c = c.in-Ok.ensures.answers.small 0 (see_answer c.in-Ok.answer) (omega arith)

pub returns-in-Err-clause-stops : goal.returns-in-Err-clause-stops
returns-in-Err-clause-stops g c =
    read_stops (g.L.Library.seen c.args.library.now) c.args.wave.now c.args.total (g.L.Library.seen c.loop-name.library) (g.L.Library.seen c.read_one.new.library)
    c.loop-name.read c.loop-name.name-index (map see_answer c.loop-name.answers.items) c.name-item.result c.in-Err.stop
    c.loop-name.invariant.1 (omega (arith, c.loop-name-test.true)) c.name-item.is c.loop-name.invariant.0 c.in-Err.ensures.later
    c.in-Err.ensures.put c.in-Err.ensures.stops

pub returns-in_default-clause-stops : goal.returns-in_default-clause-stops
returns-in_default-clause-stops g c =
    read_stops (g.L.Library.seen c.args.library.now) c.args.wave.now c.args.total (g.L.Library.seen c.loop-name.library) (g.L.Library.seen c.read_one.new.library)
    c.loop-name.read c.loop-name.name-index (map see_answer c.loop-name.answers.items) c.name-item.result NoMemory
    c.loop-name.invariant.1 (omega (arith, c.loop-name-test.true)) c.name-item.is c.loop-name.invariant.0 c.in-Ok.ensures.later
    (inr c.in-Ok.ensures.gained.put) (inr (see_answer c.in-Ok.answer, c.in-Ok.ensures.gained.given))

pub loop-name-preserved : goal.loop-name-preserved
loop-name-preserved g c =
    let gained : map see_answer c.push_answer.new.answers.items ≡ map see_answer c.loop-name.answers.items ++ see_answer c.in-Ok.answer ∷ [] =
    ap (map see_answer) c.in-Ok-push_answer.ensures ∙ map-append see_answer c.loop-name.answers.items (c.in-Ok.answer ∷ []) in
    let count : c.loop-name.read + bytes_of (see_answer c.in-Ok.answer) ≡ c.loop-name.read + c.size_of-read.result = omega (arith, c.size_of-read.ensures) in
    let more =
    read_more (g.L.Library.seen c.args.library.now) c.args.wave.now c.args.total (g.L.Library.seen c.loop-name.library) (g.L.Library.seen c.read_one.new.library)
    c.loop-name.read c.loop-name.name-index (map see_answer c.loop-name.answers.items) (see_answer c.in-Ok.answer) c.name-item.result
    c.loop-name.invariant.1 (omega (arith, c.loop-name-test.true)) c.name-item.is c.loop-name.invariant.0 c.in-Ok.ensures.later c.in-Ok.ensures.name
    c.in-Ok.ensures.gained c.in-Ok.ensures.answers in (
      later_on (g.L.Library.seen c.args.library.now) (g.L.Library.seen c.loop-name.library) (g.L.Library.seen c.read_one.new.library) c.loop-name.invariant.0 c.in-Ok.ensures.later,
      subst (λ answers. ReadSoFar (g.L.Library.seen c.args.library.now) (g.L.Library.seen c.read_one.new.library) c.args.wave.now c.args.total
          (c.loop-name.read + c.size_of-read.result) answers (c.loop-name.name-index + 1)) (sym gained)
          (subst (λ n. ReadSoFar (g.L.Library.seen c.args.library.now) (g.L.Library.seen c.read_one.new.library) c.args.wave.now c.args.total
          n (map see_answer c.loop-name.answers.items ++ see_answer c.in-Ok.answer ∷ []) (c.loop-name.name-index + 1)) count more),
    )
