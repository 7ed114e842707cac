-- Wave by wave.
use Rattle.std.proofs.Common.{◌≤◌, ◌+◌, ◌++◌, ◌∷◌, [], ap, map, length, sum_by, subst, sym, arith}
use Rattle.std.proofs.lemmas.List.{length-map}
use Rattle.file_library.specs.declared.limits.TheConstants.{MOST_FILES}
use Rattle.file_library.specs.Answers.{bytes_of}
use Rattle.file_library.specs.AskedFile.{see_file}
use Rattle.file_library.specs.AskAll.{answers_of}
use Rattle.file_library.proofs.AnswersJoined.{later_on, not_later}
use Rattle.file_library.proofs.AskedSoFar.{AskedSoFar, asking_starts, asking_ends, wave_joined}
use Rattle.file_library.proofs.AskingSteps.{stops_at_once, stops_in_wave, stops_behind, stops_many}
use Rattle.file_library.proofs.AskingKept.{kept_on}
use Rattle.file_library.proofs.asking.ask_all.Goals as goal

pub returns-in_default-clause-stops : goal.returns-in_default-clause-stops
returns-in_default-clause-stops g c = stops_at_once (g.L.Library.seen c.args.library.now) c.args.roots.now

pub loop-alloc-init : goal.loop-alloc-init
loop-alloc-init g c = (
  not_later (g.L.Library.seen c.args.library.now),
  subst (λ files. AskedSoFar (g.L.Library.seen c.args.library.now) (g.L.Library.seen c.args.library.now) c.args.roots.now 0 (map see_file files) c.new-known.result.keys c.in-Ok.wave.keys)
      (sym c.new-files.ensures.items)
      (asking_starts (g.L.Library.seen c.args.library.now) c.args.roots.now c.new-known.result.keys c.in-Ok.wave.keys c.new-known.ensures.empty c.in-Ok.ensures),
)

pub returns-in-Err-clause-stops : goal.returns-in-Err-clause-stops
returns-in-Err-clause-stops g c =
    let so_far = c.loop-alloc.invariant.1 in
    let fits : length (map see_file c.loop-alloc.files.items) + length c.loop-alloc.wave.keys ≤ MOST_FILES =
    omega (arith, c.if-len.false, c.len-in-loop-alloc.ensures.len, c.len-in-loop-alloc-2.ensures, length-map c.loop-alloc.files.items see_file, so_far.past.few) in
    stops_in_wave (g.L.Library.seen c.args.library.now) c.args.roots.now (g.L.Library.seen c.loop-alloc.library) (g.L.Library.seen c.ask_wave.new.library)
    c.loop-alloc.total (map see_file c.loop-alloc.files.items) c.loop-alloc.known.keys c.loop-alloc.wave.keys c.in-Err.stop
    so_far c.len-in-loop-alloc.ensures.ordered fits c.loop-alloc.invariant.0 c.in-Err.ensures.later c.in-Err.ensures.stops

pub returns-in_default-keep-clause-stops : goal.returns-in_default-keep-clause-stops
returns-in_default-keep-clause-stops g c =
    let so_far = c.loop-alloc.invariant.1 in
    let found = map see_file c.loop-alloc.files.items in
    let new = map see_file c.in-Ok-ask_wave.found.items in
    let fits : length (map see_file c.loop-alloc.files.items) + length c.loop-alloc.wave.keys ≤ MOST_FILES =
    omega (arith, c.if-len.false, c.len-in-loop-alloc.ensures.len, c.len-in-loop-alloc-2.ensures, length-map c.loop-alloc.files.items see_file, so_far.past.few) in
    stops_behind (g.L.Library.seen c.args.library.now) c.args.roots.now (g.L.Library.seen c.ask_wave.new.library) (c.loop-alloc.total + sum_by bytes_of (answers_of new))
    (found ++ new) (so_far.waves ++ c.loop-alloc.wave.keys ∷ [])
    (wave_joined (g.L.Library.seen c.args.library.now) c.args.roots.now (g.L.Library.seen c.loop-alloc.library) (g.L.Library.seen c.ask_wave.new.library)
    c.loop-alloc.total found new so_far.waves c.loop-alloc.wave.keys so_far.past so_far.next c.in-Ok-ask_wave.ensures.asked
    c.loop-alloc.invariant.0 c.in-Ok-ask_wave.ensures.later fits)

pub loop-alloc-preserved : goal.loop-alloc-preserved
loop-alloc-preserved g c =
    let so_far = c.loop-alloc.invariant.1 in
    let found = map see_file c.loop-alloc.files.items in
    let new = map see_file c.in-Ok-ask_wave.found.items in
    let fits : length (map see_file c.loop-alloc.files.items) + length c.loop-alloc.wave.keys ≤ MOST_FILES =
    omega (arith, c.if-len.false, c.len-in-loop-alloc.ensures.len, c.len-in-loop-alloc-2.ensures, length-map c.loop-alloc.files.items see_file, so_far.past.few) in (
      later_on (g.L.Library.seen c.args.library.now) (g.L.Library.seen c.loop-alloc.library) (g.L.Library.seen c.ask_wave.new.library) c.loop-alloc.invariant.0 c.in-Ok-ask_wave.ensures.later,
      subst (λ n. AskedSoFar (g.L.Library.seen c.args.library.now) (g.L.Library.seen c.ask_wave.new.library) c.args.roots.now
          n (map see_file c.keep.new.files.items) c.keep.new.known.keys c.in-Ok-keep.next.keys)
          (omega (arith, c.bytes_in-total.ensures, ap (λ files. sum_by bytes_of (answers_of (map see_file files))) c.deref.ensures.value))
          (kept_on (g.L.Library.seen c.args.library.now) c.args.roots.now (g.L.Library.seen c.loop-alloc.library) (g.L.Library.seen c.ask_wave.new.library)
          c.loop-alloc.total found new (map see_file c.keep.new.files.items) c.loop-alloc.known.keys c.keep.new.known.keys c.loop-alloc.wave.keys c.in-Ok-keep.next.keys so_far
          c.in-Ok-ask_wave.ensures.asked c.loop-alloc.invariant.0 c.in-Ok-ask_wave.ensures.later fits c.in-Ok-keep.ensures),
    )

pub returns-clause-asked : goal.returns-clause-asked
returns-clause-asked g c =
    asking_ends (g.L.Library.seen c.args.library.now) c.args.roots.now (g.L.Library.seen c.loop-alloc.library) c.loop-alloc.total (map see_file c.loop-alloc.files.items)
    c.loop-alloc.known.keys c.loop-alloc.wave.keys c.loop-alloc.invariant.1 c.len.ensures.ordered (omega (arith, c.loop-alloc-test.false, c.len.ensures.len))

pub returns-then-len-clause-stops : goal.returns-then-len-clause-stops
returns-then-len-clause-stops g c =
    stops_many (g.L.Library.seen c.args.library.now) c.args.roots.now (g.L.Library.seen c.loop-alloc.library) c.loop-alloc.total (map see_file c.loop-alloc.files.items)
    c.loop-alloc.known.keys c.loop-alloc.wave.keys c.loop-alloc.invariant.1 c.len-in-loop-alloc.ensures.ordered
    (omega (arith, c.if-len.true, c.len-in-loop-alloc.ensures.len, c.len-in-loop-alloc-2.ensures, length-map c.loop-alloc.files.items see_file))
