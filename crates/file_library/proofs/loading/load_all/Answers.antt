-- The asking ended, before its end or at it.
use Rattle.std.proofs.Common.{map}
use Rattle.file_library.specs.AskedFile.{see_file}
use Rattle.file_library.proofs.Stopped.{stop_ended}
use Rattle.file_library.proofs.Finished.{was_loaded, all_ended, all_read}
use Rattle.file_library.proofs.ToldEnd.{told_whole}
use Rattle.file_library.proofs.loading.load_all.Goals as goal

pub returns-in-Err-clause-ended : goal.returns-in-Err-clause-ended
returns-in-Err-clause-ended g c =
    stop_ended (g.L.Library.seen c.args.library.now) (g.L.Library.seen c.ask_all.new.library) c.args.roots.now c.in-Err.stop c.in-Err.ensures.stops

pub returns-clause-ended : goal.returns-clause-ended
returns-clause-ended g c =
    all_ended (g.L.Library.seen c.args.library.now) (g.L.Library.seen c.ask_all.new.library) c.args.roots.now
    (map see_file c.in-Ok.files.items) c.in-Ok.ensures.asked c.finish.result c.finish.ensures

pub returns-clause-failed : goal.returns-clause-failed
returns-clause-failed g c =
    all_read (g.L.Library.seen c.args.library.now) (g.L.Library.seen c.ask_all.new.library) c.args.roots.now (map see_file c.in-Ok.files.items) c.in-Ok.ensures.asked
    (g.L.Library.seen c.args.library.now).faults (g.L.Library.seen c.ask_all.new.library).faults c.finish.result c.finish.ensures

pub returns-clause-loaded : goal.returns-clause-loaded
returns-clause-loaded g c =
    was_loaded (g.L.Library.seen c.args.library.now) (g.L.Library.seen c.ask_all.new.library) c.args.roots.now c.finish.result
    (all_ended (g.L.Library.seen c.args.library.now) (g.L.Library.seen c.ask_all.new.library) c.args.roots.now
    (map see_file c.in-Ok.files.items) c.in-Ok.ensures.asked c.finish.result c.finish.ensures)

pub returns-in-Err-clause-told : goal.returns-in-Err-clause-told
returns-in-Err-clause-told g c =
    told_whole (g.L.Library.seen c.args.library.now) (g.L.Library.seen c.ask_all.new.library) c.args.roots.now _
    (stop_ended (g.L.Library.seen c.args.library.now) (g.L.Library.seen c.ask_all.new.library) c.args.roots.now c.in-Err.stop c.in-Err.ensures.stops)

pub returns-clause-told : goal.returns-clause-told
returns-clause-told g c =
    told_whole (g.L.Library.seen c.args.library.now) (g.L.Library.seen c.ask_all.new.library) c.args.roots.now _
    (all_ended (g.L.Library.seen c.args.library.now) (g.L.Library.seen c.ask_all.new.library) c.args.roots.now
    (map see_file c.in-Ok.files.items) c.in-Ok.ensures.asked c.finish.result c.finish.ensures)
