-- A file without a fault is kept with its text; one with a fault gives its fault.
use Rattle.std.proofs.Common.{◌∷◌, ◌++◌, [], refl, sym, subst}
use Rattle.prolog_tokens.specs.Places.{IsPlace}
use Rattle.file_library.specs.AskedFile.{see_content}
use Rattle.file_library.specs.SortedOut.{AreSortedOut}
use Rattle.file_library.proofs.OrderedFiles.{put_sound, put_faulty}
use Rattle.file_library.proofs.sorted_out.put.Goals as goal

pub returns-in_ok-push-in-Sound-2 : goal.returns-in_ok-push-in-Sound-2
returns-in_ok-push-in-Sound-2 c files so_far =
    subst (λ content. AreSortedOut c.args.roots.now (files ++ (record { name = c.args.file.name; found = see_content content }) ∷ []) (record { files = c.push.new.self; absent = c.args.out.now.absent; texts = c.push-in-Sound.new.self; faults = c.args.out.now.faults })) (sym c.in-Sound.is)
    (put_sound c.args.roots.now files c.args.out.now so_far c.args.file.name c.in-Sound.bytes c.in-Sound.facts
    (record { files = c.push.new.self; absent = c.args.out.now.absent; texts = c.push-in-Sound.new.self; faults = c.args.out.now.faults }) c.in_ok-push-in-Sound.ensures.items c.in_ok-push-in-Sound-2.ensures.items refl refl)

pub returns-in_ok-push-in-Faulty : goal.returns-in_ok-push-in-Faulty
returns-in_ok-push-in-Faulty c files so_far =
    subst (λ content. AreSortedOut c.args.roots.now (files ++ (record { name = c.args.file.name; found = see_content content }) ∷ []) (record { files = c.args.out.now.files; absent = c.args.out.now.absent; texts = c.args.out.now.texts; faults = c.push-in-Faulty.new.self })) (sym c.in-Faulty.is)
    (put_faulty c.args.roots.now files c.args.out.now so_far c.args.file.name c.in-Faulty.bytes.items (record { cause = c.in-Faulty.cause; offset = c.in-Faulty.offset })
    (record { file = c.args.file.name; offset = c.in-Faulty.offset; place = c.place_of-place.result; cause = c.in-Faulty.cause })
    (record { files = c.args.out.now.files; absent = c.args.out.now.absent; texts = c.args.out.now.texts; faults = c.push-in-Faulty.new.self }) refl refl refl c.in_ok-push-in-Faulty.ensures.items
    (refl, refl, refl, subst (λ bytes. IsPlace bytes c.in-Faulty.offset c.place_of-place.result) c.deref.ensures.value c.place_of-place.ensures.place))
