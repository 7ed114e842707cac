-- The files are put one by one.
use Rattle.std.proofs.Common.{rules, ◌≡◌, ◌≤◌, ◌++◌, ◌∷◌, [], ◌∙◌, sym, subst, ap, map, append_assoc, All}
use Rattle.std.proofs.lemmas.List.{map-append, map-id}
use Rattle.std.proofs.lemmas.Simd.{map-map}
use Rattle.std.proofs.lemmas.Iterator.Adapters.{YieldsList-from_vec}
use Rattle.std.proofs.lemmas.Iterator.Consumers.{YieldsList-end}
use Rattle.prolog_tokens.specs.declared.limits.TheConstants.{MOST_BYTES}
use Rattle.file_library.specs.Answers.{bytes_of}
use Rattle.file_library.specs.AskedFile.{see_file, answered_of, IsOfText}
use Rattle.file_library.specs.SortedOut.{AreSortedOut}
use Rattle.file_library.proofs.OrderedFiles.{none_put, all_at}
use Rattle.file_library.proofs.sorted_out.sorted_out.Goals as goal

pub loop-file-init : goal.loop-file-init
loop-file-init c = (
  search rules,
  none_put c.args.roots.now (record { files = c.new.result; absent = c.new-2.result; texts = c.new-3.result; faults = c.new-4.result })
      c.new.ensures.items c.new-3.ensures.items c.new-2.ensures.items c.new-4.ensures.items,
)

pub put-requires-clause-text : goal.put-requires-clause-text
put-requires-clause-text c =
    all_at see_file IsOfText c.loop-file.yielded c.next.new.self.rest.items c.args.files.items c.in-Some.file (ap (λ rest. c.loop-file.yielded ++ rest) (sym c.in-Some.ensures.steps.0) ∙ c.loop-file.invariant.0) c.requires.texts

pub put-requires-clause-small : goal.put-requires-clause-small
put-requires-clause-small c =
    all_at (λ file. answered_of (see_file file)) (λ answer. bytes_of answer ≤ MOST_BYTES) c.loop-file.yielded c.next.new.self.rest.items c.args.files.items c.in-Some.file
    (ap (λ rest. c.loop-file.yielded ++ rest) (sym c.in-Some.ensures.steps.0) ∙ c.loop-file.invariant.0)
    (subst (All (λ answer. bytes_of answer ≤ MOST_BYTES)) (map-map answered_of see_file c.args.files.items) c.requires.small)

pub loop-file-preserved : goal.loop-file-preserved
loop-file-preserved c = (
  append_assoc c.loop-file.yielded (c.in-Some.file ∷ []) c.next.new.self.rest.items ∙ (ap (λ rest. c.loop-file.yielded ++ rest) (sym c.in-Some.ensures.steps.0) ∙ c.loop-file.invariant.0),
  subst (λ files. AreSortedOut c.args.roots.now files c.put.new.out) (sym (map-append see_file c.loop-file.yielded (c.in-Some.file ∷ [])))
      (c.in_ok-put.ensures (map see_file c.loop-file.yielded) c.loop-file.invariant.1),
)

pub returns : goal.returns
returns c =
    let done = c.loop-file.yielded in
    let gives = c.into_iter-file-iterator.ensures.into_iter_gives in
    let road = YieldsList-from_vec {s = c.into_iter-file-iterator.result} c.args.files.items gives.0 (gives.1 ∙ c.args.files.ok.0) in
    let all : done ≡ c.args.files.items =
    sym (map-id done) ∙ (YieldsList-end road done c.loop-file.file-iterator c.loop-file.yielded_by c.next.result c.next.new.self c.in-None.is c.next.ensures.steps).0 in
    subst (λ files. AreSortedOut c.args.roots.now (map see_file files) c.loop-file.out) all c.loop-file.invariant.1
