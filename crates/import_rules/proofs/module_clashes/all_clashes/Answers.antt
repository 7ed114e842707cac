use Rattle.std.proofs.Common.{rules, ◌∙◌, ◌∷◌, [], List, map, sym, ap, subst}
use Rattle.std.specs.Borrow.{Bor}
use Rattle.std.specs.Cmp.Lexicographic.{slice_cmp}
use Rattle.std.specs.List.Sorted.{IsSortedBy}
use Rattle.std.specs.Ordering.{nat_cmp}
use Rattle.std.proofs.lemmas.List.{map-append}
use Rattle.std.proofs.lemmas.List.Sorted.{answers_always}
use Rattle.import_rules.specs.declared.item.Item.{Item}
use Rattle.import_rules.specs.declared.module_clashes.User.{User}
use Rattle.import_rules.specs.Clashes.{AreClashes, see_item}
use Rattle.import_rules.specs.KnownFiles.{files_of, shared_of}
use Rattle.import_rules.specs.ModuleClashes.{kept_of_users, module_of, see_user}
use Rattle.import_rules.proofs.ModuleClashes.{AreDone, alike, all_done, clashes_of_users, lent_runs, none_done, run_done, run_module, same_chunk}
use Rattle.import_rules.proofs.Runs.{comes_before}
use Rattle.import_rules.proofs.module_clashes.all_clashes.Goals as goal

pub loop-run-init : goal.loop-run-init
loop-run-init c =
    let files = files_of c.args.lookups.now in
    let shared = shared_of c.args.lookups.now in
    let whole = c.into_iter-run-iterator.result.rest.now in
    subst (λ (is : List Item). AreDone files shared whole [] whole (map see_item is)) (sym c.new-clashes.ensures.items) (none_done files shared whole)

pub push_clashes-requires-clause-one : goal.push_clashes-requires-clause-one
push_clashes-requires-clause-one c =
    let steps = c.in-Some.ensures.steps in
    let chunk = steps.2 alike (answers_always _ _ _ (λ f a r g called. search rules)) in
    run_module c.in-Some.run'.now c.next.new.self.rest.now steps.1 (same_chunk c.loop-run.run-iterator.rest.now c.in-Some.run'.now c.next.new.self.rest.now steps.0 chunk.1)

pub loop-run-preserved : goal.loop-run-preserved
loop-run-preserved c =
    let files = files_of c.args.lookups.now in
    let shared = shared_of c.args.lookups.now in
    let whole = c.into_iter-run-iterator.result.rest.now in
    let steps = c.in-Some.ensures.steps in
    let chunk = steps.2 alike (answers_always _ _ _ (λ f a r g called. search rules)) in
    let run = c.in-Some.run'.now in
    let rest = c.next.new.self.rest.now in
    let runs = lent_runs c.loop-run.yielded in
    let clashes = map see_item c.loop-run.clashes.items in
    let found = c.in_ok-push_clashes.ensures in
    let whole_is = ap (λ (x : _). x.rest.now) c.into_iter-run-iterator.ensures.into_iter_gives ∙ c.chunk_by-run-items.ensures.rest ∙ c.deref.ensures.value in
    let done =
    run_done files shared whole runs run rest clashes found.0 (subst (IsSortedBy (comes_before (slice_cmp nat_cmp) module_of)) (sym whole_is) c.in_ok-users.ensures.sorted) steps.1
    (same_chunk c.loop-run.run-iterator.rest.now run rest steps.0 chunk.1) found.1
    (subst (λ (us : List User). AreDone files shared whole runs us clashes) steps.0 c.loop-run.invariant) in
    subst (λ rs. AreDone files shared whole rs rest (map see_item c.push_clashes.new.clashes.items))
    (sym (map-append (λ (r : Bor (List User)). r.now) c.loop-run.yielded (c.in-Some.run' ∷ [])))
    (subst (AreDone files shared whole _ rest) (sym found.2) done)

pub returns : goal.returns
returns c =
    let files = files_of c.args.lookups.now in
    let shared = shared_of c.args.lookups.now in
    let whole = c.into_iter-run-iterator.result.rest.now in
    let clashes = map see_item c.loop-run.clashes.items in
    let whole_is = ap (λ (x : _). x.rest.now) c.into_iter-run-iterator.ensures.into_iter_gives ∙ c.chunk_by-run-items.ensures.rest ∙ c.deref.ensures.value in
    clashes_of_users files shared (map see_user c.in_ok-users.users.items) c.in_ok-users.ensures.same clashes
    (subst (λ (us : List User). AreClashes (kept_of_users files shared (map see_user us)) clashes) whole_is
    (all_done files shared whole (lent_runs c.loop-run.yielded) c.loop-run.run-iterator.rest.now clashes c.in-None.ensures.steps.0 c.loop-run.invariant))
