use Rattle.std.proofs.Common.{◌∙◌, true≢false, Some, sym, ap, subst, length-set}
use Rattle.std.specs.Prelude.{Contains}
use Rattle.search_stack.specs.Stack.{size}
use Rattle.list_laws.specs.Counts.{flat}
use Rattle.search_stack.specs.Search.{IsReleasable, SearchValue}
use Rattle.group_release.specs.Book.{released_of}
use Rattle.group_release.specs.Released.{IsNewGroup}
use Rattle.blocked_table.proofs.WakeSteps.{put_length}
use Rattle.search_machine.specs.declared.step.Step.TheVariants.{Done}
use Rattle.search_machine.proofs.Acting.{book_only, fails, fails_machine, next_acts, next_machine, out, out_done, out_runs, out_wants, same_book}
use Rattle.search_machine.proofs.Releasing.{ripe_apart, ripe_new, ripe_releasable}
use Rattle.search_machine.proofs.Steps.{below_of, release_none, release_some, retreat_step, same_stops}
use Rattle.search_machine.proofs.machine.Machine.finish_top.Goals as goal

pub invariant_of-self-then-not-is_ripe : goal.invariant_of-self-then-not-is_ripe
invariant_of-self-then-not-is_ripe c =
    let is = out c.self.invariant (rw (← c.self.view_is) at c.requires.sound) (rw (← c.self.view_is) at c.requires.runs.1) c.index_mut.ensures.value
    c.take.ensures.value c.in-Some.is in
    let done = out_done is (rw (← c.self.view_is) at c.requires.runs.1) c.requires.runs.2 in
    let below = below_of c.is_ripe.ensures.shaped done (λ ripe. true≢false (sym (c.is_ripe.ensures.ripe.1 ripe) ∙ c.if-not-is_ripe.true)) in
    let step = retreat_step c.self.inside c.args.place is c.take.new.self c.retreat.new.self done below c.retreat.ensures.retreated (out_wants is) in
    next_machine c.self.inside _ c.args.place Done c.self.invariant (rw (← c.self.view_is) at c.requires.sound) step (same_book c.self.inside.book)
    (put_length c.self.inside.running.items c.args.place c.take.new.self (Some c.retreat.new.self))

pub returns-then-not-is_ripe : goal.returns-then-not-is_ripe
returns-then-not-is_ripe c =
    let is = out c.self.invariant (rw (← c.self.view_is) at c.requires.sound) (rw (← c.self.view_is) at c.requires.runs.1) c.index_mut.ensures.value
    c.take.ensures.value c.in-Some.is in
    let done = out_done is (rw (← c.self.view_is) at c.requires.runs.1) c.requires.runs.2 in
    let below = below_of c.is_ripe.ensures.shaped done (λ ripe. true≢false (sym (c.is_ripe.ensures.ripe.1 ripe) ∙ c.if-not-is_ripe.true)) in
    let step = retreat_step c.self.inside c.args.place is c.take.new.self c.retreat.new.self done below c.retreat.ensures.retreated (out_wants is) in
    rw (← c.self.view_is) (next_acts c.self.inside c.self.inside.book c.args.place Done step (same_book c.self.inside.book))

pub invariant_of-self-in-Err : goal.invariant_of-self-in-Err
invariant_of-self-in-Err c =
    let is = out c.self.invariant (rw (← c.self.view_is) at c.requires.sound) (rw (← c.self.view_is) at c.requires.runs.1) c.index_mut.ensures.value
    c.take.ensures.value c.in-Some.is in
    let stops = same_stops c.self.inside c.args.place is c.take.new.self c.take_ripe.new.self c.fail.new.self c.in-Err.ensures.err c.fail.ensures in
    fails_machine c.self.inside _ c.args.place c.self.invariant (rw (← c.self.view_is) at c.requires.sound) stops c.fail.ensures
    (put_length c.self.inside.running.items c.args.place c.take.new.self (Some c.take_ripe.new.self))

pub returns-in-Err : goal.returns-in-Err
returns-in-Err c =
    let is = out c.self.invariant (rw (← c.self.view_is) at c.requires.sound) (rw (← c.self.view_is) at c.requires.runs.1) c.index_mut.ensures.value
    c.take.ensures.value c.in-Some.is in
    let stops = same_stops c.self.inside c.args.place is c.take.new.self c.take_ripe.new.self c.fail.new.self c.in-Err.ensures.err c.fail.ensures in
    rw (← c.self.view_is) (fails c.self.inside c.fail.new.self c.args.place stops c.fail.ensures)

pub release-requires-clause-new : goal.release-requires-clause-new
release-requires-clause-new c =
    let is = out c.self.invariant (rw (← c.self.view_is) at c.requires.sound) (rw (← c.self.view_is) at c.requires.runs.1) c.index_mut.ensures.value
    c.take.ensures.value c.in-Some.is in
    let ripe = c.is_ripe.ensures.ripe.0 c.if-not-is_ripe.false in
    subst (IsNewGroup (released_of c.self.inside.book)) (sym c.in-Ok.ensures.group) (ripe_new is.good (out_runs is) ripe)

pub release-requires-clause-releasable : goal.release-requires-clause-releasable
release-requires-clause-releasable c =
    let is = out c.self.invariant (rw (← c.self.view_is) at c.requires.sound) (rw (← c.self.view_is) at c.requires.runs.1) c.index_mut.ensures.value
    c.take.ensures.value c.in-Some.is in
    let ripe = c.is_ripe.ensures.ripe.0 c.if-not-is_ripe.false in
    subst (IsReleasable c.self.inside.book.lists c.self.inside.book.roots (flat c.self.inside.book.groups)) (sym c.in-Ok.ensures.group)
    (ripe_releasable is.good (out_runs is) ripe)

pub release-requires-clause-apart : goal.release-requires-clause-apart
release-requires-clause-apart c =
    let is = out c.self.invariant (rw (← c.self.view_is) at c.requires.sound) (rw (← c.self.view_is) at c.requires.runs.1) c.index_mut.ensures.value
    c.take.ensures.value c.in-Some.is in
    let ripe = c.is_ripe.ensures.ripe.0 c.if-not-is_ripe.false in
    λ place v holds has.
    ripe_apart is.good (out_runs is) ripe place v holds (subst (λ these. Contains these v) c.in-Ok.ensures.group has)

pub invariant_of-self-then-is_empty : goal.invariant_of-self-then-is_empty
invariant_of-self-then-is_empty c =
    let is = out c.self.invariant (rw (← c.self.view_is) at c.requires.sound) (rw (← c.self.view_is) at c.requires.runs.1) c.index_mut.ensures.value
    c.take.ensures.value c.in-Some.is in
    let ripe = c.is_ripe.ensures.ripe.0 c.if-not-is_ripe.false in
    let left = ap (λ (value : SearchValue). size value.stack) c.in-Ok.ensures.taken in
    let step = release_none c.self.inside c.args.place is c.take.new.self c.in-Ok.group.items c.release.new.self ripe c.in-Ok.ensures.group c.release.ensures.appended c.release.ensures.woken
    c.release.ensures.only (sym left ∙ c.is_empty.ensures.0 c.if-is_empty.true) c.take.ensures.after in
    next_machine c.self.inside _ c.args.place Done c.self.invariant (rw (← c.self.view_is) at c.requires.sound) step (book_only c.release.new.self.kept c.release.new.self.groups c.release.ensures.only)
    (length-set c.self.inside.running.items c.args.place c.take.new.self)

pub returns-then-is_empty : goal.returns-then-is_empty
returns-then-is_empty c =
    let is = out c.self.invariant (rw (← c.self.view_is) at c.requires.sound) (rw (← c.self.view_is) at c.requires.runs.1) c.index_mut.ensures.value
    c.take.ensures.value c.in-Some.is in
    let ripe = c.is_ripe.ensures.ripe.0 c.if-not-is_ripe.false in
    let left = ap (λ (value : SearchValue). size value.stack) c.in-Ok.ensures.taken in
    let step = release_none c.self.inside c.args.place is c.take.new.self c.in-Ok.group.items c.release.new.self ripe c.in-Ok.ensures.group c.release.ensures.appended c.release.ensures.woken
    c.release.ensures.only (sym left ∙ c.is_empty.ensures.0 c.if-is_empty.true) c.take.ensures.after in
    rw (← c.self.view_is) (next_acts c.self.inside c.release.new.self c.args.place Done step (book_only c.release.new.self.kept c.release.new.self.groups c.release.ensures.only))

pub invariant_of-self-2 : goal.invariant_of-self-2
invariant_of-self-2 c =
    let is = out c.self.invariant (rw (← c.self.view_is) at c.requires.sound) (rw (← c.self.view_is) at c.requires.runs.1) c.index_mut.ensures.value
    c.take.ensures.value c.in-Some.is in
    let ripe = c.is_ripe.ensures.ripe.0 c.if-not-is_ripe.false in
    let step = release_some c.self.inside c.args.place is c.take.new.self c.in-Ok.group.items c.release.new.self ripe c.in-Ok.ensures.group c.release.ensures.appended c.release.ensures.woken
    c.release.ensures.only c.take_ripe.new.self
    (λ none. true≢false (sym (c.is_empty.ensures.1 none) ∙ c.if-is_empty.false)) c.in-Ok.ensures.taken (out_wants is) in
    next_machine c.self.inside _ c.args.place Done c.self.invariant (rw (← c.self.view_is) at c.requires.sound) step (book_only c.release.new.self.kept c.release.new.self.groups c.release.ensures.only)
    (put_length c.self.inside.running.items c.args.place c.take.new.self (Some c.take_ripe.new.self))

pub returns : goal.returns
returns c =
    let is = out c.self.invariant (rw (← c.self.view_is) at c.requires.sound) (rw (← c.self.view_is) at c.requires.runs.1) c.index_mut.ensures.value
    c.take.ensures.value c.in-Some.is in
    let ripe = c.is_ripe.ensures.ripe.0 c.if-not-is_ripe.false in
    let step = release_some c.self.inside c.args.place is c.take.new.self c.in-Ok.group.items c.release.new.self ripe c.in-Ok.ensures.group c.release.ensures.appended c.release.ensures.woken
    c.release.ensures.only c.take_ripe.new.self
    (λ none. true≢false (sym (c.is_empty.ensures.1 none) ∙ c.if-is_empty.false)) c.in-Ok.ensures.taken (out_wants is) in
    rw (← c.self.view_is) (next_acts c.self.inside c.release.new.self c.args.place Done step (book_only c.release.new.self.kept c.release.new.self.groups c.release.ensures.only))
