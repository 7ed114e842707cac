use Rattle.std.proofs.Common.{get_or, Some, refl, length-set}
use Rattle.search_machine.specs.declared.step.Step.TheVariants.{Done, Open}
use Rattle.search_machine.proofs.Acting.{book_is, book_only, next_acts, next_machine}
use Rattle.search_machine.proofs.Steps.{has_root, resume_step, root_step, skip_step, starting}
use Rattle.search_machine.proofs.machine.Machine.start.Goals as goal

pub invariant_of-self : goal.invariant_of-self
invariant_of-self c =
    let start = starting c.self.view_is c.self.invariant c.requires.sound c.requires.idle in
    let step =
    resume_step start c.take_ready.new.self c.in-Some.search (rw c.in-Some.is at c.take_ready.ensures.some) c.take_ready.ensures.only in
    next_machine c.self.inside _ c.args.place Done c.self.invariant start.sound step
    (book_only c.take_ready.new.self.kept c.self.inside.book.groups c.take_ready.ensures.only) (length-set c.self.inside.running.items c.args.place (Some c.in-Some.search))

pub returns-in-Some : goal.returns-in-Some
returns-in-Some c =
    let start = starting c.self.view_is c.self.invariant c.requires.sound c.requires.idle in
    let step =
    resume_step start c.take_ready.new.self c.in-Some.search (rw c.in-Some.is at c.take_ready.ensures.some) c.take_ready.ensures.only in
    rw (← c.self.view_is) (next_acts c.self.inside c.take_ready.new.self c.args.place Done step (book_only c.take_ready.new.self.kept c.self.inside.book.groups c.take_ready.ensures.only))

pub invariant_of-self-then-index : goal.invariant_of-self-then-index
invariant_of-self-then-index c =
    let start = starting c.self.view_is c.self.invariant c.requires.sound c.requires.idle in
    let root =
    has_root start c.take_ready.new.self c.self.view_is c.requires.more (rw c.in_default.is at c.take_ready.ensures.none)
    (rw c.in_default.is at c.take_ready.ensures.unchanged) c.roots.ensures in
    let step = skip_step start c.take_ready.new.self root c.index.ensures c.if-index.true in
    next_machine c.self.inside _ c.args.place Done c.self.invariant start.sound step (book_is root.same) refl

pub returns-then-index : goal.returns-then-index
returns-then-index c =
    let start = starting c.self.view_is c.self.invariant c.requires.sound c.requires.idle in
    let root =
    has_root start c.take_ready.new.self c.self.view_is c.requires.more (rw c.in_default.is at c.take_ready.ensures.none)
    (rw c.in_default.is at c.take_ready.ensures.unchanged) c.roots.ensures in
    let step = skip_step start c.take_ready.new.self root c.index.ensures c.if-index.true in
    rw (← c.self.view_is) (next_acts c.self.inside c.take_ready.new.self c.args.place Done step (book_is root.same))

pub invariant_of-self-2 : goal.invariant_of-self-2
invariant_of-self-2 c =
    let start = starting c.self.view_is c.self.invariant c.requires.sound c.requires.idle in
    let root =
    has_root start c.take_ready.new.self c.self.view_is c.requires.more (rw c.in_default.is at c.take_ready.ensures.none)
    (rw c.in_default.is at c.take_ready.ensures.unchanged) c.roots.ensures in
    let step = root_step start c.take_ready.new.self root c.index.ensures c.if-index.false in
    next_machine c.self.inside _ c.args.place (Open (get_or c.roots.result.now c.self.inside.given 0)) c.self.invariant start.sound step (book_is root.same) refl

pub returns : goal.returns
returns c =
    let start = starting c.self.view_is c.self.invariant c.requires.sound c.requires.idle in
    let root =
    has_root start c.take_ready.new.self c.self.view_is c.requires.more (rw c.in_default.is at c.take_ready.ensures.none)
    (rw c.in_default.is at c.take_ready.ensures.unchanged) c.roots.ensures in
    let step = root_step start c.take_ready.new.self root c.index.ensures c.if-index.false in
    rw (← c.self.view_is)
    (next_acts c.self.inside c.take_ready.new.self c.args.place (Open (get_or c.roots.result.now c.self.inside.given 0)) step (book_is root.same))
