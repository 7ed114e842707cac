use Rattle.std.proofs.Common.{◌∙◌, true, Some, refl, ap, subst, arith, length-set}
use Rattle.search_stack.specs.Search.{IsDone, SearchValue}
use Rattle.group_release.specs.Book.{BookValue}
use Rattle.blocked_table.proofs.WakeSteps.{put_length}
use Rattle.search_machine.specs.declared.step.Step.TheVariants.{Done, Open}
use Rattle.search_machine.proofs.Acting.{book_only, fails, fails_machine, next_acts, next_machine, out, out_some, out_wants, put_state, same_book, same_machine, stays}
use Rattle.search_machine.proofs.EdgeSteps.{edge_good, edge_waits, has_edge, other, unclaimed}
use Rattle.search_machine.proofs.Steps.{back_step, begun_stops, claims_step, pass_step, suspend_step, transfer_step}
use Rattle.search_machine.proofs.machine.Machine.begin_edge.Goals as goal

pub begin-requires-clause-some : goal.begin-requires-clause-some
begin-requires-clause-some c =
    let is = out c.self.invariant (rw (← c.self.view_is) at c.requires.sound) (rw (← c.self.view_is) at c.requires.runs.1) c.index_mut.ensures.value
    c.take.ensures.value c.in-Some.is in
    out_some is

pub begin-requires-clause-wants_nothing : goal.begin-requires-clause-wants_nothing
begin-requires-clause-wants_nothing c =
    let is = out c.self.invariant (rw (← c.self.view_is) at c.requires.sound) (rw (← c.self.view_is) at c.requires.runs.1) c.index_mut.ensures.value
    c.take.ensures.value c.in-Some.is in
    out_wants is

pub invariant_of-self-in_default-begin : goal.invariant_of-self-in_default-begin
invariant_of-self-in_default-begin c =
    let is = out c.self.invariant (rw (← c.self.view_is) at c.requires.sound) (rw (← c.self.view_is) at c.requires.runs.1) c.index_mut.ensures.value
    c.take.ensures.value c.in-Some.is in
    same_machine c.self.inside _ c.self.invariant refl
    (put_state c.self.inside c.args.place c.in-Some.search c.begin.new.self c.take.new.self is c.in_default-begin.ensures.unchanged)

pub returns-in_default-begin : goal.returns-in_default-begin
returns-in_default-begin c =
    let is = out c.self.invariant (rw (← c.self.view_is) at c.requires.sound) (rw (← c.self.view_is) at c.requires.runs.1) c.index_mut.ensures.value
    c.take.ensures.value c.in-Some.is in
    rw (← c.self.view_is)
    (stays c.self.inside c.args.place is
    (subst (λ (value : SearchValue). IsDone value.stack) c.in_default-begin.ensures.unchanged c.in_default-begin.ensures.done)
    (put_state c.self.inside c.args.place c.in-Some.search c.begin.new.self c.take.new.self is c.in_default-begin.ensures.unchanged))

pub index-requires : goal.index-requires
index-requires c =
    let edge =
    has_edge c.self.view_is c.self.invariant c.requires.sound c.requires.runs c.index_mut.ensures.value c.take.ensures.value c.in-Some.is
    c.begin.ensures.next c.in-Some-begin.is c.in-Some-begin.ensures.begun in
    omega (arith, edge.within, c.self.inside.claimed.ok.0)

pub index_mut-requires-then-not-index : goal.index_mut-requires-then-not-index
index_mut-requires-then-not-index c =
    let edge =
    has_edge c.self.view_is c.self.invariant c.requires.sound c.requires.runs c.index_mut.ensures.value c.take.ensures.value c.in-Some.is
    c.begin.ensures.next c.in-Some-begin.is c.in-Some-begin.ensures.begun in
    omega (arith, edge.within, c.self.inside.claimed.ok.0)

pub invariant_of-self-then-not-index : goal.invariant_of-self-then-not-index
invariant_of-self-then-not-index c =
    let edge =
    has_edge c.self.view_is c.self.invariant c.requires.sound c.requires.runs c.index_mut.ensures.value c.take.ensures.value c.in-Some.is
    c.begin.ensures.next c.in-Some-begin.is c.in-Some-begin.ensures.begun in
    let step =
    claims_step c.self.inside c.args.place edge.out c.take.new.self c.in-Some-begin.node c.begin.new.self edge.begins c.begin.ensures.wants_nothing
    (unclaimed edge c.index.ensures c.if-not-index.true) in
    next_machine c.self.inside _ c.args.place (Open c.in-Some-begin.node) c.self.invariant edge.sound step (same_book c.self.inside.book)
    (put_length c.self.inside.running.items c.args.place c.take.new.self (Some c.begin.new.self))

pub returns-then-not-index : goal.returns-then-not-index
returns-then-not-index c =
    let edge =
    has_edge c.self.view_is c.self.invariant c.requires.sound c.requires.runs c.index_mut.ensures.value c.take.ensures.value c.in-Some.is
    c.begin.ensures.next c.in-Some-begin.is c.in-Some-begin.ensures.begun in
    let step =
    claims_step c.self.inside c.args.place edge.out c.take.new.self c.in-Some-begin.node c.begin.new.self edge.begins c.begin.ensures.wants_nothing
    (unclaimed edge c.index.ensures c.if-not-index.true) in
    rw (← c.self.view_is) (next_acts c.self.inside c.self.inside.book c.args.place (Open c.in-Some-begin.node) step (same_book c.self.inside.book))

pub back-requires-clause-some : goal.back-requires-clause-some
back-requires-clause-some c =
    let edge =
    has_edge c.self.view_is c.self.invariant c.requires.sound c.requires.runs c.index_mut.ensures.value c.take.ensures.value c.in-Some.is
    c.begin.ensures.next c.in-Some-begin.is c.in-Some-begin.ensures.begun in
    edge.has.has.some

pub invariant_of-self-then-back : goal.invariant_of-self-then-back
invariant_of-self-then-back c =
    let edge =
    has_edge c.self.view_is c.self.invariant c.requires.sound c.requires.runs c.index_mut.ensures.value c.take.ensures.value c.in-Some.is
    c.begin.ensures.next c.in-Some-begin.is c.in-Some-begin.ensures.begun in
    let on = c.back.ensures.on.0 c.if-back.true in
    let step =
    back_step c.self.inside c.args.place edge.out c.take.new.self c.in-Some-begin.node c.begin.new.self c.back.new.self edge.begins on
    (ap (λ (value : SearchValue). value.stack) (c.back.ensures.lowered c.if-back.true on.place on.within on.is)) c.back.ensures.wants_nothing in
    next_machine c.self.inside _ c.args.place Done c.self.invariant edge.sound step (same_book c.self.inside.book)
    (put_length c.self.inside.running.items c.args.place c.take.new.self (Some c.back.new.self))

pub returns-then-back : goal.returns-then-back
returns-then-back c =
    let edge =
    has_edge c.self.view_is c.self.invariant c.requires.sound c.requires.runs c.index_mut.ensures.value c.take.ensures.value c.in-Some.is
    c.begin.ensures.next c.in-Some-begin.is c.in-Some-begin.ensures.begun in
    let on = c.back.ensures.on.0 c.if-back.true in
    let step =
    back_step c.self.inside c.args.place edge.out c.take.new.self c.in-Some-begin.node c.begin.new.self c.back.new.self edge.begins on
    (ap (λ (value : SearchValue). value.stack) (c.back.ensures.lowered c.if-back.true on.place on.within on.is)) c.back.ensures.wants_nothing in
    rw (← c.self.view_is) (next_acts c.self.inside c.self.inside.book c.args.place Done step (same_book c.self.inside.book))

pub invariant_of-self-then-holds : goal.invariant_of-self-then-holds
invariant_of-self-then-holds c =
    let edge =
    has_edge c.self.view_is c.self.invariant c.requires.sound c.requires.runs c.index_mut.ensures.value c.take.ensures.value c.in-Some.is
    c.begin.ensures.next c.in-Some-begin.is c.in-Some-begin.ensures.begun in
    let step =
    pass_step c.self.inside c.args.place edge.out c.take.new.self c.in-Some-begin.node c.begin.new.self c.back.new.self edge.begins
    ((rw c.released.ensures at c.holds.ensures).0 c.if-holds.true) (rw c.if-back.false at c.back.ensures.unchanged) c.back.ensures.wants_nothing in
    next_machine c.self.inside _ c.args.place Done c.self.invariant edge.sound step (same_book c.self.inside.book)
    (put_length c.self.inside.running.items c.args.place c.take.new.self (Some c.back.new.self))

pub returns-then-holds : goal.returns-then-holds
returns-then-holds c =
    let edge =
    has_edge c.self.view_is c.self.invariant c.requires.sound c.requires.runs c.index_mut.ensures.value c.take.ensures.value c.in-Some.is
    c.begin.ensures.next c.in-Some-begin.is c.in-Some-begin.ensures.begun in
    let step =
    pass_step c.self.inside c.args.place edge.out c.take.new.self c.in-Some-begin.node c.begin.new.self c.back.new.self edge.begins
    ((rw c.released.ensures at c.holds.ensures).0 c.if-holds.true) (rw c.if-back.false at c.back.ensures.unchanged) c.back.ensures.wants_nothing in
    rw (← c.self.view_is) (next_acts c.self.inside c.self.inside.book c.args.place Done step (same_book c.self.inside.book))

pub suspend-requires-clause-can_wait : goal.suspend-requires-clause-can_wait
suspend-requires-clause-can_wait c =
    let edge =
    has_edge c.self.view_is c.self.invariant c.requires.sound c.requires.runs c.index_mut.ensures.value c.take.ensures.value c.in-Some.is
    c.begin.ensures.next c.in-Some-begin.is c.in-Some-begin.ensures.begun in
    edge_waits edge (rw c.if-back.false at c.back.ensures.unchanged) c.back.ensures.wants_nothing c.back.ensures.on c.if-back.false

pub suspend-requires-clause-good : goal.suspend-requires-clause-good
suspend-requires-clause-good c =
    let edge =
    has_edge c.self.view_is c.self.invariant c.requires.sound c.requires.runs c.index_mut.ensures.value c.take.ensures.value c.in-Some.is
    c.begin.ensures.next c.in-Some-begin.is c.in-Some-begin.ensures.begun in
    edge_good edge (rw c.if-back.false at c.back.ensures.unchanged) c.back.ensures.wants_nothing

pub invariant_of-self-in-Ok-Kept : goal.invariant_of-self-in-Ok-Kept
invariant_of-self-in-Ok-Kept c =
    let edge =
    has_edge c.self.view_is c.self.invariant c.requires.sound c.requires.runs c.index_mut.ensures.value c.take.ensures.value c.in-Some.is
    c.begin.ensures.next c.in-Some-begin.is c.in-Some-begin.ensures.begun in
    let step =
    suspend_step c.self.inside c.args.place edge.out c.take.new.self c.in-Some-begin.node c.begin.new.self c.back.new.self c.suspend.new.self edge.begins
    (other edge c.index.ensures c.if-not-index.false (rw c.released.ensures at c.holds.ensures) c.if-holds.false c.back.ensures.on c.if-back.false)
    (rw c.if-back.false at c.back.ensures.unchanged) c.take.ensures.after (rw c.in-Ok-Kept.field-0-is at c.in-Ok-Kept.ensures.done) c.in-Ok-Kept.ensures.only in
    next_machine c.self.inside _ c.args.place Done c.self.invariant edge.sound step (book_only c.suspend.new.self.kept c.self.inside.book.groups c.in-Ok-Kept.ensures.only)
    (length-set c.self.inside.running.items c.args.place c.take.new.self)

pub returns-in-Ok-Kept : goal.returns-in-Ok-Kept
returns-in-Ok-Kept c =
    let edge =
    has_edge c.self.view_is c.self.invariant c.requires.sound c.requires.runs c.index_mut.ensures.value c.take.ensures.value c.in-Some.is
    c.begin.ensures.next c.in-Some-begin.is c.in-Some-begin.ensures.begun in
    let step =
    suspend_step c.self.inside c.args.place edge.out c.take.new.self c.in-Some-begin.node c.begin.new.self c.back.new.self c.suspend.new.self edge.begins
    (other edge c.index.ensures c.if-not-index.false (rw c.released.ensures at c.holds.ensures) c.if-holds.false c.back.ensures.on c.if-back.false)
    (rw c.if-back.false at c.back.ensures.unchanged) c.take.ensures.after (rw c.in-Ok-Kept.field-0-is at c.in-Ok-Kept.ensures.done) c.in-Ok-Kept.ensures.only in
    rw (← c.self.view_is) (next_acts c.self.inside c.suspend.new.self c.args.place Done step (book_only c.suspend.new.self.kept c.self.inside.book.groups c.in-Ok-Kept.ensures.only))

pub invariant_of-self-in-Ok-Moved : goal.invariant_of-self-in-Ok-Moved
invariant_of-self-in-Ok-Moved c =
    let edge =
    has_edge c.self.view_is c.self.invariant c.requires.sound c.requires.runs c.index_mut.ensures.value c.take.ensures.value c.in-Some.is
    c.begin.ensures.next c.in-Some-begin.is c.in-Some-begin.ensures.begun in
    let step =
    transfer_step c.self.inside c.args.place edge.out c.take.new.self c.in-Some-begin.node c.begin.new.self c.back.new.self c.in-Ok-Moved.after c.suspend.new.self edge.begins
    (other edge c.index.ensures c.if-not-index.false (rw c.released.ensures at c.holds.ensures) c.if-holds.false c.back.ensures.on c.if-back.false)
    (rw c.if-back.false at c.back.ensures.unchanged) (rw c.in-Ok-Moved.field-0-is at c.in-Ok-Moved.ensures.done) c.in-Ok-Moved.ensures.only in
    next_machine c.self.inside _ c.args.place Done c.self.invariant edge.sound step (book_only c.suspend.new.self.kept c.self.inside.book.groups c.in-Ok-Moved.ensures.only)
    (put_length c.self.inside.running.items c.args.place c.take.new.self (Some c.in-Ok-Moved.after))

pub returns-in-Ok-Moved : goal.returns-in-Ok-Moved
returns-in-Ok-Moved c =
    let edge =
    has_edge c.self.view_is c.self.invariant c.requires.sound c.requires.runs c.index_mut.ensures.value c.take.ensures.value c.in-Some.is
    c.begin.ensures.next c.in-Some-begin.is c.in-Some-begin.ensures.begun in
    let step =
    transfer_step c.self.inside c.args.place edge.out c.take.new.self c.in-Some-begin.node c.begin.new.self c.back.new.self c.in-Ok-Moved.after c.suspend.new.self edge.begins
    (other edge c.index.ensures c.if-not-index.false (rw c.released.ensures at c.holds.ensures) c.if-holds.false c.back.ensures.on c.if-back.false)
    (rw c.if-back.false at c.back.ensures.unchanged) (rw c.in-Ok-Moved.field-0-is at c.in-Ok-Moved.ensures.done) c.in-Ok-Moved.ensures.only in
    rw (← c.self.view_is) (next_acts c.self.inside c.suspend.new.self c.args.place Done step (book_only c.suspend.new.self.kept c.self.inside.book.groups c.in-Ok-Moved.ensures.only))

pub invariant_of-self-in-Err : goal.invariant_of-self-in-Err
invariant_of-self-in-Err c =
    let edge =
    has_edge c.self.view_is c.self.invariant c.requires.sound c.requires.runs c.index_mut.ensures.value c.take.ensures.value c.in-Some.is
    c.begin.ensures.next c.in-Some-begin.is c.in-Some-begin.ensures.begun in
    let same = ap (λ (value : SearchValue). value.stack) (rw c.if-back.false at c.back.ensures.unchanged) in
    let book = c.fail.ensures ∙ ap (λ (value : BookValue). record value { failed = true }) c.in-Err.ensures.unchanged in
    let stops =
    begun_stops c.self.inside c.args.place edge.out c.take.new.self c.in-Some-begin.node c.begin.new.self c.in-Err.back c.fail.new.self edge.begins
    (c.in-Err.ensures.back ∙ same) c.in-Err.ensures.back_wants book in
    fails_machine c.self.inside _ c.args.place c.self.invariant edge.sound stops book
    (put_length c.self.inside.running.items c.args.place c.take.new.self (Some c.in-Err.back))

pub returns-in-Err : goal.returns-in-Err
returns-in-Err c =
    let edge =
    has_edge c.self.view_is c.self.invariant c.requires.sound c.requires.runs c.index_mut.ensures.value c.take.ensures.value c.in-Some.is
    c.begin.ensures.next c.in-Some-begin.is c.in-Some-begin.ensures.begun in
    let same = ap (λ (value : SearchValue). value.stack) (rw c.if-back.false at c.back.ensures.unchanged) in
    let book = c.fail.ensures ∙ ap (λ (value : BookValue). record value { failed = true }) c.in-Err.ensures.unchanged in
    let stops =
    begun_stops c.self.inside c.args.place edge.out c.take.new.self c.in-Some-begin.node c.begin.new.self c.in-Err.back c.fail.new.self edge.begins
    (c.in-Err.ensures.back ∙ same) c.in-Err.ensures.back_wants book in
    rw (← c.self.view_is) (fails c.self.inside c.fail.new.self c.args.place stops book)
