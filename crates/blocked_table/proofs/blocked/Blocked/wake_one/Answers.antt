use Rattle.std.proofs.Common.{◌∙◌, Some, refl, ap, length, set, sym, arith, length-set}
use Rattle.blocked_table.specs.BlockedFields.{wait_word}
use Rattle.blocked_table.specs.Waiters.{WaitersValue}
use Rattle.blocked_table.proofs.Chain.{place_within}
use Rattle.blocked_table.proofs.FieldSteps.{still_whole}
use Rattle.blocked_table.proofs.Waits.{waiting_put}
use Rattle.blocked_table.proofs.WakeSteps.{one_some, ready_more, ready_room, woken_here}
use Rattle.blocked_table.proofs.WakeTables.{wake_table, wake_vacant, wake_words}
use Rattle.blocked_table.proofs.blocked.Blocked.wake_one.Goals as goal

pub unwrap-requires : goal.unwrap-requires
unwrap-requires c =
    let one =
    woken_here c.self.inside.waiters.words c.self.inside.kept.items c.self.invariant.waiting c.in-Some.place c.args.node c.index_mut.result.now
    c.in-Some-take.search c.take.new.self (Some c.clear_wanted.new.self) c.in-Some.ensures.some c.index_mut.ensures.value
    (sym c.take.ensures.value ∙ c.in-Some-take.is) (ap (λ search. Some search) c.clear_wanted.ensures) in
    let more = ready_more c.self.inside.ready.items one.place c.args.node one.search one.at one.wants one.ready one.same c.self.invariant.ready in
    let room = ready_room c.self.inside.ready.items one.place (length c.self.inside.kept.items) more one.each in
    c.push.ensures.succeeds (omega (arith, room, c.self.inside.ready.ok.0, c.self.invariant.ready_room, c.self.invariant.table.few))

pub invariant_of-self-2 : goal.invariant_of-self-2
invariant_of-self-2 c =
    let one =
    woken_here c.self.inside.waiters.words c.self.inside.kept.items c.self.invariant.waiting c.in-Some.place c.args.node c.index_mut.result.now
    c.in-Some-take.search c.take.new.self (Some c.clear_wanted.new.self) c.in-Some.ensures.some c.index_mut.ensures.value
    (sym c.take.ensures.value ∙ c.in-Some-take.is) (ap (λ search. Some search) c.clear_wanted.ensures) in
    let within = place_within c.self.inside.kept.items one.place one.search one.at in
    let more = ready_more c.self.inside.ready.items one.place c.args.node one.search one.at one.wants one.ready one.same c.self.invariant.ready in
    let pushed = rw c.unwrap.ensures at c.push.ensures.items in
    record {
      table = wake_table (one_some one) c.self.inside.count c.self.inside.most c.self.invariant.table;
      words = wake_words (one_some one) c.self.inside.holders.items c.self.invariant.words;
      waiting =
          rw c.remove.ensures
          (waiting_put c.self.inside.kept.items
          (set (set c.self.inside.kept.items c.in-Some.place c.take.new.self) c.in-Some.place (Some c.clear_wanted.new.self)) c.self.inside.waiters.words one.place 0 c.self.invariant.waiting
          (omega (arith, within, c.self.invariant.table.few, (c.self.invariant.whole (omega (arith, within))).places))
          (ap wait_word one.ready) one.same);
      whole = λ some.
          still_whole (c.self.invariant.whole (omega (arith, within))) refl (ap (λ (all : WaitersValue). all.count) c.remove.ensures)
          (ap (λ (all : WaitersValue). length all.words) c.remove.ensures ∙ length-set c.self.inside.waiters.words c.in-Some.place 0);
      vacant = wake_vacant (one_some one) c.self.invariant.vacant;
      ready = rw pushed more;
      kept_room = c.self.invariant.kept_room;
      vacant_room = c.self.invariant.vacant_room;
      ready_room = omega (arith, c.self.invariant.ready_room, c.push.ensures.capacity);
    }

pub returns-clause-woken : goal.returns-clause-woken
returns-clause-woken c =
    let one =
    woken_here c.self.inside.waiters.words c.self.inside.kept.items c.self.invariant.waiting c.in-Some.place c.args.node c.index_mut.result.now
    c.in-Some-take.search c.take.new.self (Some c.clear_wanted.new.self) c.in-Some.ensures.some c.index_mut.ensures.value
    (sym c.take.ensures.value ∙ c.in-Some-take.is) (ap (λ search. Some search) c.clear_wanted.ensures) in
    rw (← c.self.view_is) (λ _. one)
