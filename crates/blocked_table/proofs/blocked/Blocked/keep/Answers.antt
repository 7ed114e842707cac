use Rattle.std.proofs.Common.{◌≡◌, ◌+◌, ◌∙◌, length, set, Some, ap, subst, arith, length-set}
use Rattle.std.proofs.lemmas.List.{append-nil, length_push}
use Rattle.blocked_table.specs.BlockedFields.{IsVacant, wait_word}
use Rattle.blocked_table.specs.Listed.{AreJust}
use Rattle.blocked_table.specs.Suspending.{Adds}
use Rattle.blocked_table.specs.Waiters.{WaitersValue}
use Rattle.blocked_table.proofs.EndSteps.{adds_at, adds_last, put_at, room_left, vacant_last}
use Rattle.blocked_table.proofs.FieldSteps.{still_whole}
use Rattle.blocked_table.proofs.KeepTables.{keep_popped, keep_pushed, keep_ready, keep_table, keep_words}
use Rattle.blocked_table.proofs.Waits.{waiting_put, word_some}
use Rattle.blocked_table.proofs.blocked.Blocked.keep.Goals as goal

pub write_words-requires-clause-below : goal.write_words-requires-clause-below
write_words-requires-clause-below c =
    let put = put_at c.self.inside c.self.view_is c.requires.can_wait c.requires.room c.requires.never c.set_wanted.ensures in
    λ v on. omega (arith, put.below v on, c.in-Ok.ensures.whole.words)

pub add-requires-clause-place : goal.add-requires-clause-place
add-requires-clause-place c =
    let put = put_at c.self.inside c.self.view_is c.requires.can_wait c.requires.room c.requires.never c.set_wanted.ensures in
    let room = room_left c.self.invariant c.in_default.ensures.cases.0 put.slot in
    omega (arith, room, c.len-place.ensures, c.self.inside.kept.ok.0, c.in-Ok.ensures.whole.places)

pub add-requires-clause-none : goal.add-requires-clause-none
add-requires-clause-none c =
    let last : c.len-place.result ≡ length c.self.inside.kept.items = omega (arith, c.len-place.ensures, c.self.inside.kept.ok.0) in
    c.write_first.ensures.waiting c.len-place.result
    ∙ ap wait_word (adds_last c.self.inside.kept.items c.len-place.result c.set_wanted.new.self last).vacant

pub invariant_of-self-in_default : goal.invariant_of-self-in_default
invariant_of-self-in_default c =
    let put = put_at c.self.inside c.self.view_is c.requires.can_wait c.requires.room c.requires.never c.set_wanted.ensures in
    let pushed = rw c.unwrap.ensures at c.push.ensures.items in
    let last : c.len-place.result ≡ length c.self.inside.kept.items = omega (arith, c.len-place.ensures, c.self.inside.kept.ok.0) in
    let adds : Adds c.self.inside.kept.items c.push.new.self.items c.len-place.result c.set_wanted.new.self =
    rw pushed (adds_last c.self.inside.kept.items c.len-place.result c.set_wanted.new.self last) in
    let room = room_left c.self.invariant c.in_default.ensures.cases.0 put.slot in
    record {
      table =
          keep_table adds c.args.on put.wants put.off c.self.inside.count c.self.inside.most (omega (
            arith,
            room,
            ap length pushed,
            length_push c.self.inside.kept.items (Some c.set_wanted.new.self),
          ))
          (record { some = put.some; distinct = c.write_words.ensures.distinct }) put.below put.never c.self.invariant.table;
      words = keep_words adds c.args.on put.wants put.off c.write_first.ensures.words c.write_words.ensures.written;
      waiting =
          rw c.add.ensures
          (waiting_put c.self.inside.kept.items c.push.new.self.items c.write_first.new.waiters.words c.len-place.result (c.args.on + 1) c.write_first.ensures.waiting
          (omega (arith, room, last, c.in-Ok.ensures.whole.places)) (word_some c.push.new.self.items c.len-place.result c.args.on c.set_wanted.new.self adds.at put.wants) adds.same);
      whole = λ some.
          still_whole c.in-Ok.ensures.whole c.write_words.ensures.written.each (ap (λ (all : WaitersValue). all.count) c.add.ensures)
          (ap (λ (all : WaitersValue). length all.words) c.add.ensures ∙ length-set c.write_first.new.waiters.words c.len-place.result (c.args.on + 1));
      vacant = subst (AreJust (IsVacant c.push.new.self.items)) (c.in_default.ensures.items ∙ append-nil c.pop.new.self.items)
          (keep_pushed adds c.args.on put.wants put.off last (ap length pushed ∙ length_push c.self.inside.kept.items (Some c.set_wanted.new.self))
          c.self.invariant.vacant);
      ready = keep_ready adds c.args.on put.wants put.off c.self.invariant.ready;
      kept_room = omega (arith, c.self.invariant.kept_room, c.push.ensures.capacity);
      vacant_room = omega (arith, c.self.invariant.vacant_room, c.pop.ensures.capacity);
      ready_room = c.self.invariant.ready_room;
    }

pub returns-in_default-clause-kept : goal.returns-in_default-clause-kept
returns-in_default-clause-kept c =
    let pushed = rw c.unwrap.ensures at c.push.ensures.items in
    let last : c.len-place.result ≡ length c.self.inside.kept.items = omega (arith, c.len-place.ensures, c.self.inside.kept.ok.0) in
    let adds : Adds c.self.inside.kept.items c.push.new.self.items c.len-place.result c.set_wanted.new.self =
    rw pushed (adds_last c.self.inside.kept.items c.len-place.result c.set_wanted.new.self last) in
    rw (← c.self.view_is)
    (c.len-place.result, subst (Adds c.self.inside.kept.items c.push.new.self.items c.len-place.result) c.set_wanted.ensures adds)

pub overflow_add-place-2 : goal.overflow_add-place-2
overflow_add-place-2 c =
    let vacant = vacant_last c.self.invariant c.pop.new.self.items c.in-Some.place c.in-Some.ensures.items in
    let adds = adds_at c.self.inside.kept.items c.in-Some.place c.set_wanted.new.self vacant.0 vacant.1 in
    omega (arith, vacant.0, c.self.invariant.table.few)

pub write_words-requires-2-clause-below : goal.write_words-requires-2-clause-below
write_words-requires-2-clause-below c =
    let put = put_at c.self.inside c.self.view_is c.requires.can_wait c.requires.room c.requires.never c.set_wanted.ensures in
    λ v on. omega (arith, put.below v on, c.in-Ok.ensures.whole.words)

pub add-requires-2-clause-place : goal.add-requires-2-clause-place
add-requires-2-clause-place c =
    let vacant = vacant_last c.self.invariant c.pop.new.self.items c.in-Some.place c.in-Some.ensures.items in
    omega (arith, vacant.0, c.self.invariant.table.few, c.in-Ok.ensures.whole.places)

pub add-requires-2-clause-none : goal.add-requires-2-clause-none
add-requires-2-clause-none c =
    let vacant = vacant_last c.self.invariant c.pop.new.self.items c.in-Some.place c.in-Some.ensures.items in
    c.write_first.ensures.waiting c.in-Some.place ∙ ap wait_word vacant.1

pub index_mut-requires : goal.index_mut-requires
index_mut-requires c =
    let vacant = vacant_last c.self.invariant c.pop.new.self.items c.in-Some.place c.in-Some.ensures.items in
    let adds = adds_at c.self.inside.kept.items c.in-Some.place c.set_wanted.new.self vacant.0 vacant.1 in
    omega (arith, vacant.0, c.self.inside.kept.ok.0)

pub invariant_of-self-2 : goal.invariant_of-self-2
invariant_of-self-2 c =
    let put = put_at c.self.inside c.self.view_is c.requires.can_wait c.requires.room c.requires.never c.set_wanted.ensures in
    let vacant = vacant_last c.self.invariant c.pop.new.self.items c.in-Some.place c.in-Some.ensures.items in
    let adds = adds_at c.self.inside.kept.items c.in-Some.place c.set_wanted.new.self vacant.0 vacant.1 in
    record {
      table =
          keep_table adds c.args.on put.wants put.off c.self.inside.count c.self.inside.most (omega (
            arith,
            c.self.invariant.table.few,
            length-set c.self.inside.kept.items c.in-Some.place (Some c.set_wanted.new.self),
          ))
          (record { some = put.some; distinct = c.write_words-2.ensures.distinct }) put.below put.never c.self.invariant.table;
      words = keep_words adds c.args.on put.wants put.off c.write_first.ensures.words c.write_words-2.ensures.written;
      waiting =
          rw c.add-2.ensures
          (waiting_put c.self.inside.kept.items (set c.self.inside.kept.items c.in-Some.place (Some c.set_wanted.new.self)) c.write_first.new.waiters.words c.in-Some.place (c.args.on + 1) c.write_first.ensures.waiting
          (omega (arith, vacant.0, c.self.invariant.table.few, c.in-Ok.ensures.whole.places)) (word_some (set c.self.inside.kept.items c.in-Some.place (Some c.set_wanted.new.self)) c.in-Some.place c.args.on c.set_wanted.new.self adds.at put.wants) adds.same);
      whole = λ some.
          still_whole c.in-Ok.ensures.whole c.write_words-2.ensures.written.each (ap (λ (all : WaitersValue). all.count) c.add-2.ensures)
          (ap (λ (all : WaitersValue). length all.words) c.add-2.ensures ∙ length-set c.write_first.new.waiters.words c.in-Some.place (c.args.on + 1));
      vacant = keep_popped adds c.args.on put.wants put.off c.pop.new.self.items
          (length-set c.self.inside.kept.items c.in-Some.place (Some c.set_wanted.new.self))
          (subst (AreJust (IsVacant c.self.inside.kept.items)) c.in-Some.ensures.items c.self.invariant.vacant);
      ready = keep_ready adds c.args.on put.wants put.off c.self.invariant.ready;
      kept_room = c.self.invariant.kept_room;
      vacant_room = omega (arith, c.self.invariant.vacant_room, c.pop.ensures.capacity);
      ready_room = c.self.invariant.ready_room;
    }

pub returns-clause-kept : goal.returns-clause-kept
returns-clause-kept c =
    let vacant = vacant_last c.self.invariant c.pop.new.self.items c.in-Some.place c.in-Some.ensures.items in
    let adds = adds_at c.self.inside.kept.items c.in-Some.place c.set_wanted.new.self vacant.0 vacant.1 in
    rw (← c.self.view_is) (
      c.in-Some.place,
      subst (Adds c.self.inside.kept.items (set c.self.inside.kept.items c.in-Some.place (Some c.set_wanted.new.self)) c.in-Some.place)
          c.set_wanted.ensures adds,
    )
