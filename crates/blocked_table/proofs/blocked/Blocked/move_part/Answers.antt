use Rattle.std.proofs.Common.{◌+◌, ◌∙◌, length, set, None, Some, refl, ap, sym, subst, arith, get_or-set_same, get_or-set_other, length-set}
use Rattle.search_stack.specs.Stack.{size}
use Rattle.blocked_table.specs.BlockedFields.{wait_word}
use Rattle.blocked_table.specs.Waiters.{WaitersValue}
use Rattle.blocked_table.specs.Words.{AreWritten}
use Rattle.blocked_table.proofs.Chain.{none_is_not}
use Rattle.blocked_table.proofs.FieldSteps.{still_whole}
use Rattle.blocked_table.proofs.PartSteps.{nothing_left, part_at, rest_left, rest_length, rest_there, room_for, spare_left}
use Rattle.blocked_table.proofs.PartTables.{part_kept, part_ready, part_table, part_vacant, part_words, rest_held}
use Rattle.blocked_table.proofs.Waits.{waiting_put, word_some}
use Rattle.blocked_table.proofs.blocked.Blocked.move_part.Goals as goal

pub invariant_of-self-in_default-wanted : goal.invariant_of-self-in_default-wanted
invariant_of-self-in_default-wanted c =
    let part =
    part_at c.self.view_is c.self.invariant c.requires.step c.requires.last c.requires.apart c.requires.good c.index_mut.ensures.value
    (sym c.take.ensures.value ∙ c.in-Some.is) in
    absurd (none_is_not part.donor_is.wants c.in-Some.donor.wanted (sym c.in_default-wanted.ensures) part.donor_is.wanted)

pub returns-in_default-wanted-clause-moved : goal.returns-in_default-wanted-clause-moved
returns-in_default-wanted-clause-moved c =
    let part =
    part_at c.self.view_is c.self.invariant c.requires.step c.requires.last c.requires.apart c.requires.good c.index_mut.ensures.value
    (sym c.take.ensures.value ∙ c.in-Some.is) in
    absurd (none_is_not part.donor_is.wants c.in-Some.donor.wanted (sym c.in_default-wanted.ensures) part.donor_is.wanted)

pub invariant_of-self-in_default-cut : goal.invariant_of-self-in_default-cut
invariant_of-self-in_default-cut c =
    let part =
    part_at c.self.view_is c.self.invariant c.requires.step c.requires.last c.requires.apart c.requires.good c.index_mut.ensures.value
    (sym c.take.ensures.value ∙ c.in-Some.is) in
    absurd (c.in_default-cut.ensures.none part.donor_is.on)

pub returns-in_default-cut-clause-moved : goal.returns-in_default-cut-clause-moved
returns-in_default-cut-clause-moved c =
    let part =
    part_at c.self.view_is c.self.invariant c.requires.step c.requires.last c.requires.apart c.requires.good c.index_mut.ensures.value
    (sym c.take.ensures.value ∙ c.in-Some.is) in
    absurd (c.in_default-cut.ensures.none part.donor_is.on)

pub write_words-requires-clause-below : goal.write_words-requires-clause-below
write_words-requires-clause-below c =
    let part =
    part_at c.self.view_is c.self.invariant c.requires.step c.requires.last c.requires.apart c.requires.good c.index_mut.ensures.value
    (sym c.take.ensures.value ∙ c.in-Some.is) in
    λ v on. omega (arith, c.self.invariant.table.below c.args.place v (record { search = c.in-Some.donor; at = part.donor_is.at; on = on }), part.whole.words)

pub append-requires-clause-apart : goal.append-requires-clause-apart
append-requires-clause-apart c =
    let part =
    part_at c.self.view_is c.self.invariant c.requires.step c.requires.last c.requires.apart c.requires.good c.index_mut.ensures.value
    (sym c.take.ensures.value ∙ c.in-Some.is) in
    let apart = rw (← c.self.view_is) at c.requires.apart in
    λ v mine there. apart c.args.place v (record { search = c.in-Some.donor; at = part.donor_is.at; on = there }) mine

pub unwrap-requires : goal.unwrap-requires
unwrap-requires c =
    let part =
    part_at c.self.view_is c.self.invariant c.requires.step c.requires.last c.requires.apart c.requires.good c.index_mut.ensures.value
    (sym c.take.ensures.value ∙ c.in-Some.is) in
    let away =
    nothing_left part c.in-Some-cut.ensures.cut (sym c.in-Some-wanted.ensures) c.take.new.self c.append.new.donor c.append.ensures.moved
    c.take.ensures.after (sym c.in_default-wanted-2.ensures) in
    let same = length-set c.self.inside.kept.items c.args.place c.take.new.self in
    let gone = get_or-set_same c.self.inside.kept.items c.args.place c.take.new.self None part.place_in ∙ c.take.ensures.after in
    let vacant = part_vacant (c.args.place, c.in-Some-cut.cut.frame) part.way away c.self.inside.vacant.items same gone c.self.invariant.vacant in
    c.push.ensures.succeeds (room_for c.self.invariant away.next c.args.place vacant same)

pub invariant_of-self-in_default-wanted-2 : goal.invariant_of-self-in_default-wanted-2
invariant_of-self-in_default-wanted-2 c =
    let part =
    part_at c.self.view_is c.self.invariant c.requires.step c.requires.last c.requires.apart c.requires.good c.index_mut.ensures.value
    (sym c.take.ensures.value ∙ c.in-Some.is) in
    let away =
    nothing_left part c.in-Some-cut.ensures.cut (sym c.in-Some-wanted.ensures) c.take.new.self c.append.new.donor c.append.ensures.moved
    c.take.ensures.after (sym c.in_default-wanted-2.ensures) in
    let same = length-set c.self.inside.kept.items c.args.place c.take.new.self in
    let gone = get_or-set_same c.self.inside.kept.items c.args.place c.take.new.self None part.place_in ∙ c.take.ensures.after in
    let vacant = part_vacant (c.args.place, c.in-Some-cut.cut.frame) part.way away c.self.inside.vacant.items same gone c.self.invariant.vacant in
    let written =
    subst (λ from. AreWritten c.in-Some.donor.stack from (size c.in-Some.donor.stack) 0 c.self.inside.holders.items c.write_words.new.holders.items)
    c.in-Some-cut.ensures.position c.write_words.ensures.written in
    let pushed = rw c.unwrap.ensures at c.push.ensures.items in
    record {
      table =
          part_table (c.args.place, c.in-Some-cut.cut.frame) part.way away c.self.inside.count c.self.inside.most same c.self.invariant.table;
      words = part_words (c.args.place, c.in-Some-cut.cut.frame) part.way away c.self.invariant.words written;
      waiting =
          rw c.remove.ensures
          (waiting_put c.self.inside.kept.items away.next c.self.inside.waiters.words c.args.place 0 c.self.invariant.waiting
          (part.word_in)
          (ap wait_word gone) away.same);
      whole = λ some.
          still_whole part.whole c.write_words.ensures.written.each (ap (λ (all : WaitersValue). all.count) c.remove.ensures)
          (ap (λ (all : WaitersValue). length all.words) c.remove.ensures ∙ length-set c.self.inside.waiters.words c.args.place 0);
      vacant = rw pushed vacant;
      ready = part_ready (c.args.place, c.in-Some-cut.cut.frame) part.way away c.self.invariant.ready;
      kept_room = c.self.invariant.kept_room;
      vacant_room = omega (arith, c.self.invariant.vacant_room, c.push.ensures.capacity);
      ready_room = c.self.invariant.ready_room;
    }

pub returns-in_default-wanted-2-clause-moved : goal.returns-in_default-wanted-2-clause-moved
returns-in_default-wanted-2-clause-moved c =
    let part =
    part_at c.self.view_is c.self.invariant c.requires.step c.requires.last c.requires.apart c.requires.good c.index_mut.ensures.value
    (sym c.take.ensures.value ∙ c.in-Some.is) in
    let away =
    nothing_left part c.in-Some-cut.ensures.cut (sym c.in-Some-wanted.ensures) c.take.new.self c.append.new.donor c.append.ensures.moved
    c.take.ensures.after (sym c.in_default-wanted-2.ensures) in
    rw (← c.self.view_is)
    (record {
      part = record { frame = c.in-Some-cut.cut.frame; away = away; next_is = refl; stack_is = c.append.ensures.moved.joined; wants_is = refl };
      wants_nothing = c.append.ensures.moved.wants_nothing;
      spare =
          spare_left part c.in-Some-cut.ensures.cut (sym c.in-Some-wanted.ensures) c.take.new.self c.append.new.donor c.append.ensures.moved;
    })

pub remove-requires-clause-place : goal.remove-requires-clause-place
remove-requires-clause-place c =
    let part =
    part_at c.self.view_is c.self.invariant c.requires.step c.requires.last c.requires.apart c.requires.good c.index_mut.ensures.value
    (sym c.take.ensures.value ∙ c.in-Some.is) in
    part.word_in

pub remove-requires-clause-waits : goal.remove-requires-clause-waits
remove-requires-clause-waits c =
    let part =
    part_at c.self.view_is c.self.invariant c.requires.step c.requires.last c.requires.apart c.requires.good c.index_mut.ensures.value
    (sym c.take.ensures.value ∙ c.in-Some.is) in
    omega (
      arith,
      c.self.invariant.waiting c.args.place,
      word_some c.self.inside.kept.items c.args.place part.donor_is.wants c.in-Some.donor part.donor_is.at part.donor_is.wanted,
    )

pub add-requires-clause-node : goal.add-requires-clause-node
add-requires-clause-node c =
    let part =
    part_at c.self.view_is c.self.invariant c.requires.step c.requires.last c.requires.apart c.requires.good c.index_mut.ensures.value
    (sym c.take.ensures.value ∙ c.in-Some.is) in
    let away =
    rest_left part c.in-Some-cut.ensures.cut (sym c.in-Some-wanted.ensures) c.take.new.self c.append.new.donor c.append.ensures.moved
    c.in-Some-wanted-2.wants (sym c.in-Some-wanted-2.ensures) in
    let same = rest_length part c.in-Some-cut.ensures.cut (sym c.in-Some-wanted.ensures) c.take.new.self c.append.new.donor c.append.ensures.moved in
    let there = rest_there part c.in-Some-cut.ensures.cut (sym c.in-Some-wanted.ensures) c.take.new.self c.append.new.donor c.append.ensures.moved in
    let held = rest_held (c.args.place, c.in-Some-cut.cut.frame) part.way away c.append.new.donor c.in-Some-wanted-2.wants there (sym c.in-Some-wanted-2.ensures) in
    let below = c.self.invariant.table.below c.args.place c.in-Some-wanted-2.wants held in
    omega (arith, below, part.whole.nodes, ap (λ (all : WaitersValue). all.count) c.remove.ensures)

pub add-requires-clause-none : goal.add-requires-clause-none
add-requires-clause-none c =
    let part =
    part_at c.self.view_is c.self.invariant c.requires.step c.requires.last c.requires.apart c.requires.good c.index_mut.ensures.value
    (sym c.take.ensures.value ∙ c.in-Some.is) in
    rw c.remove.ensures (get_or-set_same c.self.inside.waiters.words c.args.place 0 0 part.word_in)

pub invariant_of-self-2 : goal.invariant_of-self-2
invariant_of-self-2 c =
    let part =
    part_at c.self.view_is c.self.invariant c.requires.step c.requires.last c.requires.apart c.requires.good c.index_mut.ensures.value
    (sym c.take.ensures.value ∙ c.in-Some.is) in
    let away =
    rest_left part c.in-Some-cut.ensures.cut (sym c.in-Some-wanted.ensures) c.take.new.self c.append.new.donor c.append.ensures.moved
    c.in-Some-wanted-2.wants (sym c.in-Some-wanted-2.ensures) in
    let same = rest_length part c.in-Some-cut.ensures.cut (sym c.in-Some-wanted.ensures) c.take.new.self c.append.new.donor c.append.ensures.moved in
    let there = rest_there part c.in-Some-cut.ensures.cut (sym c.in-Some-wanted.ensures) c.take.new.self c.append.new.donor c.append.ensures.moved in
    let written =
    subst (λ from. AreWritten c.in-Some.donor.stack from (size c.in-Some.donor.stack) 0 c.self.inside.holders.items c.write_words.new.holders.items)
    c.in-Some-cut.ensures.position c.write_words.ensures.written in
    let held = rest_held (c.args.place, c.in-Some-cut.cut.frame) part.way away c.append.new.donor c.in-Some-wanted-2.wants there (sym c.in-Some-wanted-2.ensures) in
    let cleared = length-set c.self.inside.waiters.words c.args.place 0 in
    record {
      table =
          part_table (c.args.place, c.in-Some-cut.cut.frame) part.way away c.self.inside.count c.self.inside.most same c.self.invariant.table;
      words = part_words (c.args.place, c.in-Some-cut.cut.frame) part.way away c.self.invariant.words written;
      waiting =
          rw (c.add.ensures, c.remove.ensures)
          (waiting_put (set c.self.inside.kept.items c.args.place c.take.new.self) away.next (set c.self.inside.waiters.words c.args.place 0) c.args.place
          (c.in-Some-wanted-2.wants + 1)
          (waiting_put c.self.inside.kept.items (set c.self.inside.kept.items c.args.place c.take.new.self) c.self.inside.waiters.words c.args.place 0
          c.self.invariant.waiting part.word_in
          (ap wait_word
          (get_or-set_same c.self.inside.kept.items c.args.place c.take.new.self None
          part.place_in
          ∙ c.take.ensures.after))
          (λ i ne. get_or-set_other c.self.inside.kept.items c.args.place i c.take.new.self None ne))
          (omega (arith, part.word_in, cleared))
          (word_some away.next c.args.place c.in-Some-wanted-2.wants c.append.new.donor there (sym c.in-Some-wanted-2.ensures))
          (λ i ne. get_or-set_other (set c.self.inside.kept.items c.args.place c.take.new.self) c.args.place i (Some c.append.new.donor) None ne));
      whole = λ some.
          still_whole part.whole c.write_words.ensures.written.each
          (ap (λ (all : WaitersValue). all.count) c.add.ensures ∙ ap (λ (all : WaitersValue). all.count) c.remove.ensures)
          (omega (
            arith,
            ap (λ (all : WaitersValue). length all.words) c.add.ensures,
            ap (λ (all : WaitersValue). length all.words) c.remove.ensures,
            cleared,
            length-set c.remove.new.self.words c.args.place (c.in-Some-wanted-2.wants + 1),
          ));
      vacant = part_kept (c.args.place, c.in-Some-cut.cut.frame) part.way away c.append.new.donor same there c.self.invariant.vacant;
      ready = part_ready (c.args.place, c.in-Some-cut.cut.frame) part.way away c.self.invariant.ready;
      kept_room = c.self.invariant.kept_room;
      vacant_room = c.self.invariant.vacant_room;
      ready_room = c.self.invariant.ready_room;
    }

pub returns-clause-moved : goal.returns-clause-moved
returns-clause-moved c =
    let part =
    part_at c.self.view_is c.self.invariant c.requires.step c.requires.last c.requires.apart c.requires.good c.index_mut.ensures.value
    (sym c.take.ensures.value ∙ c.in-Some.is) in
    let away =
    rest_left part c.in-Some-cut.ensures.cut (sym c.in-Some-wanted.ensures) c.take.new.self c.append.new.donor c.append.ensures.moved
    c.in-Some-wanted-2.wants (sym c.in-Some-wanted-2.ensures) in
    rw (← c.self.view_is)
    (record {
      part = record { frame = c.in-Some-cut.cut.frame; away = away; next_is = refl; stack_is = c.append.ensures.moved.joined; wants_is = refl };
      wants_nothing = c.append.ensures.moved.wants_nothing;
      spare =
          spare_left part c.in-Some-cut.ensures.cut (sym c.in-Some-wanted.ensures) c.take.new.self c.append.new.donor c.append.ensures.moved;
    })
