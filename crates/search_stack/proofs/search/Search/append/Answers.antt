use Rattle.std.proofs.Common.{◌<◌, refl, ap, sym, subst, arith}
use Rattle.std.specs.Prelude.{true}
use Rattle.search_stack.specs.GoodSearch.{IsGood}
use Rattle.search_stack.specs.Stack.{IsShaped, begun, height, position, size, top}
use Rattle.search_stack.proofs.Below.{good_below}
use Rattle.search_stack.proofs.FieldLaws.{size_is, height_is}
use Rattle.search_stack.proofs.Join.{good_join, lows_from}
use Rattle.search_stack.proofs.Transfers.{can_append, joined_fields, key_is_on, rest_begins, rest_fields}
use Rattle.search_stack.proofs.search.Search.append.Goals as goal

pub overflow_sub-count : goal.overflow_sub-count
overflow_sub-count c =
    let can =
    can_append c.self.view_is c.donor.view_is c.self.invariant c.donor.invariant c.requires.last c.requires.position c.requires.room in
    omega (arith, can.within, c.len.ensures.len)

pub move_entries-requires-clause-within : goal.move_entries-requires-clause-within
move_entries-requires-clause-within c =
    let can =
    can_append c.self.view_is c.donor.view_is c.self.invariant c.donor.invariant c.requires.last c.requires.position c.requires.room in
    can.within

pub move_entries-requires-clause-room : goal.move_entries-requires-clause-room
move_entries-requires-clause-room c =
    let can =
    can_append c.self.view_is c.donor.view_is c.self.invariant c.donor.invariant c.requires.last c.requires.position c.requires.room in
    can.entry_room

pub move_entries-requires-clause-apart : goal.move_entries-requires-clause-apart
move_entries-requires-clause-apart c =
    λ v mine there.
    (rw (← c.donor.view_is) at (rw (← c.self.view_is) at c.requires.apart)) v
    (key_is_on c.self.inside.opened.entries c.self.inside.frames.items v mine)
    (key_is_on c.donor.inside.opened.entries c.donor.inside.frames.items v there)

pub move_frames-requires-clause-within : goal.move_frames-requires-clause-within
move_frames-requires-clause-within c =
    let can =
    can_append c.self.view_is c.donor.view_is c.self.invariant c.donor.invariant c.requires.last c.requires.position c.requires.room in
    omega (arith, can.frame_within)

pub move_frames-requires-clause-room : goal.move_frames-requires-clause-room
move_frames-requires-clause-room c =
    let can =
    can_append c.self.view_is c.donor.view_is c.self.invariant c.donor.invariant c.requires.last c.requires.position c.requires.room in
    omega (arith, can.frame_room, can.count)

pub move_frames-requires-clause-positions : goal.move_frames-requires-clause-positions
move_frames-requires-clause-positions c =
    let can =
    can_append c.self.view_is c.donor.view_is c.self.invariant c.donor.invariant c.requires.last c.requires.position c.requires.room in
    can.moves.positions

pub move_frames-requires-clause-lows : goal.move_frames-requires-clause-lows
move_frames-requires-clause-lows c =
    let can =
    can_append c.self.view_is c.donor.view_is c.self.invariant c.donor.invariant c.requires.last c.requires.position c.requires.room in
    can.moves.lows

pub move_frames-requires-clause-small_positions : goal.move_frames-requires-clause-small_positions
move_frames-requires-clause-small_positions c =
    let can =
    can_append c.self.view_is c.donor.view_is c.self.invariant c.donor.invariant c.requires.last c.requires.position c.requires.room in
    rw c.len-base.ensures.len can.moves.small_positions

pub move_frames-requires-clause-small_lows : goal.move_frames-requires-clause-small_lows
move_frames-requires-clause-small_lows c =
    let can =
    can_append c.self.view_is c.donor.view_is c.self.invariant c.donor.invariant c.requires.last c.requires.position c.requires.room in
    rw c.len-base.ensures.len can.moves.small_lows

pub overflow_sub-self : goal.overflow_sub-self
overflow_sub-self c =
    let can =
    can_append c.self.view_is c.donor.view_is c.self.invariant c.donor.invariant c.requires.last c.requires.position c.requires.room in
    omega (arith, can.count, can.within, c.len.ensures.len)

pub last_begun-donor-inside-requires-clause-shaped : goal.last_begun-donor-inside-requires-clause-shaped
last_begun-donor-inside-requires-clause-shaped c =
    let can =
    can_append c.self.view_is c.donor.view_is c.self.invariant c.donor.invariant c.requires.last c.requires.position c.requires.room in
    let rest =
    rest_fields c.donor.inside c.args.cut (rw (← c.donor.view_is) at c.requires.position) c.move_entries.ensures.from c.move_frames.ensures.from in
    rw c.deref.ensures.value (subst IsShaped (sym rest) can.rest_shaped)

pub last_begun-donor-inside-requires-clause-begins : goal.last_begun-donor-inside-requires-clause-begins
last_begun-donor-inside-requires-clause-begins c =
    let can =
    can_append c.self.view_is c.donor.view_is c.self.invariant c.donor.invariant c.requires.last c.requires.position c.requires.room in
    let rest =
    rest_fields c.donor.inside c.args.cut (rw (← c.donor.view_is) at c.requires.position) c.move_entries.ensures.from c.move_frames.ensures.from in
    rw c.deref.ensures.value
    (λ some.
    subst (λ s. 0 < begun s (position s (top s))) (sym rest)
    (rest_begins c.donor.invariant.shaped can.keeps
    (omega (arith, some, ap height rest, height_is c.move_entries.new.from.entries c.move_frames.new.from.items))))

pub invariant_of-self : goal.invariant_of-self
invariant_of-self c =
    let can =
    can_append c.self.view_is c.donor.view_is c.self.invariant c.donor.invariant c.requires.last c.requires.position c.requires.room in
    let is =
    joined_fields c.self.inside c.donor.inside c.args.cut c.len-base.ensures.len (rw (← c.donor.view_is) at c.requires.position) c.move_entries.ensures.to
    c.move_frames.ensures.to in
    let long = ap size is in
    let tall = ap height is in
    let at = rw (← c.donor.view_is) at c.requires.position in
    record {
      shaped = subst IsShaped (sym is) can.shaped;
      entry_room = omega (arith, c.self.invariant.entry_room, c.move_entries.ensures.to_room, can.count, can.within, c.len.ensures.len);
      frame_room =
          omega (
            arith,
            tall,
            can.joins.height_is,
            height_is c.move_entries.new.to.entries c.move_frames.new.to.items,
            height_is c.self.inside.opened.entries c.self.inside.frames.items,
            height_is c.donor.inside.opened.entries c.donor.inside.frames.items,
            can.frame_room,
            can.count,
            can.within,
            c.move_frames.ensures.to_room,
            c.len.ensures.len,
          );
      small =
          omega (
            arith,
            long,
            can.joins.size_is,
            at,
            size_is c.move_entries.new.to.entries c.move_frames.new.to.items,
            size_is c.self.inside.opened.entries c.self.inside.frames.items,
            size_is c.donor.inside.opened.entries c.donor.inside.frames.items,
            c.self.invariant.small,
            can.count,
            can.within,
            c.len.ensures.len,
          );
    }

pub invariant_of-donor : goal.invariant_of-donor
invariant_of-donor c =
    let can =
    can_append c.self.view_is c.donor.view_is c.self.invariant c.donor.invariant c.requires.last c.requires.position c.requires.room in
    let rest =
    rest_fields c.donor.inside c.args.cut (rw (← c.donor.view_is) at c.requires.position) c.move_entries.ensures.from c.move_frames.ensures.from in
    let long = ap size rest in
    let tall = ap height rest in
    let at = rw (← c.donor.view_is) at c.requires.position in
    record {
      shaped = subst IsShaped (sym rest) can.rest_shaped;
      entry_room = omega (arith, c.donor.invariant.entry_room, c.move_entries.ensures.from_room);
      frame_room =
          omega (
            arith,
            tall,
            can.keeps.height_is,
            can.frame_within,
            height_is c.move_entries.new.from.entries c.move_frames.new.from.items,
            c.donor.invariant.frame_room,
            c.move_frames.ensures.from_room,
          );
      small =
          omega (
            arith,
            long,
            can.keeps.size_is,
            at,
            can.within,
            size_is c.move_entries.new.from.entries c.move_frames.new.from.items,
            c.donor.invariant.small,
          );
    }

pub returns-clause-moved : goal.returns-clause-moved
returns-clause-moved c =
    let can =
    can_append c.self.view_is c.donor.view_is c.self.invariant c.donor.invariant c.requires.last c.requires.position c.requires.room in
    let at = rw (← c.donor.view_is) at c.requires.position in
    let is =
    joined_fields c.self.inside c.donor.inside c.args.cut c.len-base.ensures.len at c.move_entries.ensures.to c.move_frames.ensures.to in
    let rest = rest_fields c.donor.inside c.args.cut at c.move_entries.ensures.from c.move_frames.ensures.from in
    rw (← c.self.view_is)
    (rw (← c.donor.view_is)
    (record {
      joined = is;
      wants_nothing = refl;
      spare = omega (arith, can.count, can.within, c.len.ensures.len, at, size_is c.donor.inside.opened.entries c.donor.inside.frames.items);
      rest = rest;
      rest_wants = rw c.deref.ensures.value at c.last_begun-donor-inside.ensures;
    }))

pub returns-clause-good : goal.returns-clause-good
returns-clause-good c =
    let can =
    can_append c.self.view_is c.donor.view_is c.self.invariant c.donor.invariant c.requires.last c.requires.position c.requires.room in
    let is =
    joined_fields c.self.inside c.donor.inside c.args.cut c.len-base.ensures.len (rw (← c.donor.view_is) at c.requires.position) c.move_entries.ensures.to
    c.move_frames.ensures.to in
    let last = rw (← c.self.view_is) at c.requires.last.1 in
    let cut = rw (← c.donor.view_is) at c.requires.last.2 in
    rw (← c.self.view_is)
    (rw (← c.donor.view_is)
    (λ lists roots done opened good other.
    subst (IsGood lists roots done true) (sym is)
    (good_join c.self.invariant.shaped c.donor.invariant.shaped last cut can.joins good other)))

pub returns-clause-good_rest : goal.returns-clause-good_rest
returns-clause-good_rest c =
    let can =
    can_append c.self.view_is c.donor.view_is c.self.invariant c.donor.invariant c.requires.last c.requires.position c.requires.room in
    let rest =
    rest_fields c.donor.inside c.args.cut (rw (← c.donor.view_is) at c.requires.position) c.move_entries.ensures.from c.move_frames.ensures.from in
    let cut = rw (← c.donor.view_is) at c.requires.last.2 in
    rw (← c.donor.view_is)
    (λ lists roots done opened good.
    subst (IsGood lists roots done true) (sym rest) (good_below good can.keeps (lows_from cut.lawful)))
