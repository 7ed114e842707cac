use Rattle.std.proofs.Common.{◌∙◌, ◌<◌, length, refl, sym, subst, arith}
use Rattle.std.proofs.lemmas.List.{append-nil}
use Rattle.blocked_table.specs.Blocked.{IsReadyAt}
use Rattle.blocked_table.specs.Listed.{AreJust}
use Rattle.blocked_table.proofs.Chain.{place_within}
use Rattle.blocked_table.proofs.FieldSteps.{ready_is_kept, ready_within, still_whole, taken_from, vacant_room}
use Rattle.blocked_table.proofs.Tables.{take_ready_list, take_table, take_vacant, take_words}
use Rattle.blocked_table.proofs.Waits.{waiting_taken}
use Rattle.blocked_table.proofs.blocked.Blocked.take_ready.Goals as goal

pub invariant_of-self : goal.invariant_of-self
invariant_of-self c = record {
  table = c.self.invariant.table;
  words = c.self.invariant.words;
  waiting = c.self.invariant.waiting;
  whole = c.self.invariant.whole;
  vacant = c.self.invariant.vacant;
  ready =
      subst (AreJust (IsReadyAt c.self.inside.kept.items)) (c.in_err-place.ensures.items ∙ append-nil c.pop.new.self.items) c.self.invariant.ready;
  kept_room = c.self.invariant.kept_room;
  vacant_room = c.self.invariant.vacant_room;
  ready_room = omega (arith, c.self.invariant.ready_room, c.pop.ensures.capacity);
}

pub returns-in_err-place-clause-none : goal.returns-in_err-place-clause-none
returns-in_err-place-clause-none c =
    rw c.from_residual.ensures
    (rw (← c.self.view_is)
    (λ has.
    let member = c.self.invariant.ready.from has.place has.ready in
    let lt : member.0 < length c.self.inside.ready.items = member.1 in
    omega (arith, lt, c.in_err-place.ensures.cases.0, c.self.inside.ready.ok.0)))

pub index_mut-requires : goal.index_mut-requires
index_mut-requires c =
    omega (
      arith,
      ready_within c.self.invariant c.pop.new.self.items c.in_ok-place.place c.in_ok-place.ensures.items,
      c.self.inside.kept.ok.0,
    )

pub invariant_of-self-in_err-search : goal.invariant_of-self-in_err-search
invariant_of-self-in_err-search c =
    absurd
    (ready_is_kept c.self.invariant c.pop.new.self.items c.in_ok-place.place c.index_mut.result.now c.in_ok-place.ensures.items
    c.index_mut.ensures.value (sym c.take.ensures.value ∙ c.in_err-search.was))

pub returns-in_err-search-clause-none : goal.returns-in_err-search-clause-none
returns-in_err-search-clause-none c =
    absurd
    (ready_is_kept c.self.invariant c.pop.new.self.items c.in_ok-place.place c.index_mut.result.now c.in_ok-place.ensures.items
    c.index_mut.ensures.value (sym c.take.ensures.value ∙ c.in_err-search.was))

pub write_words-requires-clause-below : goal.write_words-requires-clause-below
write_words-requires-clause-below c =
    let taken =
    taken_from c.self.invariant c.pop.new.self.items c.in_ok-place.place c.index_mut.result.now c.take.new.self c.in_ok-search.search
    c.in_ok-place.ensures.items c.index_mut.ensures.value (sym c.take.ensures.value ∙ c.in_ok-search.was) c.take.ensures.after in
    let whole = c.self.invariant.whole (omega (arith, place_within c.self.inside.kept.items taken.place c.in_ok-search.search taken.at)) in
    λ v on. omega (arith, c.self.invariant.table.below taken.place v (record { search = c.in_ok-search.search; at = taken.at; on = on }), whole.words)

pub unwrap-requires : goal.unwrap-requires
unwrap-requires c =
    let taken =
    taken_from c.self.invariant c.pop.new.self.items c.in_ok-place.place c.index_mut.result.now c.take.new.self c.in_ok-search.search
    c.in_ok-place.ensures.items c.index_mut.ensures.value (sym c.take.ensures.value ∙ c.in_ok-search.was) c.take.ensures.after in
    c.push.ensures.succeeds (vacant_room c.self.invariant taken)

pub invariant_of-self-2 : goal.invariant_of-self-2
invariant_of-self-2 c =
    let taken =
    taken_from c.self.invariant c.pop.new.self.items c.in_ok-place.place c.index_mut.result.now c.take.new.self c.in_ok-search.search
    c.in_ok-place.ensures.items c.index_mut.ensures.value (sym c.take.ensures.value ∙ c.in_ok-search.was) c.take.ensures.after in
    let pushed = rw c.unwrap.ensures at c.push.ensures.items in
    record {
      table = take_table taken c.self.inside.count c.self.inside.most c.self.invariant.table;
      words = take_words taken c.self.invariant.table.apart c.self.invariant.words c.write_words.ensures.written;
      waiting = waiting_taken c.self.inside.waiters.words taken c.self.invariant.waiting;
      whole = λ some. still_whole (c.self.invariant.whole (omega (arith, some, taken.each))) c.write_words.ensures.written.each refl refl;
      vacant = rw pushed (take_vacant taken c.self.inside.vacant.items c.self.invariant.vacant);
      ready =
          take_ready_list taken c.pop.new.self.items
          (subst (AreJust (IsReadyAt c.self.inside.kept.items)) c.in_ok-place.ensures.items c.self.invariant.ready);
      kept_room = c.self.invariant.kept_room;
      vacant_room = omega (arith, c.self.invariant.vacant_room, c.push.ensures.capacity);
      ready_room = omega (arith, c.self.invariant.ready_room, c.pop.ensures.capacity);
    }

pub returns-clause-some : goal.returns-clause-some
returns-clause-some c =
    let taken =
    taken_from c.self.invariant c.pop.new.self.items c.in_ok-place.place c.index_mut.result.now c.take.new.self c.in_ok-search.search
    c.in_ok-place.ensures.items c.index_mut.ensures.value (sym c.take.ensures.value ∙ c.in_ok-search.was) c.take.ensures.after in
    rw (← c.self.view_is) taken
