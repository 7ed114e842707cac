-- A search is kept, or goes on after a transfer: the state stays good.
use Rattle.std.proofs.Common.{◌≡◌, inl, inr, ℕ, ◌<◌, ◌+◌, true, false, List, [], ◌∷◌, Option, None, Some, refl, ap, ◌∙◌, sym, subst, arith}
use Rattle.std.proofs.lemmas.Bool.{cases_eq}
use Rattle.list_laws.proofs.OneOrder.{first_or_rest, nothing_in}
use Rattle.list_laws.specs.Counts.{times, flat}
use Rattle.list_laws.proofs.Counting.{standing as stands_in}
use Rattle.search_stack.specs.Stack.{Stack, size}
use Rattle.search_stack.specs.GoodSearch.{IsGood}
use Rattle.search_stack.specs.Search.{SearchValue, IsGoodSearch, IsLastBegun}
use Rattle.blocked_table.specs.declared.suspended.Suspended.{Suspended}
use Rattle.blocked_table.specs.declared.suspended.Suspended.TheVariants.{Kept, Moved}
use Rattle.blocked_table.specs.Kept.{kept_at}
use Rattle.blocked_table.specs.Suspending.{Adds, AreGood}
use Rattle.blocked_table.specs.Transfer.{IsTransfer}
use Rattle.blocked_table.proofs.Along.{IsOnTheWay, moved_along}
use Rattle.blocked_table.proofs.Chain.{add_ends, none_is_not, some_is}
use Rattle.blocked_table.proofs.EndSteps.{keep_good}
use Rattle.blocked_table.proofs.MovedSteps.{way_of}
use Rattle.group_release.specs.Outline.{kept_nodes, newly_wanted, nodes_of, nodes_on}
use Rattle.group_release.proofs.Books.{IsWellSuspended, MaySuspend, suspended_well}
use Rattle.group_release.proofs.KeptCounts.{at_wanted, wanted_at}
use Rattle.search_machine.specs.Events.{Begins, IsOther, Suspends, Transfers}
use Rattle.search_machine.specs.State.{State, IsClaimed, IsGoodState, book_of, times_standing}
use Rattle.search_machine.proofs.Good.{IsPlain, IsSettled, plain_good, stands_claimed, table}
use Rattle.search_machine.proofs.Counts.{place_counted}
use Rattle.search_machine.proofs.KeptEnds.{ends_from, moved_some}
use Rattle.search_machine.proofs.Stacks.{back_good, back_some}
use Rattle.search_machine.proofs.Turns.{HasBegun, HasStack, has_begun}

module _ {lists : List (List ℕ)} {roots : List ℕ} {s : State} (good : IsGoodState lists roots false s) where
  -- the search that is to be suspended
  record IsLeaving (place v : ℕ) (stack : Stack) : Type 0 where
    has : HasStack lists roots s place true stack
    last : IsLastBegun stack v
    other : IsOther s stack v

  leaving : {place v : ℕ} {begun stack : Stack} → Begins s place v begun → IsOther s begun v → stack ≡ begun → IsLeaving place v stack
  leaving {place} {v} {begun} {stack} begins other is =
      let has : HasBegun good place v begun = has_begun good begins in
      subst (IsLeaving place v) (sym is) (record { has = has.has; last = has.last; other = other })

  may : {place v : ℕ} (search : SearchValue) → IsLeaving place v search.stack → MaySuspend (book_of lists roots s) (record search { wanted = None }) v
  may {place} {v} search is = record {
    can_wait =
        record { some = is.has.some; wants_nothing = refl; apart = is.has.off_kept; last = is.last; off = is.other.off };
    unreleased = is.other.unreleased;
    good = is.has.good;
  }

  are_good : {place v : ℕ} {stack : Stack} → IsLeaving place v stack → AreGood lists roots (flat s.groups) s.kept stack
  are_good {place} {v} {stack} is = record { good = is.has.good; kept_good = good.book.kept_good }

  -- what is wanted is claimed
  wants_claimed : {new : List (Option SearchValue)} {search : SearchValue} {on : ℕ} {suspended : Suspended}
      → IsWellSuspended (book_of lists roots s) new search on suspended
      → ((w : ℕ) → 0 < times w (newly_wanted on suspended) → IsClaimed s w)
      → (i w : ℕ) (one : SearchValue) → kept_at new i ≡ Some one → one.wanted ≡ Some w → IsClaimed s w
  wants_claimed {new} {search} {on} {suspended} well newly i w one at wants =
      elim (well.wanted_count w (at_wanted new w (record { place = i; search = one; at = at; wants = wants }))) as (λ _. IsClaimed s w) [
        | inl before ↦ let was = wanted_at s.kept w before in good.wants was.place w was.search was.at was.wants
        | inr now ↦ newly w now
      ]

  pub suspend_keeps : {place : ℕ} {t : State} → Suspends s place t → IsGoodState lists roots false t
  suspend_keeps {place} {t} e =
      let search : SearchValue = e.search in
      let is : IsLeaving place e.v search.stack = leaving e.begins e.other e.stack_is in
      let at : ℕ = e.kept.1.0 in
      let adds : Adds s.kept t.kept at (record search { wanted = Some e.v }) = e.kept.1.1 in
      let stays : (i : ℕ) (one : SearchValue) → kept_at t.kept i ≡ Some one → IsGoodSearch lists roots (flat s.groups) one =
      keep_good search e.v adds is.last (are_good is) in
      let well : IsWellSuspended (book_of lists roots s) t.kept (record search { wanted = None }) e.v Kept =
      suspended_well good.book (table good) (may search is) t.kept Kept e.kept stays in
      let plain : IsPlain good t.kept s.groups e.leaves e.begins.runs.free = record {
        book = well.good;
        some = λ i one there.
            elim (cases_eq i at) as (λ _. 0 < size one.stack) [
              | inl here ↦
                  let same : record search { wanted = Some e.v } ≡ one =
                  some_is (record search { wanted = Some e.v }) one (sym adds.at ∙ ap (kept_at t.kept) (sym here) ∙ there) in
                  omega (arith, is.has.some, ap (λ (value : SearchValue). size value.stack) same)
              | inr ne ↦ good.some i one (sym (adds.same i ne) ∙ there)
            ];
        ends = add_ends adds e.v refl good.ends (ends_from good.ends e.v) e.kept.0;
        here = λ one there. absurd (none_is_not one None refl there);
        wants =
            wants_claimed well
            (λ w now.
            elim (first_or_rest e.v w [] (stands_in w (e.v ∷ []) now)) as (λ _. IsClaimed s w)
            [ inl same ↦ subst (IsClaimed s) same is.other.claimed | inr later ↦ absurd (nothing_in w later) ]);
        grows = λ u has. has;
        counted = λ x. let counts = well.kept_count x in omega (arith, counts, is.has.counted x);
      } in
      subst (IsGoodState lists roots false) (sym e.only) (plain_good good t.kept s.groups e.leaves e.begins.runs.free plain)

  pub transfer_keeps : {place : ℕ} {t : State} → Transfers s place t → IsGoodState lists roots false t
  transfer_keeps {place} {t} e =
      let search : SearchValue = e.search in
      let is : IsLeaving place e.v search.stack = leaving e.begins e.other e.stack_is in
      let transfer : IsTransfer s.kept t.kept search.stack e.v e.after.stack = e.moved.1 in
      let way : IsOnTheWay lists roots (flat s.groups) s.kept search.stack e.v =
      way_of (table good) (are_good is) is.last is.has.off_kept in
      let end : IsOnTheWay lists roots (flat s.groups) t.kept transfer.whole transfer.end =
      moved_along s.kept search.stack e.v transfer.cuts t.kept transfer.whole transfer.end way transfer.moved in
      let after_good : IsGood lists roots (flat s.groups) false e.after.stack =
      subst (IsGood lists roots (flat s.groups) false) (sym transfer.lowered)
      (back_good end.good end.last transfer.place transfer.within transfer.is) in
      let well : IsWellSuspended (book_of lists roots s) t.kept (record search { wanted = None }) e.v (Moved e.after) =
      suspended_well good.book (table good) (may search is) t.kept (Moved e.after) e.moved ((λ i one at. (end.kept i one at).1), after_good) in
      let plain : IsPlain good t.kept s.groups e.goes_on.sets e.begins.runs.free = record {
        book = well.good;
        some = moved_some s.kept search.stack e.v transfer.cuts t.kept transfer.whole transfer.end way transfer.moved good.some;
        ends = end.ends;
        here = λ one there.
            subst (IsSettled lists roots s.groups) (some_is e.goes_on.after one there)
            (record {
              some =
                  omega (
                    arith,
                    ap size e.goes_on.stack_is,
                    ap size transfer.lowered,
                    back_some end.good end.last transfer.place transfer.within transfer.is,
                  );
              wants_nothing = e.goes_on.wants_nothing;
              good = subst (IsGood lists roots (flat s.groups) false) (sym e.goes_on.stack_is) after_good;
            });
        wants =
            wants_claimed well
            (λ w now.
            let counts = well.kept_count w in
            let once = is.has.counted w in
            stands_claimed good w (stands w (omega (arith, now, counts, once))));
        grows = λ u has. has;
        counted = λ x.
            let counts = well.kept_count x in
            let here : times x (nodes_on e.goes_on.after.stack) ≡ times x (nodes_on e.after.stack) =
            ap (λ stack. times x (nodes_on stack)) e.goes_on.stack_is in
            omega (arith, counts, here, is.has.counted x);
      } in
      subst (IsGoodState lists roots false) (sym e.only) (plain_good good t.kept s.groups e.goes_on.sets e.begins.runs.free plain)
    where
      stands : (w : ℕ) → 0 < times w (kept_nodes s.kept) + times w (nodes_of (kept_at s.running place)) → 0 < times_standing s w
      stands w some = omega (arith, some, place_counted s.running place w)
