-- A search that was taken out of its place and has begun an edge, as the exits of `begin_edge` find it.
use Rattle.std.proofs.Common.{◌≡◌, ◌↔◌, ℕ, ◌<◌, Bool, true, false, length, get_or, Option, None, Some, ap, ◌∙◌, sym, subst, arith, true≢false}
use Rattle.std.specs.Prelude.{IsTrue}
use Rattle.graph_law.specs.Classes.{HasMember}
use Rattle.list_laws.specs.Counts.{flat}
use Rattle.search_stack.specs.GoodSearch.{IsGood}
use Rattle.search_stack.specs.Search.{SearchValue, IsOn, next_successor, one_more_begun}
use Rattle.search_stack.specs.Stack.{Stack, position, top}
use Rattle.search_stack.proofs.Driving.{mark_read}
use Rattle.blocked_table.specs.Suspending.{CanWait}
use Rattle.group_release.proofs.Beside.{last_below}
use Rattle.search_machine.specs.declared.machine.Machine.TheInside.{Inside}
use Rattle.search_machine.specs.Events.{Begins, IsOther, Runs}
use Rattle.search_machine.specs.Machine.{MachineValue}
use Rattle.search_machine.specs.MachineFields.{IsMachine, state_of, value_of}
use Rattle.search_machine.specs.State.{IsClaimed}
use Rattle.search_machine.proofs.Acting.{IsOut, out as take_out, out_begins}
use Rattle.search_machine.proofs.Steps.{unmarked_not}
use Rattle.search_machine.proofs.Turns.{HasBegun, has_begun}

pub record HasEdge (fields : Inside) (place v : ℕ) (begun : SearchValue) : Type 0 where
  pub sound : fields.book.failed ≡ false
  pub search : SearchValue
  pub out : IsOut fields place search
  pub begins : Begins (state_of fields) place v begun.stack
  pub has : HasBegun out.good place v begun.stack
  pub within : v < length fields.claimed.items

pub has_edge : {fields : Inside} {now : MachineValue} {place v : ℕ} {search begun : SearchValue} {read taken : Option SearchValue} {result : Option ℕ}
    → value_of fields ≡ now → IsMachine fields → now.failed ≡ false → (stack : Stack) × Runs now.state place stack
    → read ≡ get_or fields.running.items place read → taken ≡ read → taken ≡ Some search
    → result ≡ next_successor search.stack → result ≡ Some v
    → begun ≡ record search { stack = one_more_begun search.stack (position search.stack (top search.stack)) } → HasEdge fields place v begun
has_edge {fields} {now} {place} {v} {search} {begun} {read} {taken} {result} now_is is sound runs here took taken_is next some begun_is =
    let failed : fields.book.failed ≡ false = ap (λ (value : MachineValue). value.failed) now_is ∙ sound in
    let out : IsOut fields place search =
    take_out is failed (subst (λ (value : MachineValue). Runs value.state place runs.0) (sym now_is) runs.1) here took taken_is in
    let begins : Begins (state_of fields) place v begun.stack = out_begins out next some begun_is in
    let has : HasBegun out.good place v begun.stack = has_begun out.good begins in
    let below : v < length fields.book.lists = last_below has.has.good has.last out.good.book.closed in
    record { sound = failed; search = search; out = out; begins = begins; has = has; within = omega (arith, below, out.good.counted) }

module _ {fields : Inside} {place v : ℕ} {begun : SearchValue} (edge : HasEdge fields place v begun) where
  -- the node is claimed or not, as its mark was read
  pub unclaimed : {mark : Bool} → mark ≡ get_or fields.claimed.items v mark → mark ≡ false → IsClaimed (state_of fields) v → ⊥
  unclaimed {mark} read is =
      unmarked_not fields.claimed.items v (mark_read fields.claimed.items v mark false edge.within read is)

  -- it is claimed, and neither released nor on the search, as these answers say
  pub other : {mark holds back : Bool} → mark ≡ get_or fields.claimed.items v mark → mark ≡ true
      → IsTrue holds ↔ HasMember fields.book.groups v → holds ≡ false → IsTrue back ↔ IsOn begun.stack v → back ≡ false
      → IsOther (state_of fields) begun.stack v
  other {mark} {holds} {back} read is released isnt_released on isnt_on = record {
    claimed = mark_read fields.claimed.items v mark true edge.within read is;
    unreleased = λ has. true≢false (sym (released.1 has) ∙ isnt_released);
    off = λ at. true≢false (sym (on.1 at) ∙ isnt_on);
  }

  module _ {leaving : SearchValue} (same : leaving ≡ begun) (wants_nothing : leaving.wanted ≡ None) where
    -- so it can wait for the node, and is good
    pub edge_waits : {back : Bool} → IsTrue back ↔ IsOn begun.stack v → back ≡ false → CanWait fields.book.kept leaving v
    edge_waits {back} on isnt_on =
        subst (λ (value : SearchValue). CanWait fields.book.kept value v) (sym same) (record {
          some = edge.has.has.some;
          wants_nothing = sym (ap (λ (value : SearchValue). value.wanted) same) ∙ wants_nothing;
          apart = edge.has.has.off_kept;
          last = edge.has.last;
          off = λ at. true≢false (sym (on.1 at) ∙ isnt_on);
        })

    pub edge_good : IsGood fields.book.lists fields.book.roots (flat fields.book.groups) true leaving.stack
    edge_good =
        subst (λ (value : SearchValue). IsGood fields.book.lists fields.book.roots (flat fields.book.groups) true value.stack) (sym same)
        edge.has.has.good
