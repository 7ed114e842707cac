-- An idle place passes over a root or takes a ready search: the state stays good.
use Rattle.std.proofs.Common.{◌≡◌, ◌⊎◌, inl, inr, ℕ, Bool, false, List, ◌∷◌, length, Some, ap, ◌∙◌, sym, subst, arith}
use Rattle.std.specs.Prelude.{Contains}
use Rattle.list_laws.proofs.OneOrder.{first_or_rest, in_rest}
use Rattle.list_laws.specs.Counts.{times, flat}
use Rattle.search_stack.specs.Stack.{size}
use Rattle.search_stack.specs.GoodSearch.{IsGood}
use Rattle.search_stack.specs.Search.{SearchValue}
use Rattle.blocked_table.specs.Kept.{kept_at}
use Rattle.blocked_table.proofs.Chain.{none_is_not, some_is}
use Rattle.blocked_table.proofs.Tables.{take_table}
use Rattle.group_release.specs.Outline.{nodes_of, nodes_on}
use Rattle.group_release.proofs.Books.{IsWellTaken, taken_well}
use Rattle.search_machine.specs.Events.{Resumes, Skips}
use Rattle.search_machine.specs.State.{State, IsClaimed, IsGoodState, book_of}
use Rattle.search_machine.proofs.Good.{IsPlain, IsSettled, plain_good, table}

-- what is left of the roots to come
pub come_rest : (roots : List ℕ) {rest to_come : List ℕ} {root : ℕ} → to_come ≡ root ∷ rest → ((v : ℕ) → Contains to_come v → Contains roots v)
    → (v : ℕ) → Contains rest v → Contains roots v
come_rest roots {rest} {to_come} {root} next come v has = come v (subst (λ xs. Contains xs v) (sym next) (in_rest root v rest has))

pub given_rest : (roots : List ℕ) {rest to_come : List ℕ} {root : ℕ} (Claimed : ℕ → Type 0) → to_come ≡ root ∷ rest → Claimed root
    → ((v : ℕ) → Contains roots v → Contains to_come v ⊎ Claimed v) → (v : ℕ) → Contains roots v → Contains rest v ⊎ Claimed v
given_rest roots {rest} {to_come} {root} Claimed next claimed given v has =
    elim (given v has) as (λ _. Contains rest v ⊎ Claimed v) [
      | inr was ↦ inr was
      | inl to ↦
          elim (first_or_rest root v rest (subst (λ xs. Contains xs v) next to)) as (λ _. Contains rest v ⊎ Claimed v)
          [ inl is ↦ inr (subst Claimed is claimed) | inr later ↦ inl later ]
    ]

module _ {lists : List (List ℕ)} {roots : List ℕ} {failed : Bool} {s : State} (good : IsGoodState lists roots failed s) where
  pub skip_keeps : {place : ℕ} {t : State} → Skips s place t → IsGoodState lists roots failed t
  skip_keeps {place} {t} e =
      subst (IsGoodState lists roots failed) (sym e.only)
      (record {
        counted = good.counted;
        places = good.places;
        book = good.book;
        some = good.some;
        ends = good.ends;
        running = good.running;
        waits = good.waits;
        wants = good.wants;
        once = good.once;
        never = good.never;
        come = come_rest roots e.next good.come;
        given = given_rest roots (IsClaimed s) e.next e.claimed good.given;
      })

  pub resume_keeps : {place : ℕ} {t : State} → Resumes s place t → IsGoodState lists roots failed t
  resume_keeps {place} {t} e =
      let well : IsWellTaken (book_of lists roots s) t.kept e.search = taken_well good.book (table good) e.taken in
      let was : (i : ℕ) (one : SearchValue) → kept_at t.kept i ≡ Some one → kept_at s.kept i ≡ Some one = λ i one at.
      let other : i ≡ e.taken.place → ⊥ = λ is. none_is_not one (kept_at t.kept i) (ap (kept_at t.kept) is ∙ e.taken.vacant) at in
      sym (e.taken.same i other) ∙ at in
      let plain : IsPlain good t.kept s.groups e.goes_on.sets e.idle.free = record {
        book = well.good;
        some = λ i one at. good.some i one (was i one at);
        ends = (take_table e.taken (length lists) (length s.kept) (table good)).ends;
        here = λ one there.
            subst (IsSettled lists roots s.groups) (some_is e.goes_on.after one there)
            (record {
              some = omega (arith, ap size e.goes_on.stack_is, well.beside.some);
              wants_nothing = e.goes_on.wants_nothing;
              good = subst (IsGood lists roots (flat s.groups) false) (sym e.goes_on.stack_is) well.beside.good;
            });
        wants = λ i w one at wants. good.wants i w one (was i one at) wants;
        grows = λ u has. has;
        counted = λ x.
            let counts = well.kept_count x in
            let none : times x (nodes_of (kept_at s.running place)) ≡ 0 = ap (λ o. times x (nodes_of o)) e.idle.at in
            let here : times x (nodes_on e.goes_on.after.stack) ≡ times x (nodes_on e.search.stack) =
            ap (λ stack. times x (nodes_on stack)) e.goes_on.stack_is in
            omega (arith, counts, none, here);
      } in
      subst (IsGoodState lists roots failed) (sym e.only) (plain_good good t.kept s.groups e.goes_on.sets e.idle.free plain)
