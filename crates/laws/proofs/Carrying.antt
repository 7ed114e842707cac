-- A search that is to be suspended is kept, or what its wants lead over moves on top of it.
use Rattle.std.proofs.Common.{◌⊎◌, inl, inr, ℕ, List, [], ◌∷◌, ◌++◌, length, Option, None, Some, refl, sym, subst, arith}
use Rattle.search_stack.specs.Stack.{Stack}
use Rattle.search_stack.specs.Search.{SearchValue, IsOn, joined, lowered}
use Rattle.blocked_table.specs.declared.suspended.Suspended.TheVariants.{Kept, Moved}
use Rattle.blocked_table.specs.Kept.{ComesTo, Ends, IsChain}
use Rattle.blocked_table.specs.Paths.{IsWaitPath, StepsAt}
use Rattle.blocked_table.specs.Suspending.{IsPartMoved, IsSuspended, entries_of}
use Rattle.blocked_table.specs.Transfer.{IsCutAway, IsTransfer}
use Rattle.blocked_table.proofs.Along.{IsOnTheWay, cut_away}
use Rattle.blocked_table.proofs.Chain.{on_or_off}
use Rattle.blocked_table.proofs.EndSteps.{adds_last, moved_on, transferred}
use Rattle.blocked_table.proofs.MovedSteps.{IsPartWay, part_more, part_start}
use Rattle.blocked_table.proofs.Paths.{never_comes, path_once}
use Rattle.search_machine.proofs.KeptEnds.{ends_from}
use Rattle.laws.proofs.SearchCuts.{away_at}

-- the places that a chain of wants goes over
chain_path : (kept : List (Option SearchValue)) (v : ℕ) (xs : List ℕ) (w : ℕ) → IsChain kept v xs w → (places : List ℕ) × IsWaitPath kept v places w
chain_path kept v [] w chain = ([], chain)
chain_path kept v (x ∷ xs) w chain =
    let rest : (places : List ℕ) × IsWaitPath kept x places w = chain_path kept x xs w chain.1 in
    (chain.0.place ∷ rest.0, (x, record { holds = chain.0.holds; wants = chain.0.wants }, rest.1))

-- all has moved
record IsCarried (old : List (Option SearchValue)) (s : Stack) (on end : ℕ) : Type 0 where
  now : List (Option SearchValue)
  whole : Stack
  node : ℕ
  spare : ℕ
  part : IsPartWay old s on now whole node [] end spare

record HasTransfer (old : List (Option SearchValue)) (s : Stack) (on : ℕ) : Type 0 where
  new : List (Option SearchValue)
  after : Stack
  is : IsTransfer old new s on after

-- the search is kept
pub record IsKeptSo (old : List (Option SearchValue)) (search : SearchValue) (on : ℕ) : Type 0 where
  pub new : List (Option SearchValue)
  pub kept : IsSuspended old new search on Kept

-- or it goes on
pub record IsMovedSo (old : List (Option SearchValue)) (search : SearchValue) (on : ℕ) : Type 0 where
  pub new : List (Option SearchValue)
  pub after : SearchValue
  pub moved : IsSuspended old new search on (Moved after)

module _ {lists : List (List ℕ)} {roots done : List ℕ} where
  carry : (old : List (Option SearchValue)) (s : Stack) (on end : ℕ) (rest : List ℕ) (now : List (Option SearchValue)) (t : Stack) (node spare : ℕ)
      → IsOnTheWay lists roots done now t node → IsPartWay old s on now t node rest end spare → IsCarried old s on end
  carry old s on end [] now t node spare way part = record { now = now; whole = t; node = node; spare = spare; part = part }
  carry old s on end (p ∷ rest) now t node spare way part =
      let step : StepsAt now node p part.path.0 = part.path.1 in
      let found : (frame : ℕ) × IsCutAway now node (p, frame) =
      away_at now node p part.path.0 step (way.kept p step.holds.search step.holds.at).1.good.shaped in
      let away : IsCutAway now node (p, found.0) = found.1 in
      let moved : IsPartMoved now away.next t (joined t away.donor.stack found.0) node p away.wants =
      record { frame = found.0; away = away; next_is = refl; stack_is = refl; wants_is = refl } in
      carry old s on end rest away.next (joined t away.donor.stack found.0) away.wants spare (cut_away (p, found.0) way away)
      (part_more p rest away.next (joined t away.donor.stack found.0) away.wants spare part moved (λ donor at. omega arith))

  transfer : (old : List (Option SearchValue)) (s : Stack) (on : ℕ) (places : List ℕ) (end : ℕ) → IsOnTheWay lists roots done old s on
      → IsWaitPath old on places end → IsOn s end → HasTransfer old s on
  transfer old s on places end way path back =
      let start : IsPartWay old s on old s on places end (entries_of old places) =
      part_start old s on places end (entries_of old places) path
      (λ i j before lt. path_once old way.apart way.ends on places end path i j 0 before lt) (omega arith) in
      let all : IsCarried old s on end = carry old s on end places old s on (entries_of old places) way start in
      let there : IsOn all.whole end =
      moved_on old s on all.part.cuts all.now all.whole all.node end way all.part.moved back in
      let here : IsOn all.whole all.node = subst (IsOn all.whole) (sym all.part.path) there in
      record {
        new = all.now;
        after = lowered all.whole here.place;
        is = transferred here.place all.part back here.within here.is refl;
      }

  pub suspended : (old : List (Option SearchValue)) (search : SearchValue) (on : ℕ) → IsOnTheWay lists roots done old search.stack on
      → IsKeptSo old search on ⊎ IsMovedSo old search on
  suspended old search on way =
      let ends : Ends old on = ends_from way.ends on in
      let path : (places : List ℕ) × IsWaitPath old on places ends.end = chain_path old on ends.steps ends.end ends.chain in
      elim (on_or_off search.stack ends.end) [
        | inl back ↦
            let is : HasTransfer old search.stack on = transfer old search.stack on path.0 ends.end way path.1 back in
            let comes : ComesTo old search.stack on = record { end = ends.end; steps = ends.steps; chain = ends.chain; on = back } in
            inr (record { new = is.new; after = record { stack = is.after; wanted = None; spare = 0 }; moved = (comes, is.is, refl) })
        | inr off ↦
            let waits : SearchValue = record search { wanted = Some on } in
            inl (record {
              new = old ++ Some waits ∷ [];
              kept = (
                never_comes old way.apart way.ends on path.0 ends.end search.stack path.1 ends.is off way.off,
                (length old, adds_last old (length old) waits refl),
              );
            })
      ]
