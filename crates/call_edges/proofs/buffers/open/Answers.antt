use Rattle.std.proofs.Common.{◌≡◌, List, All, ◌++◌, map, ap, sym, ◌∙◌, subst}
use Rattle.std.proofs.lemmas.List.Elements.{All-nil}
use Rattle.list_laws.proofs.SortedOnce.{sorted_rises, sorted_has}
use Rattle.call_edges.specs.Goals.{Adds}
use Rattle.call_edges.specs.ProgramRows.{rows_of}
use Rattle.call_edges.specs.Calls.{IsAmong}
use Rattle.call_edges.specs.Bodies.{Body, see_body, bodies_in, IsAtHome, IsLight}
use Rattle.call_edges.specs.FaultPlaces.{IsFaultIn}
use Rattle.call_edges.specs.CallPlaces.{IsCalledIn as IsPlacedIn}
use Rattle.call_edges.specs.PlacedSeen.{see_calls}
use Rattle.call_edges.proofs.CallLemmas.{adds_from_none, node_goes}
use Rattle.call_edges.proofs.LightLemmas.{bodies_light}
use Rattle.call_edges.proofs.buffers.open.Goals as goal

pub found_in-requires-clause-light : goal.found_in-requires-clause-light
found_in-requires-clause-light c =
    let seen = c.args.program.now in
    let bodies = map see_body c.deref.result.now in
    let are : bodies ≡ bodies_in seen c.args.opening.node =
    ap (map see_body) c.deref.ensures.value ∙ (c.in_ok-push_bodies_of.ensures.bodies ∙ ap (λ bs. map see_body bs ++ bodies_in seen c.args.opening.node) c.clear-3.ensures.items) in
    let P : List Body → Type 0 = λ bs. All IsLight bs in
    subst P (sym are) (bodies_light seen c.args.opening.node c.is_known.ensures)

pub found_in-requires-clause-home : goal.found_in-requires-clause-home
found_in-requires-clause-home c =
    let P = All (IsAtHome c.args.program.now) in
    subst P (sym c.deref.ensures.value) (c.in_ok-push_bodies_of.ensures.home (subst P (sym c.clear-3.ensures.items) (All-nil (IsAtHome c.args.program.now))))

pub returns-clause-callees : goal.returns-clause-callees
returns-clause-callees c =
    let seen = c.args.program.now in
    let bodies = map see_body c.deref.result.now in
    let are : bodies ≡ bodies_in seen c.args.opening.node =
    ap (map see_body) c.deref.ensures.value ∙ (c.in_ok-push_bodies_of.ensures.bodies ∙ ap (λ bs. map see_body bs ++ bodies_in seen c.args.opening.node) c.clear-3.ensures.items) in
    let found = c.found_in.new.found.callees.items in
    let sorted = c.sort_unstable.new.self.items in
    let kept = c.dedup.new.self.items in
    let calls = node_goes seen c.args.opening.node bodies c.clear.new.self.items found are c.clear.ensures.items c.in_ok-found_in.ensures.callees in record {
      ascending = sorted_rises sorted kept c.sort_unstable.ensures.sorted c.dedup.ensures.filtered;
      calls = λ q.
          let has = sorted_has found sorted kept q c.sort_unstable.ensures.permutation c.dedup.ensures.filtered in
          (λ in_kept. (calls q).0 (has.0 in_kept), λ called. has.1 ((calls q).1 called));
    }

pub returns-clause-calls : goal.returns-clause-calls
returns-clause-calls c keep =
    let seen = c.args.program.now in
    let node = c.args.opening.node in
    let bodies = map see_body c.deref.result.now in
    let are : bodies ≡ bodies_in seen node =
    ap (map see_body) c.deref.ensures.value ∙ (c.in_ok-push_bodies_of.ensures.bodies ∙ ap (λ bs. map see_body bs ++ bodies_in seen node) c.clear-3.ensures.items) in
    let old = see_calls c.clear-2.new.self.items in
    let new = see_calls c.found_in.new.found.calls.items in
    let P : List Body → Type 0 = λ bs. Adds (IsAmong (IsPlacedIn seen node) bs) old new in
    adds_from_none (IsAmong (IsPlacedIn seen node) (bodies_in seen node)) old new (ap see_calls c.clear-2.ensures.items) (subst P are (c.in_ok-found_in.ensures.calls keep))

pub returns-clause-faults : goal.returns-clause-faults
returns-clause-faults c =
    let seen = c.args.program.now in
    let bodies = map see_body c.deref.result.now in
    let are : bodies ≡ bodies_in seen c.args.opening.node =
    ap (map see_body) c.deref.ensures.value ∙ (c.in_ok-push_bodies_of.ensures.bodies ∙ ap (λ bs. map see_body bs ++ bodies_in seen c.args.opening.node) c.clear-3.ensures.items) in
    let P : List Body → Type 0 = λ bs. Adds (IsAmong (IsFaultIn (rows_of seen)) bs) c.args.faults.now.items c.found_in.new.faults.items in
    subst P are c.in_ok-found_in.ensures.faults
