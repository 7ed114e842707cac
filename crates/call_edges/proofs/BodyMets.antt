-- What is met in bodies, as they are kept.
use Rattle.std.proofs.Common.{◌≡◌, ◌↔◌, ℕ, List, [], map, subst}
use Rattle.std.specs.Prelude.{Contains}
use Rattle.import_rules.specs.Program.{Seen}
use Rattle.call_edges.specs.declared.body.Body.{Body as BodyKept}
use Rattle.call_edges.specs.Goals.{Met, Rows, Adds}
use Rattle.call_edges.specs.ProgramRows.{rows_of}
use Rattle.call_edges.specs.Calls.{IsAmong, IsMetIn}
use Rattle.call_edges.specs.Bodies.{Body, see_body, bodies_in, IsMetInBody}
use Rattle.call_edges.proofs.AddsLemmas.{adds_as}
use Rattle.call_edges.proofs.AmongLemmas.{among_map}
use Rattle.call_edges.proofs.BodyLemmas.{node_met}
use Rattle.call_edges.proofs.CallLemmas.{adds_from_none}

abbrev pub IsSeenMet : Rows → BodyKept → Met → Type 0
IsSeenMet T body m = IsMetInBody T (see_body body) m

pub bodies_met : (T : Rows) (bodies : List BodyKept) (old new : List Met) → Adds (IsAmong (IsSeenMet T) bodies) old new
    → Adds (IsAmong (IsMetInBody T) (map see_body bodies)) old new
bodies_met T bodies old new adds =
    adds_as (IsAmong (IsSeenMet T) bodies) (IsAmong (IsMetInBody T) (map see_body bodies)) old new (λ m. (among_map (IsMetInBody T) see_body bodies m).1)
    (λ m. (among_map (IsMetInBody T) see_body bodies m).0) adds

-- in those of a predicate, and nowhere else
pub all_met : (seen : Seen) (node : ℕ) (bodies : List Body) (old new : List Met) → bodies ≡ bodies_in seen node → old ≡ []
    → Adds (IsAmong (IsMetInBody (rows_of seen)) bodies) old new → (m : Met) → Contains new m ↔ IsMetIn seen node m
all_met seen node bodies old new are none adds m =
    let P : List Body → Type 0 = λ bs. Adds (IsAmong (IsMetInBody (rows_of seen)) bs) old new in
    let has = adds_from_none (IsAmong (IsMetInBody (rows_of seen)) (bodies_in seen node)) old new none (subst P are adds) m in
    let met = node_met seen node m in
    (λ there. met.0 (has.0 there), λ is. has.1 (met.1 is))
