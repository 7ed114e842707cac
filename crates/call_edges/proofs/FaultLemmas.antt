-- Goals that aren't callable, of bodies and of files.
use Rattle.std.proofs.Common.{◌≡◌, ℕ, List, [], ◌∷◌, ◌++◌, Some, None, map, ap, sym, ◌∙◌, refl}
use Rattle.std.specs.Prelude.{Contains}
use Rattle.std.proofs.lemmas.Option.{none-some, same_Some}
use Rattle.call_edges.specs.declared.role.Met.{Met as MetKept}
use Rattle.call_edges.specs.declared.body.Body.{Body as BodyKept}
use Rattle.call_edges.specs.Goals.{Met, call, fault, Rows, Adds, AddsMet}
use Rattle.call_edges.specs.Seen.{see_met, see_mets}
use Rattle.call_edges.specs.Calls.{IsAmong}
use Rattle.call_edges.specs.Bodies.{Body, see_body, IsMetInBody}
use Rattle.call_edges.specs.FaultPlaces.{fault_at, IsFaultIn, AreFaultsIn}
use Rattle.call_edges.proofs.AddsLemmas.{adds_as, adds_option, adds_nothing}
use Rattle.call_edges.proofs.AmongLemmas.{among_map, map_has}
use Rattle.call_edges.proofs.CallLemmas.{adds_from_none}

-- what was met is a goal that isn't callable, at that place
pub record IsKeptFault (file : ℕ) (one : MetKept) (p : ℕ × ℕ) : Type 0 where
  pub in_file : p.0 ≡ file
  pub at : fault_at (see_met one) ≡ Some p.1

abbrev pub IsSeenFault : Rows → BodyKept → ℕ × ℕ → Type 0
IsSeenFault T body p = IsFaultIn T (see_body body) p

abbrev pub IsFaultOf : ℕ → List Met → ℕ × ℕ → Type 0
IsFaultOf file met p = (p.0 ≡ file) × Contains met (fault p.1)

fault_is : (m : Met) (at : ℕ) → fault_at m ≡ Some at → m ≡ fault at
fault_is (call from owner name arity more negated) at is = absurd (none-some at is)
fault_is (fault n) at is = ap (λ k. fault k) (same_Some n at is)

-- one more
pub kept_one : (file at : ℕ) (one : MetKept) (old : List (ℕ × ℕ)) → fault_at (see_met one) ≡ Some at → Adds (IsKeptFault file one) old (old ++ (file, at) ∷ [])
kept_one file at one old is =
    adds_option (IsKeptFault file one) (Some (file, at)) old (old ++ (file, at) ∷ [])
    (λ p kept. let same : at ≡ p.1 = same_Some at p.1 (sym is ∙ kept.at) in λ i. Some (sym kept.in_file i, same i))
    (λ p given.
    let same : (file, at) ≡ p = same_Some (file, at) p given in
    record { in_file = sym (ap (λ (q : ℕ × ℕ). q.0) same); at = is ∙ ap (λ (q : ℕ × ℕ). Some q.1) same })
    refl

pub kept_none : (file : ℕ) (one : MetKept) (old : List (ℕ × ℕ)) → fault_at (see_met one) ≡ None → Adds (IsKeptFault file one) old old
kept_none file one old is = adds_nothing (IsKeptFault file one) old (λ p kept. none-some p.1 (sym is ∙ kept.at))

pub kept_all : (file : ℕ) (met : List MetKept) (old new : List (ℕ × ℕ)) → Adds (IsAmong (IsKeptFault file) met) old new → Adds (IsFaultOf file (see_mets met)) old new
kept_all file met old new adds =
    adds_as (IsAmong (IsKeptFault file) met) (IsFaultOf file (see_mets met)) old new
    (λ p among.
    (among.is.in_file, (map_has see_met met (fault p.1)).1 (record { one = among.one; has = among.has; is = fault_is (see_met among.one) p.1 among.is.at })))
    (λ p of.
    let kept = (map_has see_met met (fault p.1)).0 of.1 in
    record { one = kept.one; has = kept.has; is = record { in_file = of.0; at = ap fault_at kept.is } })
    adds

module _ (T : Rows) where
  -- the places of a body
  pub body_faults : (body : Body) (met : List MetKept) (none : List Met) (old new : List (ℕ × ℕ)) → none ≡ [] → AddsMet T body.at none (see_mets met)
      → Adds (IsFaultOf body.file (see_mets met)) old new → Adds ((IsFaultIn T) body) old new
  body_faults body met none old new empty walked adds =
      let has = adds_from_none ((IsMetInBody T) body) none (see_mets met) empty walked in
      adds_as (IsFaultOf body.file (see_mets met)) ((IsFaultIn T) body) old new
      (λ p of. record { in_file = of.0; met = (has (fault p.1)).0 of.1 })
      (λ p is. (is.in_file, (has (fault p.1)).1 is.met)) adds

  pub seen_faults : (bodies : List BodyKept) (old new : List (ℕ × ℕ)) → Adds (IsAmong (IsSeenFault T) bodies) old new → Adds (IsAmong (IsFaultIn T) (map see_body bodies)) old new
  seen_faults bodies old new adds =
      adds_as (IsAmong (IsSeenFault T) bodies) (IsAmong (IsFaultIn T) (map see_body bodies)) old new (λ p. (among_map (IsFaultIn T) see_body bodies p).1)
      (λ p. (among_map (IsFaultIn T) see_body bodies p).0) adds

  pub bodies_faults : (bodies : List BodyKept) (faults : List (ℕ × ℕ)) → Adds (IsAmong (IsSeenFault T) bodies) [] faults → (AreFaultsIn T) (map see_body bodies) faults
  bodies_faults bodies faults adds = record {
    each = λ p.
        let has = adds_from_none (IsAmong (IsSeenFault T) bodies) [] faults refl adds p in
        let among = among_map (IsFaultIn T) see_body bodies p in
        (λ there. among.1 (has.0 there), λ is. has.1 (among.0 is));
  }
