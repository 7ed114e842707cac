-- Where what is met goes to.
use Rattle.std.proofs.Common.{◌≡◌, ◌↔◌, inl, inr, ℕ, List, [], ◌∷◌, ◌++◌, Option, Some, None, Result, Ok, Err, OnOk, map, ap, sym, ◌∙◌, subst, refl}
use Rattle.std.specs.Prelude.{Contains}
use Rattle.std.proofs.lemmas.Option.{none-some}
use Rattle.import_rules.specs.Program.{Seen}
use Rattle.call_edges.specs.declared.role.Met.{Met as MetKept}
use Rattle.call_edges.specs.declared.body.Body.{Body as BodyKept}
use Rattle.call_edges.specs.Goals.{Met, Adds, AddsMet}
use Rattle.call_edges.specs.Seen.{see_met, see_mets}
use Rattle.call_edges.specs.ProgramRows.{rows_of}
use Rattle.call_edges.specs.Calls.{IsAmong, target, GoesTo, IsMetIn, NodeCalls}
use Rattle.call_edges.specs.Bodies.{Body, see_body, bodies_in, IsMetInBody}
use Rattle.list_laws.proofs.OneOrder.{nothing_in}
use Rattle.call_edges.proofs.AddsLemmas.{adds_as, adds_option, adds_nothing}
use Rattle.call_edges.proofs.AmongLemmas.{among_map, map_has}
use Rattle.call_edges.proofs.BodyLemmas.{node_met}

-- what is pushed where an option has something
pub adds_given : {M : Type 0} (o : Option M) (x : M) (old : List M) → o ≡ Some x → Adds (λ y. o ≡ Some y) old (old ++ x ∷ [])
adds_given o x old is =
    adds_option (λ y. o ≡ Some y) (Some x) old (old ++ x ∷ []) (λ y same. sym is ∙ same) (λ y same. is ∙ same) refl

pub adds_not : {M : Type 0} (o : Option M) (old : List M) → o ≡ None → Adds (λ y. o ≡ Some y) old old
adds_not o old is = adds_nothing (λ y. o ≡ Some y) old (λ y same. none-some y (sym is ∙ same))

-- from nothing
pub adds_from_none : {M : Type 0} (P : M → Type 0) (old new : List M) → old ≡ [] → Adds P old new → (m : M) → Contains new m ↔ P m
adds_from_none P old new none adds m = (
  λ has. elim ((adds.each m).0 has) [ inl before ↦ absurd (nothing_in m (subst (λ xs. Contains xs m) none before)) | inr is ↦ is ],
  λ is. (adds.each m).1 (inr is),
)

module _ (seen : Seen) where
  abbrev pub HasTarget : MetKept → ℕ → Type 0
  HasTarget one q = target seen (see_met one) ≡ Some q

  -- targets of what is kept
  pub kept_go : (met : List MetKept) (old new : List ℕ) → Adds (IsAmong HasTarget met) old new → Adds (GoesTo seen (Contains (see_mets met))) old new
  kept_go met old new adds =
      adds_as (IsAmong HasTarget met) (GoesTo seen (Contains (see_mets met))) old new
      (λ q among.
      record {
        met = see_met among.one;
        is = (map_has see_met met (see_met among.one)).1 (record { one = among.one; has = among.has; is = refl });
        goes = among.is;
      })
      (λ q goes.
      let kept = (map_has see_met met goes.met).0 goes.is in
      record { one = kept.one; has = kept.has; is = ap (target seen) kept.is ∙ goes.goes })
      adds

  pub goes_as : (P Q : Met → Type 0) (q : ℕ) → ((m : Met) → P m → Q m) → GoesTo seen P q → GoesTo seen Q q
  goes_as P Q q to goes = record { met = goes.met; is = to goes.met goes.is; goes = goes.goes }

  -- the calls of what is met
  pub met_goes : (P : Met → Type 0) (met : List Met) (old new : List ℕ) → ((m : Met) → Contains met m ↔ P m) → Adds (GoesTo seen (Contains met)) old new
      → Adds (GoesTo seen P) old new
  met_goes P met old new are adds =
      adds_as (GoesTo seen (Contains met)) (GoesTo seen P) old new (λ q. goes_as (Contains met) P q (λ m. (are m).0)) (λ q. goes_as P (Contains met) q (λ m. (are m).1)) adds

  -- the calls of a body
  pub body_goes : (body : Body) (met : List MetKept) (none : List Met) (old new : List ℕ) → none ≡ [] → AddsMet (rows_of seen) body.at none (see_mets met)
      → Adds (GoesTo seen (Contains (see_mets met))) old new → Adds (GoesTo seen ((IsMetInBody (rows_of seen)) body)) old new
  body_goes body met none old new empty walked adds =
      let has = adds_from_none ((IsMetInBody (rows_of seen)) body) none (see_mets met) empty walked in
      adds_as (GoesTo seen (Contains (see_mets met))) (GoesTo seen ((IsMetInBody (rows_of seen)) body)) old new (λ q. goes_as (Contains (see_mets met)) ((IsMetInBody (rows_of seen)) body) q (λ m. (has m).0))
      (λ q. goes_as ((IsMetInBody (rows_of seen)) body) (Contains (see_mets met)) q (λ m. (has m).1)) adds

  abbrev pub IsCalledIn : BodyKept → ℕ → Type 0
  IsCalledIn body q = GoesTo seen ((IsMetInBody (rows_of seen)) (see_body body)) q

  -- the calls of bodies
  pub bodies_go : (bodies : List BodyKept) (old new : List ℕ) → Adds (IsAmong IsCalledIn bodies) old new → Adds (GoesTo seen (IsAmong (IsMetInBody (rows_of seen)) (map see_body bodies))) old new
  bodies_go bodies old new adds =
      adds_as (IsAmong IsCalledIn bodies) (GoesTo seen (IsAmong (IsMetInBody (rows_of seen)) (map see_body bodies))) old new
      (λ q among.
      record {
        met = among.is.met;
        is =
            (among_map (IsMetInBody (rows_of seen)) see_body bodies among.is.met).1
            (record { one = among.one; has = among.has; is = among.is.is });
        goes = among.is.goes;
      })
      (λ q goes.
      let kept = (among_map (IsMetInBody (rows_of seen)) see_body bodies goes.met).0 goes.is in
      record { one = kept.one; has = kept.has; is = record { met = goes.met; is = kept.is; goes = goes.goes } })
      adds

  -- the calls of a predicate
  pub node_goes : (node : ℕ) (bodies : List Body) (old new : List ℕ) → bodies ≡ bodies_in seen node → old ≡ [] → Adds (GoesTo seen (IsAmong (IsMetInBody (rows_of seen)) bodies)) old new
      → (q : ℕ) → Contains new q ↔ NodeCalls seen node q
  node_goes node bodies old new are none adds q =
      let here : Adds (GoesTo seen (IsAmong (IsMetInBody (rows_of seen)) (bodies_in seen node))) old new = subst (λ (bs : List Body). Adds (GoesTo seen (IsAmong (IsMetInBody (rows_of seen)) bs)) old new) are adds in
      let has = adds_from_none (GoesTo seen (IsAmong (IsMetInBody (rows_of seen)) (bodies_in seen node))) old new none here q in (
        λ in_new. goes_as (IsAmong (IsMetInBody (rows_of seen)) (bodies_in seen node)) (IsMetIn seen node) q (λ m. (node_met seen node m).0) (has.0 in_new),
        λ calls. has.1 (goes_as (IsMetIn seen node) (IsAmong (IsMetInBody (rows_of seen)) (bodies_in seen node)) q (λ m. (node_met seen node m).1) calls),
      )

pub on_ok_both : {X E : Type 0} {P Q R : Type 0} (r : Result X E) → OnOk r P → OnOk r Q → (P → Q → R) → OnOk r R
on_ok_both (Ok x) p q then = then p q
on_ok_both (Err e) p q then = tt
