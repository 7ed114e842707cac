-- The clauses that are kept lead on, up to the end of the tokens or to a part that is refused.
use Rattle.std.proofs.Common.{◌≡◌, ◌≤◌, [], sym, ◌∙◌, subst, refl, arith, length, All}
use Rattle.std.proofs.lemmas.List.{append-nil}
use Rattle.prolog_ops.specs.Table.{ops_of}
use Rattle.clause_text.specs.Clauses.{clause_trees}
use Rattle.clause_text.specs.Pieces.{AreAdded, IsFaultAhead, IsStretch, AreStretches}
use Rattle.clause_text.proofs.Outcomes.{on_err}
use Rattle.clause_text.proofs.LeadEnds.{lead_within, added_joined, fault_joined, stretches_are}
use Rattle.clause_text.proofs.parts.read_row.Goals as goal

pub loop-from-init : goal.loop-from-init
loop-from-init g c = (
  record { more = []; all = sym (append-nil (clause_trees c.args.numbered.now.names c.args.clauses.now.items)); lead = (refl, refl) },
  λ some. (let never : ⊥ = omega (arith, some) in absurd never),
)

pub returns-clause-ok : goal.returns-clause-ok
returns-clause-ok g c =
    let added = c.loop-from.invariant.0 in
    let within : c.loop-from.from ≤ length c.args.tokens.now =
    lead_within (ops_of c.args.table.now) c.args.text.now c.args.tokens.now 0 added.more (ops_of c.loop-from.table) c.loop-from.from added.lead (omega arith) in
    let place : c.loop-from.from ≡ length c.args.tokens.now = omega (arith, within, c.loop-from-test.false) in
    subst (AreAdded (ops_of c.args.table.now) c.args.text.now c.args.tokens.now 0 (clause_trees c.args.numbered.now.names c.args.clauses.now.items)
    (clause_trees c.args.numbered.now.names c.loop-from.clauses.items) (ops_of c.loop-from.table)) place added

pub read_each-requires-clause-stretches : goal.read_each-requires-clause-stretches
read_each-requires-clause-stretches g c = λ lifetimes outlives.
    subst (All (IsStretch c.args.tokens.now)) (sym c.deref.ensures.value)
    (stretches_are c.args.tokens.now c.loop-from.from c.in_ok-stretches.stretches.items c.in_ok-stretches.ensures.0 c.in_ok-stretches.ensures.2)

pub returns-in_err-kept-clause-fault : goal.returns-in_err-kept-clause-fault
returns-in_err-kept-clause-fault g c =
    let to = c.in_ok-stretches.ensures.0 in
    let are = subst (λ stretches. AreStretches c.args.tokens.now c.loop-from.from stretches to) (sym c.deref.ensures.value) c.in_ok-stretches.ensures.2 in
    on_err c.from_residual-in_err-kept.result _ _ c.from_residual-in_err-kept.ensures.1
    (λ fault same some.
    subst (λ f. IsFaultAhead (ops_of c.args.table.now) c.args.text.now c.args.tokens.now 0 f) (sym same)
    (fault_joined (ops_of c.args.table.now) c.args.text.now c.args.tokens.now 0 c.loop-from.invariant.0.more (ops_of c.loop-from.table) c.loop-from.from c.in_err-kept.field-0.0
    c.loop-from.invariant.0.lead
    (c.in_err-kept.ensures.fault (λ none. some (same ∙ none)) c.args.text.now c.args.tokens.now to (c.in_ok-pieces.ensures c.loop-from.from to are))))

pub loop-from-smaller : goal.loop-from-smaller
loop-from-smaller g c =
    let to = c.in_ok-stretches.ensures.0 in
    let are = subst (λ stretches. AreStretches c.args.tokens.now c.loop-from.from stretches to) (sym c.deref.ensures.value) c.in_ok-stretches.ensures.2 in
    omega (
      arith,
      c.loop-from-test.true,
      c.in_ok-kept.ensures.forward c.args.text.now c.args.tokens.now to (c.in_ok-pieces.ensures c.loop-from.from to are) c.in_ok-stretches.ensures.1,
    )

pub loop-from-preserved : goal.loop-from-preserved
loop-from-preserved g c =
    let to = c.in_ok-stretches.ensures.0 in
    let are = subst (λ stretches. AreStretches c.args.tokens.now c.loop-from.from stretches to) (sym c.deref.ensures.value) c.in_ok-stretches.ensures.2 in
    let pieces = c.in_ok-pieces.ensures c.loop-from.from to are in (
      added_joined (ops_of c.args.table.now) c.args.text.now c.args.tokens.now 0 (clause_trees c.args.numbered.now.names c.args.clauses.now.items)
          (clause_trees c.args.numbered.now.names c.loop-from.clauses.items) (clause_trees c.args.numbered.now.names c.keep.new.clauses.items) (ops_of c.loop-from.table)
          c.loop-from.from (ops_of c.keep.new.table) c.in_ok-kept.kept.to c.loop-from.invariant.0
          (c.in_ok-kept.ensures.kept c.args.text.now c.args.tokens.now to pieces),
      λ some. c.in_ok-kept.ensures.until c.args.text.now c.args.tokens.now to pieces c.in_ok-stretches.ensures.1,
    )
