-- The clauses of the next piece come behind the others, and then what ends it.
use Rattle.std.proofs.Common.{◌≡◌, ◌∷◌, [], ◌++◌, Result, Ok, Err, is_ok, is_err, true, false, refl, ap, sym, ◌∙◌, subst, arith}
use Rattle.prolog_ops.specs.Table.{ops_of}
use Rattle.clause_text.specs.Items.{items_of, items_on}
use Rattle.clause_text.specs.Clauses.{clause_tree, clause_trees}
use Rattle.clause_text.specs.Pieces.{AreAdded}
use Rattle.clause_text.proofs.Outcomes.{on_err}
use Rattle.clause_text.proofs.LeadEnds.{AreKept, trees_joined, all_added, all_forward, all_until, whole_kept, piece_until, operators_added, operators_forward, operators_refused, part_refused}
use Rattle.clause_text.proofs.parts.keep.Goals as goal

ok_of : {T E : Type 0} (r : Result T E) → is_err r ≡ false → is_ok r ≡ true
ok_of (Ok x) is = refl
ok_of (Err e) is = let both : true ≡ false = is in cc

pub returns-in_err-apply_items-in-AtOperators-clause-fault : goal.returns-in_err-apply_items-in-AtOperators-clause-fault
returns-in_err-apply_items-in-AtOperators-clause-fault c =
    on_err c.from_residual-in_err-apply_items-in-AtOperators.result _ _ c.from_residual-in_err-apply_items-in-AtOperators.ensures.1
    (λ fault same some text ts end are.
    operators_refused c.args.names.now (ops_of c.args.table.now) c.args.from c.args.pieces.items (clause_trees c.args.names.now c.args.clauses.now.items) c.in-Some.piece c.next.new.self.rest.items
    c.loop-piece.piece-iterator.rest.items (clause_trees c.args.names.now c.loop-piece.clauses.items) c.loop-piece.to c.loop-piece.invariant.1 c.in-Some.ensures.steps.0 c.in-AtOperators.clause
    c.in-AtOperators.place c.in-AtOperators.is text ts end are fault
    (ap (items_on (items_of (clause_tree c.args.names.now c.in-AtOperators.clause))) (sym c.loop-piece.invariant.0)
    ∙ (c.in_err-apply_items-in-AtOperators.ensures.refused (λ none. some (same ∙ none)) ∙ ap (λ f. Err f) (sym same))))

pub returns-in-AtOperators-clause-kept : goal.returns-in-AtOperators-clause-kept
returns-in-AtOperators-clause-kept c = λ text ts end are.
    let pushed : is_ok c.push.result ≡ true = ok_of c.push.result (sym c.if-is_err.ensures.value) in
    let items = rw pushed at c.push.ensures.items in
    let all : clause_trees c.args.names.now c.push.new.self.items
    ≡ (clause_trees c.args.names.now c.loop-piece.clauses.items ++ clause_trees c.args.names.now c.in-Some.piece.clauses.items) ++ clause_tree c.args.names.now c.in-AtOperators.clause ∷ [] =
    ap (clause_trees c.args.names.now) items
    ∙ (trees_joined c.args.names.now c.append.new.self.items (c.in-AtOperators.clause ∷ [])
    ∙ ap (λ trees. trees ++ clause_tree c.args.names.now c.in-AtOperators.clause ∷ [])
    (ap (clause_trees c.args.names.now) c.in_ok-append.ensures.items ∙ trees_joined c.args.names.now c.loop-piece.clauses.items c.in-Some.piece.clauses.items)) in
    subst (λ trees. AreAdded (ops_of c.args.table.now) text ts c.args.from (clause_trees c.args.names.now c.args.clauses.now.items) trees (ops_of c.apply_items.new.table) c.in-AtOperators.place) (sym all)
    (operators_added c.args.names.now (ops_of c.args.table.now) c.args.from c.args.pieces.items (clause_trees c.args.names.now c.args.clauses.now.items) c.in-Some.piece c.next.new.self.rest.items
    c.loop-piece.piece-iterator.rest.items (clause_trees c.args.names.now c.loop-piece.clauses.items) c.loop-piece.to c.loop-piece.invariant.1 c.in-Some.ensures.steps.0 c.in-AtOperators.clause
    c.in-AtOperators.place c.in-AtOperators.is text ts end are (ops_of c.apply_items.new.table)
    (ap (items_on (items_of (clause_tree c.args.names.now c.in-AtOperators.clause))) (sym c.loop-piece.invariant.0)
    ∙ c.in_ok-apply_items-in-AtOperators.ensures.done))

pub returns-in-AtOperators-clause-forward : goal.returns-in-AtOperators-clause-forward
returns-in-AtOperators-clause-forward c = λ text ts end are some.
    operators_forward c.args.names.now (ops_of c.args.table.now) c.args.from c.args.pieces.items (clause_trees c.args.names.now c.args.clauses.now.items) c.in-Some.piece c.next.new.self.rest.items
    c.loop-piece.piece-iterator.rest.items (clause_trees c.args.names.now c.loop-piece.clauses.items) c.loop-piece.to c.loop-piece.invariant.1 c.in-Some.ensures.steps.0 c.in-AtOperators.clause
    c.in-AtOperators.place c.in-AtOperators.is text ts end are

pub returns-in-AtOperators-clause-until : goal.returns-in-AtOperators-clause-until
returns-in-AtOperators-clause-until c = λ text ts end are some.
    piece_until c.args.names.now (ops_of c.args.table.now) c.args.from c.args.pieces.items (clause_trees c.args.names.now c.args.clauses.now.items) c.in-Some.piece c.next.new.self.rest.items
    c.loop-piece.piece-iterator.rest.items (clause_trees c.args.names.now c.loop-piece.clauses.items) c.loop-piece.to c.loop-piece.invariant.1 c.in-Some.ensures.steps.0 text ts end are

pub returns-in-Refused-clause-fault : goal.returns-in-Refused-clause-fault
returns-in-Refused-clause-fault c =
    part_refused c.args.names.now (ops_of c.args.table.now) c.args.from c.args.pieces.items (clause_trees c.args.names.now c.args.clauses.now.items) c.in-Some.piece c.next.new.self.rest.items
    c.loop-piece.piece-iterator.rest.items (clause_trees c.args.names.now c.loop-piece.clauses.items) c.loop-piece.to c.loop-piece.invariant.1 c.in-Some.ensures.steps.0 c.in-Refused.fault c.in-Refused.is

pub loop-piece-preserved : goal.loop-piece-preserved
loop-piece-preserved c = (
  c.loop-piece.invariant.0,
  subst (λ trees. AreKept c.args.names.now (ops_of c.args.table.now) c.args.from c.args.pieces.items (clause_trees c.args.names.now c.args.clauses.now.items) c.next.new.self.rest.items trees c.in-Some.piece.to)
      (sym (ap (clause_trees c.args.names.now) c.in_ok-append.ensures.items ∙ trees_joined c.args.names.now c.loop-piece.clauses.items c.in-Some.piece.clauses.items))
      (whole_kept c.args.names.now (ops_of c.args.table.now) c.args.from c.args.pieces.items (clause_trees c.args.names.now c.args.clauses.now.items) c.in-Some.piece c.next.new.self.rest.items
      c.loop-piece.piece-iterator.rest.items (clause_trees c.args.names.now c.loop-piece.clauses.items) c.loop-piece.to c.loop-piece.invariant.1 c.in-Some.ensures.steps.0 c.in-Whole.is),
)

pub returns-clause-kept : goal.returns-clause-kept
returns-clause-kept c = λ text ts end are.
    subst (λ T. AreAdded (ops_of c.args.table.now) text ts c.args.from (clause_trees c.args.names.now c.args.clauses.now.items) (clause_trees c.args.names.now c.loop-piece.clauses.items) T c.loop-piece.to)
    (sym c.loop-piece.invariant.0)
    (all_added c.args.names.now (ops_of c.args.table.now) c.args.from c.args.pieces.items (clause_trees c.args.names.now c.args.clauses.now.items) c.loop-piece.piece-iterator.rest.items
    (clause_trees c.args.names.now c.loop-piece.clauses.items) c.loop-piece.to c.loop-piece.invariant.1 (omega (arith, c.in-None.ensures.steps.0, c.loop-piece.piece-iterator.rest.ok.0)) text ts end are)

pub returns-clause-forward : goal.returns-clause-forward
returns-clause-forward c =
    all_forward c.args.names.now (ops_of c.args.table.now) c.args.from c.args.pieces.items (clause_trees c.args.names.now c.args.clauses.now.items) c.loop-piece.piece-iterator.rest.items
    (clause_trees c.args.names.now c.loop-piece.clauses.items) c.loop-piece.to c.loop-piece.invariant.1 (omega (arith, c.in-None.ensures.steps.0, c.loop-piece.piece-iterator.rest.ok.0))

pub returns-clause-until : goal.returns-clause-until
returns-clause-until c =
    all_until c.args.names.now (ops_of c.args.table.now) c.args.from c.args.pieces.items (clause_trees c.args.names.now c.args.clauses.now.items) c.loop-piece.piece-iterator.rest.items
    (clause_trees c.args.names.now c.loop-piece.clauses.items) c.loop-piece.to c.loop-piece.invariant.1 (omega (arith, c.in-None.ensures.steps.0, c.loop-piece.piece-iterator.rest.ok.0))
