use Rattle.std.proofs.Common.{◌++◌, ◌∷◌, [], None, Some, All, map, take, refl, ap, sym, ◌∙◌, subst, append_assoc, append-nil}
use Rattle.std.specs.Option.{option_map}
use Rattle.std.proofs.lemmas.List.{map-append}
use Rattle.std.proofs.lemmas.List.Elements.{All-push}
use Rattle.clause_text.specs.Clauses.{clause_tree, clause_trees}
use Rattle.call_edges.specs.declared.body.Body.{Body as BodyKept}
use Rattle.call_edges.specs.Calls.{body_of}
use Rattle.call_edges.specs.Bodies.{IsAtHome, see_body, body_in, clause_bodies}
use Rattle.call_edges.proofs.BodyLemmas.{given_more}
use Rattle.call_edges.proofs.HomeLemmas.{body_at_home}
use Rattle.call_edges.proofs.body.push_bodies.Goals as goal

pub loop-clause-preserved-in_default : goal.loop-clause-preserved-in_default
loop-clause-preserved-in_default c =
    let owner = c.args.owner.now in
    let clauses = c.args.clauses.now in
    let k = c.loop-clause.clause-index in
    let before = map see_body c.args.bodies.now.items in
    let more =
    given_more (λ clause. option_map (body_in c.args.file) (body_of owner clause)) (clause_tree c.args.names.now) clauses k c.clause-item.result None c.loop-clause-test.true c.clause-item.is
    (ap (option_map (body_in c.args.file)) (sym (c.in_default.ensures.body owner))) in record {
      bodies = c.loop-clause.invariant.bodies
          ∙ ap (λ xs. before ++ xs) (sym (append-nil (clause_bodies c.args.file owner (clause_trees c.args.names.now (take k clauses)))) ∙ sym more);
      home = c.loop-clause.invariant.home;
    }

pub loop-clause-preserved : goal.loop-clause-preserved
loop-clause-preserved c =
    let owner = c.args.owner.now in
    let clauses = c.args.clauses.now in
    let k = c.loop-clause.clause-index in
    let before = map see_body c.args.bodies.now.items in
    let body : BodyKept = record { home = c.args.home; file = c.args.file; owner = c.args.owner; content = c.in-Some.content } in
    let one = see_body body in
    let sofar = clause_bodies c.args.file owner (clause_trees c.args.names.now (take k clauses)) in
    let more =
    given_more (λ clause. option_map (body_in c.args.file) (body_of owner clause)) (clause_tree c.args.names.now) clauses k c.clause-item.result (Some one) c.loop-clause-test.true c.clause-item.is
    (ap (option_map (body_in c.args.file)) (sym (c.in-Some.ensures.body owner))) in record {
      bodies = ap (map see_body) c.in_ok-push.ensures.items
          ∙ (map-append see_body c.loop-clause.bodies.items (body ∷ [])
          ∙ (ap (λ xs. xs ++ one ∷ []) c.loop-clause.invariant.bodies ∙ (append_assoc before sofar (one ∷ []) ∙ ap (λ xs. before ++ xs) (sym more))));
      home = λ seen is before.
          subst (All (IsAtHome seen)) (sym c.in_ok-push.ensures.items)
          (All-push (IsAtHome seen) c.loop-clause.bodies.items body
          (c.loop-clause.invariant.home seen is before)
          (body_at_home seen owner c.args.names.now c.args.home body is refl refl c.in-Some.ensures.names));
    }
