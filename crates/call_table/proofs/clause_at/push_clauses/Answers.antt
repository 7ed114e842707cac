use Rattle.std.proofs.Common.{◌≡◌, ◌+◌, ◌++◌, ◌∷◌, [], map, take, ap, sym, ◌∙◌, append_assoc}
use Rattle.std.proofs.lemmas.List.{map-append, take_more}
use Rattle.prolog_terms.specs.declared.term.Span.{Span}
use Rattle.clause_text.specs.Clauses.{clause_tree}
use Rattle.call_table.specs.Clauses.{clause_at}
use Rattle.call_table.proofs.clause_at.push_clauses.Goals as goal

pub loop-clause-preserved : goal.loop-clause-preserved
loop-clause-preserved c =
    let clauses = c.args.clauses.now in
    let k = c.loop-clause.clause-index in
    let f = clause_at c.args.file c.args.node in
    let clause = c.clause-item.result in
    let tree = clause_tree c.args.names.now in
    let before = c.args.out.now.items in
    let sofar = map f (map tree (take k clauses)) in
    let more : take (k + 1) clauses ≡ take k clauses ++ clause ∷ [] = take_more clauses k clause c.loop-clause-test.true ∙ ap (λ x. take k clauses ++ x ∷ []) (sym c.clause-item.is) in
    let split : map f (map tree (take (k + 1) clauses)) ≡ sofar ++ f (tree clause) ∷ [] =
    ap (λ xs. map f (map tree xs)) more
    ∙ (ap (map f) (map-append tree (take k clauses) (clause ∷ [])) ∙ map-append f (map tree (take k clauses)) (tree clause ∷ [])) in
    c.in_ok-push.ensures.items
    ∙ (ap (λ (span : Span). c.loop-clause.out.items ++ record { file = c.args.file; offset = span.from; end = span.to; node = c.args.node } ∷ []) c.span-span.ensures
    ∙ (ap (λ xs. xs ++ f (tree clause) ∷ []) c.loop-clause.invariant
    ∙ (append_assoc before sofar (f (tree clause) ∷ []) ∙ ap (λ xs. before ++ xs) (sym split))))
