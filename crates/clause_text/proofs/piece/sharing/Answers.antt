use Rattle.std.proofs.Common.{◌++◌, ◌∷◌, [], map, take, get_or, ap, sym, ◌∙◌}
use Rattle.std.specs.Arc.{arc_value}
use Rattle.std.proofs.lemmas.List.{map-append, take_all, take_more}
use Rattle.kept_clauses.specs.Words.{kept_tree}
use Rattle.clause_text.specs.Clauses.{clause_tree, clause_trees}
use Rattle.clause_text.proofs.piece.sharing.Goals as goal

pub loop-at-init : goal.loop-at-init
loop-at-init c = λ names. ap (clause_trees names) c.in_ok-clauses.ensures.items

pub loop-at-preserved : goal.loop-at-preserved
loop-at-preserved c = λ names.
    let begins = c.args.begins.now in
    let k = c.loop-at.at-index in
    let at = get_or begins k 0 in
    let trees = kept_tree names (arc_value c.args.list.now) in
    let before = map trees (take k begins) in
    ap (clause_trees names) c.in_ok-push.ensures.items
    ∙ (map-append (clause_tree names) c.loop-at.clauses.items (record { list = c.in_ok-list.list; at = at } ∷ [])
    ∙ (ap (λ ts. ts ++ kept_tree names (arc_value c.in_ok-list.list) at ∷ []) (c.loop-at.invariant names)
    ∙ (ap (λ list. before ++ kept_tree names list at ∷ []) c.in_ok-list.ensures
    ∙ sym (ap (map trees) (take_more begins k 0 c.loop-at-test.true) ∙ map-append trees (take k begins) (at ∷ [])))))

pub returns : goal.returns
returns c = λ names.
    c.loop-at.invariant names ∙ ap (map (kept_tree names (arc_value c.args.list.now))) (take_all c.loop-at.at-index c.args.begins.now c.loop-at-test.false)
