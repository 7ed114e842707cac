use Rattle.std.proofs.Common.{◌≡◌, ℕ, ◌+◌, ◌++◌, ◌∷◌, [], map, take, get_or, ap, sym, ◌∙◌, subst}
use Rattle.std.proofs.lemmas.List.{map-append, take_all, take_more}
use Rattle.prolog_terms.specs.Terms.{tree_in}
use Rattle.prolog_terms.specs.Tree.{Tree}
use Rattle.kept_clauses.specs.Plain.{plain}
use Rattle.kept_clauses.specs.Words.{AreKept}
use Rattle.kept_clauses.proofs.KeptClauses.{none_kept, kept_more}
use Rattle.clause_text.proofs.piece.plain_clauses.Goals as goal

pub loop-end-init : goal.loop-end-init
loop-end-init c =
    let names = c.args.names.now in
    subst (λ begins. AreKept names c.new-list.result begins []) (sym c.in_ok-begins.ensures.items) (none_kept names c.new-list.result)

pub loop-end-preserved : goal.loop-end-preserved
loop-end-preserved c =
    let names = c.args.names.now in
    let ends = c.args.ends.now in
    let k = c.loop-end.end-index in
    let end = get_or ends k 0 in
    let trees : ℕ → Tree = λ e. plain (tree_in names c.args.nodes.now e) in
    let all : map trees (take k ends) ++ trees end ∷ [] ≡ map trees (take (k + 1) ends) =
    sym (ap (map trees) (take_more ends k 0 c.loop-end-test.true) ∙ map-append trees (take k ends) (end ∷ [])) in
    subst (λ begins. AreKept names c.push_clause.new.self begins (map trees (take (k + 1) ends))) (sym c.in_ok-push.ensures.items)
    (subst (AreKept names c.push_clause.new.self (c.loop-end.begins.items ++ c.in_ok-push_clause.field-0 ∷ [])) all
    (kept_more names c.loop-end.list c.push_clause.new.self c.in_ok-push_clause.field-0 (trees end) c.in_ok-push_clause.ensures c.loop-end.begins.items (map trees (take k ends)) c.loop-end.invariant))

pub returns : goal.returns
returns c =
    let names = c.args.names.now in
    let trees : ℕ → Tree = λ e. plain (tree_in names c.args.nodes.now e) in
    subst (λ ends. AreKept names c.loop-end.list c.loop-end.begins.items (map trees ends)) (take_all c.loop-end.end-index c.args.ends.now c.loop-end-test.false) c.loop-end.invariant
