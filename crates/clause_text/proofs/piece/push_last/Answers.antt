use Rattle.std.proofs.Common.{◌≡◌, ap, sym, ◌∙◌, subst, slice_range}
use Rattle.rayon.proofs.ListFacts.{IfOk-then}
use Rattle.prolog_terms.specs.Terms.{root_tree, tree_of}
use Rattle.prolog_terms.specs.Words.{table_of}
use Rattle.prolog_terms.specs.Clause.{IsClauseOf}
use Rattle.kept_clauses.specs.Plain.{plain}
use Rattle.kept_clauses.specs.Words.{kept_tree, AddsClause}
use Rattle.kept_clauses.proofs.KeptClauses.{kept_still, kept_one}
use Rattle.clause_text.specs.Pieces.{ReadEndIs, KeptEndIs}
use Rattle.clause_text.proofs.PlainForms.{own_plain}
use Rattle.clause_text.proofs.piece.push_last.Goals as goal

pub returns-in-AtOperators-clause-same : goal.returns-in-AtOperators-clause-same
returns-in-AtOperators-clause-same c =
    let names = c.args.names.now in
    let old = c.args.list.now in
    let new = c.push_clause.new.self in
    IfOk-then c.push_clause.result _ _ c.push_clause.ensures
    (λ at adds begins trees are. kept_still names old new at (plain (tree_of c.root.result)) (subst (λ ns. AddsClause ns old new at (plain (tree_of c.root.result))) c.root.ensures.within.0 adds) begins trees are)

pub returns-in-AtOperators-clause-last : goal.returns-in-AtOperators-clause-last
returns-in-AtOperators-clause-last c =
    let names = c.args.names.now in
    let old = c.args.list.now in
    let new = c.push_clause.new.self in
    let nodes = c.args.nodes.now in
    let root = root_tree names nodes in
    IfOk-then c.push_clause.result _ _ c.push_clause.ensures
    (λ at adds table text ts from to is.
    let ends = subst (ReadEndIs names table text ts from to nodes) c.in-AtOperators.is is in
    let own : plain root ≡ root = own_plain root ends.2 in
    let added = subst (λ ns. AddsClause ns old new at (plain (tree_of c.root.result))) c.root.ensures.within.0 adds in
    let here : kept_tree names new at ≡ root = kept_one names old new at (plain (tree_of c.root.result)) added ∙ (ap plain c.root.ensures.tree ∙ own) in
    subst (KeptEndIs names table text ts from to new at) (sym c.in-AtOperators.is) (
      ends.0,
      subst (IsClauseOf (table_of table) text (slice_range ts from c.in-AtOperators.field-0)) (sym here) ends.1,
      ap plain here ∙ (own ∙ sym here),
    ))
