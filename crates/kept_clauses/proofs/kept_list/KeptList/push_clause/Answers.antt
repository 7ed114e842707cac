use Rattle.std.proofs.Common.{◌≡◌, length, sym, ap, ◌∙◌, subst}
use Rattle.prolog_terms.specs.declared.term.Span.{Span}
use Rattle.prolog_terms.specs.Terms.{tree_of}
use Rattle.prolog_terms.specs.Tree.{span_of}
use Rattle.kept_clauses.specs.Plain.{plain}
use Rattle.kept_clauses.specs.Words.{Kept, AddsClause}
use Rattle.kept_clauses.proofs.kept_list.KeptList.push_clause.Goals as goal

pub returns-in_ok-push_plain-in-Some : goal.returns-in_ok-push_plain-in-Some
returns-in_ok-push_plain-in-Some c =
    let names = c.args.clause.now.names.now in
    let tree = tree_of c.args.clause.now in
    let old = c.args.self.now in
    let at : length old.0 ≡ c.len-at.result = sym (c.len-at.ensures ∙ (c.self.inside.words.ok.0 ∙ ap (λ (k : Kept). length k.0) c.self.view_is)) in
    let ends = sym (ap (λ (s : Span). s.to) (c.span.ensures ∙ ap span_of c.inside.ensures.tree)) in
    subst (λ n. AddsClause names old c.push_plain.new.self n (plain tree)) at (c.in_ok-push_plain-in-Some.ensures names tree c.in-Some.ensures ends)
