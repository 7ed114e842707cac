use Rattle.std.proofs.Common.{◌++◌, ◌∷◌, [], length, sym, ap, ◌∙◌}
use Rattle.prolog_terms.specs.Terms.{root_tree, tree_of}
use Rattle.kept_clauses.specs.Words.{Kept}
use Rattle.kept_clauses.proofs.WordLemmas.{term_goal, term_clause, on_ok}
use Rattle.kept_clauses.proofs.kept_list.KeptList.push_term.Goals as goal

pub returns-clause-goals : goal.returns-clause-goals
returns-clause-goals c =
    on_ok c.push_word.result c.push_word.ensures
    (λ pushed.
    let more = c.in_ok-append_last.ensures.more in
    let names = c.args.term.now.names.now in
    let word = c.term_word-word.result in
    term_goal names c.args.self.now c.push_word.new.self word more.0 (tree_of c.args.term.now) (ap (λ (k : Kept). k.0) pushed ∙ ap (λ (k : Kept). k.0 ++ word ∷ []) c.self.view_is)
    (ap (λ (k : Kept). k.1) pushed ∙ (more.1 ∙ ap (λ (k : Kept). k.1 ++ more.0) c.self.view_is)) c.term_word-word.ensures.kind
    (c.term_word-word.ensures.end ∙ (c.len.ensures.is ∙ sym (ap (λ (k : Kept). length k.1) pushed)))
    (ap (λ (k : Kept). root_tree names k.1) pushed ∙ c.in_ok-append_last.ensures.root names))

pub returns-clause-clause : goal.returns-clause-clause
returns-clause-clause c =
    on_ok c.push_word.result c.push_word.ensures
    (λ pushed.
    let more = c.in_ok-append_last.ensures.more in
    let names = c.args.term.now.names.now in
    let word = c.term_word-word.result in
    term_clause names c.args.self.now c.push_word.new.self word more.0 (tree_of c.args.term.now) (ap (λ (k : Kept). k.0) pushed ∙ ap (λ (k : Kept). k.0 ++ word ∷ []) c.self.view_is)
    (ap (λ (k : Kept). k.1) pushed ∙ (more.1 ∙ ap (λ (k : Kept). k.1 ++ more.0) c.self.view_is)) c.term_word-word.ensures.kind
    (c.term_word-word.ensures.end ∙ (c.len.ensures.is ∙ sym (ap (λ (k : Kept). length k.1) pushed)))
    (ap (λ (k : Kept). root_tree names k.1) pushed ∙ c.in_ok-append_last.ensures.root names))
