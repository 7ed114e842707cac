use Rattle.std.proofs.Common.{ap, sym, ◌∙◌}
use Rattle.kept_clauses.specs.Plain.{written}
use Rattle.kept_clauses.specs.Words.{first_tree}
use Rattle.kept_clauses.proofs.WordLemmas.{tree_at, no_word}
use Rattle.kept_clauses.proofs.kept_list.KeptList.clause.Goals as goal

pub returns-in_default-clause-tree : goal.returns-in_default-clause-tree
returns-in_default-clause-tree c =
    let list = c.args.self.now in
    c.term.ensures.tree ∙ sym (ap (first_tree c.args.names.now list.1) (no_word list.0 c.args.at c.in_default.ensures.word))

pub returns-in-Fact-clause-tree : goal.returns-in-Fact-clause-tree
returns-in-Fact-clause-tree c =
    let list = c.args.self.now in
    ap written c.form.ensures.form
    ∙ sym (tree_at c.args.names.now list.1 list.0 c.args.at c.in-Some.word _ c.in-Some.ensures.word (sym c.kind_of.ensures ∙ c.in-Fact.is))

pub returns-in-Rule-clause-tree : goal.returns-in-Rule-clause-tree
returns-in-Rule-clause-tree c =
    let list = c.args.self.now in
    ap written c.form-in-Rule.ensures.form
    ∙ sym (tree_at c.args.names.now list.1 list.0 c.args.at c.in-Some.word _ c.in-Some.ensures.word (sym c.kind_of.ensures ∙ c.in-Rule.is))

pub returns-in-Term-clause-tree : goal.returns-in-Term-clause-tree
returns-in-Term-clause-tree c =
    let list = c.args.self.now in
    c.term-in-Term.ensures.tree
    ∙ sym (tree_at c.args.names.now list.1 list.0 c.args.at c.in-Some.word _ c.in-Some.ensures.word (sym c.kind_of.ensures ∙ c.in-Term.is))

pub returns-in-Call-clause-tree : goal.returns-in-Call-clause-tree
returns-in-Call-clause-tree c =
    let list = c.args.self.now in
    c.term-in-Call.ensures.tree
    ∙ sym (tree_at c.args.names.now list.1 list.0 c.args.at c.in-Some.word _ c.in-Some.ensures.word (sym c.kind_of.ensures ∙ c.in-Call.is))

pub returns-in-End-clause-tree : goal.returns-in-End-clause-tree
returns-in-End-clause-tree c =
    let list = c.args.self.now in
    c.term-in-End.ensures.tree
    ∙ sym (tree_at c.args.names.now list.1 list.0 c.args.at c.in-Some.word _ c.in-Some.ensures.word (sym c.kind_of.ensures ∙ c.in-End.is))
