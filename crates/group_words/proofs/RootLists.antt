-- A list of roots is one list of predicates.
use Rattle.std.proofs.Common.{◌≡◌, ℕ, List, Option, Some, None, MatchOption, map, sym, ◌∙◌, ap, subst}
use Rattle.prolog_tokens.specs.declared.token.Token.{Token}
use Rattle.prolog_tokens.specs.Cut.{IsCut}
use Rattle.prolog_tokens.proofs.Between.{one_cut}
use Rattle.prolog_terms.specs.Tree.{Tree}
use Rattle.prolog_terms.specs.Words.{table_of}
use Rattle.prolog_terms.specs.Clause.{IsClauseOf}
use Rattle.prolog_terms.specs.Views.{joined}
use Rattle.prolog_terms.proofs.ClausesOf.{one_tree}
use Rattle.prolog_terms.proofs.ReaderTables.{table_is}
use Rattle.prolog_terms.proofs.TokenWords.{cut_spelled}
use Rattle.clause_text.specs.Clauses.{opening_ops}
use Rattle.clause_text.proofs.OneReading.{opening_ops_are}
use Rattle.import_rules.specs.declared.names.PredName.{PredName}
use Rattle.prolog_terms.proofs.ViewLemmas.{some_once}
use Rattle.group_words.specs.declared.root_list.ListTerm.{ListTerm}
use Rattle.group_words.specs.RootList.{IsList, list_tree, IsRootList, list_text, named_predicate, all_there}

-- the list has one term
pub one_list : (text : List ℕ) (a b : Tree) → IsList text a → IsList text b → a ≡ b
one_list text a b x y =
    let same : x.tokens ≡ y.tokens = one_cut (list_text text) x.tokens y.tokens x.cut y.cut in
    one_tree (table_of opening_ops) (table_is opening_ops opening_ops_are) (list_text text) y.tokens a b (cut_spelled (list_text text) y.tokens y.cut)
    (subst (λ ts. IsClauseOf (table_of opening_ops) (list_text text) ts a) same x.clause) y.clause

-- it names one list of predicates
pub one_root_list : (text : List ℕ) (roots others : List PredName) → IsRootList text roots → IsRootList text others → roots ≡ others
one_root_list text roots others x y =
    some_once (sym x.are ∙ (ap (λ t. all_there (map named_predicate (joined t))) (one_list text x.tree y.tree x.list y.list) ∙ y.are))

-- none is named where one of its predicates isn't there
pub not_all_there : (text : List ℕ) (tree : Tree) → IsList text tree → all_there (map named_predicate (joined tree)) ≡ None → (roots : List PredName) → IsRootList text roots → ⊥
not_all_there text tree list none roots is =
    let both : Some roots ≡ None = sym is.are ∙ (ap (λ t. all_there (map named_predicate (joined t))) (one_list text is.tree tree is.list list) ∙ none) in cc

-- what the tokens of the whole text are read as
pub list_read : (text whole : List ℕ) (ts us : List Token) (found : Option ListTerm) → whole ≡ list_text text → us ≡ ts → IsCut whole ts
    → ((others : List Token) → IsCut whole others → others ≡ ts)
    → MatchOption found ((tree : Tree) → IsClauseOf (table_of opening_ops) whole us tree → ⊥) (λ term. IsClauseOf (table_of opening_ops) whole us (list_tree term))
    → MatchOption found ((tree : Tree) → IsList text tree → ⊥) (λ term. IsList text (list_tree term))
list_read text whole ts us None is same cut only none = λ tree list.
    let tokens : list.tokens ≡ us = only list.tokens (subst (λ t. IsCut t list.tokens) (sym is) list.cut) ∙ sym same in
    none tree (subst (λ t. IsClauseOf (table_of opening_ops) t us tree) (sym is) (subst (λ xs. IsClauseOf (table_of opening_ops) (list_text text) xs tree) tokens list.clause))
list_read text whole ts us (Some term) is same cut only clause = record {
  tokens = us;
  cut = subst (λ t. IsCut t us) is (subst (λ xs. IsCut whole xs) (sym same) cut);
  clause = subst (λ t. IsClauseOf (table_of opening_ops) t us (list_tree term)) is clause;
}
