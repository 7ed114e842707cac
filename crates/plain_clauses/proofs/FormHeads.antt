-- What a clause with a plain form defines, and where it stands.
use Rattle.std.proofs.Common.{◌≡◌, inl, inr, ℕ, List, Some, None, Ok, codes, ap, ◌∙◌}
use Rattle.prolog_terms.specs.Tree.{Tree}
use Rattle.prolog_terms.specs.Views.{binary, sides_of}
use Rattle.kept_clauses.specs.Plain.{PlainClause, clause_span, plain_clause}
use Rattle.module_table.specs.Facts.{clause_head}
use Rattle.clause_text.proofs.PlainForms.{IsFact, rule_or_fact}
use Rattle.module_table.proofs.PlainHeads.{head_named_free, rule_head, head_alone, binary_free, no_grammar}

-- a fact is no grammar rule
pub fact_no_grammar : (tree : Tree) (clause : PlainClause) → IsFact tree clause → sides_of (codes "-->") tree ≡ None
fact_no_grammar tree clause fact = no_grammar (binary tree) (binary_free tree fact.named.named fact.named.is fact.named.free)

pub head_is : (owner : List ℕ) (tree : Tree) (clause : PlainClause) → plain_clause tree ≡ Some clause
    → clause_head owner tree ≡ Ok (record { module_ = owner; name = clause.name; arity = clause.arity })
head_is owner tree clause is =
    elim (rule_or_fact tree clause is) [
      | inl rule ↦
          rule_head owner tree (binary tree) rule.sides.0 rule.sides.1 rule.is
          ∙ head_named_free owner rule.sides.0 rule.named.named rule.named.is rule.named.free
          ∙ ap (λ (c : PlainClause). Ok (record { module_ = owner; name = c.name; arity = c.arity })) rule.named.clause_is
      | inr fact ↦
          head_alone owner tree (binary tree) (binary_free tree fact.named.named fact.named.is fact.named.free)
          ∙ head_named_free owner tree fact.named.named fact.named.is fact.named.free
          ∙ ap (λ (c : PlainClause). Ok (record { module_ = owner; name = c.name; arity = c.arity })) fact.named.clause_is
    ]

-- where it stands

pub span_is : (tree : Tree) (clause : PlainClause) → plain_clause tree ≡ Some clause → clause_span tree ≡ clause.span
span_is tree clause is =
    elim (rule_or_fact tree clause is) [
      | inl rule ↦ ap (λ (c : PlainClause). c.span) rule.named.clause_is
      | inr fact ↦ ap (λ (c : PlainClause). c.span) fact.named.clause_is
    ]
