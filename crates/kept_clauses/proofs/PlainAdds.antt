-- The clause that is made of a plain head and goals is the plain tree.
use Rattle.std.proofs.Common.{◌≡◌, ℕ, ◌/◌, ◌%◌, List, Option, Some, None, sym, ap, ◌∙◌}
use Rattle.std.specs.Prelude.{option_map}
use Rattle.prolog_names.specs.Names.{name_at}
use Rattle.prolog_terms.specs.Tree.{Tree}
use Rattle.prolog_terms.specs.Terms.{tree_of}
use Rattle.kept_clauses.specs.declared.kept_clause.KeptCall.{KeptCall}
use Rattle.kept_clauses.specs.declared.plain_goals.PlainHead.{PlainHead}
use Rattle.kept_clauses.specs.BodyGoals.{IsPlainHead}
use Rattle.kept_clauses.specs.Plain.{PlainGoal, PlainClause, body_goals, clause_span, plain, written}
use Rattle.kept_clauses.specs.Words.{offset_in, number_in, arity_in}
use Rattle.kept_clauses.proofs.WordLemmas.{made}

-- the word is that head or call
pub record IsWordOf (one : KeptCall) (word : ℕ) : Type 0 where
  pub number : number_in word ≡ one.number
  pub at : offset_in word ≡ one.at
  pub arity : arity_in word ≡ one.arity

pub made_plain : (names : List (List ℕ)) (tree : Tree) (head : PlainHead) (to word end : ℕ) (body : Option (List PlainGoal)) → IsPlainHead names tree head
    → (clause_span tree).to ≡ to → IsWordOf head.call word → end / 8 % 4294967296 ≡ to → option_map (λ term. body_goals (tree_of term)) head.body ≡ body
    → made names word end body ≡ plain tree
made_plain names tree head to word end body is ends of end_is body_is =
    (λ i. written (record {
      span = record { from = (of.at ∙ is.at) i; to = (end_is ∙ sym ends) i };
      name = name_at names (of.number i);
      arity = of.arity i;
      body = sym body_is i;
    }))
    ∙ sym (ap (λ (o : Option PlainClause). elim o [ Some one ↦ written one | None ↦ tree ]) is.form)
