-- What a clause with a plain form is: a rule or a fact whose head has a free name, and no directive.
use Rattle.std.proofs.Common.{◌≡◌, ◌⊎◌, inl, inr, ℕ, zero, suc, Bool, true, false, ◌||◌, List, Option, Some, None, if◌then◌else◌, codes, refl, sym, ap, ◌∙◌, subst}
use Rattle.std.specs.Str.{bytes_eq}
use Rattle.prolog_terms.specs.declared.term.Span.{Span}
use Rattle.prolog_terms.specs.Tree.{Tree, compound, paren, none, more}
use Rattle.prolog_terms.specs.Views.{Named, sides_of, name_and_arity}
use Rattle.prolog_terms.proofs.ViewLemmas.{some_once, some_none}
use Rattle.kept_clauses.specs.Plain.{is_free, is_plain_name, PlainGoal, PlainClause, body_goals, clause_span, clause_named, clause_by, plain_clause, plain, named_tree, written, written_as}
use Rattle.kept_clauses.proofs.Bodies.{if_false}
use Rattle.kept_clauses.proofs.FreeNames.{plain_free, not_rule, not_query}
use Rattle.clause_text.specs.Items.{has_some, items_of, items_under, directive_of}

-- the clause is made of a head with a free name
pub record IsNamedBy (span : Span) (body : Option (List PlainGoal)) (head : Option Named) (clause : PlainClause) : Type 0 where
  pub named : Named
  pub is : head ≡ Some named
  pub plain : is_plain_name span.from named.name named.arity ≡ true
  pub free : is_free named.name ≡ true
  pub clause_is : record { span = span; name = named.name; arity = named.arity; body = body } ≡ clause

named_if : (test : Bool) (one clause : PlainClause) → (if test then Some one else None) ≡ Some clause → (test ≡ true) × (one ≡ clause)
named_if true one clause is = (refl, some_once is)
named_if false one clause is = absurd (some_none clause (sym is))

named_by : (span : Span) (body : Option (List PlainGoal)) (head : Option Named) (clause : PlainClause) → clause_named span body head ≡ Some clause → IsNamedBy span body head clause
named_by span body (Some named) clause is =
    let both = named_if (is_plain_name span.from named.name named.arity) (record { span = span; name = named.name; arity = named.arity; body = body }) clause is in
    record { named = named; is = refl; plain = both.0; free = plain_free span.from named.name named.arity both.0; clause_is = both.1 }
named_by span body None clause is = absurd (some_none clause (sym is))

pub record IsRule (tree : Tree) (clause : PlainClause) : Type 0 where
  pub sides : Tree × Tree
  pub is : sides_of (codes ":-") tree ≡ Some sides
  pub named : IsNamedBy (clause_span tree) (Some (body_goals sides.1)) (name_and_arity sides.0) clause

pub record IsFact (tree : Tree) (clause : PlainClause) : Type 0 where
  pub is : sides_of (codes ":-") tree ≡ None
  pub named : IsNamedBy (clause_span tree) None (name_and_arity tree) clause

pub rule_or_fact : (tree : Tree) (clause : PlainClause) → plain_clause tree ≡ Some clause → IsRule tree clause ⊎ IsFact tree clause
rule_or_fact tree clause is = by_sides (sides_of (codes ":-") tree) refl is
  where
    by_sides : (o : Option (Tree × Tree)) → sides_of (codes ":-") tree ≡ o → clause_by tree o ≡ Some clause → IsRule tree clause ⊎ IsFact tree clause
    by_sides (Some sides) here made =
        inl (record { sides = sides; is = here; named = named_by (clause_span tree) (Some (body_goals sides.1)) (name_and_arity sides.0) clause made })
    by_sides None here made = inr (record { is = here; named = named_by (clause_span tree) None (name_and_arity tree) clause made })

-- it is no directive

rule_directive : (tree : Tree) (sides : Tree × Tree) → sides_of (codes ":-") tree ≡ Some sides → directive_of tree ≡ None
rule_directive (compound name (more left (more right none)) form span) sides is = refl
rule_directive (paren inner span) sides is = rule_directive inner sides is
rule_directive tree sides is = absurd (some_none sides (sym is))

pub no_directive : (name : List ℕ) → is_free name ≡ true → bytes_eq name (codes ":-") || bytes_eq name (codes "?-") ≡ false
no_directive name free = λ i. (not_rule name free).1 i || (not_query name free).1 i

fact_directive : (tree : Tree) (named : Named) → name_and_arity tree ≡ Some named → is_free named.name ≡ true → directive_of tree ≡ None
fact_directive (compound name (more one none) form span) named is =
    subst (λ (n : Named). is_free n.name ≡ true → directive_of (compound name (more one none) form span) ≡ None) (some_once is)
    (λ free. if_false (bytes_eq name (codes ":-") || bytes_eq name (codes "?-")) _ _ (no_directive name free))
fact_directive (paren inner span) named is = fact_directive inner named is
fact_directive tree named is = λ free. refl

pub directive_none : (tree : Tree) (clause : PlainClause) → plain_clause tree ≡ Some clause → directive_of tree ≡ None
directive_none tree clause is =
    elim (rule_or_fact tree clause is) [
      | inl rule ↦ rule_directive tree rule.sides rule.is
      | inr fact ↦ fact_directive tree fact.named.named fact.named.is fact.named.free
    ]

-- a plain form that is written as a term is no directive

pub written_none : (clause : PlainClause) → is_free clause.name ≡ true → directive_of (written clause) ≡ None
written_none clause free = by_body clause.body
  where
    by_arity : (arity : ℕ) → directive_of (named_tree clause.span clause.name arity) ≡ None
    by_arity zero = refl
    by_arity (suc zero) = if_false (bytes_eq clause.name (codes ":-") || bytes_eq clause.name (codes "?-")) _ _ (no_directive clause.name free)
    by_arity (suc (suc n)) = refl

    by_body : (body : Option (List PlainGoal)) → directive_of (written_as clause body) ≡ None
    by_body (Some goals) = refl
    by_body None = by_arity clause.arity

-- a clause that sets operators is its own plain tree
pub own_plain : (tree : Tree) → has_some (items_of tree) ≡ true → plain tree ≡ tree
own_plain tree some = by_form (plain_clause tree) refl
  where
    by_form : (o : Option PlainClause) → plain_clause tree ≡ o → (elim o [ Some clause ↦ written clause | None ↦ tree ]) ≡ tree
    by_form (Some clause) is =
        let none : false ≡ true = sym (ap (λ directive. has_some (items_under directive)) (directive_none tree clause is)) ∙ some in absurd (cc)
    by_form None is = refl
