-- What a plain form defines as a clause: its name, in the module of the file. It is no directive.
use Rattle.std.proofs.Common.{◌≡◌, ℕ, zero, suc, ◌==◌, Bool, true, false, ◌||◌, List, [], ◌∷◌, Option, Some, None, Ok, if◌then◌else◌, codes, refl, sym, ap, ◌∙◌, subst}
use Rattle.std.specs.Str.{bytes_eq}
use Rattle.prolog_terms.specs.declared.term.Span.{Span}
use Rattle.prolog_terms.specs.Tree.{Tree, atom, compound, paren, none, more, count}
use Rattle.prolog_terms.specs.Views.{Binary, Named, binary, sides_named, sides_of, name_and_arity, start_of}
use Rattle.prolog_terms.proofs.ViewLemmas.{some_once, some_none, of_sides}
use Rattle.kept_clauses.specs.Plain.{is_free, PlainGoal, PlainClause, clause_span, variables, named_tree, written_as, written}
use Rattle.clause_text.specs.Items.{directive_of}
use Rattle.module_table.specs.Facts.{head_with, clause_head}
use Rattle.module_table.specs.Heads.{is_among, control_names as control_heads, headless_names, named_head, owned_by, head, head_within}
use Rattle.kept_clauses.proofs.Bodies.{if_false}
use Rattle.kept_clauses.proofs.FreeNames.{IsNot, not_comma, not_semicolon, not_bar, not_then, not_negation, not_cut, not_colon, not_rule, not_query, not_grammar, not_brackets, not_curly}

none_in : (name : List ℕ) → is_free name ≡ true → (word : List ℕ) (words : List (List ℕ)) → IsNot name word → is_among words name ≡ false → is_among (word ∷ words) name ≡ false
none_in name free word words first others = (λ i. first.0 i || is_among words name) ∙ others

-- it is no control construct of two goals
pub no_control : (name : List ℕ) → is_free name ≡ true → is_among (codes "," ∷ codes ";" ∷ codes "|" ∷ codes "->" ∷ []) name ≡ false
no_control name free =
    none_in name free (codes ",") (codes ";" ∷ codes "|" ∷ codes "->" ∷ []) (not_comma name free)
    (none_in name free (codes ";") (codes "|" ∷ codes "->" ∷ []) (not_semicolon name free)
    (none_in name free (codes "|") (codes "->" ∷ []) (not_bar name free) (none_in name free (codes "->") [] (not_then name free) refl)))

-- no head has a free name and is a control construct, or no head at all
module _ (name : List ℕ) (free : is_free name ≡ true) where
  none_if : (test : Bool) (xs ys : List (List ℕ)) → is_among xs name ≡ false → is_among ys name ≡ false → is_among (if test then xs else ys) name ≡ false
  none_if true xs ys first second = first
  none_if false xs ys first second = second

  no_control_head : (arity : ℕ) → is_among (control_heads arity) name ≡ false
  no_control_head arity =
      none_if (arity == 0) (codes "!" ∷ []) _ (none_in name free (codes "!") [] (not_cut name free) refl)
      (none_if (arity == 1) (codes "\\+" ∷ codes ":-" ∷ codes "?-" ∷ []) _
      (none_in name free (codes "\\+") (codes ":-" ∷ codes "?-" ∷ []) (not_negation name free)
      (none_in name free (codes ":-") (codes "?-" ∷ []) (not_rule name free) (none_in name free (codes "?-") [] (not_query name free) refl)))
      (none_if (arity == 2) (codes "," ∷ codes ";" ∷ codes "|" ∷ codes "->" ∷ codes ":-" ∷ codes "-->" ∷ []) []
      (none_in name free (codes ",") (codes ";" ∷ codes "|" ∷ codes "->" ∷ codes ":-" ∷ codes "-->" ∷ []) (not_comma name free)
      (none_in name free (codes ";") (codes "|" ∷ codes "->" ∷ codes ":-" ∷ codes "-->" ∷ []) (not_semicolon name free)
      (none_in name free (codes "|") (codes "->" ∷ codes ":-" ∷ codes "-->" ∷ []) (not_bar name free)
      (none_in name free (codes "->") (codes ":-" ∷ codes "-->" ∷ []) (not_then name free)
      (none_in name free (codes ":-") (codes "-->" ∷ []) (not_rule name free) (none_in name free (codes "-->") [] (not_grammar name free) refl)))))) refl))

  no_headless : (arity : ℕ) → is_among (headless_names arity) name ≡ false
  no_headless arity =
      none_if (arity == 0) (codes "[]" ∷ codes "{}" ∷ []) _
      (none_in name free (codes "[]") (codes "{}" ∷ []) (not_brackets name free) (none_in name free (codes "{}") [] (not_curly name free) refl))
      (none_if (arity == 2) (codes ":" ∷ []) [] (none_in name free (codes ":") [] (not_colon name free) refl) refl)

  pub head_free : (tree : Tree) (arity : ℕ) → named_head tree name arity ≡ Ok (record { name = name; arity = arity })
  head_free tree arity =
      if_false (is_among (control_heads arity) name) _ _ (no_control_head arity)
      ∙ if_false (is_among (headless_names arity) name) _ _ (no_headless arity)

-- a head with a free name defines it in the module of the file

abbrev IsHead : List ℕ → Tree → Named → Type 0
IsHead owner tree named = is_free named.name ≡ true → head owner tree ≡ Ok (record { module_ = owner; name = named.name; arity = named.arity })

pub head_named_free : (owner : List ℕ) (tree : Tree) (named : Named) → name_and_arity tree ≡ Some named → IsHead owner tree named
head_named_free owner (atom name span) named is =
    subst (IsHead owner (atom name span)) (some_once is) (λ free. ap (owned_by owner) (head_free name free (atom name span) 0))
head_named_free owner (compound name (more left (more right none)) form span) named is =
    let tree = compound name (more left (more right none)) form span in
    subst (IsHead owner tree) (some_once is)
    (λ free. ap head_within (if_false (bytes_eq name (codes ":")) _ _ (not_colon name free).1) ∙ ap (owned_by owner) (head_free name free tree 2))
head_named_free owner (compound name args form span) named is =
    let tree = compound name args form span in
    subst (IsHead owner tree) (some_once is) (λ free. ap (owned_by owner) (head_free name free tree (count args)))
head_named_free owner (paren inner span) named is = head_named_free owner inner named is
head_named_free owner tree named is = absurd (some_none named (sym is))

-- a rule

pub rule_directive : (tree : Tree) (sides : Tree × Tree) → sides_of (codes ":-") tree ≡ Some sides → directive_of tree ≡ None
rule_directive (compound name (more left (more right none)) form span) sides is = refl
rule_directive (paren inner span) sides is = rule_directive inner sides is
rule_directive tree sides is = absurd (some_none sides (sym is))

pub rule_head : (owner : List ℕ) (tree : Tree) (pair : Option Binary) (left right : Tree) → sides_named (codes ":-") pair ≡ Some (left, right)
    → head_with owner tree pair ≡ head owner left
rule_head owner tree (Some pair) left right is =
    of_sides (λ l r. head owner l) _ (bytes_eq pair.name (codes ":-")) pair.left pair.right left right is
rule_head owner tree None left right is = absurd (some_none (left, right) (sym is))

-- a term with a free name: it is no directive, and its two arguments are no sides of a clause

no_directive : (name : List ℕ) → is_free name ≡ true → bytes_eq name (codes ":-") || bytes_eq name (codes "?-") ≡ false
no_directive name free = λ i. (not_rule name free).1 i || (not_query name free).1 i

pub fact_directive : (tree : Tree) (named : Named) → name_and_arity tree ≡ Some named → is_free named.name ≡ true → directive_of tree ≡ None
fact_directive (compound name (more one none) form span) named is =
    subst (λ (n : Named). is_free n.name ≡ true → directive_of (compound name (more one none) form span) ≡ None) (some_once is)
    (λ free. if_false (bytes_eq name (codes ":-") || bytes_eq name (codes "?-")) _ _ (no_directive name free))
fact_directive (paren inner span) named is = fact_directive inner named is
fact_directive tree named is = λ free. refl

abbrev pub AreFree : Option Binary → Type 0
AreFree None = Unit {0}
AreFree (Some pair) = is_free pair.name ≡ true

pub binary_free : (tree : Tree) (named : Named) → name_and_arity tree ≡ Some named → is_free named.name ≡ true → AreFree (binary tree)
binary_free (compound name (more left (more right none)) form span) named is =
    subst (λ (n : Named). is_free n.name ≡ true → is_free name ≡ true) (some_once is) (λ free. free)
binary_free (paren inner span) named is = binary_free inner named is
binary_free tree named is = λ free. tt

pub head_alone : (owner : List ℕ) (tree : Tree) (pair : Option Binary) → AreFree pair → head_with owner tree pair ≡ head owner tree
head_alone owner tree (Some pair) free =
    if_false (bytes_eq pair.name (codes ":-")) _ _ (not_rule pair.name free).1 ∙ if_false (bytes_eq pair.name (codes "-->")) _ _ (not_grammar pair.name free).1
head_alone owner tree None free = refl

pub no_rule : (pair : Option Binary) → AreFree pair → sides_named (codes ":-") pair ≡ None
no_rule (Some pair) free = if_false (bytes_eq pair.name (codes ":-")) _ _ (not_rule pair.name free).1
no_rule None free = refl

pub no_grammar : (pair : Option Binary) → AreFree pair → sides_named (codes "-->") pair ≡ None
no_grammar (Some pair) free = if_false (bytes_eq pair.name (codes "-->")) _ _ (not_grammar pair.name free).1
no_grammar None free = refl

-- terms with variables for arguments

pub count_variables : (n : ℕ) → count (variables n) ≡ n
count_variables zero = refl
count_variables (suc n) = ap (λ k. suc k) (count_variables n)

pub named_back : (span : Span) (name : List ℕ) (arity : ℕ) → name_and_arity (named_tree span name arity) ≡ Some (record { name = name; arity = arity })
named_back span name zero = refl
named_back span name (suc n) = ap (λ k. Some (record { name = name; arity = suc k })) (count_variables n)

pub named_span : (span : Span) (name : List ℕ) (arity : ℕ) → clause_span (named_tree span name arity) ≡ span
named_span span name zero = refl
named_span span name (suc n) = refl

pub named_binary : (span : Span) (name : List ℕ) (arity : ℕ) → is_free name ≡ true → AreFree (binary (named_tree span name arity))
named_binary span name arity free =
    binary_free (named_tree span name arity) (record { name = name; arity = arity }) (named_back span name arity) free

-- a plain form as a clause

module _ (clause : PlainClause) where
  -- the name of its head
  abbrev head_name : Named
  head_name = record { name = clause.name; arity = clause.arity }

  pub written_span : clause_span (written clause) ≡ clause.span
  written_span = by_body clause.body
    where
      by_body : (body : Option (List PlainGoal)) → clause_span (written_as clause body) ≡ clause.span
      by_body (Some goals) = refl
      by_body None = named_span clause.span clause.name clause.arity

  pub written_start : start_of (written clause) ≡ clause.span.from
  written_start = ap (λ (span : Span). span.from) written_span

  module _ (free : is_free clause.name ≡ true) where
    pub written_directive : directive_of (written clause) ≡ None
    written_directive = by_body clause.body
      where
        by_body : (body : Option (List PlainGoal)) → directive_of (written_as clause body) ≡ None
        by_body (Some goals) = refl
        by_body None = fact_directive (named_tree clause.span clause.name clause.arity) head_name (named_back clause.span clause.name clause.arity) free

    pub written_head : (owner : List ℕ) → clause_head owner (written clause) ≡ Ok (record { module_ = owner; name = clause.name; arity = clause.arity })
    written_head owner = by_body clause.body
      where
        named_head_is : (span : Span) → head owner (named_tree span clause.name clause.arity) ≡ Ok (record { module_ = owner; name = clause.name; arity = clause.arity })
        named_head_is span =
            head_named_free owner (named_tree span clause.name clause.arity) head_name (named_back span clause.name clause.arity) free

        by_body : (body : Option (List PlainGoal))
            → clause_head owner (written_as clause body) ≡ Ok (record { module_ = owner; name = clause.name; arity = clause.arity })
        by_body (Some goals) = named_head_is (record { from = 0; to = 0 })
        by_body None =
            head_alone owner (named_tree clause.span clause.name clause.arity) (binary (named_tree clause.span clause.name clause.arity))
            (named_binary clause.span clause.name clause.arity free)
            ∙ named_head_is clause.span
