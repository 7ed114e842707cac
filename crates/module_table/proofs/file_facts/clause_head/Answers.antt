use Rattle.std.proofs.Common.{◌≡◌, true, false, sym, ◌∙◌, ap, subst, arith, codes}
use Rattle.std.specs.Str.{bytes_eq}
use Rattle.prolog_names.specs.Names.{name_at}
use Rattle.prolog_terms.specs.Terms.{tree_of}
use Rattle.prolog_terms.specs.Views.{Binary}
use Rattle.prolog_terms.proofs.ViewLemmas.{is_true}
use Rattle.module_table.specs.Heads.{head, grammar_head}
use Rattle.module_table.specs.Said.{IsWhy}
use Rattle.module_table.proofs.HeadLemmas.{head_small, grammar_weight, pair_weight, grammar_said, why_added}
use Rattle.module_table.proofs.file_facts.clause_head.Goals as goal

pub overflow_add-result : goal.overflow_add-result
overflow_add-result c =
    let pair : Binary = record { name = c.in-Some.pair.name.now; left = tree_of c.in-Some.pair.left; right = tree_of c.in-Some.pair.right } in
    let names = c.grammar_head.result.names.now in
    let owner = name_at names c.args.owner in
    let is = ap (head owner) (sym c.grammar_head.ensures.tree) ∙ c.in-Ok.ensures.ok in
    omega (
      arith,
      c.requires,
      pair_weight (tree_of c.args.clause.now) pair (sym c.in-Some.ensures.trees),
      grammar_weight pair.left,
      head_small owner (grammar_head pair.left) (record { module_ = name_at names c.in-Ok.own.module; name = name_at names c.in-Ok.own.name; arity = c.in-Ok.own.arity }) is,
    )

pub returns-in-Err-clause-refused : goal.returns-in-Err-clause-refused
returns-in-Err-clause-refused c =
    let pair : Binary = record { name = c.in-Some.pair.name.now; left = tree_of c.in-Some.pair.left; right = tree_of c.in-Some.pair.right } in
    let names = c.args.clause.now.names.now in
    let owner = name_at names c.args.owner in
    let rule : bytes_eq pair.name (codes ":-") ≡ false = sym c.eq.ensures ∙ c.if-eq.false in
    let grammar : bytes_eq pair.name (codes "-->") ≡ true = is_true _ (sym c.if-ne.false ∙ c.ne.ensures) in
    let same_names : c.grammar_head.result.names.now ≡ names = c.grammar_head.ensures.within.0 ∙ c.in-Some.ensures.within.0.0 in
    let why = subst (λ n. IsWhy (head (name_at n c.args.owner) (tree_of c.grammar_head.result)) c.in-Err.fault) same_names c.in-Err.ensures.refused in
    let why_plain = subst (λ t. IsWhy (head owner t) c.in-Err.fault) c.grammar_head.ensures.tree why in
    subst (λ said. IsWhy said c.in-Err.fault) (grammar_said owner (tree_of c.args.clause.now) pair (sym c.in-Some.ensures.trees) rule grammar)
    (why_added (head owner (grammar_head pair.left)) c.in-Err.fault why_plain)
