use Rattle.std.proofs.Common.{◌≡◌, List, ℕ, [], Ok, Some, sym, ap, subst, ◌∙◌}
use Rattle.std.specs.Arc.{arc_value}
use Rattle.std.proofs.lemmas.Result.{err_from_is_err_and}
use Rattle.prolog_names.specs.Names.{name_at}
use Rattle.prolog_terms.specs.Terms.{tree_of, IsOf}
use Rattle.clause_text.specs.Clauses.{clause_tree}
use Rattle.clause_text.specs.Items.{directive_of}
use Rattle.module_table.specs.Said.{IsWhy}
use Rattle.module_table.specs.Kinds.{with_said}
use Rattle.module_table.specs.Directives.{Home, home, directive_said}
use Rattle.module_table.proofs.KindLemmas.{added_by, none_open}
use Rattle.module_table.proofs.FileLemmas.{directive_clause}
use Rattle.module_table.proofs.file_facts.push_clause.Goals as goal

pub returns-in_err-push_directive-clause-refused : goal.returns-in_err-push_directive-clause-refused
returns-in_err-push_directive-clause-refused c =
    let names = c.args.names.now in
    let tree = clause_tree names c.args.clause in
    let directive = tree_of c.in-Some.directive in
    let at : List (List ℕ) → Home = λ n. home c.args.file.now (name_at n c.args.owner) in
    let is : directive_of tree ≡ Some directive = sym c.in-Some.ensures.tree in
    let exit = err_from_is_err_and c.from_residual.result c.from_residual.ensures.1 in
    rw (exit.1, exit.2)
    (subst (λ said. IsWhy said c.in_err-push_directive.field-0.0) (directive_clause (at names) c.args.first tree directive is)
    (subst (λ n. IsWhy (directive_said (at n) c.args.first directive) c.in_err-push_directive.field-0.0) c.in-Some.ensures.within.0
    c.in_err-push_directive.ensures.refused))

pub returns-clause-ok : goal.returns-clause-ok
returns-clause-ok c =
    let names = c.args.names.now in
    let nodes = (arc_value c.args.clause.list).1 in
    let tree = clause_tree names c.args.clause in
    let directive = tree_of c.in-Some.directive in
    let at : List (List ℕ) → Home = λ n. home c.args.file.now (name_at n c.args.owner) in
    let is : directive_of tree ≡ Some directive = sym c.in-Some.ensures.tree in
    let of : IsOf names nodes c.in-Some.directive =
    c.in-Some.ensures.within in
    let old = c.args.kinds.now in
    let mid = c.push_directive.new.kinds in
    let open_ = none_open names [] nodes old c.requires.closed in
    let said = directive_clause (at names) c.args.first tree directive is in
    (λ i. with_said (open_ i) (sym said i))
    ∙ added_by names nodes c.in-Some.directive old mid (λ n. directive_said (at n) c.args.first directive) of c.in_ok-push_directive.ensures.ok
    ∙ ap (λ k. Ok k) (sym (c.in_ok-close_directive.ensures.same names []))
