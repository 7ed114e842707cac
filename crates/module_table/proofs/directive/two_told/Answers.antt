use Rattle.std.proofs.Common.{◌≡◌, true, codes, subst, sym, ◌∙◌}
use Rattle.std.specs.Str.{bytes_eq}
use Rattle.std.proofs.lemmas.Result.{err_from_is_err_and}
use Rattle.prolog_terms.specs.Terms.{tree_of}
use Rattle.module_table.specs.Said.{IsWhy}
use Rattle.module_table.specs.Directives.{home, module_said}
use Rattle.module_table.proofs.DirectiveShapes.{module_first}
use Rattle.module_table.proofs.directive.two_told.Goals as goal

pub returns-in_err-own-clause-refused : goal.returns-in_err-own-clause-refused
returns-in_err-own-clause-refused c =
    let exit = err_from_is_err_and c.from_residual.result c.from_residual.ensures.1 in
    let named : bytes_eq c.args.name.now (codes "module") ≡ true = sym c.eq.ensures ∙ c.if-eq.true in
    rw (exit.1, exit.2)
    (λ owner. subst (λ said. IsWhy said c.in_err-own.field-0.0)
    (module_first (home c.args.user.now owner) c.args.first c.args.name.now (tree_of c.args.left.now) (tree_of c.args.right.now) (tree_of c.args.directive.now) named
    c.if-not-first.false)
    (subst (λ from. IsWhy (module_said (tree_of c.args.left.now) (tree_of c.args.right.now) from) c.in_err-own.field-0.0) c.start_of.ensures c.in_err-own.ensures.refused))
