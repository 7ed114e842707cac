use Rattle.std.proofs.Common.{ℕ, List, ◌≡◌, sym, ◌∙◌, ap, subst}
use Rattle.std.proofs.lemmas.Result.{IfOk-weaker, IfErr-weaker}
use Rattle.std.specs.Prelude.{IfOk, IfErr}
use Rattle.prolog_names.specs.Names.{name_at}
use Rattle.prolog_terms.specs.Tree.{span_of}
use Rattle.prolog_terms.specs.Terms.{tree_of, trees_of}
use Rattle.module_table.specs.Said.{IsWhy}
use Rattle.module_table.specs.Told.{IsTold}
use Rattle.module_table.specs.Directives.{Home, home, one_said, two_said, shallow_said}
use Rattle.module_table.proofs.DirectiveShapes.{shallow_one, shallow_two}
use Rattle.module_table.proofs.directive.tell.Goals as goal

pub returns-in-Some-clause-ok : goal.returns-in-Some-clause-ok
returns-in-Some-clause-ok c =
    let at : List (List ℕ) → Home = λ n. home c.args.user.now (name_at n c.args.owner) in
    let names = c.args.directive.now.names.now in
    let user = at names in
    let first = c.args.first in
    let tree = tree_of c.args.directive.now in
    let argument = tree_of c.in-Some.argument in
    let v = c.in-Compound in
    let same : one_said user v.name.now argument tree ≡ shallow_said user first tree =
    ap (one_said user v.name.now argument) (sym v.ensures.tree)
    ∙ (shallow_one user first v.name.now v.form (span_of tree) (trees_of v.args) argument (sym c.in-Some.ensures.tree) ∙ ap (shallow_said user first) v.ensures.tree) in
    subst (λ said. IfOk c.one_told.result (λ told. IsTold names told c.args.kinds.now said tree c.one_told.new.kinds)) same
    (subst (λ n. IfOk c.one_told.result (λ told. IsTold n told c.args.kinds.now (one_said (at n) v.name.now argument tree) tree c.one_told.new.kinds))
    (c.in-Some.ensures.within.0 ∙ v.ensures.within.0) c.one_told.ensures.ok)

pub returns-in-Some-clause-refused : goal.returns-in-Some-clause-refused
returns-in-Some-clause-refused c =
    let at : List (List ℕ) → Home = λ n. home c.args.user.now (name_at n c.args.owner) in
    let names = c.args.directive.now.names.now in
    let user = at names in
    let first = c.args.first in
    let tree = tree_of c.args.directive.now in
    let argument = tree_of c.in-Some.argument in
    let v = c.in-Compound in
    let same : one_said user v.name.now argument tree ≡ shallow_said user first tree =
    ap (one_said user v.name.now argument) (sym v.ensures.tree)
    ∙ (shallow_one user first v.name.now v.form (span_of tree) (trees_of v.args) argument (sym c.in-Some.ensures.tree) ∙ ap (shallow_said user first) v.ensures.tree) in
    subst (λ said. IfErr c.one_told.result (λ fault. IsWhy said fault)) same
    (subst (λ n. IfErr c.one_told.result (λ fault. IsWhy (one_said (at n) v.name.now argument tree) fault)) (c.in-Some.ensures.within.0 ∙ v.ensures.within.0)
    c.one_told.ensures.refused)

pub returns-in-Some-pair-clause-ok : goal.returns-in-Some-pair-clause-ok
returns-in-Some-pair-clause-ok c =
    let at : List (List ℕ) → Home = λ n. home c.args.user.now (name_at n c.args.owner) in
    let names = c.args.directive.now.names.now in
    let user = at names in
    let first = c.args.first in
    let tree = tree_of c.args.directive.now in
    let left = tree_of c.in-Some-pair.left in
    let right = tree_of c.in-Some-pair.right in
    let v = c.in-Compound in
    let same : two_said user first v.name.now left right tree ≡ shallow_said user first tree =
    ap (two_said user first v.name.now left right) (sym v.ensures.tree)
    ∙ (shallow_two user first v.name.now v.form (span_of tree) (trees_of v.args) left right (sym c.in-Some-pair.ensures.trees) ∙ ap (shallow_said user first) v.ensures.tree) in
    subst (λ said. IfOk c.two_told.result (λ told. IsTold names told c.args.kinds.now said tree c.two_told.new.kinds)) same
    (IfOk-weaker c.two_told.result _ _ (λ told is. is names (name_at names c.args.owner)) c.two_told.ensures.ok)

pub returns-in-Some-pair-clause-refused : goal.returns-in-Some-pair-clause-refused
returns-in-Some-pair-clause-refused c =
    let at : List (List ℕ) → Home = λ n. home c.args.user.now (name_at n c.args.owner) in
    let names = c.args.directive.now.names.now in
    let user = at names in
    let first = c.args.first in
    let tree = tree_of c.args.directive.now in
    let left = tree_of c.in-Some-pair.left in
    let right = tree_of c.in-Some-pair.right in
    let v = c.in-Compound in
    let same : two_said user first v.name.now left right tree ≡ shallow_said user first tree =
    ap (two_said user first v.name.now left right) (sym v.ensures.tree)
    ∙ (shallow_two user first v.name.now v.form (span_of tree) (trees_of v.args) left right (sym c.in-Some-pair.ensures.trees) ∙ ap (shallow_said user first) v.ensures.tree) in
    subst (λ said. IfErr c.two_told.result (λ fault. IsWhy said fault)) same
    (IfErr-weaker c.two_told.result _ _ (λ fault why. why (name_at names c.args.owner)) c.two_told.ensures.refused)
