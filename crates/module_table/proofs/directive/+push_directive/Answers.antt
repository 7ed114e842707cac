use Rattle.std.proofs.Common.{ℕ, List, ◌≡◌, [], Ok, false, sym, ◌∙◌, ap, subst, arith, codes}
use Rattle.std.proofs.lemmas.Result.{err_from_is_err_and, on_ok_weaker, IfErr-weaker}
use Rattle.prolog_names.specs.Names.{name_at}
use Rattle.prolog_terms.specs.Terms.{tree_in, tree_of}
use Rattle.prolog_terms.proofs.ViewLemmas.{AreBelow, sides_below}
use Rattle.module_table.specs.declared.directive.Told.TheVariants.{Goal, Done}
use Rattle.module_table.specs.Said.{IsWhy, goal as goal_said}
use Rattle.module_table.specs.Kinds.{with_part, with_said}
use Rattle.module_table.specs.Kept.{see_kinds}
use Rattle.module_table.specs.Told.{IsTold}
use Rattle.module_table.specs.Directives.{Home, home, shallow_said, directive_said}
use Rattle.module_table.proofs.SaidLemmas.{more_none, stops_first, stops_second}
use Rattle.module_table.proofs.KindLemmas.{kinds_go_on, added_parts, added_by, IsAddedAt}
use Rattle.module_table.proofs.Parts.{directive_sides, directive_alone}
use Rattle.module_table.proofs.directive.+push_directive.Goals as goal

pub push_directive-requires : goal.push_directive-requires
push_directive-requires t c =
    let below : AreBelow (tree_of c.args.directive.now) (tree_of c.in-Some.left) (tree_of c.in-Some.right) = sides_below (codes ",") _ _ _ (sym c.in-Some.ensures.trees) in
    (omega (arith, below.left_below), tt)

pub push_directive-requires-in-Some : goal.push_directive-requires-in-Some
push_directive-requires-in-Some t c =
    let below : AreBelow (tree_of c.args.directive.now) (tree_of c.in-Some.left) (tree_of c.in-Some.right) = sides_below (codes ",") _ _ _ (sym c.in-Some.ensures.trees) in
    (omega (arith, below.right_below), tt)

pub returns-in_err-push_directive-clause-refused : goal.returns-in_err-push_directive-clause-refused
returns-in_err-push_directive-clause-refused t c =
    let at : List (List ℕ) → Home = λ n. home c.args.user.now (name_at n c.args.owner) in
    let user = at c.args.directive.now.names.now in
    let tree = tree_of c.args.directive.now in
    let left = tree_of c.in-Some.left in
    let right = tree_of c.in-Some.right in
    let both = directive_sides user c.args.first tree left right (sym c.in-Some.ensures.trees) in
    let a = directive_said user false left in
    let b = directive_said user false right in
    let exit = err_from_is_err_and c.from_residual.result c.from_residual.ensures.1 in
    rw (exit.1, exit.2)
    (subst (λ said. IsWhy said c.in_err-push_directive.field-0.0) (sym both)
    (stops_first a b c.in_err-push_directive.field-0.0
    (subst (λ n. IsWhy (directive_said (at n) false left) c.in_err-push_directive.field-0.0) c.in-Some.ensures.within.0.0 c.in_err-push_directive.ensures.refused)))

pub returns-in-Some-clause-ok : goal.returns-in-Some-clause-ok
returns-in-Some-clause-ok t c =
    let at : List (List ℕ) → Home = λ n. home c.args.user.now (name_at n c.args.owner) in
    let user = at c.args.directive.now.names.now in
    let tree = tree_of c.args.directive.now in
    let names = c.args.directive.now.names.now in
    let nodes = c.args.directive.now.nodes.now in
    let left = tree_of c.in-Some.left in
    let right = tree_of c.in-Some.right in
    let both = directive_sides user c.args.first tree left right (sym c.in-Some.ensures.trees) in
    let a = directive_said user false left in
    let b = directive_said user false right in
    let old = c.args.kinds.now in
    let mid = c.push_directive.new.kinds in
    let new = c.push_directive-in-Some.new.kinds in
    let first = added_by names nodes c.in-Some.left old mid (λ n. directive_said (at n) false left) c.in-Some.ensures.within.0 c.in_ok-push_directive.ensures.ok in
    on_ok_weaker c.push_directive-in-Some.result
    (λ is. subst (λ said. IsAddedAt names nodes old said new) (sym both)
    (kinds_go_on (see_kinds names nodes old) (see_kinds names nodes mid) (see_kinds names nodes new) a b first
    (added_by names nodes c.in-Some.right mid new (λ n. directive_said (at n) false right) c.in-Some.ensures.within.1 is)))
    c.push_directive-in-Some.ensures.ok

pub returns-in-Some-clause-refused : goal.returns-in-Some-clause-refused
returns-in-Some-clause-refused t c =
    let at : List (List ℕ) → Home = λ n. home c.args.user.now (name_at n c.args.owner) in
    let user = at c.args.directive.now.names.now in
    let tree = tree_of c.args.directive.now in
    let names = c.args.directive.now.names.now in
    let nodes = c.args.directive.now.nodes.now in
    let left = tree_of c.in-Some.left in
    let right = tree_of c.in-Some.right in
    let both = directive_sides user c.args.first tree left right (sym c.in-Some.ensures.trees) in
    let a = directive_said user false left in
    let b = directive_said user false right in
    let old = c.args.kinds.now in
    let mid = c.push_directive.new.kinds in
    let first = added_by names nodes c.in-Some.left old mid (λ n. directive_said (at n) false left) c.in-Some.ensures.within.0 c.in_ok-push_directive.ensures.ok in
    let added = added_parts (see_kinds names nodes old) (see_kinds names nodes mid) a first in
    IfErr-weaker c.push_directive-in-Some.result (λ fault. IsWhy (directive_said (at c.in-Some.right.names.now) false right) fault)
    (λ fault. IsWhy (directive_said user c.args.first tree) fault)
    (λ fault why. subst (λ said. IsWhy said fault) (sym both)
    (stops_second [] added.0 a b fault (more_none a ∙ added.1) (subst (λ n. IsWhy (directive_said (at n) false right) fault) c.in-Some.ensures.within.1.0 why)))
    c.push_directive-in-Some.ensures.refused

pub returns-in_err-tell-clause-refused : goal.returns-in_err-tell-clause-refused
returns-in_err-tell-clause-refused t c =
    let at : List (List ℕ) → Home = λ n. home c.args.user.now (name_at n c.args.owner) in
    let user = at c.args.directive.now.names.now in
    let tree = tree_of c.args.directive.now in
    let own = tree_of c.inside-alone.result in
    let same : shallow_said user c.args.first own ≡ directive_said user c.args.first tree =
    ap (shallow_said user c.args.first) c.inside-alone.ensures.tree ∙ sym (directive_alone user c.args.first tree (sym c.in_default.ensures.trees)) in
    let exit = err_from_is_err_and c.from_residual-in_err-tell.result c.from_residual-in_err-tell.ensures.1 in
    rw (exit.1, exit.2)
    (subst (λ said. IsWhy said c.in_err-tell.field-0.0) same
    (subst (λ n. IsWhy (shallow_said (at n) c.args.first own) c.in_err-tell.field-0.0) c.inside-alone.ensures.within.0 c.in_err-tell.ensures.refused))

pub returns-in_ok-push_goal-in-Goal-clause-ok : goal.returns-in_ok-push_goal-in-Goal-clause-ok
returns-in_ok-push_goal-in-Goal-clause-ok t c =
    let at : List (List ℕ) → Home = λ n. home c.args.user.now (name_at n c.args.owner) in
    let user = at c.args.directive.now.names.now in
    let tree = tree_of c.args.directive.now in
    let names = c.args.directive.now.names.now in
    let nodes = c.args.directive.now.nodes.now in
    let own = tree_of c.inside-alone.result in
    let same : shallow_said user c.args.first own ≡ directive_said user c.args.first tree =
    ap (shallow_said user c.args.first) c.inside-alone.ensures.tree ∙ sym (directive_alone user c.args.first tree (sym c.in_default.ensures.trees)) in
    let old = c.args.kinds.now in
    let mid = c.tell.new.kinds in
    let new = c.push_goal.new.kinds in
    let told : IsTold names Goal old (shallow_said user c.args.first own) own mid =
    subst (λ told. IsTold names told old (shallow_said user c.args.first own) own mid) c.in-Goal.is
    (subst (λ n. IsTold n c.in_ok-tell.field-0 old (shallow_said (at n) c.args.first own) own mid) c.inside-alone.ensures.within.0 c.in_ok-tell.ensures.ok) in
    let of = c.inside-alone.ensures.within in
    let end = c.inside-alone.result.end in
    let own_is : own ≡ tree_in names nodes end = λ i. tree_in (of.0 i) (of.1 i) end in
    let kept : see_kinds names nodes new ≡ with_part (see_kinds names nodes old) (goal_said own) =
    c.in_ok-push_goal-in-Goal.ensures names nodes ∙ (λ i. with_part (see_kinds names nodes (told.1 i)) (goal_said (sym own_is i))) in
    ap (with_said (see_kinds names nodes old)) (sym same ∙ told.0) ∙ ap (λ k. Ok k) (sym kept)

pub returns-in-Done-clause-ok : goal.returns-in-Done-clause-ok
returns-in-Done-clause-ok t c =
    let at : List (List ℕ) → Home = λ n. home c.args.user.now (name_at n c.args.owner) in
    let user = at c.args.directive.now.names.now in
    let tree = tree_of c.args.directive.now in
    let names = c.args.directive.now.names.now in
    let nodes = c.args.directive.now.nodes.now in
    let own = tree_of c.inside-alone.result in
    let same : shallow_said user c.args.first own ≡ directive_said user c.args.first tree =
    ap (shallow_said user c.args.first) c.inside-alone.ensures.tree ∙ sym (directive_alone user c.args.first tree (sym c.in_default.ensures.trees)) in
    let old = c.args.kinds.now in
    let mid = c.tell.new.kinds in
    let told : IsTold names Done old (shallow_said user c.args.first own) own mid =
    subst (λ told. IsTold names told old (shallow_said user c.args.first own) own mid) c.in-Done.is
    (subst (λ n. IsTold n c.in_ok-tell.field-0 old (shallow_said (at n) c.args.first own) own mid) c.inside-alone.ensures.within.0 c.in_ok-tell.ensures.ok) in
    subst (λ said. IsAddedAt names nodes old said mid) same (told nodes)
