use Rattle.std.proofs.Common.{◌≡◌, ◌∙◌, ◌∷◌, [], map, ap, sym, subst, true, arith, codes}
use Rattle.std.proofs.lemmas.List.{map-append}
use Rattle.std.proofs.lemmas.Result.{IfOk-weaker}
use Rattle.prolog_terms.specs.Terms.{tree_of}
use Rattle.prolog_terms.specs.Views.{inside, joined}
use Rattle.prolog_terms.proofs.ViewLemmas.{AreBelow, sides_below, joined_sides, joined_alone, inside_once}
use Rattle.prolog_terms.specs.Tree.{Tree}
use Rattle.prolog_terms.specs.Views.{sides_at}
use Rattle.group_words.specs.RootList.{AddsRoots, named_by, named_predicate, all_there}
use Rattle.group_words.proofs.Roots.{first_absent, adds_both, adds_one}
use Rattle.group_words.proofs.root_list.+push_joined.Goals as goal

-- the brackets round a predicate are passed through
named_inside : (tree : Tree) → named_predicate (inside tree) ≡ named_predicate tree
named_inside tree = ap (λ t. named_by (sides_at (codes "/") t)) (inside_once tree)

pub push_joined-requires : goal.push_joined-requires
push_joined-requires t c =
    let below : AreBelow (tree_of c.args.term.now) (tree_of c.in-Some.left) (tree_of c.in-Some.right) = sides_below (codes ",") _ _ _ (sym c.in-Some.ensures.trees) in
    (omega (arith, below.left_below), tt)

pub push_joined-requires-in-Some : goal.push_joined-requires-in-Some
push_joined-requires-in-Some t c =
    let below : AreBelow (tree_of c.args.term.now) (tree_of c.in-Some.left) (tree_of c.in-Some.right) = sides_below (codes ",") _ _ _ (sym c.in-Some.ensures.trees) in
    (omega (arith, below.right_below), tt)

pub returns-then-not-branch : goal.returns-then-not-branch
returns-then-not-branch t c =
    let tree = tree_of c.args.term.now in
    let left = tree_of c.in-Some.left in
    let right = tree_of c.in-Some.right in
    let both = ap (map named_predicate) (joined_sides tree left right (sym c.in-Some.ensures.trees)) ∙ map-append named_predicate (joined left) (joined right) in
    let none = rw c.if-not-branch.true at c.in_ok-push_joined.ensures in
    ap all_there both ∙ first_absent (map named_predicate (joined left)) (map named_predicate (joined right)) none

pub returns-in-Some : goal.returns-in-Some
returns-in-Some t c =
    let tree = tree_of c.args.term.now in
    let left = tree_of c.in-Some.left in
    let right = tree_of c.in-Some.right in
    let both = ap (map named_predicate) (joined_sides tree left right (sym c.in-Some.ensures.trees)) ∙ map-append named_predicate (joined left) (joined right) in
    let first = rw c.if-not-branch.false at c.in_ok-push_joined.ensures in
    let old = c.args.roots.now.items in
    let mid = c.push_joined.new.roots.items in
    let new = c.push_joined-in-Some.new.roots.items in
    IfOk-weaker c.push_joined-in-Some.result _ _
    (λ all added. subst (λ found. AddsRoots old new all (all_there found)) (sym both)
    (adds_both old mid new all (map named_predicate (joined left)) (map named_predicate (joined right)) first added))
    c.push_joined-in-Some.ensures

pub returns-in_default-2 : goal.returns-in_default-2
returns-in_default-2 t c =
    let tree = tree_of c.args.term.now in
    let alone = ap (map named_predicate) (joined_alone tree (sym c.in_default.ensures.trees)) in
    ap all_there alone ∙ ap (λ found. all_there (found ∷ [])) (named_inside tree ∙ (sym c.in_ok-root.ensures ∙ c.in_default-2.is))

pub returns : goal.returns
returns t c =
    let tree = tree_of c.args.term.now in
    let alone = ap (map named_predicate) (joined_alone tree (sym c.in_default.ensures.trees)) in
    subst (λ found. AddsRoots c.args.roots.now.items c.push.new.self.items true (all_there found)) (sym alone)
    (adds_one c.args.roots.now.items c.push.new.self.items c.in-Some-2.root (named_predicate (inside tree)) (named_inside tree ∙ (sym c.in_ok-root.ensures ∙ c.in-Some-2.is)) c.in_ok-push.ensures.items)
