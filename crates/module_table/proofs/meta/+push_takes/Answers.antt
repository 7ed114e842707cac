use Rattle.std.proofs.Common.{◌≡◌, ◌++◌, [], ◌∷◌, List, Some, None, map, take, codes, ap, sym, ◌∙◌, arith, append_assoc, append-nil}
use Rattle.std.proofs.lemmas.List.{take_all}
use Rattle.std.proofs.lemmas.Result.{on_ok_weaker}
use Rattle.prolog_terms.specs.Tree.{depth, deepest, trees_from, span_of}
use Rattle.prolog_terms.specs.Terms.{tree_of, trees_of}
use Rattle.prolog_terms.specs.Views.{trees_in}
use Rattle.prolog_terms.proofs.ViewLemmas.{AreBelow, sides_below}
use Rattle.module_table.specs.Metas.{Declaration, goal_arg, taking, see_meta, takes_of, all_takes}
use Rattle.module_table.proofs.TakesLemmas.{takes_comma, takes_named, takes_alone, shallow_takes, items_more, inside_depth, deepest_one, read_seen, trees_again, nothing_more}
use Rattle.module_table.proofs.meta.+push_takes.Goals as goal

pub push_takes-requires : goal.push_takes-requires
push_takes-requires t c =
    let below : AreBelow (tree_of c.args.term.now) (tree_of c.in-Some.left) (tree_of c.in-Some.right) = sides_below (codes ",") _ _ _ (sym c.in-Some.ensures.trees) in
    (omega (arith, below.left_below), tt)

pub push_takes-requires-in-Some : goal.push_takes-requires-in-Some
push_takes-requires-in-Some t c =
    let below : AreBelow (tree_of c.args.term.now) (tree_of c.in-Some.left) (tree_of c.in-Some.right) = sides_below (codes ",") _ _ _ (sym c.in-Some.ensures.trees) in
    (omega (arith, below.right_below), tt)

pub returns-in-Some : goal.returns-in-Some
returns-in-Some t c =
    let owner = c.args.owner.now in
    let tree = tree_of c.args.term.now in
    let left = tree_of c.in-Some.left in
    let right = tree_of c.in-Some.right in
    let old = map see_meta c.args.takes.now.items in
    let whole = takes_comma owner tree left right (sym c.in-Some.ensures.trees) in
    on_ok_weaker c.push_takes-in-Some.result
    (λ is.
    is
    ∙ (ap (λ ts. ts ++ takes_of owner right) c.in_ok-push_takes.ensures
    ∙ (append_assoc old (takes_of owner left) (takes_of owner right) ∙ ap (λ ts. old ++ ts) (sym whole))))
    c.push_takes-in-Some.ensures

pub returns-in_default-atom_name : goal.returns-in_default-atom_name
returns-in_default-atom_name t c =
    let owner = c.args.owner.now in
    let tree = tree_of c.args.term.now in
    let left = tree_of c.in-Some-sides.left in
    let right = tree_of c.in-Some-sides.right in
    let old = map see_meta c.args.takes.now.items in
    let none : takes_of owner tree ≡ [] =
    takes_named owner tree left right (sym c.in_default.ensures.trees) (sym c.in-Some-sides.ensures.trees)
    ∙ ap (λ name. elim name [ Some own ↦ takes_of own right | None ↦ [] ]) (sym c.in_default-atom_name.ensures) in
    sym (ap (λ ts. old ++ ts) none ∙ append-nil old)

pub push_takes-requires-in-Some-sides : goal.push_takes-requires-in-Some-sides
push_takes-requires-in-Some-sides t c =
    let below : AreBelow (tree_of c.args.term.now) (tree_of c.in-Some-sides.left) (tree_of c.in-Some-sides.right) =
    sides_below (codes ":") _ _ _ (sym c.in-Some-sides.ensures.trees) in
    (omega (arith, below.right_below), tt)

pub returns-in-Some-sides : goal.returns-in-Some-sides
returns-in-Some-sides t c =
    let owner = c.args.owner.now in
    let tree = tree_of c.args.term.now in
    let left = tree_of c.in-Some-sides.left in
    let right = tree_of c.in-Some-sides.right in
    let old = map see_meta c.args.takes.now.items in
    let name = c.in-Some-atom_name.own.now in
    let whole : takes_of owner tree ≡ takes_of name right =
    takes_named owner tree left right (sym c.in_default.ensures.trees) (sym c.in-Some-sides.ensures.trees)
    ∙ ap (λ found. elim found [ Some own ↦ takes_of own right | None ↦ [] ]) (sym c.in-Some-atom_name.ensures) in
    on_ok_weaker c.push_takes-in-Some-sides.result (λ is. is ∙ ap (λ ts. old ++ ts) (sym whole)) c.push_takes-in-Some-sides.ensures

pub push_takes-requires-in-loop-item : goal.push_takes-requires-in-loop-item
push_takes-requires-in-loop-item t c =
    let tree = tree_of c.args.term.now in
    let v = c.in-List in
    let terms = c.deref-item-items.result.now in
    let read = read_seen terms c.loop-item.item-index c.item-item.result c.loop-item-test.true c.item-item.is in
    let within = deepest_one (map tree_of terms) c.loop-item.item-index (tree_of c.item-item.result) read in
    let same : trees_from (map tree_of terms) ≡ trees_of v.items =
    ap (λ ts. trees_from (map tree_of ts)) c.deref-item-items.ensures.value ∙ (ap trees_from c.in_ok-items-in-List.ensures.trees ∙ trees_again (trees_of v.items)) in
    (omega (arith, within, ap deepest same, ap depth v.ensures.tree, ap depth c.inside-bare.ensures.tree, inside_depth tree), tt)

pub loop-item-init : goal.loop-item-init
loop-item-init t c = sym (append-nil (map see_meta c.args.takes.now.items))

pub loop-item-preserved : goal.loop-item-preserved
loop-item-preserved t c =
    items_more c.args.owner.now c.deref-item-items.result.now c.loop-item.item-index c.item-item.result (map see_meta c.args.takes.now.items)
    (map see_meta c.loop-item.takes.items) (map see_meta c.push_takes-in-loop-item.new.takes.items) c.loop-item-test.true c.item-item.is c.loop-item.invariant
    c.in_ok-push_takes-in-List.ensures

pub returns-after-loop-item : goal.returns-after-loop-item
returns-after-loop-item t c =
    let owner = c.args.owner.now in
    let tree = tree_of c.args.term.now in
    let v = c.in-List in
    let terms = c.deref-item-items.result.now in
    let old = map see_meta c.args.takes.now.items in
    let whole : takes_of owner tree ≡ all_takes owner (trees_of v.items) =
    takes_alone owner tree (sym c.in_default.ensures.trees) (sym c.in_default-sides.ensures.trees)
    ∙ ap (shallow_takes owner) (sym (v.ensures.tree ∙ c.inside-bare.ensures.tree)) in
    let same : trees_from (map tree_of terms) ≡ trees_of v.items =
    ap (λ ts. trees_from (map tree_of ts)) c.deref-item-items.ensures.value ∙ (ap trees_from c.in_ok-items-in-List.ensures.trees ∙ trees_again (trees_of v.items)) in
    let all : take c.loop-item.item-index terms ≡ terms = take_all c.loop-item.item-index terms (omega (arith, c.loop-item-test.false)) in
    c.loop-item.invariant
    ∙ ap (λ ts. old ++ ts) (ap (λ xs. all_takes owner (trees_from (map tree_of xs))) all ∙ (ap (all_takes owner) same ∙ sym whole))

pub returns-in_ok-args-in-Compound : goal.returns-in_ok-args-in-Compound
returns-in_ok-args-in-Compound t c =
    let owner = c.args.owner.now in
    let tree = tree_of c.args.term.now in
    let v = c.in-Compound in
    let old = map see_meta c.args.takes.now.items in
    let from = (span_of (tree_of c.inside-bare.result)).from in
    let whole : takes_of owner tree ≡ taking owner v.name.now (trees_of v.args) from =
    takes_alone owner tree (sym c.in_default.ensures.trees) (sym c.in_default-sides.ensures.trees)
    ∙ ap (shallow_takes owner) (sym (v.ensures.tree ∙ c.inside-bare.ensures.tree)) in
    let args : map goal_arg (map tree_of c.deref.result.now) ≡ map goal_arg (trees_in (trees_of v.args)) =
    ap (λ xs. map goal_arg (map tree_of xs)) c.deref.ensures.value ∙ ap (map goal_arg) c.in_ok-args-in-Compound.ensures.trees in
    let made : List Declaration = record { module_ = owner; name = v.name.now; args = map goal_arg (map tree_of c.deref.result.now); from = c.span.result.from } ∷ [] in
    let same : made ≡ taking owner v.name.now (trees_of v.args) from =
    λ i. record { module_ = owner; name = v.name.now; args = args i; from = (c.span.ensures i).from } ∷ [] in
    on_ok_weaker c.push_taking.result (λ adds. adds ∙ ap (λ ts. old ++ ts) (same ∙ sym whole)) c.push_taking.ensures

pub returns-in-Var : goal.returns-in-Var
returns-in-Var t c =
    nothing_more c.args.owner.now (tree_of c.args.term.now) (tree_of c.inside-bare.result) (map see_meta c.args.takes.now.items) c.in_default.ensures.trees
    c.in_default-sides.ensures.trees c.inside-bare.ensures.tree (ap (shallow_takes c.args.owner.now) (sym c.in-Var.ensures.tree))

pub returns-in-Const : goal.returns-in-Const
returns-in-Const t c =
    nothing_more c.args.owner.now (tree_of c.args.term.now) (tree_of c.inside-bare.result) (map see_meta c.args.takes.now.items) c.in_default.ensures.trees
    c.in_default-sides.ensures.trees c.inside-bare.ensures.tree (ap (shallow_takes c.args.owner.now) (sym c.in-Const.ensures.tree))

pub returns-in-Atom : goal.returns-in-Atom
returns-in-Atom t c =
    nothing_more c.args.owner.now (tree_of c.args.term.now) (tree_of c.inside-bare.result) (map see_meta c.args.takes.now.items) c.in_default.ensures.trees
    c.in_default-sides.ensures.trees c.inside-bare.ensures.tree (ap (shallow_takes c.args.owner.now) (sym c.in-Atom.ensures.tree))

pub returns-in-Tailed : goal.returns-in-Tailed
returns-in-Tailed t c =
    nothing_more c.args.owner.now (tree_of c.args.term.now) (tree_of c.inside-bare.result) (map see_meta c.args.takes.now.items) c.in_default.ensures.trees
    c.in_default-sides.ensures.trees c.inside-bare.ensures.tree (ap (shallow_takes c.args.owner.now) (sym c.in-Tailed.ensures.tree))

pub returns-in-Curly : goal.returns-in-Curly
returns-in-Curly t c =
    nothing_more c.args.owner.now (tree_of c.args.term.now) (tree_of c.inside-bare.result) (map see_meta c.args.takes.now.items) c.in_default.ensures.trees
    c.in_default-sides.ensures.trees c.inside-bare.ensures.tree (ap (shallow_takes c.args.owner.now) (sym c.in-Curly.ensures.tree))

pub returns-in-Paren : goal.returns-in-Paren
returns-in-Paren t c =
    nothing_more c.args.owner.now (tree_of c.args.term.now) (tree_of c.inside-bare.result) (map see_meta c.args.takes.now.items) c.in_default.ensures.trees
    c.in_default-sides.ensures.trees c.inside-bare.ensures.tree (ap (shallow_takes c.args.owner.now) (sym c.in-Paren.ensures.tree))
