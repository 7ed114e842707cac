use Rattle.std.proofs.Math.ListN.{get_or-map}
use Rattle.module_table.proofs.Items.{items_found, item_of, none_found}
use Rattle.std.proofs.Common.{◌≡◌, ◌<◌, [], Some, None, refl, get_or, map, take, sym, ◌∙◌, ap, subst, arith, codes}
use Rattle.std.specs.Prelude.{IfErr, OnOk}
use Rattle.std.proofs.lemmas.List.{length-map, take_all}
use Rattle.std.proofs.lemmas.Result.{err_from_is_err_and, on_ok_weaker, IfErr-weaker}
use Rattle.prolog_names.specs.Names.{name_at}
use Rattle.prolog_terms.specs.Tree.{depth}
use Rattle.prolog_terms.specs.Terms.{tree_of, IsOf}
use Rattle.prolog_terms.proofs.ViewLemmas.{AreBelow, sides_below}
use Rattle.module_table.specs.declared.dynamic.Standing.TheVariants.{Whole, Joint, Item}
use Rattle.module_table.specs.Said.{IsWhy, each_said}
use Rattle.module_table.specs.Kept.{IsAdded}
use Rattle.module_table.specs.Dynamic.{dynamic_at, whole_items}
use Rattle.module_table.proofs.SaidLemmas.{more_none, stops_first, stops_second, each_step, each_stops}
use Rattle.module_table.proofs.KindLemmas.{adds_on, parts_of_added}
use Rattle.module_table.proofs.DynamicShapes.{dynamic_joint, dynamic_within, dynamic_nameless, dynamic_list, dynamic_alone, items_below, whole_list, joint_pair}
use Rattle.module_table.proofs.dynamic.+push_dynamic.Goals as goal

-- terms that commas join

pub push_dynamic-requires : goal.push_dynamic-requires
push_dynamic-requires t c =
    let below : AreBelow (tree_of c.args.term.now) (tree_of c.in-Some.left) (tree_of c.in-Some.right) =
    sides_below (codes ",") _ _ _ (joint_pair c.args.at (tree_of c.args.term.now) (tree_of c.in-Some.left) (tree_of c.in-Some.right) (sym c.in-Some.ensures.trees)) in
    (omega (arith, below.left_below), tt)

pub push_dynamic-requires-in-Some : goal.push_dynamic-requires-in-Some
push_dynamic-requires-in-Some t c =
    let below : AreBelow (tree_of c.args.term.now) (tree_of c.in-Some.left) (tree_of c.in-Some.right) =
    sides_below (codes ",") _ _ _ (joint_pair c.args.at (tree_of c.args.term.now) (tree_of c.in-Some.left) (tree_of c.in-Some.right) (sym c.in-Some.ensures.trees)) in
    (omega (arith, below.right_below), tt)

pub returns-in_err-push_dynamic-in-Some-clause-refused : goal.returns-in_err-push_dynamic-in-Some-clause-refused
returns-in_err-push_dynamic-in-Some-clause-refused t c =
    let names = c.args.term.now.names.now in
    let owner = name_at names c.args.owner in
    let left = tree_of c.in-Some.left in
    let right = tree_of c.in-Some.right in
    let both = dynamic_joint c.args.property c.args.at owner (tree_of c.args.term.now) left right (sym c.in-Some.ensures.trees) in
    let exit = err_from_is_err_and c.from_residual.result c.from_residual.ensures.1 in
    rw (exit.1, exit.2)
    (subst (λ said. IsWhy said c.in_err-push_dynamic-in-Some.field-0.0) (sym both)
    (stops_first (dynamic_at c.args.property Joint owner left) (dynamic_at c.args.property Joint owner right) c.in_err-push_dynamic-in-Some.field-0.0
    (subst (λ n. IsWhy (dynamic_at c.args.property Joint (name_at n c.args.owner) left) c.in_err-push_dynamic-in-Some.field-0.0) c.in-Some.ensures.within.0.0
    c.in_err-push_dynamic-in-Some.ensures.refused)))

pub returns-in_ok-push_dynamic-in-Some-clause-ok : goal.returns-in_ok-push_dynamic-in-Some-clause-ok
returns-in_ok-push_dynamic-in-Some-clause-ok t c =
    let names = c.args.term.now.names.now in
    let owner = name_at names c.args.owner in
    let left = tree_of c.in-Some.left in
    let right = tree_of c.in-Some.right in
    let both = dynamic_joint c.args.property c.args.at owner (tree_of c.args.term.now) left right (sym c.in-Some.ensures.trees) in
    let old = c.args.kinds.now in
    let mid = c.push_dynamic.new.kinds in
    let new = c.push_dynamic-in-Some.new.kinds in
    on_ok_weaker c.push_dynamic-in-Some.result
    (λ is. subst (λ said. IsAdded names old said new) (sym both)
    (adds_on names old mid new (dynamic_at c.args.property Joint owner left) (dynamic_at c.args.property Joint owner right)
    (subst (λ n. IsAdded n old (dynamic_at c.args.property Joint (name_at n c.args.owner) left) mid) c.in-Some.ensures.within.0.0 c.in_ok-push_dynamic-in-Some.ensures.ok)
    (subst (λ n. IsAdded n mid (dynamic_at c.args.property Joint (name_at n c.args.owner) right) new) c.in-Some.ensures.within.1.0 is)))
    c.push_dynamic-in-Some.ensures.ok

pub returns-in_ok-push_dynamic-in-Some-clause-refused : goal.returns-in_ok-push_dynamic-in-Some-clause-refused
returns-in_ok-push_dynamic-in-Some-clause-refused t c =
    let names = c.args.term.now.names.now in
    let owner = name_at names c.args.owner in
    let tree = tree_of c.args.term.now in
    let left = tree_of c.in-Some.left in
    let right = tree_of c.in-Some.right in
    let both = dynamic_joint c.args.property c.args.at owner tree left right (sym c.in-Some.ensures.trees) in
    let a = dynamic_at c.args.property Joint owner left in
    let b = dynamic_at c.args.property Joint owner right in
    let added = parts_of_added names c.args.kinds.now c.push_dynamic.new.kinds a
    (subst (λ n. IsAdded n c.args.kinds.now (dynamic_at c.args.property Joint (name_at n c.args.owner) left) c.push_dynamic.new.kinds) c.in-Some.ensures.within.0.0
    c.in_ok-push_dynamic-in-Some.ensures.ok) in
    IfErr-weaker c.push_dynamic-in-Some.result (λ fault. IsWhy (dynamic_at c.args.property Joint (name_at c.in-Some.right.names.now c.args.owner) right) fault)
    (λ fault. IsWhy (dynamic_at c.args.property c.args.at owner tree) fault)
    (λ fault why. subst (λ said. IsWhy said fault) (sym both)
    (stops_second [] added.0 a b fault (more_none a ∙ added.1)
    (subst (λ n. IsWhy (dynamic_at c.args.property Joint (name_at n c.args.owner) right) fault) c.in-Some.ensures.within.1.0 why)))
    c.push_dynamic-in-Some.ensures.refused

-- a term in a module

pub push_dynamic-requires-in-Some-atom_number : goal.push_dynamic-requires-in-Some-atom_number
push_dynamic-requires-in-Some-atom_number t c =
    let below : AreBelow (tree_of c.args.term.now) (tree_of c.in-Some-sides.module) (tree_of c.in-Some-sides.inner) =
    sides_below (codes ":") _ _ _ (sym c.in-Some-sides.ensures.trees) in
    (omega (arith, below.right_below), tt)

pub returns-in-Some-atom_number-clause-ok : goal.returns-in-Some-atom_number-clause-ok
returns-in-Some-atom_number-clause-ok t c =
    let names = c.args.term.now.names.now in
    let own = c.in-Some-atom_number.own in
    let own_names : c.in-Some-sides.module.names.now ≡ names = c.in-Some-sides.ensures.within.0.0 in
    let inner = tree_of c.in-Some-sides.inner in
    let within =
    dynamic_within c.args.property c.args.at (name_at names c.args.owner) (tree_of c.args.term.now) (tree_of c.in-Some-sides.module) inner (name_at names own)
    (sym c.in-None.ensures.trees) (sym c.in-Some-sides.ensures.trees) (sym c.in-Some-atom_number.ensures ∙ ap (λ n. Some (name_at n own)) own_names) in
    subst (λ said. OnOk c.push_dynamic-in-Some-atom_number.result (IsAdded names c.args.kinds.now said c.push_dynamic-in-Some-atom_number.new.kinds))
    (sym within)
    (subst (λ n. OnOk c.push_dynamic-in-Some-atom_number.result (IsAdded n c.args.kinds.now (dynamic_at c.args.property Whole (name_at n own) inner) c.push_dynamic-in-Some-atom_number.new.kinds))
    c.in-Some-sides.ensures.within.1.0 c.push_dynamic-in-Some-atom_number.ensures.ok)

pub returns-in-Some-atom_number-clause-refused : goal.returns-in-Some-atom_number-clause-refused
returns-in-Some-atom_number-clause-refused t c =
    let names = c.args.term.now.names.now in
    let own = c.in-Some-atom_number.own in
    let own_names : c.in-Some-sides.module.names.now ≡ names = c.in-Some-sides.ensures.within.0.0 in
    let inner = tree_of c.in-Some-sides.inner in
    let within =
    dynamic_within c.args.property c.args.at (name_at names c.args.owner) (tree_of c.args.term.now) (tree_of c.in-Some-sides.module) inner (name_at names own)
    (sym c.in-None.ensures.trees) (sym c.in-Some-sides.ensures.trees) (sym c.in-Some-atom_number.ensures ∙ ap (λ n. Some (name_at n own)) own_names) in
    subst (λ said. IfErr c.push_dynamic-in-Some-atom_number.result (λ fault. IsWhy said fault)) (sym within)
    (subst (λ n. IfErr c.push_dynamic-in-Some-atom_number.result (λ fault. IsWhy (dynamic_at c.args.property Whole (name_at n own) inner) fault)) c.in-Some-sides.ensures.within.1.0
    c.push_dynamic-in-Some-atom_number.ensures.refused)

pub returns-in-None-atom_number-clause-refused : goal.returns-in-None-atom_number-clause-refused
returns-in-None-atom_number-clause-refused t c =
    let tree = tree_of c.args.term.now in
    let owner = name_at c.args.term.now.names.now c.args.owner in
    subst (λ fault. IsWhy (dynamic_at c.args.property c.args.at owner tree) fault) (sym c.refusal.ensures)
    (dynamic_nameless c.args.property c.args.at owner tree (tree_of c.in-Some-sides.module) (tree_of c.in-Some-sides.inner) (sym c.in-None.ensures.trees) (sym c.in-Some-sides.ensures.trees)
    (sym c.in-None-atom_number.ensures))

-- the items of a list

pub push_dynamic-requires-in-loop-item : goal.push_dynamic-requires-in-loop-item
push_dynamic-requires-in-loop-item t c =
    let tree = tree_of c.args.term.now in
    let items = c.deref-item-items.result.now in
    let item = c.item-item.result in
    let at = c.loop-item.item-index in
    let listed : whole_items c.args.at tree ≡ Some (map tree_of items) =
    items_found tree_of (whole_items c.args.at tree) c.in_ok-items-in-None-sides.field-0 c.in-Some-2.items items c.in_ok-items-in-None-sides.ensures.trees c.in-Some-2.is
    c.deref-item-items.ensures.value in
    let here : get_or (map tree_of items) at (tree_of item) ≡ tree_of item = get_or-map tree_of items at item ∙ ap tree_of (sym c.item-item.is) in
    let less : depth (get_or (map tree_of items) at (tree_of item)) < depth tree =
    items_below tree (map tree_of items) (whole_list c.args.at tree (map tree_of items) listed) at (tree_of item) (omega (arith, c.loop-item-test.true, length-map items tree_of)) in
    (omega (arith, less, ap depth here), tt)

pub returns-in_err-push_dynamic-in-Some-2-clause-refused : goal.returns-in_err-push_dynamic-in-Some-2-clause-refused
returns-in_err-push_dynamic-in-Some-2-clause-refused t c =
    let tree = tree_of c.args.term.now in
    let items = c.deref-item-items.result.now in
    let names = c.args.term.now.names.now in
    let says = dynamic_at c.args.property Item (name_at names c.args.owner) in
    let before = each_said says (map tree_of (take c.loop-item.item-index items)) in
    let listed : whole_items c.args.at tree ≡ Some (map tree_of items) =
    items_found tree_of (whole_items c.args.at tree) c.in_ok-items-in-None-sides.field-0 c.in-Some-2.items items c.in_ok-items-in-None-sides.ensures.trees c.in-Some-2.is
    c.deref-item-items.ensures.value in
    let whole = dynamic_list c.args.property c.args.at (name_at names c.args.owner) tree (map tree_of items) listed in
    let added = parts_of_added names c.args.kinds.now c.loop-item.kinds before c.loop-item.invariant in
    let of : IsOf names c.args.term.now.nodes.now c.item-item.result =
    item_of (IsOf names c.args.term.now.nodes.now) c.in_ok-items-in-None-sides.field-0 c.in-Some-2.items items c.loop-item.item-index c.item-item.result
    c.in_ok-items-in-None-sides.ensures.within c.in-Some-2.is c.deref-item-items.ensures.value c.loop-item-test.true c.item-item.is in
    let exit = err_from_is_err_and c.from_residual-in_err-push_dynamic-in-Some-2.result c.from_residual-in_err-push_dynamic-in-Some-2.ensures.1 in
    rw (exit.1, exit.2)
    (subst (λ said. IsWhy said c.in_err-push_dynamic-in-Some-2.field-0.0) (sym whole)
    (each_stops says items c.loop-item.item-index c.item-item.result c.in_err-push_dynamic-in-Some-2.field-0.0 [] added.0 c.loop-item-test.true c.item-item.is
    (more_none before ∙ added.1)
    (subst (λ n. IsWhy (dynamic_at c.args.property Item (name_at n c.args.owner) (tree_of c.item-item.result)) c.in_err-push_dynamic-in-Some-2.field-0.0) of.0
    c.in_err-push_dynamic-in-Some-2.ensures.refused)))

pub loop-item-init : goal.loop-item-init
loop-item-init t c nodes = refl

pub loop-item-preserved : goal.loop-item-preserved
loop-item-preserved t c =
    let items = c.deref-item-items.result.now in
    let names = c.args.term.now.names.now in
    let says = dynamic_at c.args.property Item (name_at names c.args.owner) in
    let of : IsOf names c.args.term.now.nodes.now c.item-item.result =
    item_of (IsOf names c.args.term.now.nodes.now) c.in_ok-items-in-None-sides.field-0 c.in-Some-2.items items c.loop-item.item-index c.item-item.result
    c.in_ok-items-in-None-sides.ensures.within c.in-Some-2.is c.deref-item-items.ensures.value c.loop-item-test.true c.item-item.is in
    subst (λ said. IsAdded names c.args.kinds.now said c.push_dynamic-in-loop-item.new.kinds)
    (sym (each_step says items c.loop-item.item-index c.item-item.result c.loop-item-test.true c.item-item.is))
    (adds_on names c.args.kinds.now c.loop-item.kinds c.push_dynamic-in-loop-item.new.kinds (each_said says (map tree_of (take c.loop-item.item-index items)))
    (says (tree_of c.item-item.result)) c.loop-item.invariant
    (subst (λ n. IsAdded n c.loop-item.kinds (dynamic_at c.args.property Item (name_at n c.args.owner) (tree_of c.item-item.result)) c.push_dynamic-in-loop-item.new.kinds) of.0
    c.in_ok-push_dynamic-in-Some-2.ensures.ok))

pub returns-after-loop-item-clause-ok : goal.returns-after-loop-item-clause-ok
returns-after-loop-item-clause-ok t c =
    let tree = tree_of c.args.term.now in
    let items = c.deref-item-items.result.now in
    let names = c.args.term.now.names.now in
    let says = dynamic_at c.args.property Item (name_at names c.args.owner) in
    let listed : whole_items c.args.at tree ≡ Some (map tree_of items) =
    items_found tree_of (whole_items c.args.at tree) c.in_ok-items-in-None-sides.field-0 c.in-Some-2.items items c.in_ok-items-in-None-sides.ensures.trees c.in-Some-2.is
    c.deref-item-items.ensures.value in
    let whole = dynamic_list c.args.property c.args.at (name_at names c.args.owner) tree (map tree_of items) listed in
    subst (λ said. IsAdded names c.args.kinds.now said c.loop-item.kinds)
    (sym (whole ∙ ap (λ terms. each_said says (map tree_of terms)) (sym (take_all c.loop-item.item-index items (omega (arith, c.loop-item-test.false))))))
    c.loop-item.invariant

-- an indicator

pub returns-in-None-2-clause-ok : goal.returns-in-None-2-clause-ok
returns-in-None-2-clause-ok t c =
    let names = c.args.term.now.names.now in
    let tree = tree_of c.args.term.now in
    let bare : whole_items c.args.at tree ≡ None =
    none_found tree_of (whole_items c.args.at tree) c.in_ok-items-in-None-sides.field-0 c.in_ok-items-in-None-sides.ensures.trees c.in-None-2.is in
    let alone = dynamic_alone c.args.property c.args.at (name_at names c.args.owner) tree (sym c.in-None.ensures.trees) (sym c.in-None-sides.ensures.trees) bare in
    subst (λ said. OnOk c.push_one.result (IsAdded names c.args.kinds.now said c.push_one.new.kinds)) (sym alone) c.push_one.ensures.ok

pub returns-in-None-2-clause-refused : goal.returns-in-None-2-clause-refused
returns-in-None-2-clause-refused t c =
    let names = c.args.term.now.names.now in
    let tree = tree_of c.args.term.now in
    let bare : whole_items c.args.at tree ≡ None =
    none_found tree_of (whole_items c.args.at tree) c.in_ok-items-in-None-sides.field-0 c.in_ok-items-in-None-sides.ensures.trees c.in-None-2.is in
    let alone = dynamic_alone c.args.property c.args.at (name_at names c.args.owner) tree (sym c.in-None.ensures.trees) (sym c.in-None-sides.ensures.trees) bare in
    subst (λ said. IfErr c.push_one.result (λ fault. IsWhy said fault)) (sym alone) c.push_one.ensures.refused
