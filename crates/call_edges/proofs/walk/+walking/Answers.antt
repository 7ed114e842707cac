use Rattle.std.proofs.Common.{◌≡◌, ◌++◌, List, Some, map, slice_get, ap, sym, ◌∙◌, subst, refl, arith}
use Rattle.std.specs.Option.{option_to_list}
use Rattle.std.proofs.lemmas.List.{length-map}
use Rattle.std.proofs.lemmas.Option.{slice_get_within}
use Rattle.prolog_terms.specs.declared.term.Span.{Span}
use Rattle.prolog_terms.specs.Tree.{Tree}
use Rattle.prolog_terms.specs.Terms.{tree_of, trees_of}
use Rattle.prolog_terms.specs.Views.{trees_in}
use Rattle.prolog_terms.specs.Weight.{weight}
use Rattle.prolog_terms.proofs.ViewLemmas.{count_weight}
use Rattle.module_table.specs.Metas.{added}
use Rattle.call_edges.specs.declared.role.Role.{Role}
use Rattle.call_edges.specs.Arguments.{AddsArguments}
use Rattle.call_edges.specs.Goals.{atom_met, constant_met, place, taken, AddsMet}
use Rattle.call_edges.specs.ProgramRows.{rows_of}
use Rattle.call_edges.specs.Seen.{see_mets, see_taken}
use Rattle.call_edges.proofs.AddedLemmas.{rows_within}
use Rattle.call_edges.proofs.KeptMeanings.{meant_more}
use Rattle.call_edges.proofs.MetLemmas.{below_all, below_more, below_none, only_argument, silent_arguments, two_arguments}
use Rattle.call_edges.proofs.PartLemmas.{part_count}
use Rattle.module_table.proofs.Shapes.{only_seen, pair_seen}
use Rattle.module_table.proofs.TakesLemmas.{read_seen}
use Rattle.call_edges.proofs.WalkLemmas.{on_ok, light_arguments, variable_walked, list_walked, tailed_walked, constant_walked, atom_walked, curly_walked, paren_walked, compound_walked}
use Rattle.call_edges.proofs.walk.+walking.Goals as goal

pub walk-take_apart-taken-requires : goal.walk-take_apart-taken-requires
walk-take_apart-taken-requires t c = omega (arith, c.requires, count_weight (trees_of c.in-Compound.args), ap weight c.in-Compound.ensures.tree)

pub walk-walk_args-requires : goal.walk-walk_args-requires
walk-walk_args-requires t c =
    let v = c.in-Compound in
    let apart =
    c.take_apart-taken.ensures.taken ∙ ap (λ (s : Span). taken (rows_of c.args.program.now) s.from c.args.owner.now c.args.role v.name.now (trees_in (trees_of v.args))) c.span-in-Compound.ensures in
    let within = rows_within c.args.program.now c.is_known.ensures in
    (omega (arith, ap weight v.ensures.tree), light_arguments _ within _ c.args.role (tree_of c.args.term.now) _ _ _ _ _ v.ensures.tree apart (omega (arith, c.requires)))

pub walk-returns-in-Some-clause-met : goal.walk-returns-in-Some-clause-met
walk-returns-in-Some-clause-met t c =
    let P = AddsMet (rows_of c.args.program.now) (place c.args.owner.now c.args.role (tree_of c.args.term.now)) (see_mets c.args.met.now.items) in
    on_ok c.push_met.result c.push_met.ensures.mets (λ adds. subst P (sym adds) (c.in-Some.ensures.met (see_mets c.args.met.now.items)))

pub walk-returns-in-Some-clause-meant : goal.walk-returns-in-Some-clause-meant
walk-returns-in-Some-clause-meant t c =
    let seen = c.args.program.now in
    on_ok c.push_met.result c.push_met.ensures.kept (λ more.
    meant_more seen c.args.met.now.items c.push_met.new.met.items (Some c.in-Some.call) more c.in-Some.ensures.meant)

pub walk-returns-in-Var-clause-met : goal.walk-returns-in-Var-clause-met
walk-returns-in-Var-clause-met t c = variable_walked _ _ _ _ _ _ _ c.in-Var.ensures.tree refl

pub walk-returns-in-Const-clause-met : goal.walk-returns-in-Const-clause-met
walk-returns-in-Const-clause-met t c =
    let role = c.args.role in
    let old = see_mets c.args.met.now.items in
    let v = c.in-Const in
    on_ok c.push_met-in-Const.result c.push_met-in-Const.ensures.mets (λ adds.
    constant_walked _ _ _ _ _ _ v.kind _ _ _ v.ensures.tree
    (adds ∙ (ap (λ o. old ++ option_to_list o) c.constant_met.ensures.met ∙ ap (λ (s : Span). old ++ option_to_list (constant_met role.arg v.kind s.from)) c.span.ensures)))

pub walk-returns-in-Atom-clause-met : goal.walk-returns-in-Atom-clause-met
walk-returns-in-Atom-clause-met t c =
    let owner = c.args.owner.now in
    let role = c.args.role in
    let old = see_mets c.args.met.now.items in
    let v = c.in-Atom in
    on_ok c.push_met-in-Atom.result c.push_met-in-Atom.ensures.mets (λ adds.
    atom_walked _ _ _ _ _ _ _ _ v.ensures.tree
    (adds ∙ (ap (λ o. old ++ option_to_list o) c.atom_met.ensures.met ∙ ap (λ (s : Span). old ++ option_to_list (atom_met s.from owner role v.name.now)) c.span-in-Atom.ensures)))

pub walk-returns-in_ok-push_met-in-Compound-clause-met : goal.walk-returns-in_ok-push_met-in-Compound-clause-met
walk-returns-in_ok-push_met-in-Compound-clause-met t c =
    let v = c.in-Compound in
    let apart =
    c.take_apart-taken.ensures.taken ∙ ap (λ (s : Span). taken (rows_of c.args.program.now) s.from c.args.owner.now c.args.role v.name.now (trees_in (trees_of v.args))) c.span-in-Compound.ensures in
    on_ok c.walk_args.result c.walk_args.ensures.met (λ adds.
    compound_walked _ _ _ _ _ _ _ _ _ _ _ _ v.ensures.tree apart c.in_ok-push_met-in-Compound.ensures.mets adds)

pub walk-returns-in-List-clause-met : goal.walk-returns-in-List-clause-met
walk-returns-in-List-clause-met t c = list_walked _ _ _ _ _ _ _ _ c.in-List.ensures.tree refl

pub walk-returns-in-Tailed-clause-met : goal.walk-returns-in-Tailed-clause-met
walk-returns-in-Tailed-clause-met t c = tailed_walked _ _ _ _ _ _ _ _ _ c.in-Tailed.ensures.tree refl

pub walk-returns-in-Curly-clause-met : goal.walk-returns-in-Curly-clause-met
walk-returns-in-Curly-clause-met t c =
    on_ok c.walk.result c.walk.ensures.met (λ adds. curly_walked _ _ _ _ _ _ _ _ c.in-Curly.ensures.tree (rw c.curly_role.ensures at adds))

pub walk-returns-in-Paren-clause-met : goal.walk-returns-in-Paren-clause-met
walk-returns-in-Paren-clause-met t c =
    on_ok c.walk-in-Paren.result c.walk-in-Paren.ensures.met (λ adds. paren_walked _ _ _ _ _ _ _ _ c.in-Paren.ensures.tree adds)

-- what is kept of names

pub walk-returns-in-Const-clause-meant : goal.walk-returns-in-Const-clause-meant
walk-returns-in-Const-clause-meant t c =
    let seen = c.args.program.now in
    on_ok c.push_met-in-Const.result c.push_met-in-Const.ensures.kept (λ more.
    meant_more seen c.args.met.now.items c.push_met-in-Const.new.met.items c.constant_met.result more (c.constant_met.ensures.meant seen))

pub walk-returns-in-Atom-clause-meant : goal.walk-returns-in-Atom-clause-meant
walk-returns-in-Atom-clause-meant t c =
    let seen = c.args.program.now in
    on_ok c.push_met-in-Atom.result c.push_met-in-Atom.ensures.kept (λ more.
    meant_more seen c.args.met.now.items c.push_met-in-Atom.new.met.items c.atom_met.result more (c.atom_met.ensures.meant seen))

pub walk-returns-in_ok-push_met-in-Compound-clause-meant : goal.walk-returns-in_ok-push_met-in-Compound-clause-meant
walk-returns-in_ok-push_met-in-Compound-clause-meant t c =
    let first =
    meant_more c.args.program.now c.args.met.now.items c.push_met-in-Compound.new.met.items c.take_apart-taken.result.met
    c.in_ok-push_met-in-Compound.ensures.kept c.take_apart-taken.ensures.meant in
    on_ok c.walk_args.result c.walk_args.ensures.meant (λ more all. more (first all))

-- the arguments

pub walk_args-walk-requires : goal.walk_args-walk-requires
walk_args-walk-requires t c =
    let args = trees_of c.args.args.now in
    let own = tree_of c.in-Some.only in
    let read : slice_get (trees_in args) 0 ≡ Some own = ap (λ ts. slice_get (trees_in ts) 0) (only_seen args own (sym c.in-Some.ensures.tree)) in (
      omega (arith, part_count args 0 own read, slice_get_within (trees_in args) 0 own read, c.decreases),
      omega (arith, c.requires.each 0 own read, ap (λ (r : Role). added r.arg) c.role_of-first.ensures),
    )

pub walk_args-walk-requires-in-Some-pair : goal.walk_args-walk-requires-in-Some-pair
walk_args-walk-requires-in-Some-pair t c =
    let args = trees_of c.args.args.now in
    let left = tree_of c.in-Some-pair.left in
    let right = tree_of c.in-Some-pair.right in
    let read : slice_get (trees_in args) 0 ≡ Some left = ap (λ ts. slice_get (trees_in ts) 0) (pair_seen args left right (sym c.in-Some-pair.ensures.trees)) in (
      omega (arith, part_count args 0 left read, slice_get_within (trees_in args) 0 left read, c.decreases),
      omega (arith, c.requires.each 0 left read, ap (λ (r : Role). added r.arg) c.role_of-first.ensures),
    )

pub walk_args-walk-requires-in-Some-pair-2 : goal.walk_args-walk-requires-in-Some-pair-2
walk_args-walk-requires-in-Some-pair-2 t c =
    let args = trees_of c.args.args.now in
    let left = tree_of c.in-Some-pair.left in
    let right = tree_of c.in-Some-pair.right in
    let read : slice_get (trees_in args) 1 ≡ Some right = ap (λ ts. slice_get (trees_in ts) 1) (pair_seen args left right (sym c.in-Some-pair.ensures.trees)) in (
      omega (arith, part_count args 1 right read, slice_get_within (trees_in args) 1 right read, c.decreases),
      omega (arith, c.requires.each 1 right read, ap (λ (r : Role). added r.arg) c.role_of-second.ensures),
    )

pub walk_args-walk-requires-in-loop-at : goal.walk_args-walk-requires-in-loop-at
walk_args-walk-requires-in-loop-at t c =
    let args = trees_of c.args.args.now in
    let items = c.deref-arg-items.result.now in
    let are : map tree_of items ≡ trees_in args = ap (map tree_of) c.deref-arg-items.ensures.value ∙ c.in_ok-terms.ensures.trees in
    let k = c.loop-at.at in
    let own = tree_of c.arg-item.result in
    let read : slice_get (trees_in args) k ≡ Some own =
    subst (λ (ts : List Tree). slice_get ts k ≡ Some own) are (read_seen items k c.arg-item.result c.loop-at-test.true c.arg-item.is) in (
      omega (arith, part_count args k own read, slice_get_within (trees_in args) k own read, c.decreases),
      omega (arith, c.requires.each k own read, ap (λ (r : Role). added r.arg) c.role_of-own.ensures),
    )

pub walk_args-loop-at-init : goal.walk_args-loop-at-init
walk_args-loop-at-init t c = record {
  met = below_none (rows_of c.args.program.now) (see_taken c.args.taken.now) (map tree_of c.deref-arg-items.result.now) (see_mets c.args.met.now.items);
  meant = λ all. all;
}

pub walk_args-loop-at-preserved : goal.walk_args-loop-at-preserved
walk_args-loop-at-preserved t c =
    let T = rows_of c.args.program.now in
    let k = c.loop-at.at in
    let apart = see_taken c.args.taken.now in
    let items = c.deref-arg-items.result.now in
    let tree = tree_of c.arg-item.result in
    let old = see_mets c.args.met.now.items in
    let mid = see_mets c.loop-at.met.items in
    let new = see_mets c.walk-in-loop-at.new.met.items in
    let P : Role → Type 0 = λ role. AddsMet T (place apart.module_ role tree) mid new in
    record {
      met =
          below_more T apart (map tree_of items) k tree old mid new (read_seen items k c.arg-item.result c.loop-at-test.true c.arg-item.is) c.loop-at.invariant.met
          (subst P c.role_of-own.ensures c.in_ok-walk-2.ensures.met);
      meant = λ all. c.in_ok-walk-2.ensures.meant (c.loop-at.invariant.meant all);
    }

pub walk_args-returns-then-is_silent-clause-met : goal.walk_args-returns-then-is_silent-clause-met
walk_args-returns-then-is_silent-clause-met t c =
    silent_arguments (rows_of c.args.program.now) (see_taken c.args.taken.now) (trees_in (trees_of c.args.args.now)) (see_mets c.args.met.now.items)
    (c.is_silent.ensures c.if-is_silent.true)

pub walk_args-returns-in-Some-clause-met : goal.walk_args-returns-in-Some-clause-met
walk_args-returns-in-Some-clause-met t c =
    let T = rows_of c.args.program.now in
    let here = see_taken c.args.taken.now in
    let own = tree_of c.in-Some.only in
    let old = see_mets c.args.met.now.items in
    let new = see_mets c.walk.new.met.items in
    let P : Role → Type 0 = λ role. AddsMet T (place here.module_ role own) old new in
    on_ok c.walk.result c.walk.ensures.met (λ adds.
    only_argument T here (trees_of c.args.args.now) own old new (sym c.in-Some.ensures.tree) (subst P c.role_of-first.ensures adds))

pub walk_args-returns-in-Some-pair-clause-met : goal.walk_args-returns-in-Some-pair-clause-met
walk_args-returns-in-Some-pair-clause-met t c =
    let T = rows_of c.args.program.now in
    let here = see_taken c.args.taken.now in
    let left = tree_of c.in-Some-pair.left in
    let right = tree_of c.in-Some-pair.right in
    let old = see_mets c.args.met.now.items in
    let mid = see_mets c.walk-in-Some-pair.new.met.items in
    let new = see_mets c.walk-in-Some-pair-2.new.met.items in
    let P : Role → Type 0 = λ role. AddsMet T (place here.module_ role left) old mid in
    let Q : Role → Type 0 = λ role. AddsMet T (place here.module_ role right) mid new in
    on_ok c.walk-in-Some-pair-2.result c.walk-in-Some-pair-2.ensures.met (λ adds.
    two_arguments T here (trees_of c.args.args.now) left right old mid new (sym c.in-Some-pair.ensures.trees)
    (subst P c.role_of-first.ensures c.in_ok-walk.ensures.met) (subst Q c.role_of-second.ensures adds))

pub walk_args-returns-clause-met : goal.walk_args-returns-clause-met
walk_args-returns-clause-met t c =
    let T = rows_of c.args.program.now in
    let here = see_taken c.args.taken.now in
    let items = c.deref-arg-items.result.now in
    let are : map tree_of items ≡ trees_in (trees_of c.args.args.now) = ap (map tree_of) c.deref-arg-items.ensures.value ∙ c.in_ok-terms.ensures.trees in
    let old = see_mets c.args.met.now.items in
    let new = see_mets c.loop-at.met.items in
    let P : List Tree → Type 0 = λ ts. AddsArguments T here ts old new in
    subst P are (below_all T here (map tree_of items) c.loop-at.at old new (omega (arith, length-map items tree_of, c.loop-at-test.false)) c.loop-at.invariant.met)

pub walk_args-returns-in-Some-pair-clause-meant : goal.walk_args-returns-in-Some-pair-clause-meant
walk_args-returns-in-Some-pair-clause-meant t c =
    on_ok c.walk-in-Some-pair-2.result c.walk-in-Some-pair-2.ensures.meant (λ more all. more (c.in_ok-walk.ensures.meant all))
