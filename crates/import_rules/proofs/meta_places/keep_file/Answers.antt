use Rattle.std.proofs.Common.{◌≡◌, ◌<◌, ◌≤◌, ◌++◌, ◌∷◌, [], false, List, Some, length, map, get_or, slice_get, ap, sym, ◌∙◌, subst, arith, append_assoc, append-nil}
use Rattle.std.specs.List.{list_any}
use Rattle.std.proofs.lemmas.List.{get_or-map, length-map}
use Rattle.module_table.specs.Metas.{Declaration, see_meta}
use Rattle.module_table.specs.Facts.{see_facts}
use Rattle.import_rules.specs.Names.{pred_name, is_same}
use Rattle.import_rules.specs.Metas.{MetaAt, meta_at, name_for, kept_as, first_kept, AreDeclared}
use Rattle.import_rules.proofs.FirstMetas.{none_declared, one_declared}
use Rattle.import_rules.proofs.MetasSoFar.{metas_below, more_meta, all_metas}
use Rattle.import_rules.proofs.meta_places.keep_file.Goals as goal

pub loop-at-init : goal.loop-at-init
loop-at-init c = record {
  long = c.requires.long;
  declared = λ done are. subst (λ (metas : List MetaAt). AreDeclared metas c.args.predicates.now c.args.kept.now.items) (sym (append-nil done)) are;
}

pub overflow_cast-len : goal.overflow_cast-len
overflow_cast-len c =
    let file = c.args.file.now in
    let n = c.loop-at.at in
    let m = c.meta-item.result in
    let items : c.deref-meta-items.result.now ≡ file.metas.items = c.deref-meta-items.ensures.value in
    let within : n < length file.metas.items = omega (arith, c.loop-at-test.true, ap length items) in
    let read : get_or (map see_meta file.metas.items) n (see_meta m) ≡ see_meta m =
    get_or-map see_meta file.metas.items n m (see_meta m) within ∙ ap see_meta (sym (c.meta-item.is ∙ ap (λ xs. get_or xs n m) items)) in
    let small : length m.args.items ≤ 4294967295 =
    subst (λ (d : Declaration). length d.args ≤ 4294967295) read (c.requires.few.small n (see_meta m) (omega (arith, within, length-map file.metas.items see_meta))) in
    omega (arith, small, c.len.ensures, m.args.ok.0)

pub make_room-requires : goal.make_room-requires
make_room-requires c = λ some. c.loop-at.invariant.long some ∙ sym c.len-in-loop-at.ensures

pub loop-at-preserved-in_default : goal.loop-at-preserved-in_default
loop-at-preserved-in_default c =
    let file = c.args.file.now in
    let n = c.loop-at.at in
    let m = c.meta-item.result in
    let predicates = c.args.predicates.now in
    let kept = c.loop-at.kept.items in
    let items : c.deref-meta-items.result.now ≡ file.metas.items = c.deref-meta-items.ensures.value in
    let within : n < length file.metas.items = omega (arith, c.loop-at-test.true, ap length items) in
    let more = more_meta c.args.place file n m within (c.meta-item.is ∙ ap (λ xs. get_or xs n m) items) in
    let own : pred_name c.as_str.result.now c.as_str-in-loop-at.result.now c.len.result ≡ name_for (see_meta m) =
    λ i. pred_name (c.as_str.ensures i) (c.as_str-in-loop-at.ensures i) ((c.len.ensures ∙ m.args.ok.0) i) in
    let none : list_any (is_same (name_for (see_meta m))) predicates ≡ false = subst (λ p. list_any (is_same p) predicates ≡ false) own c.in_default.ensures.is in
    record {
      long = c.loop-at.invariant.long;
      declared = λ done are.
          let before = metas_below c.args.place (see_facts file) n in
          let one = meta_at c.args.place (n, see_meta m) in
          subst (λ (metas : List MetaAt). AreDeclared metas predicates kept) (append_assoc done before (one ∷ []) ∙ ap (λ ms. done ++ ms) (sym more))
          (none_declared (done ++ before) one predicates kept none (c.loop-at.invariant.declared done are));
    }

pub loop-at-preserved : goal.loop-at-preserved
loop-at-preserved c =
    let file = c.args.file.now in
    let n = c.loop-at.at in
    let m = c.meta-item.result in
    let node = c.in-Some.node in
    let predicates = c.args.predicates.now in
    let old = c.loop-at.kept.items in
    let mid = c.make_room.new.kept.items in
    let new = c.keep.new.kept.items in
    let items : c.deref-meta-items.result.now ≡ file.metas.items = c.deref-meta-items.ensures.value in
    let within : n < length file.metas.items = omega (arith, c.loop-at-test.true, ap length items) in
    let more = more_meta c.args.place file n m within (c.meta-item.is ∙ ap (λ xs. get_or xs n m) items) in
    let own : pred_name c.as_str.result.now c.as_str-in-loop-at.result.now c.len.result ≡ name_for (see_meta m) =
    λ i. pred_name (c.as_str.ensures i) (c.as_str-in-loop-at.ensures i) ((c.len.ensures ∙ m.args.ok.0) i) in
    let there : slice_get predicates node ≡ Some (name_for (see_meta m)) = c.in-Some.ensures.is ∙ ap (λ p. Some p) own in
    let long : length new ≡ length predicates = c.keep.ensures.long ∙ (c.in_ok-make_room.ensures.long ∙ c.len-in-loop-at.ensures) in
    let one = meta_at c.args.place (n, see_meta m) in
    record {
      long = λ some. long;
      declared = λ done are.
          let before = metas_below c.args.place (see_facts file) n in
          subst (λ (metas : List MetaAt). AreDeclared metas predicates new) (append_assoc done before (one ∷ []) ∙ ap (λ ms. done ++ ms) (sym more))
          (one_declared (done ++ before) one predicates old new node c.requires.in_order there long
          (c.keep.ensures.here ∙ ap (λ at. first_kept at (kept_as (Some one))) (c.in_ok-make_room.ensures.same node))
          (λ k other. c.keep.ensures.others k other ∙ c.in_ok-make_room.ensures.same k) (c.loop-at.invariant.declared done are));
    }

pub returns : goal.returns
returns c = λ done are.
    subst (λ (metas : List MetaAt). AreDeclared (done ++ metas) c.args.predicates.now c.loop-at.kept.items)
    (all_metas c.args.place c.args.file.now c.loop-at.at (omega (arith, c.loop-at-test.false, ap length c.deref-meta-items.ensures.value)))
    (c.loop-at.invariant.declared done are)
