use Rattle.std.proofs.Common.{◌≡◌, ◌∙◌, ◌+◌, ℕ, Bool, List, map, take, sym, subst}
use Rattle.std.specs.Prelude.{Vec}
use Rattle.std.specs.Vec.{with_items}
use Rattle.std.specs.declared.alloc.Global.{Global}
use Rattle.std.proofs.lemmas.List.{with_items_is}
use Rattle.import_rules.specs.Clashes.{see_item}
use Rattle.import_rules.specs.TakenModules.{AreMarked, HaveSize, marked_at}
use Rattle.import_rules.proofs.Marks.{from_passed, next_marked, user_passed}
use Rattle.import_rules.proofs.taken_modules.marked_rows.Goals as goal

pub loop-pair-preserved-in_default : goal.loop-pair-preserved-in_default
loop-pair-preserved-in_default c = (
  c.loop-pair.invariant.0,
  user_passed c.args.modules.now c.args.pairs.now c.loop-pair.pair-index _ c.loop-pair-test.true c.loop-pair.rows.items c.in_default.ensures.is c.loop-pair.invariant.1,
)

pub loop-pair-preserved-in_default-place_of : goal.loop-pair-preserved-in_default-place_of
loop-pair-preserved-in_default-place_of c = (
  c.loop-pair.invariant.0,
  from_passed c.args.modules.now c.args.pairs.now c.loop-pair.pair-index _ c.loop-pair-test.true c.loop-pair.rows.items c.in_default-place_of.ensures.is c.loop-pair.invariant.1,
)

pub loop-pair-preserved : goal.loop-pair-preserved
loop-pair-preserved c =
    let old = c.loop-pair.rows in
    let new = c.mark.new.rows in
    let are : (with_items old new).items ≡ new = with_items_is old new (c.mark.ensures.size.long ∙ sym c.loop-pair.invariant.0.long ∙ sym old.ok.0) in (
      subst (HaveSize c.args.size) (sym are) c.mark.ensures.size,
      subst (AreMarked c.args.modules.now (map see_item (take (c.loop-pair.pair-index + 1) c.args.pairs.now))) (sym are)
          (next_marked c.args.modules.now c.args.pairs.now c.loop-pair.pair-index _ c.loop-pair-test.true old.items new c.in-Some.user c.in-Some-place_of.from c.requires.in_order
          c.in-Some.ensures.is c.in-Some-place_of.ensures.is c.mark.ensures.here
          (subst (λ (rows : List (Vec Bool Global)). (u m : ℕ) → ((u ≡ c.in-Some.user) × (m ≡ c.in-Some-place_of.from) → ⊥) → marked_at new u m ≡ marked_at rows u m) c.deref_mut.ensures.value
          c.mark.ensures.others)
          c.loop-pair.invariant.1),
    )
