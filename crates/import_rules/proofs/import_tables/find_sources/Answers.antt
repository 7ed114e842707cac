use Rattle.import_rules.proofs.Ordered.{put_in_order}
use Rattle.import_rules.proofs.SourceLemmas.{leave_out, put_next}
use Rattle.import_rules.proofs.import_tables.find_sources.Goals as goal

pub loop-item-preserved-in_default : goal.loop-item-preserved-in_default
loop-item-preserved-in_default c = (
  leave_out c.args.predicates.now c.args.items.now c.loop-item.item-index _ c.loop-item.made.names.items c.loop-item.made.targets.items
      c.loop-item-test.true c.in_default.ensures.is c.loop-item.invariant.0,
  c.loop-item.invariant.1,
)

pub loop-item-preserved : goal.loop-item-preserved
loop-item-preserved c =
    let predicates = c.args.predicates.now in
    let items = c.args.items.now in
    let n = c.loop-item.item-index in
    let names = c.loop-item.made.names.items in
    let targets = c.loop-item.made.targets.items in (
      put_next predicates items n _ names c.push.new.self.items targets c.push-in-loop-item.new.self.items c.in_ok-name_given.field-0 c.in-Some.target
          c.loop-item-test.true c.requires.predicates c.in-Some.ensures.is c.in_ok-name_given.ensures c.in_ok-push.ensures.items c.in_ok-push-2.ensures.items
          c.loop-item.invariant.0,
      put_in_order predicates items n _ names c.push.new.self.items targets c.in_ok-name_given.field-0 c.loop-item-test.true c.requires.items
          c.in_ok-name_given.ensures c.in_ok-push.ensures.items c.loop-item.invariant.0 c.loop-item.invariant.1,
    )
