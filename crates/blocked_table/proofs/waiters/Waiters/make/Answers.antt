use Rattle.std.proofs.Common.{ℕ, ap, length, arith}
use Rattle.std.proofs.lemmas.List.{length-replicate}
use Rattle.blocked_table.proofs.Linked.{linked_none}
use Rattle.blocked_table.proofs.WaiterSteps.{zero_words}
use Rattle.blocked_table.proofs.waiters.Waiters.make.Goals as goal

pub invariant_of-result : goal.invariant_of-result
invariant_of-result c =
    let heads = c.in_ok-vec.ensures.items_if_clones_equal (λ y is. is) in
    let nodes = c.in_ok-vec-2.ensures.items_if_clones_equal (λ y is. is) in
    let after = c.in_ok-vec-3.ensures.items_if_clones_equal (λ y is. is) in
    let before = c.in_ok-vec-4.ensures.items_if_clones_equal (λ y is. is) in
    record {
      linked =
          linked_none c.in_ok-vec.field-0.items c.in_ok-vec-2.field-0.items c.in_ok-vec-3.field-0.items c.in_ok-vec-4.field-0.items
          (zero_words c.in_ok-vec.field-0.items c.args.count heads) (zero_words c.in_ok-vec-2.field-0.items c.args.room nodes);
      afters = omega (arith, ap length nodes, ap length after);
      befores = omega (arith, ap length nodes, ap length before);
      few_nodes = omega (arith, ap length heads, length-replicate {A = ℕ} c.args.count 0, c.ranges.count.fits);
      few_places = omega (arith, ap length nodes, length-replicate {A = ℕ} c.args.room 0, c.ranges.room.fits);
    }
