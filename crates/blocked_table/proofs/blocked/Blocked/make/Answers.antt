use Rattle.std.proofs.Common.{arith}
use Rattle.blocked_table.proofs.FieldSteps.{empty_blocked}
use Rattle.blocked_table.proofs.blocked.Blocked.make.Goals as goal

pub invariant_of-result : goal.invariant_of-result
invariant_of-result c =
    empty_blocked
    (record {
      kept = c.in_ok-with_capacity.field-0;
      holders = c.new.result;
      waiters = c.in_ok-make.field-0;
      vacant = c.in_ok-with_capacity-2.field-0;
      ready = c.in_ok-with_capacity-3.field-0;
      count = c.args.count;
      most = c.args.most;
    }) c.in_ok-with_capacity.ensures.items c.in_ok-with_capacity-2.ensures.items c.in_ok-with_capacity-3.ensures.items
    c.new.ensures.items c.in_ok-make.ensures
    (omega (arith, c.in_ok-with_capacity.ensures.capacity)) (omega (arith, c.in_ok-with_capacity-2.ensures.capacity))
    (omega (arith, c.in_ok-with_capacity-3.ensures.capacity))
