use Rattle.blocked_table.proofs.FieldSteps.{some_ready, none_ready}
use Rattle.blocked_table.proofs.blocked.Blocked.has_ready.Goals as goal

pub returns : goal.returns
returns c =
    rw (← c.self.view_is) (
      λ left. some_ready c.self.invariant c.is_empty.ensures left,
      λ has. none_ready c.self.invariant c.is_empty.ensures has,
    )
