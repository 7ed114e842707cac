use Rattle.std.proofs.Common.{ℕ, List, arith}
use Rattle.search_machine.specs.Schedule.{IsScheduled}
use Rattle.laws.proofs.schedule.order_exists.Goals as goal

pub returns : goal.returns
returns c = λ lists roots closed rooted.
    let end : (groups : List (List ℕ)) × IsScheduled lists roots 1 0 groups = c.schedule_ends.ensures lists roots 1 0 closed rooted in (
      end.0,
      (
        c.schedules_answer.ensures.legal lists roots 1 0 end.0 closed rooted end.1,
        c.schedules_answer.ensures.complete lists roots 1 0 end.0 closed rooted (omega arith) end.1,
        c.schedules_answer.ensures.reached lists roots 1 0 end.0 closed rooted end.1,
      ),
    )
