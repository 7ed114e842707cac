use Rattle.std.proofs.Common.{sym, subst}
use Rattle.blocked_table.specs.Suspending.{AreGood}
use Rattle.blocked_table.specs.Transfer.{IsTransfer}
use Rattle.blocked_table.proofs.EndSteps.{keep_good, waits_still}
use Rattle.blocked_table.proofs.Paths.{path_chain}
use Rattle.blocked_table.proofs.blocked.Blocked.suspend.Goals as goal

pub returns-in_default-clause-good : goal.returns-in_default-clause-good
returns-in_default-clause-good c =
    λ lists roots done good place one at. keep_good c.args.search c.args.on c.in_ok-keep.ensures.kept.1 c.requires.can_wait.last good place one at

pub transfer-requires-clause-can_wait : goal.transfer-requires-clause-can_wait
transfer-requires-clause-can_wait c = waits_still c.requires.can_wait c.reserve.ensures.stack c.reserve.ensures.wanted

pub returns-clause-done : goal.returns-clause-done
returns-clause-done c =
    let found = rw c.in-Some.is at c.in-Ok.ensures in
    let walked = path_chain c.args.self.now.kept c.args.on c.walk.new.places.items c.in-Some.way.end found.path in (
      record { end = c.in-Some.way.end; steps = walked.0; chain = walked.1; on = found.back },
      subst (λ stack. IsTransfer c.args.self.now.kept c.transfer.new.self.kept stack c.args.on c.transfer.new.search.stack) c.reserve.ensures.stack
          c.transfer.ensures.moved,
      c.transfer.ensures.wants_nothing,
    )

pub returns-clause-good : goal.returns-clause-good
returns-clause-good c =
    λ lists roots done good.
    let moved = subst (λ stack. AreGood lists roots done c.args.self.now.kept stack) (sym c.reserve.ensures.stack) good in
    c.transfer.ensures.good lists roots done moved
