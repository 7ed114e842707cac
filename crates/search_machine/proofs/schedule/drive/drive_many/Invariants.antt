use Rattle.search_machine.specs.Work.{work}
use Rattle.search_machine.proofs.Driving.{IsDriven}
use Rattle.search_machine.proofs.schedule.drive.drive_many.Given as goal

abbrev pub invariant-turns : goal.invariant-turns
invariant-turns g l = IsDriven (g.O.Opener.lists l.opener) l.roots l.searches l.seed l.number l.machine

abbrev pub decreases-turns : goal.decreases-turns
decreases-turns g l = work l.machine.lists l.machine.state
