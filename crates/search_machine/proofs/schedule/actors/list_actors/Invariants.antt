use Rattle.search_machine.proofs.Driving.{AreActorsBelow}
use Rattle.search_machine.proofs.schedule.actors.list_actors.Given as goal

abbrev pub invariant-places : goal.invariant-places
invariant-places l = AreActorsBelow l.machine.state l.place l.places.items
