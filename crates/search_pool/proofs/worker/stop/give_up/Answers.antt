use Rattle.search_pool.proofs.worker.stop.give_up.Goals as goal
use Rattle.search_pool.proofs.TurnLaws.{turn_of}

pub returns : goal.returns
returns g c = c.stop.ensures c.args.claims.now (turn_of c.turn-turn.result c.requires.pass_of c.turn-turn.ensures.table c.turn-turn.ensures.view)
