use Rattle.std.proofs.Common.{◌≡◌, arith}
use Rattle.import_rules.proofs.Exporters.{empty_each}
use Rattle.import_rules.proofs.shared_names.empty_lists.Goals as goal

pub returns-clause-long : goal.returns-clause-long
returns-clause-long c = omega (arith, c.loop.invariant.0, c.loop-test.false, c.loop.auto.counter-end)

pub returns-clause-empty : goal.returns-clause-empty
returns-clause-empty c = empty_each c.loop.lists.items c.loop.invariant.1
