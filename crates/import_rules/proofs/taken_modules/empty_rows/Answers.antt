use Rattle.std.proofs.Common.{◌≡◌, ◌∙◌, arith}
use Rattle.import_rules.proofs.Marks.{empty_none, empty_size}
use Rattle.import_rules.proofs.taken_modules.empty_rows.Goals as goal

pub returns-clause-size : goal.returns-clause-size
returns-clause-size c = empty_size c.args.size c.loop.rows.items (omega (arith, c.loop.invariant.0, c.loop-test.false, c.loop.auto.counter-end)) c.loop.invariant.1

pub returns-clause-none : goal.returns-clause-none
returns-clause-none c = empty_none c.args.size c.loop.rows.items c.loop.invariant.1
