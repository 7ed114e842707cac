use Rattle.prolog_tokens.proofs.Readings.{read_value, read_only}
use Rattle.prolog_tokens.proofs.values.integer_value.Goals as goal

pub returns-in-Integer-clause-value : goal.returns-in-Integer-clause-value
returns-in-Integer-clause-value c = read_value c.args.text.now c.args.token c.number_value.result c.in-Integer.is c.requires.spelled c.number_value.ensures

pub returns-in-Integer-clause-only : goal.returns-in-Integer-clause-only
returns-in-Integer-clause-only c = λ other value. read_only c.args.text.now c.args.token c.number_value.result other c.in-Integer.is c.number_value.ensures value
