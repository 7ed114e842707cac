use Rattle.import_rules.proofs.Faultless.{never_stopped}
use Rattle.import_rules.proofs.OneProgram.{one_program, few_or_many}
use Rattle.import_rules.proofs.laws.one_program.Goals as goal

pub returns-clause-one : goal.returns-clause-one
returns-clause-one c = one_program

pub returns-clause-few_or_many : goal.returns-clause-few_or_many
returns-clause-few_or_many c = few_or_many

pub returns-clause-never_stopped : goal.returns-clause-never_stopped
returns-clause-never_stopped c = never_stopped
