use Rattle.plain_clauses.proofs.PlainImports.{program_plain, program_whole, stop_same}
use Rattle.plain_clauses.proofs.PlainKnown.{plain_known}
use Rattle.plain_clauses.proofs.laws.same_imports.Goals as goal

pub returns-clause-program : goal.returns-clause-program
returns-clause-program c = program_plain

pub returns-clause-whole : goal.returns-clause-whole
returns-clause-whole c = program_whole

pub returns-clause-stop : goal.returns-clause-stop
returns-clause-stop c = stop_same

pub returns-clause-known : goal.returns-clause-known
returns-clause-known c = plain_known
