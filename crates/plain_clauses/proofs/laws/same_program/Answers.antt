use Rattle.plain_clauses.proofs.PlainProgram.{calls_same, call_places_same, faults_same, roots_same, unresolved_same, starts_same}
use Rattle.plain_clauses.proofs.SameLists.{lists_same}
use Rattle.plain_clauses.proofs.laws.same_program.Goals as goal

pub returns-clause-calls : goal.returns-clause-calls
returns-clause-calls c = calls_same

pub returns-clause-lists : goal.returns-clause-lists
returns-clause-lists c = lists_same

pub returns-clause-places : goal.returns-clause-places
returns-clause-places c = call_places_same

pub returns-clause-faults : goal.returns-clause-faults
returns-clause-faults c = faults_same

pub returns-clause-roots : goal.returns-clause-roots
returns-clause-roots c = roots_same

pub returns-clause-unresolved : goal.returns-clause-unresolved
returns-clause-unresolved c = unresolved_same

pub returns-clause-starts : goal.returns-clause-starts
returns-clause-starts c = starts_same
