use Rattle.list_laws.proofs.Counting.{times-append, times-flat-append, times-permutation}
use Rattle.list_laws.proofs.counts.counts_add_up.Goals as goal

pub returns-clause-lists : goal.returns-clause-lists
returns-clause-lists c = times-append

pub returns-clause-flat : goal.returns-clause-flat
returns-clause-flat c = times-flat-append

pub returns-clause-order : goal.returns-clause-order
returns-clause-order c = times-permutation
