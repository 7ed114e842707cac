use Rattle.import_rules.proofs.OneFlaws.{one_list_of_flaws, one_list_of_import_faults}
use Rattle.import_rules.proofs.laws.one_list_of_faults.Goals as goal

pub returns-clause-flaws : goal.returns-clause-flaws
returns-clause-flaws c = one_list_of_flaws

pub returns-clause-faults : goal.returns-clause-faults
returns-clause-faults c = one_list_of_import_faults
