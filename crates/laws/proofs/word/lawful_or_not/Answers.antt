use Rattle.laws.proofs.AnsweredWords.{lawful_found}
use Rattle.laws.proofs.word.lawful_or_not.Goals as goal

pub returns : goal.returns
returns c = lawful_found c.cut_or_fault.ensures c.clause_or_fault.ensures
