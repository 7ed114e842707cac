use Rattle.clause_text.proofs.Offsets.{reading_placed}
use Rattle.clause_text.proofs.PlainOffsets.{all_plain_stand}
use Rattle.clause_text.proofs.laws.terms_placed.Goals as goal

pub returns-clause-whole : goal.returns-clause-whole
returns-clause-whole c = λ text trees reads. reading_placed text trees reads

pub returns-clause-plain : goal.returns-clause-plain
returns-clause-plain c = λ text trees reads. all_plain_stand text trees (reading_placed text trees reads)
