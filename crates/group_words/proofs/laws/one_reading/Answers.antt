use Rattle.group_words.proofs.Readings.{one_given, one_files}
use Rattle.group_words.proofs.laws.one_reading.Goals as goal

pub returns : goal.returns
returns c words given other files more r q = (one_given words given other files more r q, one_files words given other files more r q)
