use Rattle.std.proofs.Common.{◌∙◌}
use Rattle.clause_text.proofs.OneReading.{opening_ops-is}
use Rattle.std.proofs.lemmas.Result.{IfOk-weaker}
use Rattle.group_words.proofs.root_list.opening_table.Goals as goal

pub returns : goal.returns
returns c = IfOk-weaker c.opening.result _ _ (λ table is. is ∙ opening_ops-is) c.opening.ensures
