use Rattle.std.proofs.Common.{sym, ◌∙◌}
use Rattle.kept_clauses.proofs.NameNumbers.{control_is}
use Rattle.kept_clauses.proofs.plain_goals.is_control.Goals as goal

pub returns : goal.returns
returns c = c.contains.ensures.value ∙ sym (control_is c.args.names.now c.known_law.ensures.named c.names_law.ensures.only c.args.number)
