use Rattle.prolog_names.proofs.NumberedParts.{part_numbered}
use Rattle.prolog_names.proofs.laws.numbered_part.Goals as goal

pub returns : goal.returns
returns c = part_numbered
