use Rattle.std.proofs.Common.{fold, ap, ◌∙◌}
use Rattle.prolog_names.specs.Names.{known_names}
use Rattle.prolog_names.specs.Table.{with_name}
use Rattle.prolog_names.proofs.KnownTable.{known_put}
use Rattle.prolog_names.proofs.numbers.known_table.Goals as goal

pub returns : goal.returns
returns c = c.in_ok-place_each.ensures ∙ ap (λ table. fold with_name table known_names) c.in_ok-table.ensures ∙ known_put
