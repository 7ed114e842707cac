use Rattle.laws.proofs.FaultLists.{known}
use Rattle.laws.proofs.PlacedDirectives.{some_directives}
use Rattle.laws.proofs.ToldBytes.{GroupLaws, some_told}
use Rattle.laws.proofs.told.told_exists.Goals as goal

pub returns : goal.returns
returns c = λ loaded seen was program asked roots below.
    let laws : GroupLaws = record { ordered = c.order_exists.ensures; leveled = c.levels_exist.ensures; placed = c.memberships_exist.ensures } in
    let directives = some_directives seen (known loaded seen was program) in
    some_told laws seen (c.tables_exist.ensures loaded seen was program) directives asked roots below
