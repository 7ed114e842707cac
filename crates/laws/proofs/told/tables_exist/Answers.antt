use Rattle.std.proofs.Common.{length, sym, subst, arith}
use Rattle.file_library.specs.Loaded.{WasLoaded}
use Rattle.laws.proofs.CallTables.{has_table}
use Rattle.laws.proofs.FaultLists.{known}
use Rattle.laws.proofs.told.tables_exist.Goals as goal

pub returns : goal.returns
returns c = λ loaded seen was program nodes groups few.
    let is_known = known loaded seen was program in
    let own : WasLoaded seen.loaded = subst WasLoaded (sym program.is) was in
    let places = c.memberships_exist.ensures (length seen.predicates) groups in
    has_table seen is_known own nodes (omega (arith, few, is_known.few)) groups places.0 places.1
