use Rattle.std.proofs.Common.{[], arith}
use Rattle.prolog_names.proofs.GrownTable.{bytes_before}
use Rattle.prolog_names.proofs.table.NameTable.place_each.Goals as goal

pub place_of-requires-clause-few : goal.place_of-requires-clause-few
place_of-requires-clause-few c =
    omega (arith, c.requires.few, c.loop-name.invariant.few, bytes_before (λ name. name.now) c.args.names.now c.loop-name.name-index record { ref_ptr = (0, 0); now = [] } c.loop-name-test.true)
