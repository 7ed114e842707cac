use Rattle.std.proofs.Common.{arith}
use Rattle.graph_law.proofs.Rows.{row_length}
use Rattle.graph_law.proofs.classes.reach_each_other.Goals as goal

pub index-requires : goal.index-requires
index-requires c =
    omega (
      arith,
      c.requires.second,
      row_length c.args.rows.now c.args.first c.index-rows-first.result c.requires.square c.requires.first c.index-rows-first.is,
    )

pub index-requires-then-index : goal.index-requires-then-index
index-requires-then-index c =
    omega (
      arith,
      c.requires.first,
      row_length c.args.rows.now c.args.second c.index-rows-second.result c.requires.square c.requires.second c.index-rows-second.is,
    )
