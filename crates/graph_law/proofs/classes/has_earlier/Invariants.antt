use Rattle.std.proofs.Common.{ℕ, ◌<◌}
use Rattle.graph_law.specs.Graph.{lists_of}
use Rattle.graph_law.specs.Reached.{MarkEachOther}
use Rattle.graph_law.proofs.classes.has_earlier.Given as goal

abbrev pub invariant-loop-earlier : goal.invariant-loop-earlier
invariant-loop-earlier l = (p : ℕ) → p < l.earlier → MarkEachOther (lists_of l.rows) l.node p → ⊥
