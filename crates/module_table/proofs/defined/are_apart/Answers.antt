use Rattle.std.proofs.Common.{rules}
use Rattle.std.proofs.lemmas.Fn.{always_returns_same}
use Rattle.module_table.specs.Defined.{comes_before}
use Rattle.module_table.proofs.SortedRuns.{apart_where}
use Rattle.module_table.proofs.defined.are_apart.Goals as goal

pub returns : goal.returns
returns c =
    apart_where c.args.names.now c.args.runs.now c.is_sorted_by.result
    (c.is_sorted_by.ensures.cases (comes_before c.args.names.now) (always_returns_same _ _ _ (λ a r f called. search rules)))
