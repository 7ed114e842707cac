use Rattle.std.proofs.Common.{◌≡◌, sym, subst}
use Rattle.prolog_ops.specs.Table.{IsOps, Lists, ops_of, opening}
use Rattle.prolog_ops.proofs.OpeningOps.{opening_is, opening_lists}
use Rattle.prolog_ops.proofs.table.OpTable.opening.Goals as goal

pub invariant_of-result : goal.invariant_of-result
invariant_of-result c =
    let lists : Lists = record { prefixes = c.in_ok-prefixes.prefixes; infixes = c.in_ok-infixes.infixes; postfixes = c.new.result } in
    let same : ops_of lists ≡ opening =
    opening_lists c.in_ok-prefixes.prefixes c.in_ok-infixes.infixes c.new.result c.in_ok-prefixes.ensures c.in_ok-infixes.ensures c.new.ensures in
    record { is = subst IsOps (sym same) opening_is; begun = λ _. same }
