use Rattle.std.proofs.Common.{◌≡◌, Bool, true, false, not, refl, ap, sym, subst, ◌∙◌}
use Rattle.prolog_ops.specs.Table.{IsOps, ops_of}
use Rattle.prolog_ops.proofs.table.OpTable.is_opening.Goals as goal

unset : (mark : Bool) → not mark ≡ true → mark ≡ false
unset true is = cc
unset false is = refl

pub returns-clause-opening : goal.returns-clause-opening
returns-clause-opening c = λ is. ap ops_of (sym c.self.view_is) ∙ c.self.invariant.begun (unset c.self.inside.was_changed is)

pub returns-clause-table : goal.returns-clause-table
returns-clause-table c = subst (λ lists. IsOps (ops_of lists)) c.self.view_is c.self.invariant.is
