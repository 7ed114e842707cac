use Rattle.std.proofs.Common.{refl}
use Rattle.prolog_ops.proofs.opening_table.opening_infixes.Goals as goal

pub returns : goal.returns
returns c = rw (c.in_ok-put_each-9.ensures, c.in_ok-put_each-8.ensures, c.in_ok-put_each-7.ensures, c.in_ok-put_each-6.ensures, c.in_ok-put_each-5.ensures, c.in_ok-put_each-4.ensures, c.in_ok-put_each-3.ensures, c.in_ok-put_each-2.ensures, c.in_ok-put_each.ensures, c.new-ops.ensures) refl
