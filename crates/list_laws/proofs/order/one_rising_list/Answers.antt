use Rattle.std.proofs.Common.{◌≡◌}
use Rattle.std.specs.declared.cmp.Ordering.TheVariants.{Less}
use Rattle.list_laws.proofs.OneOrder.{same_order, less_strict}
use Rattle.list_laws.proofs.order.one_rising_list.Goals as goal

pub returns : goal.returns
returns g c xs ys up vp same =
    let cmp = g.T.Ord.cmp in
    same_order (λ a b. cmp a b ≡ Less) (less_strict cmp g.met.T.Ord.total) xs ys up vp (λ x. (same x).0) (λ x. (same x).1)
