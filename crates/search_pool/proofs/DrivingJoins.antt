-- Two passes that have seen each root finished are one such pass.
use Rattle.std.proofs.Common.{◌≡◌, ℕ, List, [], ◌++◌, get_or, ap, ◌∙◌, subst, sym, arith}
use Rattle.list_laws.proofs.Counting.{times-append}
use Rattle.node_claims.specs.Claims.{ClaimsValue, PassValue}
use Rattle.node_claims.specs.Views.{both}
use Rattle.search_pool.specs.Driving.{IsThrough}

pub joins_through : (claims : ClaimsValue) (left right joined : PassValue) → IsThrough claims left → IsThrough claims right
    → joined ≡ record { table = left.table; view = both left.view right.view } → IsThrough claims joined
joins_through claims left right joined first second is =
    let nodes : left.view.nodes ++ right.view.nodes ≡ [] = ap (λ (l : List ℕ). l ++ right.view.nodes) first.1.0 ∙ second.1.0 in
    subst (IsThrough claims) (sym is) (
      first.0,
      (nodes, λ k d lt. omega (arith, first.1.1 k d lt, times-append (get_or claims.roots k d) left.view.seen right.view.seen)),
    )
