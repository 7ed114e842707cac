-- The passes that workers begin and end with, and what they find.
use Rattle.std.specs.Prelude.{◌≡◌, []}
use Rattle.node_claims.specs.Claims.{ClaimsValue, PassValue, IsPassOf}
use Rattle.search_pool.specs.Worker.{EndsWell}
use Rattle.search_pool.specs.declared.ended.Ended.TheVariants.{Finished}

-- the pass is of these claims, and has no node
abbrev pub IsIdlePass : ClaimsValue → PassValue → Type 0
IsIdlePass claims pass = IsPassOf claims pass × (pass.view.nodes ≡ [])

-- and it has seen each root finished
abbrev pub IsThrough : ClaimsValue → PassValue → Type 0
IsThrough claims pass = EndsWell claims (Finished pass)
