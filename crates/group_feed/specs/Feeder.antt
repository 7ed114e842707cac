-- What the feeder may feed, and what its pass has told where it ends without the groups.
use Rattle.std.specs.Prelude.{◌≡◌, ℕ, List, true}
use Rattle.graph_law.specs.Classes.{HasMember}
use Rattle.graph_law.specs.Graph.{Calls}
use Rattle.graph_law.specs.Reach.{IsReached}
use Rattle.node_claims.specs.Claims.{ClaimsValue, PassValue}
use Rattle.search_pool.specs.Driving.{IsIdlePass}
use Rattle.group_feed.specs.Ordered.{AreOrdered}

-- the groups are in a legal order, and the roots reach all their nodes
pub record AreFed (claims : ClaimsValue) (groups : List (List ℕ)) : Type 0 where
  pub ordered : AreOrdered claims.lists groups
  pub reached : (v : ℕ) → HasMember groups v → IsReached (Calls claims.lists) claims.roots v

-- the pass has no node, and has given back a book that had failed: every pass that takes the turn from then on finds it failed
abbrev pub HasToldFailure : ClaimsValue → PassValue → Type 0
HasToldFailure claims pass = IsIdlePass claims pass × (pass.view.told ≡ true)
