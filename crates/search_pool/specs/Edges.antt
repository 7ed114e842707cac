-- What an edge comes to that is settled without the turn.
use Rattle.std.specs.Prelude.{false, Option, None, Some}
use Rattle.search_stack.specs.Search.{SearchValue}
use Rattle.node_claims.specs.Claims.{ClaimsValue, PassValue}
use Rattle.search_pool.specs.Worker.{IsSearching, StopsAt}
use Rattle.search_pool.specs.declared.stopped.Stopped.{Stopped}

-- the edge is settled, or the search stops
abbrev pub SettlesEdge : ClaimsValue → PassValue → SearchValue → Option Stopped → Type 0
SettlesEdge claims pass search None = IsSearching claims pass search false
SettlesEdge claims pass search (Some stopped) = StopsAt claims pass search stopped
