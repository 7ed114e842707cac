-- A worker between two turns: its pass, and the search that it runs.
use Rattle.std.specs.Prelude.{◌≡◌, ℕ, ◌<◌, Bool, true, false, [], Option, None, Some, All}
use Rattle.list_laws.specs.Counts.{times}
use Rattle.search_stack.specs.GoodSearch.{IsGood}
use Rattle.search_stack.specs.Search.{SearchValue, IsLastBegun, IsOn, IsRipe}
use Rattle.search_stack.specs.Stack.{size}
use Rattle.node_claims.specs.Claims.{ClaimsValue, PassValue, IsPassOf, nodes_with}
use Rattle.node_claims.specs.Views.{Noted, held_word}
use Rattle.search_pool.specs.declared.ended.Ended.{Ended}
use Rattle.search_pool.specs.declared.ended.Ended.TheVariants.{Finished, NoMemory}
use Rattle.search_pool.specs.declared.stopped.Stopped.{Stopped}
use Rattle.search_pool.specs.declared.stopped.Stopped.TheVariants.{Ripe, Wants, Unopened, NoRoom}

-- the pass has just the nodes of the search, and the node that it won and that isn't pushed yet, where there is one
pub record HasNodes (claims : ClaimsValue) (pass : PassValue) (search : SearchValue) (unopened : Option ℕ) : Type 0 where
  pub pass_of : IsPassOf claims pass
  pub nodes : pass.view.nodes ≡ nodes_with search unopened

-- and the search wants nothing, and is good for what the pass has seen finished; the last edge that its top has begun is open or not
pub record IsWorking (claims : ClaimsValue) (pass : PassValue) (search : SearchValue) (unopened : Option ℕ) (opened : Bool) : Type 0 where
  pub has : HasNodes claims pass search unopened
  pub wants_nothing : search.wanted ≡ None
  pub good : IsGood claims.lists claims.roots pass.view.seen opened search.stack

-- and it isn't empty, and all that the pass has is on it
pub record IsSearching (claims : ClaimsValue) (pass : PassValue) (search : SearchValue) (opened : Bool) : Type 0 where
  pub working : IsWorking claims pass search None opened
  pub some : 0 < size search.stack

-- the last edge of the search leads to this node, which was found held and isn't on the search
pub record IsElsewhere (pass : PassValue) (search : SearchValue) (node : ℕ) : Type 0 where
  pub last : IsLastBegun search.stack node
  pub held : Noted node held_word pass.view.looks
  pub away : IsOn search.stack node → ⊥

-- what a search comes to that runs without the turn
abbrev pub StopsAt : ClaimsValue → PassValue → SearchValue → Stopped → Type 0
StopsAt claims pass search Ripe = IsSearching claims pass search false × IsRipe search.stack
StopsAt claims pass search (Wants node) = IsSearching claims pass search true × IsElsewhere pass search node
StopsAt claims pass search (Unopened node) = HasNodes claims pass search (Some node)
StopsAt claims pass search NoRoom = HasNodes claims pass search None

-- how a worker ends: it has seen each root finished and has nothing, or memory was wanting and it gives back what it has. The book has failed
-- then, which every other worker sees at its next turn.
abbrev pub EndsWell : ClaimsValue → Ended → Type 0
EndsWell claims (Finished pass) = IsPassOf claims pass × ((pass.view.nodes ≡ []) × All (λ root. 0 < times root pass.view.seen) claims.roots)
EndsWell claims (NoMemory pass search unopened) = HasNodes claims pass search unopened × (pass.view.told ≡ true)
