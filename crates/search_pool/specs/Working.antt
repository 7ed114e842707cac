-- What a worker keeps between two turns, which roots it has claimed, and what it owes for a group that it closes.
use Rattle.std.specs.Prelude.{◌≡◌, ℕ, ◌-◌, ◌+◌, ◌<◌, ◌≤◌, Bool, true, false, List, [], ◌++◌, length, slice_index, slice_index_or, take}
use Rattle.std.specs.Prelude.{None, Some, All, Contains, ⊤}
use Rattle.list_laws.specs.Counts.{times, flat}
use Rattle.search_stack.specs.GoodSearch.{IsGood}
use Rattle.search_stack.specs.Search.{SearchValue}
use Rattle.group_release.specs.Book.{BookValue}
use Rattle.node_claims.specs.Claims.{ClaimsValue, PassValue, TurnValue, nodes_with}
use Rattle.node_claims.specs.Steps.{MayGive}
use Rattle.node_claims.specs.Views.{Noted, outline_of}
use Rattle.search_pool.specs.Worker.{EndsWell, IsWorking}
use Rattle.search_pool.specs.declared.worker.stretch.Stretch.{Stretch}
use Rattle.search_pool.specs.declared.worker.outcome.Worker.{Worker}
use Rattle.search_pool.specs.declared.worker.outcome.Outcome.{Outcome}
use Rattle.search_pool.specs.declared.worker.outcome.Outcome.TheVariants.{On, Ended as ended_as}

-- each of these is one of the roots, and a node of the graph
abbrev pub AreRootsOf : ClaimsValue → List ℕ → Type 0
AreRootsOf claims nodes = All (λ root. (root < length claims.lists) × Contains claims.roots root) nodes

-- the pass has just the nodes of the search, which is good for what the pass has seen finished; roots were handed out to it; and so many of
-- all roots were seen finished
pub record IsAtWork (claims : ClaimsValue) (worker : Worker) (opened : Bool) : Type 0 where
  pub working : IsWorking claims worker.pass worker.search None opened
  pub handed : AreRootsOf claims worker.stretch.roots.items
  pub within : worker.seen_roots ≤ length claims.roots
  pub seen : All (λ root. 0 < times root worker.pass.view.seen) (take worker.seen_roots claims.roots)

-- it goes on with its last edge settled, or has ended well
abbrev pub GoesWell : ClaimsValue → Outcome → Type 0
GoesWell claims (On worker) = IsAtWork claims worker false
GoesWell claims (ended_as ended) = EndsWell claims ended

-- the worker has won this root, which isn't pushed yet
pub record HasWon (claims : ClaimsValue) (worker : Worker) (root : ℕ) : Type 0 where
  pub working : IsWorking claims worker.pass worker.search (Some root) true
  pub handed : AreRootsOf claims worker.stretch.roots.items
  pub within : worker.seen_roots ≤ length claims.roots
  pub seen : All (λ root. 0 < times root worker.pass.view.seen) (take worker.seen_roots claims.roots)
  pub below : root < length claims.lists
  pub is_root : Contains claims.roots root

-- the roots of a stretch are the same, and the pass has claimed each of them that comes before the next one and didn't before
pub record ClaimsOn (before after : Stretch) (pass : PassValue) : Type 0 where
  pub roots : after.roots ≡ before.roots
  pub onward : before.next ≤ after.next
  pub claimed : (k : ℕ) → before.next ≤ k → k < after.next → (found : ℕ) × Noted (slice_index before.roots.items k) found pass.view.looks

-- it has claimed one root more of the stretch, or several, in their order, or has ended
abbrev pub HasClaimedOn : Stretch → Outcome → Type 0
HasClaimedOn stretch (On worker) = ClaimsOn stretch worker.stretch worker.pass × (stretch.next < worker.stretch.next)
HasClaimedOn stretch (ended_as ended) = ⊤

-- it goes on with this pass and these roots, or has ended
abbrev pub StaysWith : PassValue → Stretch → Outcome → Type 0
StaysWith pass stretch (On worker) = (worker.pass ≡ pass) × (worker.stretch ≡ stretch)
StaysWith pass stretch (ended_as ended) = ⊤

-- the turn is of these claims
abbrev pub IsTurnOf : ClaimsValue → TurnValue → Type 0
IsTurnOf claims turn = (turn.table ≡ claims.table) × ((turn.view.lists ≡ claims.lists) × (turn.view.roots ≡ claims.roots))

-- with the turn given back, a worker goes on with this search, which is good for what is released; and so many roots are released or were seen
pub record ContinuesWith (claims : ClaimsValue) (turn : TurnValue) (search : SearchValue) (seen_roots : ℕ) (opened : Bool) : Type 0 where
  pub of : IsTurnOf claims turn
  pub wants_nothing : search.wanted ≡ None
  pub within : seen_roots ≤ length claims.roots
  pub roots : All (λ root. 0 < times root (turn.view.seen ++ flat turn.book.groups)) (take seen_roots claims.roots)
  pub good : IsGood claims.lists claims.roots (flat turn.book.groups) opened search.stack

-- the group that was released last
abbrev pub last_group : BookValue → List ℕ
last_group book = slice_index_or book.groups (length book.groups - 1) []

-- the turn with these nodes closed too
abbrev pub with_closed : TurnValue → List ℕ → TurnValue
with_closed turn nodes = record turn { taken = record turn.taken { closed = turn.taken.closed ++ nodes } }

-- a worker has the turn, and may give it back with this search and go on: the search is good for what is released; so many roots were seen
-- finished; and as the turn was taken no node stood twice
pub record HasTurn (claims : ClaimsValue) (turn : TurnValue) (search : SearchValue) (seen_roots : ℕ) : Type 0 where
  pub of : IsTurnOf claims turn
  pub lists : turn.book.lists ≡ claims.lists
  pub roots : turn.book.roots ≡ claims.roots
  pub wants_nothing : search.wanted ≡ None
  pub within : seen_roots ≤ length claims.roots
  pub seen : All (λ root. 0 < times root turn.view.seen) (take seen_roots claims.roots)
  pub good : IsGood claims.lists claims.roots (flat turn.book.groups) false search.stack
  pub may : MayGive turn.view turn.taken (outline_of turn.book) (nodes_with search None)
  pub apart : (x : ℕ) → times x turn.view.nodes + (times x turn.taken.book.kept + times x (flat turn.taken.book.released)) ≤ 1
  pub below : (x : ℕ) → 0 < times x turn.view.nodes + (times x turn.taken.book.kept + times x (flat turn.taken.book.released)) → x < length claims.lists

-- a group was released and none of its nodes is closed yet: each stands there once, is a node of the graph, and stood with the pass or was kept
pub record MayCloseAll (turn : TurnValue) : Type 0 where
  pub some : 0 < length turn.book.groups
  pub none_closed : (x : ℕ) → Contains (last_group turn.book) x → times x turn.taken.closed ≡ 0
  pub once : (x : ℕ) → times x (last_group turn.book) ≤ 1
  pub below : (x : ℕ) → Contains (last_group turn.book) x → x < length turn.view.lists
  pub stood : (x : ℕ) → Contains (last_group turn.book) x → 0 < times x turn.view.nodes + times x turn.taken.book.kept
