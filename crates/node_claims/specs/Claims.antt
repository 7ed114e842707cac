-- What contracts see of the claims, of a pass and of a turn.
use Rattle.std.specs.Prelude.{◌≡◌, ℕ, List, [], ◌∷◌, ◌++◌, Option, None, Some}
use Rattle.atomic_table.specs.Seated.{TableId}
use Rattle.search_stack.specs.Search.{SearchValue}
use Rattle.group_release.specs.Book.{BookValue}
use Rattle.group_release.specs.Outline.{nodes_on}
use Rattle.node_claims.specs.declared.claims.Claimed.{Claimed}
use Rattle.node_claims.specs.declared.claims.Claimed.TheVariants as claimed_as
use Rattle.node_claims.specs.declared.claims.Looked.{Looked}
use Rattle.node_claims.specs.declared.claims.Looked.TheVariants as looked_as
use Rattle.node_claims.specs.declared.view.Taken.{Taken}
use Rattle.node_claims.specs.declared.view.View.{View}

-- which table it is, and the graph and the roots that its book was made with
pub record ClaimsValue : Type 0 where
  pub table : TableId
  pub lists : List (List ℕ)
  pub roots : List ℕ

pub record PassValue : Type 0 where
  pub table : TableId
  pub view : View

-- the view of the pass that took the turn, what it took with the nodes closed since, and the book as it is
pub record TurnValue : Type 0 where
  pub table : TableId
  pub view : View
  pub taken : Taken
  pub book : BookValue

-- the pass is of these claims
abbrev pub IsPassOf : ClaimsValue → PassValue → Type 0
IsPassOf claims pass = (pass.table ≡ claims.table) × ((pass.view.lists ≡ claims.lists) × (pass.view.roots ≡ claims.roots))

-- the number that the answer stands for
abbrev pub claim_number : Claimed → ℕ
claim_number claimed_as.Won = 0
claim_number claimed_as.Held = 1
claim_number claimed_as.Done = 2

abbrev pub look_number : Looked → ℕ
look_number looked_as.Unseen = 0
look_number looked_as.Held = 1
look_number looked_as.Done = 2

-- the nodes of the search, and the node that isn't pushed yet, where there is one
abbrev pub last_one : Option ℕ → List ℕ
last_one None = []
last_one (Some node) = node ∷ []

abbrev pub nodes_with : SearchValue → Option ℕ → List ℕ
nodes_with search unopened = nodes_on search.stack ++ last_one unopened
