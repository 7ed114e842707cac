-- Clauses that stand side by side, where the table that the first of them is read with is known.
use Rattle.std.specs.Prelude.{◌≡◌, ◌≢◌, ℕ, ◌-◌, ◌<◌, ◌≤◌, ◌⊎◌, List, [], ◌∷◌, ◌++◌, Some, true, length, map, slice_range}
use Rattle.prolog_tokens.specs.declared.limits.TheConstants.{MOST_BYTES}
use Rattle.prolog_tokens.specs.declared.token.Kind.TheVariants.{End}
use Rattle.prolog_tokens.specs.declared.token.Token.{Token}
use Rattle.prolog_names.specs.Numbers.{AreNumbered}
use Rattle.prolog_names.specs.declared.numbers.Numbered.{Numbered}
use Rattle.prolog_ops.specs.Table.{Ops}
use Rattle.prolog_terms.specs.declared.node.Node.{Node}
use Rattle.prolog_terms.specs.Terms.{root_tree, tree_in}
use Rattle.prolog_terms.specs.Tree.{Tree}
use Rattle.prolog_terms.specs.Words.{table_of}
use Rattle.prolog_terms.specs.Clause.{ArePart, IsClauseOf}
use Rattle.clause_text.specs.declared.fault.TextFault.{TextFault}
use Rattle.clause_text.specs.declared.fault.TextFault.TheVariants.{NoMemory}
use Rattle.clause_text.specs.declared.piece.Stretch.{Stretch}
use Rattle.clause_text.specs.declared.piece.Piece.{Piece}
use Rattle.clause_text.specs.declared.piece.PieceEnd.{PieceEnd}
use Rattle.clause_text.specs.declared.piece.PieceEnd.TheVariants.{Whole, AtOperators, Refused}
use Rattle.clause_text.specs.declared.piece.ReadEnd.{ReadEnd}
use Rattle.clause_text.specs.declared.piece.ReadEnd.TheVariants as read_end
use Rattle.clause_text.specs.declared.piece.ReadStretch.{ReadStretch}
use Rattle.kept_clauses.specs.Plain.{plain}
use Rattle.kept_clauses.specs.Words.{kept_tree, Kept}
use Rattle.clause_text.specs.Kept.{LeavesPlainly}
use Rattle.clause_text.specs.Items.{has_some, items_of}
use Rattle.clause_text.specs.Clauses.{IsPartFault, EndsFirst, clause_tree, clause_trees, kind_there}

-- the tokens stand side by side in a text that isn't too long, each with the number of its name
pub record AreRowTokens (text : List ℕ) (tokens : List Token) (row : Numbered) : Type 0 where
  pub small : length text ≤ MOST_BYTES
  pub part : ArePart text tokens
  pub numbered : AreNumbered text row.names tokens row.numbers.items

-- from the table on, the tokens from a place up to another are clauses with these plain trees, and leave the other table
abbrev pub LeadTo : Ops → List ℕ → List Token → ℕ → List Tree → Ops → ℕ → Type 0
LeadTo table text ts from [] left to = (table ≡ left) × (from ≡ to)
LeadTo table text ts from (tree ∷ trees) left to =
    (next : ℕ) × (then : Ops) × EndsFirst ts from next × LeavesPlainly table text (slice_range ts from next) tree then × LeadTo then text ts next trees left to

-- a clause ends directly before the place
pub record IsBehindClause (ts : List Token) (to : ℕ) : Type 0 where
  pub within : to ≤ length ts
  pub stops : (kind_there ts (to - 1) ≡ Some End) ⊎ (to ≡ length ts)

-- the stretch has tokens, and ends with a clause
pub record IsStretch (ts : List Token) (stretch : Stretch) : Type 0 where
  pub some : stretch.from < stretch.to
  pub ends : IsBehindClause ts stretch.to

-- the stretches stand side by side from a place up to another
abbrev pub AreStretches : List Token → ℕ → List Stretch → ℕ → Type 0
AreStretches ts from [] to = from ≡ to
AreStretches ts from (stretch ∷ stretches) to = (stretch.from ≡ from) × IsStretch ts stretch × AreStretches ts stretch.to stretches to

-- what stands behind the clauses of a piece, which end at a place: nothing more up to the end of its stretch, a clause that is its own plain tree, or a
-- part that is none;
-- the names are those that the clauses' names are numbers in
abbrev pub EndIs : List (List ℕ) → Ops → List ℕ → List Token → ℕ → ℕ → PieceEnd → Type 0
EndIs names table text ts at to Whole = at ≡ to
EndIs names table text ts at to (AtOperators clause place) =
    EndsFirst ts at place × IsClauseOf (table_of table) text (slice_range ts at place) (clause_tree names clause)
    × (plain (clause_tree names clause) ≡ clause_tree names clause)
EndIs names table text ts at to (Refused fault) = fault ≢ NoMemory → (next : ℕ) × EndsFirst ts at next × IsPartFault table text (slice_range ts at next) fault

-- what is read of the stretch from a place up to another under the table, which the clauses of the piece leave as it is
pub record IsPiece (names : List (List ℕ)) (table : Ops) (text : List ℕ) (ts : List Token) (from to : ℕ) (piece : Piece) : Type 0 where
  pub some : from < to
  pub behind : IsBehindClause ts to
  pub told : piece.to ≡ to
  pub at : ℕ
  pub clauses : LeadTo table text ts from (clause_trees names piece.clauses.items) table at
  pub end : EndIs names table text ts at to piece.end

-- the trees that end at those places of the nodes
abbrev pub read_trees : List (List ℕ) → ReadStretch → List Tree
read_trees names read = map (tree_in names read.nodes) read.ends.items

-- what stands behind them, up to a place: nothing more, a clause that is the last of the nodes and sets operators, or a part that is none
abbrev pub ReadEndIs : List (List ℕ) → Ops → List ℕ → List Token → ℕ → ℕ → List Node → ReadEnd → Type 0
ReadEndIs names table text ts at to nodes read_end.Whole = at ≡ to
ReadEndIs names table text ts at to nodes (read_end.AtOperators place) =
    EndsFirst ts at place × IsClauseOf (table_of table) text (slice_range ts at place) (root_tree names nodes)
    × (has_some (items_of (root_tree names nodes)) ≡ true)
ReadEndIs names table text ts at to nodes (read_end.Refused fault) =
    fault ≢ NoMemory → (next : ℕ) × EndsFirst ts at next × IsPartFault table text (slice_range ts at next) fault

-- the same, where the clause that sets operators is the one of a list that begins at that word
abbrev pub KeptEndIs : List (List ℕ) → Ops → List ℕ → List Token → ℕ → ℕ → Kept → ℕ → ReadEnd → Type 0
KeptEndIs names table text ts at to kept word read_end.Whole = at ≡ to
KeptEndIs names table text ts at to kept word (read_end.AtOperators place) =
    EndsFirst ts at place × IsClauseOf (table_of table) text (slice_range ts at place) (kept_tree names kept word)
    × (plain (kept_tree names kept word) ≡ kept_tree names kept word)
KeptEndIs names table text ts at to kept word (read_end.Refused fault) =
    fault ≢ NoMemory → (next : ℕ) × EndsFirst ts at next × IsPartFault table text (slice_range ts at next) fault

-- a stretch as a piece, whose clauses don't share their list yet
pub record IsRead (names : List (List ℕ)) (table : Ops) (text : List ℕ) (ts : List Token) (from to : ℕ) (read : ReadStretch) : Type 0 where
  pub some : from < to
  pub behind : IsBehindClause ts to
  pub at : ℕ
  pub clauses : LeadTo table text ts from (map plain (read_trees names read)) table at
  pub end : ReadEndIs names table text ts at to read.nodes read.end

-- the pieces are read side by side from a place up to another
abbrev pub ArePieces : List (List ℕ) → Ops → List ℕ → List Token → ℕ → List Piece → ℕ → Type 0
ArePieces names table text ts from [] to = from ≡ to
ArePieces names table text ts from (piece ∷ pieces) to = (next : ℕ) × IsPiece names table text ts from next piece × ArePieces names table text ts next pieces to

-- clauses are added that lead from one table and place to another
pub record AreAdded (table : Ops) (text : List ℕ) (ts : List Token) (from : ℕ) (before after : List Tree) (left : Ops) (to : ℕ) : Type 0 where
  pub more : List Tree
  pub all : after ≡ before ++ more
  pub lead : LeadTo table text ts from more left to

-- some clauses lead from the table and the place to a part with the fault
pub record IsFaultAhead (table : Ops) (text : List ℕ) (ts : List Token) (from : ℕ) (fault : TextFault) : Type 0 where
  pub before : List Tree
  pub left : Ops
  pub at : ℕ
  pub lead : LeadTo table text ts from before left at
  pub next : ℕ
  pub part : EndsFirst ts at next
  pub is : IsPartFault left text (slice_range ts at next) fault
