-- A text as clauses, one after another, each read under the operators that those before it leave, or up to the first that is refused.
use Rattle.std.specs.Prelude.{◌≡◌, ◌≢◌, ℕ, ◌+◌, ◌-◌, ◌<◌, ◌≤◌, ◌⊎◌, List, [], ◌∷◌, ◌++◌, Option, Some, Ok, Err, length, slice_get, option_map, map, sum_by}
use Rattle.std.specs.Arc.{arc_value}
use Rattle.std.specs.Str.{IsUtf8}
use Rattle.prolog_tokens.specs.declared.token.Kind.{Kind}
use Rattle.prolog_tokens.specs.declared.token.Kind.TheVariants.{End}
use Rattle.prolog_tokens.specs.declared.token.Token.{Token}
use Rattle.prolog_tokens.specs.Cut.{IsCut}
use Rattle.prolog_ops.specs.Table.{Ops, opening}
use Rattle.prolog_terms.specs.declared.read_fault.ReadFault.{ReadFault}
use Rattle.prolog_terms.specs.declared.read_fault.ReadFault.TheVariants as of_clauses
use Rattle.prolog_terms.specs.Tree.{Tree}
use Rattle.kept_clauses.specs.Words.{kept_tree}
use Rattle.prolog_terms.specs.Weight.{weight}
use Rattle.prolog_terms.specs.Words.{table_of}
use Rattle.prolog_terms.specs.Clause.{IsClauseOf, IsReadFault, IsOneClause}
use Rattle.clause_text.specs.declared.cause.Cause.TheVariants.{Stuck, TooDeep, NoEnd}
use Rattle.clause_text.specs.declared.fault.TextFault.{TextFault}
use Rattle.clause_text.specs.declared.fault.TextFault.TheVariants.{At, NoMemory}
use Rattle.clause_text.specs.declared.text_clauses.Clause.{Clause}
use Rattle.clause_text.specs.declared.text_clauses.TextClauses.{TextClauses}
use Rattle.clause_text.specs.Items.{items_of, items_on}

-- the operators that each text begins with
unfoldable pub opening_ops : Ops
opening_ops = opening

-- the tree that a clause is kept as, whose names are numbers in these names
abbrev pub clause_tree : List (List ℕ) → Clause → Tree
clause_tree names clause = kept_tree names (arc_value clause.list) clause.at

abbrev pub clause_trees : List (List ℕ) → List Clause → List Tree
clause_trees names clauses = map (clause_tree names) clauses

-- the clauses of a text as the trees that they are kept as
abbrev pub text_trees : TextClauses → List Tree
text_trees text = clause_trees text.names text.clauses.items

-- how much stands within the clauses, and two more for each: its End, and the word that it is at least
abbrev pub total_weight : List Tree → ℕ
total_weight trees = sum_by (λ tree. weight tree + 2) trees

-- the kind of the token at a place
abbrev pub kind_there : List Token → ℕ → Option Kind
kind_there ts at = option_map (λ t. t.kind) (slice_get ts at)

-- under the table the part is the clause with its End, and the operator items of the clause leave the other table
pub record LeavesAs (table : Ops) (text : List ℕ) (part : List Token) (tree : Tree) (left : Ops) : Type 0 where
  pub clause : IsClauseOf (table_of table) text part tree
  pub items : items_on (items_of tree) table ≡ Ok left

-- from the table on, the tokens are the clauses
abbrev pub AreClauses : Ops → List ℕ → List Token → List Tree → Type 0
AreClauses table text ts [] = ts ≡ []
AreClauses table text ts (tree ∷ trees) =
    (part : List Token) × (rest : List Token) × (left : Ops) × (ts ≡ part ++ rest) × LeavesAs table text part tree left × AreClauses left text rest trees

-- the text reads as the clauses
pub record ReadsAs (text : List ℕ) (trees : List Tree) : Type 0 where
  pub utf8 : IsUtf8 text
  pub tokens : List Token
  pub cut : IsCut text tokens
  pub clauses : AreClauses opening_ops text tokens trees

-- the part goes up to the first End, or no End stands in it and nothing behind it
pub record IsFirstPart (part rest : List Token) : Type 0 where
  pub one : IsOneClause part
  pub stops : (kind_there part (length part - 1) ≡ Some End) ⊎ (rest ≡ [])

-- a fault of a clause as one of the text
abbrev pub fault_of_clauses : ReadFault → TextFault
fault_of_clauses (of_clauses.Stuck at) = At Stuck at
fault_of_clauses (of_clauses.TooDeep at) = At TooDeep at
fault_of_clauses (of_clauses.NoEnd at) = At NoEnd at
fault_of_clauses of_clauses.NoMemory = NoMemory

-- under the table the part is no clause
abbrev pub IsUnread : Ops → List ℕ → List Token → TextFault → Type 0
IsUnread table text part fault = (of : ReadFault) × (fault ≡ fault_of_clauses of) × IsReadFault (table_of table) text part of

-- or it is one, but its operator items are refused
abbrev pub IsUnset : Ops → List ℕ → List Token → TextFault → Type 0
IsUnset table text part fault = (tree : Tree) × IsClauseOf (table_of table) text part tree × (items_on (items_of tree) table ≡ Err fault)

abbrev pub IsPartFault : Ops → List ℕ → List Token → TextFault → Type 0
IsPartFault table text part fault = IsUnread table text part fault ⊎ IsUnset table text part fault

-- from the table on, the tokens are the clauses and then a part with the fault
abbrev pub FaultStandsBehind : Ops → List ℕ → List Token → List Tree → TextFault → Type 0
FaultStandsBehind table text ts [] fault =
    (part : List Token) × (rest : List Token) × (ts ≡ part ++ rest) × IsFirstPart part rest × IsPartFault table text part fault
FaultStandsBehind table text ts (tree ∷ trees) fault =
    (part : List Token) × (rest : List Token) × (left : Ops) × (ts ≡ part ++ rest) × LeavesAs table text part tree left
    × FaultStandsBehind left text rest trees fault

-- the fault is that of the first part of the tokens that is refused
pub record HasClauseFault (table : Ops) (text : List ℕ) (ts : List Token) (fault : TextFault) : Type 0 where
  pub before : List Tree
  pub stands : FaultStandsBehind table text ts before fault

-- from a place on, the first End stands directly before the other place, or no End stands at all
pub record EndsFirst (ts : List Token) (from to : ℕ) : Type 0 where
  pub some : from < to
  pub within : to ≤ length ts
  pub none : (k : ℕ) → from ≤ k → k + 1 < to → kind_there ts k ≢ Some End
  pub stops : (kind_there ts (to - 1) ≡ Some End) ⊎ (to ≡ length ts)
