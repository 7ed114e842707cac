-- Clauses as they are kept: by their plain trees.
use Rattle.std.specs.Prelude.{◌≡◌, ℕ, List, [], ◌∷◌, ◌++◌, map}
use Rattle.prolog_tokens.specs.declared.token.Token.{Token}
use Rattle.prolog_ops.specs.Table.{Ops}
use Rattle.prolog_terms.specs.Tree.{Tree}
use Rattle.kept_clauses.specs.Plain.{plain}
use Rattle.clause_text.specs.Clauses.{LeavesAs, ReadsAs}

-- under the table the part is a clause with this plain tree, and the operator items of the clause leave the other table
pub record LeavesPlainly (table : Ops) (text : List ℕ) (part : List Token) (kept : Tree) (left : Ops) : Type 0 where
  pub tree : Tree
  pub kept_is : kept ≡ plain tree
  pub leaves : LeavesAs table text part tree left

-- from the table on, the tokens are clauses with these plain trees
abbrev pub ArePlainClauses : Ops → List ℕ → List Token → List Tree → Type 0
ArePlainClauses table text ts [] = ts ≡ []
ArePlainClauses table text ts (kept ∷ others) =
    (part : List Token) × (rest : List Token) × (left : Ops) × (ts ≡ part ++ rest) × LeavesPlainly table text part kept left
    × ArePlainClauses left text rest others

-- the text reads as clauses with these plain trees
pub record ReadsPlainly (text : List ℕ) (kept : List Tree) : Type 0 where
  pub trees : List Tree
  pub reads : ReadsAs text trees
  pub kept_are : kept ≡ map plain trees
