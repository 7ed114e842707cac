-- Clauses that lead from one table and place to another, and more behind them.
use Rattle.std.proofs.Common.{ℕ, List, [], ◌∷◌, ◌++◌, slice_range, refl, sym, subst}
use Rattle.prolog_tokens.specs.declared.token.Token.{Token}
use Rattle.prolog_ops.specs.Table.{Ops}
use Rattle.prolog_terms.specs.Tree.{Tree}
use Rattle.clause_text.specs.Kept.{LeavesPlainly}
use Rattle.clause_text.specs.Clauses.{EndsFirst}
use Rattle.clause_text.specs.Pieces.{LeadTo}

pub lead_joined : (a b c : Ops) (text : List ℕ) (ts : List Token) (from mid to : ℕ) (trees others : List Tree) → LeadTo a text ts from trees b mid → LeadTo b text ts mid others c to
    → LeadTo a text ts from (trees ++ others) c to
lead_joined a b c text ts from mid to [] others (table, place) behind =
    subst (λ T. LeadTo T text ts from others c to) (sym table) (subst (λ n. LeadTo b text ts n others c to) (sym place) behind)
lead_joined a b c text ts from mid to (tree ∷ trees) others (next, then, ends, leaves, lead) behind =
    (next, then, ends, leaves, lead_joined then b c text ts next mid to trees others lead behind)

-- a clause more
pub lead_more : (table : Ops) (text : List ℕ) (ts : List Token) (from : ℕ) (trees : List Tree) (left : Ops) (at : ℕ) (tree : Tree) (then : Ops) (next : ℕ) → LeadTo table text ts from trees left at
    → EndsFirst ts at next → LeavesPlainly left text (slice_range ts at next) tree then → LeadTo table text ts from (trees ++ tree ∷ []) then next
lead_more table text ts from trees left at tree then next lead ends leaves =
    lead_joined table left then text ts from at next trees (tree ∷ []) lead (next, then, ends, leaves, (refl, refl))
