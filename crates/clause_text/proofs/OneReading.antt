-- Tokens read as one list of clauses, or have one fault, and never both.
use Rattle.std.proofs.Common.{◌≡◌, ℕ, List, [], ◌∷◌, Ok, Err, sym, ap, ◌∙◌, subst, refl, inl, inr}
use Rattle.prolog_tokens.specs.declared.token.Token.{Token}
use Rattle.prolog_tokens.proofs.Between.{one_cut}
use Rattle.prolog_ops.specs.Table.{Ops, opening, IsOps}
use Rattle.prolog_ops.proofs.OpeningOps.{opening_is}
use Rattle.prolog_terms.specs.Tree.{Tree}
use Rattle.prolog_terms.specs.Words.{table_of}
use Rattle.prolog_terms.specs.Clause.{IsClauseOf}
use Rattle.prolog_terms.proofs.ReaderTables.{table_is}
use Rattle.prolog_terms.proofs.TokenWords.{AreSpelled, spelled_front, spelled_behind, cut_spelled}
use Rattle.prolog_terms.proofs.ClausesOf.{one_tree, one_read_fault, clause_no_fault}
use Rattle.clause_text.specs.declared.fault.TextFault.{TextFault}
use Rattle.clause_text.specs.Items.{Answer, items_of, items_on}
use Rattle.clause_text.specs.Clauses.{LeavesAs, AreClauses, ReadsAs, IsFirstPart, IsPartFault, FaultStandsBehind, HasClauseFault, fault_of_clauses, opening_ops}
use Rattle.clause_text.proofs.FirstParts.{same_parts, clause_first, some_part}
use Rattle.clause_text.proofs.KeptTables.{items_keep}

pub opening_ops-is : opening ≡ opening_ops
unfolding opening_ops
opening_ops-is = refl

pub opening_ops_are : IsOps opening_ops
opening_ops_are = subst IsOps opening_ops-is opening_is

-- one part, under one table
module _ (table : Ops) (ok : IsOps table) (text : List ℕ) where
  first_of_clause : (part rest : List Token) (tree : Tree) → IsClauseOf (table_of table) text part tree → IsFirstPart part rest
  first_of_clause part rest tree clause = clause_first (table_of table) (table_is table ok) text part rest tree clause

  -- what two readings of it leave
  pub record SameLeft (tree second : Tree) (left other : Ops) : Type 0 where
    pub trees : tree ≡ second
    pub tables : left ≡ other

  same_left : (part : List Token) (tree second : Tree) (left other : Ops) → AreSpelled text part → LeavesAs table text part tree left → LeavesAs table text part second other
      → SameLeft tree second left other
  same_left part tree second left other spelled leaves also =
      let trees : tree ≡ second = one_tree (table_of table) (table_is table ok) text part tree second spelled leaves.clause also.clause in
      let both : ◌≡◌ {A = Answer} (Ok left) (Ok other) = sym leaves.items ∙ (ap (λ t. items_on (items_of t) table) trees ∙ also.items) in
      record { trees = trees; tables = cc }

  -- a part that reads has no fault
  left_no_fault : (part : List Token) (tree : Tree) (left : Ops) (fault : TextFault) → AreSpelled text part → LeavesAs table text part tree left → IsPartFault table text part fault → ⊥
  left_no_fault part tree left fault spelled leaves (inl unread) = clause_no_fault (table_of table) text part tree unread.0 spelled leaves.clause unread.2
  left_no_fault part tree left fault spelled leaves (inr unset) =
      let trees : tree ≡ unset.0 = one_tree (table_of table) (table_is table ok) text part tree unset.0 spelled leaves.clause unset.1 in
      let both : Ok left ≡ Err fault = sym leaves.items ∙ (ap (λ t. items_on (items_of t) table) trees ∙ unset.2) in
      cc

  one_part_fault : (part : List Token) (fault second : TextFault) → AreSpelled text part → IsPartFault table text part fault → IsPartFault table text part second → fault ≡ second
  one_part_fault part fault second spelled (inl unread) (inl also) =
      let same : unread.0 ≡ also.0 = one_read_fault (table_of table) text part unread.0 also.0 spelled unread.2 also.2 in
      unread.1 ∙ (ap fault_of_clauses same ∙ sym also.1)
  one_part_fault part fault second spelled (inl unread) (inr unset) = absurd (clause_no_fault (table_of table) text part unset.0 unread.0 spelled unset.1 unread.2)
  one_part_fault part fault second spelled (inr unset) (inl unread) = absurd (clause_no_fault (table_of table) text part unset.0 unread.0 spelled unset.1 unread.2)
  one_part_fault part fault second spelled (inr unset) (inr also) =
      let trees : unset.0 ≡ also.0 = one_tree (table_of table) (table_is table ok) text part unset.0 also.0 spelled unset.1 also.1 in
      let both : ◌≡◌ {A = Answer} (Err fault) (Err second) = sym unset.2 ∙ (ap (λ t. items_on (items_of t) table) trees ∙ also.2) in
      cc

module _ (text : List ℕ) where
  pub one_list : (table : Ops) → IsOps table → (ts : List Token) (trees others : List Tree) → AreSpelled text ts → AreClauses table text ts trees → AreClauses table text ts others
      → trees ≡ others
  one_list table ok ts [] [] spelled are also = refl
  one_list table ok ts [] (other ∷ others) spelled are (part, rest, left, is, leaves, also) =
      absurd (some_part part rest (first_of_clause table ok text part rest other leaves.clause) (sym are ∙ is))
  one_list table ok ts (tree ∷ trees) [] spelled (part, rest, left, is, leaves, are) also =
      absurd (some_part part rest (first_of_clause table ok text part rest tree leaves.clause) (sym also ∙ is))
  one_list table ok ts (tree ∷ trees) (other ∷ others) spelled (part, rest, left, is, leaves, are) (first, after, beside, begins, fact, also) =
      let same = same_parts part rest first after (sym is ∙ begins) (first_of_clause table ok text part rest tree leaves.clause)
      (first_of_clause table ok text first after other fact.clause) in
      let all = subst (AreSpelled text) is spelled in
      let ends = same_left table ok text part tree other left beside (spelled_front text part rest all) leaves
      (subst (λ us. LeavesAs table text us other beside) (sym same.parts) fact) in
      let behind = subst (λ us. AreClauses left text us others) (sym same.rests) (subst (λ t. AreClauses t text after others) (sym ends.tables) also) in
      let tails = one_list left (items_keep (items_of tree) table left ok leaves.items) rest trees others (spelled_behind text part rest all) are behind in
      λ i. ends.trees i ∷ tails i

  -- clauses and a fault behind clauses exclude each other
  pub list_no_fault : (table : Ops) → IsOps table → (ts : List Token) (trees before : List Tree) (fault : TextFault) → AreSpelled text ts → AreClauses table text ts trees
      → FaultStandsBehind table text ts before fault → ⊥
  list_no_fault table ok ts [] [] fault spelled are (part, rest, is, first, wrong) = some_part part rest first (sym are ∙ is)
  list_no_fault table ok ts [] (other ∷ before) fault spelled are (part, rest, left, is, leaves, behind) =
      some_part part rest (first_of_clause table ok text part rest other leaves.clause) (sym are ∙ is)
  list_no_fault table ok ts (tree ∷ trees) [] fault spelled (part, rest, left, is, leaves, are) (other, after, begins, first, wrong) =
      let same = same_parts part rest other after (sym is ∙ begins) (first_of_clause table ok text part rest tree leaves.clause) first in
      left_no_fault table ok text part tree left fault (spelled_front text part rest (subst (AreSpelled text) is spelled)) leaves
      (subst (λ us. IsPartFault table text us fault) (sym same.parts) wrong)
  list_no_fault table ok ts (tree ∷ trees) (other ∷ before) fault spelled (part, rest, left, is, leaves, are) (first, after, beside, begins, fact, behind) =
      let same = same_parts part rest first after (sym is ∙ begins) (first_of_clause table ok text part rest tree leaves.clause)
      (first_of_clause table ok text first after other fact.clause) in
      let all = subst (AreSpelled text) is spelled in
      let ends = same_left table ok text part tree other left beside (spelled_front text part rest all) leaves
      (subst (λ us. LeavesAs table text us other beside) (sym same.parts) fact) in
      list_no_fault left (items_keep (items_of tree) table left ok leaves.items) rest trees before fault (spelled_behind text part rest all) are
      (subst (λ us. FaultStandsBehind left text us before fault) (sym same.rests) (subst (λ t. FaultStandsBehind t text after before fault) (sym ends.tables) behind))

  one_behind : (table : Ops) → IsOps table → (ts : List Token) (before others : List Tree) (fault second : TextFault) → AreSpelled text ts → FaultStandsBehind table text ts before fault
      → FaultStandsBehind table text ts others second → fault ≡ second
  one_behind table ok ts [] [] fault second spelled (part, rest, is, first, wrong) (other, after, begins, also, too) =
      let same = same_parts part rest other after (sym is ∙ begins) first also in
      one_part_fault table ok text part fault second (spelled_front text part rest (subst (AreSpelled text) is spelled)) wrong
      (subst (λ us. IsPartFault table text us second) (sym same.parts) too)
  one_behind table ok ts [] (tree ∷ others) fault second spelled (part, rest, is, first, wrong) (other, after, left, begins, leaves, behind) =
      let same = same_parts other after part rest (sym begins ∙ is) (first_of_clause table ok text other after tree leaves.clause) first in
      absurd (left_no_fault table ok text other tree left fault (spelled_front text other after (subst (AreSpelled text) begins spelled)) leaves
      (subst (λ us. IsPartFault table text us fault) (sym same.parts) wrong))
  one_behind table ok ts (tree ∷ before) [] fault second spelled (part, rest, left, is, leaves, behind) (other, after, begins, first, wrong) =
      let same = same_parts part rest other after (sym is ∙ begins) (first_of_clause table ok text part rest tree leaves.clause) first in
      absurd (left_no_fault table ok text part tree left second (spelled_front text part rest (subst (AreSpelled text) is spelled)) leaves
      (subst (λ us. IsPartFault table text us second) (sym same.parts) wrong))
  one_behind table ok ts (tree ∷ before) (other ∷ others) fault second spelled (part, rest, left, is, leaves, behind) (first, after, beside, begins, fact, too) =
      let same = same_parts part rest first after (sym is ∙ begins) (first_of_clause table ok text part rest tree leaves.clause)
      (first_of_clause table ok text first after other fact.clause) in
      let all = subst (AreSpelled text) is spelled in
      let ends = same_left table ok text part tree other left beside (spelled_front text part rest all) leaves
      (subst (λ us. LeavesAs table text us other beside) (sym same.parts) fact) in
      one_behind left (items_keep (items_of tree) table left ok leaves.items) rest before others fault second (spelled_behind text part rest all) behind
      (subst (λ us. FaultStandsBehind left text us others second) (sym same.rests) (subst (λ t. FaultStandsBehind t text after others second) (sym ends.tables) too))

  pub one_clause_fault : (table : Ops) → IsOps table → (ts : List Token) (fault second : TextFault) → AreSpelled text ts → HasClauseFault table text ts fault
      → HasClauseFault table text ts second → fault ≡ second
  one_clause_fault table ok ts fault second spelled has also = one_behind table ok ts has.before also.before fault second spelled has.stands also.stands

-- a text has one reading
pub one_reading : (text : List ℕ) (trees others : List Tree) → ReadsAs text trees → ReadsAs text others → trees ≡ others
one_reading text trees others reads also =
    let same : also.tokens ≡ reads.tokens = one_cut text also.tokens reads.tokens also.cut reads.cut in
    one_list text opening_ops opening_ops_are reads.tokens trees others (cut_spelled text reads.tokens reads.cut) reads.clauses
    (subst (λ ts. AreClauses opening_ops text ts others) same also.clauses)
