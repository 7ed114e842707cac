-- Rows of tokens whose clauses are read one row after another.
use Rattle.std.proofs.Common.{◌≡◌, ℕ, ◌⊎◌, List, [], ◌∷◌, ◌++◌, All, inl, inr, length, ap, sym, ◌∙◌, subst, arith, append_assoc}
use Rattle.std.proofs.lemmas.List.{append-nil}
use Rattle.std.proofs.lemmas.List.Elements.{All-head, All-tail}
use Rattle.prolog_tokens.specs.declared.token.Token.{Token}
use Rattle.prolog_tokens.specs.Cut.{IsCut}
use Rattle.prolog_tokens.specs.Rows.{EndsClause, EachEndsClause, tokens_of}
use Rattle.prolog_names.specs.declared.numbers.NumberedRow.{NumberedRow}
use Rattle.prolog_names.specs.Numbers.{IsNumberedRow, token_rows}
use Rattle.prolog_ops.specs.Table.{Ops}
use Rattle.prolog_terms.specs.Tree.{Tree}
use Rattle.prolog_terms.specs.Clause.{ArePart}
use Rattle.clause_text.specs.declared.fault.TextFault.{TextFault}
use Rattle.clause_text.specs.Clauses.{HasClauseFault, opening_ops}
use Rattle.clause_text.specs.Kept.{ArePlainClauses}
use Rattle.clause_text.specs.Pieces.{AreAdded, IsFaultAhead}
use Rattle.clause_text.proofs.LeadEnds.{lead_are, lead_fault, fault_from_start}

abbrev pub row_tokens : List NumberedRow → List Token
row_tokens rows = tokens_of (token_rows rows)

-- the rows that are left of all tokens of a text, where the clauses of those before them are read and leave the table
pub record AreLeft (names : List (List ℕ)) (text : List ℕ) (all : List Token) (rows : List NumberedRow) (table : Ops) (trees : List Tree) : Type 0 where
  pub before : List Token
  pub cut : IsCut text (before ++ row_tokens rows)
  pub ends : EachEndsClause (token_rows rows)
  pub numbered : All (IsNumberedRow text names) rows
  pub clauses : (more : List Tree) → ArePlainClauses table text (row_tokens rows) more → ArePlainClauses opening_ops text all (trees ++ more)
  pub faults : (fault : TextFault) → HasClauseFault table text (row_tokens rows) fault → HasClauseFault opening_ops text all fault

-- all of them
pub all_left : (names : List (List ℕ)) (text : List ℕ) (all : List Token) (rows left : List NumberedRow) (table : Ops) (trees : List Tree) → left ≡ rows → row_tokens rows ≡ all
    → table ≡ opening_ops → trees ≡ [] → IsCut text all → EachEndsClause (token_rows rows) → All (IsNumberedRow text names) rows → AreLeft names text all left table trees
all_left names text all rows left table trees same whole opens none cut ends numbered =
    subst (λ rs. AreLeft names text all rs table trees) (sym same)
    (record {
      before = [];
      cut = subst (IsCut text) (sym whole) cut;
      ends = ends;
      numbered = numbered;
      clauses = λ more are.
          subst (λ ts. ArePlainClauses opening_ops text all (ts ++ more)) (sym none) (subst (λ T. ArePlainClauses T text all more) opens (subst (λ ts. ArePlainClauses table text ts more) whole are));
      faults = λ fault has. subst (λ T. HasClauseFault T text all fault) opens (subst (λ ts. HasClauseFault table text ts fault) whole has);
    })

-- none
pub none_left : (names : List (List ℕ)) (text : List ℕ) (all : List Token) (rows : List NumberedRow) (table : Ops) (trees : List Tree) → rows ≡ []
    → AreLeft names text all rows table trees → ArePlainClauses opening_ops text all trees
none_left names text all rows table trees none left =
    subst (ArePlainClauses opening_ops text all) (append-nil trees) (left.clauses [] (ap row_tokens none))

-- where a row is the next
module _ (names : List (List ℕ)) (text : List ℕ) (all : List Token) (rows : List NumberedRow) (table : Ops) (trees : List Tree) (row : NumberedRow) (rest : List NumberedRow)
    (next : rows ≡ row ∷ rest) (left : AreLeft names text all rows table trees) where
  own : AreLeft names text all (row ∷ rest) table trees
  own = subst (λ rs. AreLeft names text all rs table trees) next left

  last : EndsClause row.tokens.items ⊎ (row_tokens rest ≡ [])
  last = elim own.ends.0 [ inl ends ↦ inl ends | inr none ↦ inr (ap tokens_of none) ]

  pub next_part : ArePart text row.tokens.items
  next_part = record { before = own.before; after = row_tokens rest; cut = own.cut }

  pub next_numbered : IsNumberedRow text names row
  next_numbered = All-head (IsNumberedRow text names) row rest own.numbered

  -- its clauses are read
  pub next_read : (then : Ops) (after : List Tree) → AreAdded table text row.tokens.items 0 trees after then (length row.tokens.items) → AreLeft names text all rest then after
  next_read then after added = record {
    before = own.before ++ row.tokens.items;
    cut = subst (IsCut text) (sym (append_assoc own.before row.tokens.items (row_tokens rest))) own.cut;
    ends = own.ends.1;
    numbered = All-tail (IsNumberedRow text names) row rest own.numbered;
    clauses = λ more are.
        subst (ArePlainClauses opening_ops text all) (sym (ap (λ ts. ts ++ more) added.all ∙ append_assoc trees added.more more))
        (own.clauses (added.more ++ more)
        (lead_are table text row.tokens.items (row_tokens rest) 0 added.more more then (length row.tokens.items) added.lead (omega arith) are));
    faults = λ fault has.
        let behind = lead_fault table text row.tokens.items (row_tokens rest) 0 added.more has.before then (length row.tokens.items) fault added.lead (omega arith) has.stands in
        own.faults fault (record { before = behind.0; stands = behind.1 });
  }

  -- or one is refused
  pub next_refused : (fault : TextFault) → IsFaultAhead table text row.tokens.items 0 fault → HasClauseFault opening_ops text all fault
  next_refused fault ahead = own.faults fault (fault_from_start table text row.tokens.items (row_tokens rest) fault last ahead)
