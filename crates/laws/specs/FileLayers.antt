-- What the tokens of texts and the clauses of tokens answer for each text and each part: themselves, or a fault.
use Rattle.std.specs.Prelude.{ℕ, ◌⊎◌, List}
use Rattle.std.specs.Str.{IsUtf8}
use Rattle.prolog_tokens.specs.declared.token.Token.{Token}
use Rattle.prolog_tokens.specs.declared.token.TokenFault.{TokenFault}
use Rattle.prolog_tokens.specs.Cut.{IsCut, HasFault}
use Rattle.prolog_ops.specs.Table.{Ops, IsOps}
use Rattle.prolog_terms.specs.declared.read_fault.ReadFault.{ReadFault}
use Rattle.prolog_terms.specs.Tree.{Tree}
use Rattle.prolog_terms.specs.Words.{table_of}
use Rattle.prolog_terms.specs.Clause.{IsClauseOf, IsReadFault, ArePart}

-- the text, where it is UTF-8, is tokens with layout between them, or has a fault
abbrev pub IsCutOrFaulty : List ℕ → Type 0
IsCutOrFaulty text = IsUtf8 text → ((ts : List Token) × IsCut text ts) ⊎ ((fault : TokenFault) × HasFault text fault)

-- under the table the tokens are a clause of the text, or have a fault of reading
abbrev pub ReadOrFault : Ops → List ℕ → List Token → Type 0
ReadOrFault ops text ts = ((tree : Tree) × IsClauseOf (table_of ops) text ts tree) ⊎ ((fault : ReadFault) × IsReadFault (table_of ops) text ts fault)

-- under each lawful table, a part of the text's tokens is a clause, or has a fault of reading
abbrev pub IsReadOrFaulty : List ℕ → Type 0
IsReadOrFaulty text = (ops : Ops) → IsOps ops → (ts : List Token) → ArePart text ts → ReadOrFault ops text ts
