-- What is wrong with a text: its bytes, its tokens, or its clauses.
use Rattle.std.specs.Prelude.{◌≡◌, ℕ, List, Option, Some, None}
use Rattle.std.specs.Str.{IsUtf8, IsValidUpTo}
use Rattle.prolog_tokens.specs.declared.token.Token.{Token}
use Rattle.prolog_tokens.specs.declared.token.TokenFault.{TokenFault}
use Rattle.prolog_tokens.specs.declared.token.TokenFault.TheVariants as of_tokens
use Rattle.prolog_tokens.specs.Cut.{IsCut, HasFault}
use Rattle.clause_text.specs.declared.cause.Cause.TheVariants.{NotUtf8, BadChar, OpenQuote, OpenComment, BadEscape}
use Rattle.clause_text.specs.declared.fault.TextFault.{TextFault}
use Rattle.clause_text.specs.declared.fault.TextFault.TheVariants.{At, NoMemory}
use Rattle.clause_text.specs.Clauses.{HasClauseFault, opening_ops}

-- a fault of the tokens as one of the text
abbrev pub fault_of_tokens : TokenFault → TextFault
fault_of_tokens (of_tokens.BadChar at) = At BadChar at
fault_of_tokens (of_tokens.OpenQuote at) = At OpenQuote at
fault_of_tokens (of_tokens.OpenComment at) = At OpenComment at
fault_of_tokens (of_tokens.BadEscape at) = At BadEscape at
fault_of_tokens of_tokens.NoMemory = NoMemory

-- the fault stands at the first byte with which no character begins
abbrev pub BytesHave : List ℕ → TextFault → Type 0
BytesHave text fault = (at : ℕ) × (fault ≡ At NotUtf8 at) × IsValidUpTo text at

-- the text is UTF-8, and its tokens have the fault
pub record TokensHave (text : List ℕ) (fault : TextFault) : Type 0 where
  pub utf8 : IsUtf8 text
  pub of : TokenFault
  pub is : fault ≡ fault_of_tokens of
  pub has : HasFault text of

-- the text is UTF-8 and tokens, and the first clause of them that is refused has the fault
pub record ClausesHave (text : List ℕ) (fault : TextFault) : Type 0 where
  pub utf8 : IsUtf8 text
  pub tokens : List Token
  pub cut : IsCut text tokens
  pub has : HasClauseFault opening_ops text tokens fault

-- why the text isn't read
pub data HasTextFault (text : List ℕ) (fault : TextFault) : Type 0 where
  bytes : BytesHave text fault → HasTextFault text fault
  tokens : TokensHave text fault → HasTextFault text fault
  clauses : ClausesHave text fault → HasTextFault text fault

-- the offset that a fault tells
abbrev pub offset_of : TextFault → Option ℕ
offset_of (At cause at) = Some at
offset_of NoMemory = None
