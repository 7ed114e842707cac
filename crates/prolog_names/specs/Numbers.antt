-- The numbers of the names of a text's tokens.
use Rattle.std.specs.Prelude.{◌≡◌, ℕ, ◌<◌, List, length, Some, Bool, true, false, Vec, map, slice_get, slice_index_or}
use Rattle.std.specs.declared.alloc.Global.{Global}
use Rattle.prolog_tokens.specs.declared.token.Kind.{Kind}
use Rattle.prolog_tokens.specs.declared.token.Kind.TheVariants.{Name, Quoted}
use Rattle.prolog_tokens.specs.declared.token.Token.{Token}
use Rattle.prolog_tokens.specs.Values.{IsNameText}
use Rattle.prolog_names.specs.declared.numbers.NumberedRow.{NumberedRow}
use Rattle.prolog_names.specs.Names.{name_at}

-- tokens of the kind have a name
abbrev pub has_name : Kind → Bool
has_name Name = true
has_name Quoted = true
has_name _ = false

-- the number is that of the token's name; it is 0, that of the empty name, where the token has none
pub record IsNumberOf (text : List ℕ) (names : List (List ℕ)) (token : Token) (number : ℕ) : Type 0 where
  pub within : number < length names
  pub named : has_name token.kind ≡ true → IsNameText text token (name_at names number)
  pub only : has_name token.kind ≡ true → (other : List ℕ) → IsNameText text token other → other ≡ name_at names number
  pub unnamed : has_name token.kind ≡ false → number ≡ 0

-- one number for each token
pub record AreNumbered (text : List ℕ) (names : List (List ℕ)) (tokens : List Token) (numbers : List ℕ) : Type 0 where
  pub as_many : length numbers ≡ length tokens
  pub each : (k : ℕ) (token : Token) → slice_get tokens k ≡ Some token → IsNumberOf text names token (slice_index_or numbers k 0)

-- each token of the row has its number
abbrev pub IsNumberedRow : List ℕ → List (List ℕ) → NumberedRow → Type 0
IsNumberedRow text names row = AreNumbered text names row.tokens.items row.numbers.items

-- the rows of tokens, without the numbers
abbrev pub token_rows : List NumberedRow → List (Vec Token Global)
token_rows rows = map (λ row. row.tokens) rows
