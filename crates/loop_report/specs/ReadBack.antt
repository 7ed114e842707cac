-- What a name in the report reads as.
use Rattle.std.specs.Prelude.{ℕ, List, [], ◌∷◌, Bool, ◌||◌, codes}
use Rattle.std.specs.Str.{bytes_eq}
use Rattle.prolog_tokens.specs.declared.token.Token.{Token}
use Rattle.prolog_tokens.specs.Cut.{IsCut}
use Rattle.prolog_tokens.specs.Values.{IsNameText}
use Rattle.loop_report.specs.Spelled.{spelled_name}

-- `[]` and `{}`, which are two tokens each
abbrev pub is_pair : List ℕ → Bool
is_pair name = bytes_eq name (codes "[]") || bytes_eq name (codes "{}")

-- the name as the report has it is one token, which has this name
pub record ReadsBack (name : List ℕ) : Type 0 where
  pub token : Token
  pub cut : IsCut (spelled_name name) (token ∷ [])
  pub named : IsNameText (spelled_name name) token name
