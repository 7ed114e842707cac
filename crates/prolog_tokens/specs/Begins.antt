-- Where a token should begin.
use Rattle.std.specs.Prelude.{◌≡◌, ◌≢◌, ℕ, ◌<◌, List}
use Rattle.prolog_tokens.specs.declared.chars.Class.TheVariants.{White, Percent, OrderMark}
use Rattle.prolog_tokens.specs.Chars.{class_at}
use Rattle.prolog_tokens.specs.Layout.{IsOpener, IsHashBang}

-- no layout begins at the place, nor a comment that isn't closed
pub record BeginsNoLayout (text : List ℕ) (a : ℕ) : Type 0 where
  pub no_white : class_at text a ≢ White
  pub no_line : class_at text a ≢ Percent
  pub no_comment : IsOpener text a → ⊥
  pub no_mark : class_at text a ≡ OrderMark → 0 < a
  pub no_hash_bang : IsHashBang text a → ⊥
