-- Where the terms within a tree start.
use Rattle.std.specs.Prelude.{ℕ, List}
use Rattle.prolog_tokens.specs.Places.{IsOffset}
use Rattle.prolog_terms.specs.Tree.{Tree, Trees, variable, constant, atom, compound, listed, tailed, curly, paren, none, more}

-- the tree and each term within it start at an offset of the text, before which its bytes are characters
abbrev mutual
  pub HasOffsets : List ℕ → Tree → Type 0
  HasOffsets text (variable span) = IsOffset text span.from
  HasOffsets text (constant kind minus value span) = IsOffset text span.from
  HasOffsets text (atom name span) = IsOffset text span.from
  HasOffsets text (compound name args form span) = IsOffset text span.from × HaveOffsets text args
  HasOffsets text (listed items span) = IsOffset text span.from × HaveOffsets text items
  HasOffsets text (tailed items tail span) = IsOffset text span.from × HaveOffsets text items × HasOffsets text tail
  HasOffsets text (curly inner span) = IsOffset text span.from × HasOffsets text inner
  HasOffsets text (paren inner span) = IsOffset text span.from × HasOffsets text inner

  pub HaveOffsets : List ℕ → Trees → Type 0
  HaveOffsets text none = Unit {0}
  HaveOffsets text (more tree trees) = HasOffsets text tree × HaveOffsets text trees
