-- The terms of lists, with the brackets round them passed through.
use Rattle.std.specs.Prelude.{List, [], Option, Some, None}
use Rattle.prolog_terms.specs.Tree.{Tree, listed, tailed}
use Rattle.prolog_terms.specs.Views.{inside, trees_in}

-- the terms of a list, with a tail or without
abbrev pub listed_at : Tree → List Tree
listed_at (listed items span) = trees_in items
listed_at (tailed items tail span) = trees_in items
listed_at _ = []

abbrev pub listed_items : Tree → List Tree
listed_items tree = listed_at (inside tree)

-- those of a list without a tail, which isn't the atom `[]`
abbrev pub written_at : Tree → Option (List Tree)
written_at (listed items span) = Some (trees_in items)
written_at _ = None

abbrev pub written_items : Tree → Option (List Tree)
written_items tree = written_at (inside tree)
