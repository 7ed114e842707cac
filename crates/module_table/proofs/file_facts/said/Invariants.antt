use Rattle.std.proofs.Common.{◌≡◌, [], Ok}
use Rattle.prolog_names.specs.Names.{name_at}
use Rattle.clause_text.specs.Clauses.{clause_trees}
use Rattle.module_table.specs.Kinds.{none_said, with_said}
use Rattle.module_table.specs.Kept.{see_kinds}
use Rattle.module_table.specs.Directives.{home}
use Rattle.module_table.specs.Facts.{trees_said}
use Rattle.module_table.proofs.FileLemmas.{IsFirst}
use Rattle.module_table.proofs.file_facts.said.Given as goal

-- what the clauses so far say, and whether there was none; no directive is under way
abbrev pub invariant-loop-clause : goal.invariant-loop-clause
invariant-loop-clause l =
    (with_said none_said (trees_said (home l.file (name_at l.names l.owner)) (clause_trees l.names l.yielded)) ≡ Ok (see_kinds l.names [] l.kinds))
    × IsFirst l.first (clause_trees l.names l.yielded)
    × (l.kinds.ends.items ≡ [])
