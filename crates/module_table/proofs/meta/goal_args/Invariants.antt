use Rattle.std.proofs.Common.{◌≡◌, map, take}
use Rattle.prolog_terms.specs.Terms.{tree_of}
use Rattle.module_table.specs.Metas.{goal_arg}
use Rattle.module_table.proofs.meta.goal_args.Given as goal

-- the arguments so far
abbrev pub invariant-loop-term : goal.invariant-loop-term
invariant-loop-term l = l.args.items ≡ map goal_arg (map tree_of (take l.term-index l.terms))
