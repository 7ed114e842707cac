use Rattle.std.proofs.Common.{◌≡◌, Ok, map, take}
use Rattle.prolog_terms.specs.Terms.{tree_of}
use Rattle.module_table.specs.Indicators.{indicators}
use Rattle.module_table.proofs.indicator.indicators.Given as goal

-- the indicators so far
abbrev pub invariant-loop-term : goal.invariant-loop-term
invariant-loop-term l = indicators (map tree_of (take l.term-index l.terms)) ≡ Ok l.found.items
