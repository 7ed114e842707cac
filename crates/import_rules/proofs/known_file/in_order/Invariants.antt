use Rattle.std.proofs.Common.{◌≡◌, take}
use Rattle.import_rules.specs.KnownFiles.{indicators_of}
use Rattle.import_rules.proofs.known_file.in_order.Given as goal

abbrev pub invariant-loop-indicator : goal.invariant-loop-indicator
invariant-loop-indicator l = indicators_of l.sorted.items ≡ take l.indicator-index l.indicators
