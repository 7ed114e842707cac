use Rattle.std.proofs.Common.{◌≡◌, ◌++◌}
use Rattle.import_rules.specs.Findings.{see_findings}
use Rattle.import_rules.specs.PlacedFlaws.{faults_at}
use Rattle.import_rules.proofs.placed.faults_of.Given as goal

-- the faults so far, with those to come
abbrev pub invariant-loop-flaw : goal.invariant-loop-flaw
invariant-loop-flaw l =
    l.faults.items ++ faults_at (see_findings l.flaw-iterator.a.rest.now) l.flaw-iterator.b.rest.now ≡ faults_at (see_findings l.flaws) l.places
