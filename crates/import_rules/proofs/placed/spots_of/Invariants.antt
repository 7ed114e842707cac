use Rattle.std.proofs.Common.{take}
use Rattle.std.specs.List.{AllZip}
use Rattle.file_library.specs.Spots.{texts_of}
use Rattle.import_rules.specs.Findings.{see_findings}
use Rattle.import_rules.specs.PlacedFlaws.{IsSpotOf}
use Rattle.import_rules.proofs.placed.spots_of.Given as goal

-- the spots so far
abbrev pub invariant-loop-flaw : goal.invariant-loop-flaw
invariant-loop-flaw l = AllZip (IsSpotOf (texts_of l.texts)) (see_findings (take l.flaw-index l.flaws)) l.spots.items
