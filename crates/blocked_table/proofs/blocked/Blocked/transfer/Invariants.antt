use Rattle.std.proofs.Common.{◌≡◌, None, drop}
use Rattle.blocked_table.proofs.MovedSteps.{IsPartWay}
use Rattle.blocked_table.proofs.blocked.Blocked.transfer.Given as goal

abbrev pub invariant-parts : goal.invariant-parts
invariant-parts l = record {
  only : l.self ≡ record l.fn.self { kept = l.self.kept };
  part : IsPartWay l.fn.self.kept l.fn.search.stack l.on l.self.kept l.search.stack l.node (drop l.place-index l.places) l.end l.search.spare;
  wants_nothing : l.search.wanted ≡ None;
}
