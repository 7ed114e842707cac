use Rattle.std.proofs.Common.{◌≡◌, ◌≤◌, ◌*◌, length, take, sum_by}
use Rattle.graph_law.specs.Graph.{lists_of}
use Rattle.report_lines.proofs.counts.member_count.Given as goal

-- the groups so far, each with fewer than 2 ^ 32 members
abbrev pub invariant-loop-members : goal.invariant-loop-members
invariant-loop-members l = record {
  counted : l.count ≡ sum_by length (take l.members-index (lists_of l.groups));
  bounded : l.count ≤ 4294967295 * l.members-index;
}
