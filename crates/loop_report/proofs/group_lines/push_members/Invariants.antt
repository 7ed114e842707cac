use Rattle.std.proofs.Common.{◌≡◌, ◌++◌, take}
use Rattle.std.specs.List.{flat_map}
use Rattle.std.specs.String.{string_bytes}
use Rattle.loop_report.specs.Names.{member_name}
use Rattle.loop_report.proofs.group_lines.push_members.Given as goal

-- the members so far
abbrev pub invariant-loop-member : goal.invariant-loop-member
invariant-loop-member l =
    string_bytes l.text ≡ string_bytes l.initial.text ++ flat_map (member_name l.program.predicates) (take l.member-index l.members)
