use Rattle.std.proofs.Common.{◌≡◌, ◌++◌, take, codes}
use Rattle.std.specs.List.{flat_map}
use Rattle.byte_names.specs.Names.{names_of}
use Rattle.component_report.specs.JsonLines.{json_member}
use Rattle.component_report.proofs.json_lines.push_more_members.Given as goal

-- the members so far
abbrev pub invariant-loop-member : goal.invariant-loop-member
invariant-loop-member l =
    l.text.items ≡ l.initial.text.items ++ flat_map (λ member. codes "," ++ json_member (names_of l.names) member) (take l.member-index l.members)
