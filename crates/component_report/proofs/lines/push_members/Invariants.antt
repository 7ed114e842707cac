use Rattle.std.proofs.Common.{◌≡◌, ◌++◌, take}
use Rattle.std.specs.List.{flat_map}
use Rattle.byte_names.specs.Names.{names_of}
use Rattle.component_report.specs.Report.{member_text}
use Rattle.component_report.proofs.lines.push_members.Given as goal

-- the members so far
abbrev pub invariant-loop-member : goal.invariant-loop-member
invariant-loop-member l = l.text.items ≡ l.initial.text.items ++ flat_map (member_text (names_of l.names)) (take l.member-index l.members)
