use Rattle.std.proofs.Common.{codes}
use Rattle.std.specs.String.{string_bytes}
use Rattle.call_writer.specs.Lines.{group_head, listed}
use Rattle.call_writer.proofs.Appended.{four}
use Rattle.call_writer.proofs.group_line.push_line.Goals as goal

pub returns : goal.returns
returns c =
    four (string_bytes c.args.text.now) (string_bytes c.push_group_head.new.text) (string_bytes c.push_str.new.self) (string_bytes c.push_listed.new.text)
    (string_bytes c.push_str-2.new.self) (group_head c.args.least c.args.level) (codes ",\"members\":[") (listed c.args.members.now) (codes "]}\n")
    c.in_ok-push_group_head.ensures c.in_ok-push_str.ensures.bytes c.in_ok-push_listed.ensures c.in_ok-push_str-2.ensures.bytes
