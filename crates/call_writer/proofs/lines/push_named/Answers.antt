use Rattle.std.proofs.Common.{◌++◌, codes}
use Rattle.std.specs.String.{string_bytes}
use Rattle.graph_law.specs.Graph.{lists_of}
use Rattle.import_rules.specs.Parts.{see_name}
use Rattle.call_writer.specs.Lines.{group_fields, predicate_head}
use Rattle.call_writer.proofs.Appended.{two}
use Rattle.call_writer.proofs.lines.push_named.Goals as goal

pub returns : goal.returns
returns c =
    two (string_bytes c.args.text.now) (string_bytes c.push_predicate_head.new.text) (string_bytes c.push_group.new.text)
    (predicate_head c.args.node (see_name c.args.name)) (codes "," ++ group_fields (lists_of c.args.groups.now) c.args.levels.now c.args.place)
    c.in_ok-push_predicate_head.ensures c.in_ok-push_group.ensures
