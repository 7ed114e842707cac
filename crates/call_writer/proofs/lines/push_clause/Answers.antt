use Rattle.std.proofs.Common.{◌++◌, ap, ◌∙◌, codes}
use Rattle.std.specs.Fmt.{decimal}
use Rattle.std.specs.String.{string_bytes}
use Rattle.call_writer.specs.Lines.{end_fields, spot_fields}
use Rattle.call_writer.proofs.Appended.{five}
use Rattle.call_writer.proofs.lines.push_clause.Goals as goal

pub returns-clause-text : goal.returns-clause-text
returns-clause-text c =
    five (string_bytes c.args.text.now) (string_bytes c.push_str.new.self) (string_bytes c.push_number.new.text) (string_bytes c.push_spot.new.text)
    (string_bytes c.push_end.new.text) (string_bytes c.push_str-2.new.self) (codes "{\"is\":\"clause\",\"predicate\":") (decimal c.args.clause.node)
    (codes "," ++ spot_fields c.args.last.now.program.now c.args.clause.file c.args.extent.start) (codes "," ++ end_fields c.args.extent.end) (codes "}\n")
    c.in_ok-push_str.ensures.bytes (c.in_ok-push_number.ensures ∙ ap (λ n. string_bytes c.push_str.new.self ++ decimal n) c.from.ensures)
    c.in_ok-push_spot.ensures.text c.in_ok-push_end.ensures c.in_ok-push_str-2.ensures.bytes
