use Rattle.std.proofs.Common.{◌++◌, ap, ◌∙◌, codes}
use Rattle.std.specs.Fmt.{decimal}
use Rattle.std.specs.String.{string_bytes}
use Rattle.import_rules.specs.Parts.{see_name}
use Rattle.call_writer.specs.Lines.{name_fields}
use Rattle.call_writer.proofs.Appended.{three}
use Rattle.call_writer.proofs.lines.push_predicate_head.Goals as goal

pub returns : goal.returns
returns c =
    three (string_bytes c.args.text.now) (string_bytes c.push_str.new.self) (string_bytes c.push_number.new.text) (string_bytes c.push_name.new.text)
    (codes "{\"is\":\"predicate\",\"id\":") (decimal c.args.node) (codes "," ++ name_fields (see_name c.args.name))
    c.in_ok-push_str.ensures.bytes (c.in_ok-push_number.ensures ∙ ap (λ n. string_bytes c.push_str.new.self ++ decimal n) c.from.ensures)
    c.in_ok-push_name.ensures
