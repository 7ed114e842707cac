use Rattle.std.proofs.Common.{◌++◌, ap, ◌∙◌, codes}
use Rattle.std.specs.Fmt.{decimal}
use Rattle.std.specs.String.{string_bytes}
use Rattle.call_writer.proofs.Appended.{four}
use Rattle.call_writer.proofs.lines.push_end.Goals as goal

pub returns : goal.returns
returns c =
    four (string_bytes c.args.text.now) (string_bytes c.push_str.new.self) (string_bytes c.push_number.new.text) (string_bytes c.push_str-2.new.self)
    (string_bytes c.push_number-2.new.text) (codes ",\"end_line\":") (decimal c.args.end.line) (codes ",\"end_column\":") (decimal c.args.end.column)
    c.in_ok-push_str.ensures.bytes (c.in_ok-push_number.ensures ∙ ap (λ n. string_bytes c.push_str.new.self ++ decimal n) c.from.ensures)
    c.in_ok-push_str-2.ensures.bytes (c.in_ok-push_number-2.ensures ∙ ap (λ n. string_bytes c.push_str-2.new.self ++ decimal n) c.from-2.ensures)
