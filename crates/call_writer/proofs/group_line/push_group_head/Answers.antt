use Rattle.std.proofs.Common.{◌++◌, ap, ◌∙◌, codes}
use Rattle.std.specs.Fmt.{decimal}
use Rattle.std.specs.String.{string_bytes}
use Rattle.call_writer.specs.Json.{truth}
use Rattle.call_writer.proofs.Appended.{five}
use Rattle.call_writer.proofs.group_line.push_group_head.Goals as goal

pub returns : goal.returns
returns c =
    five (string_bytes c.args.text.now) (string_bytes c.push_str.new.self) (string_bytes c.push_number.new.text) (string_bytes c.push_str-2.new.self)
    (string_bytes c.push_number-2.new.text) (string_bytes c.push_str-3.new.self)
    (codes "{\"is\":\"group\",\"id\":") (decimal c.args.least) (codes ",\"height\":") (decimal c.args.level.height)
    (codes ",\"recursive\":" ++ truth c.args.level.recursive)
    c.in_ok-push_str.ensures.bytes (c.in_ok-push_number.ensures ∙ ap (λ n. string_bytes c.push_str.new.self ++ decimal n) c.from.ensures)
    c.in_ok-push_str-2.ensures.bytes (c.in_ok-push_number-2.ensures ∙ ap (λ n. string_bytes c.push_str-2.new.self ++ decimal n) c.from-2.ensures)
    (c.in_ok-push_str-3.ensures.bytes ∙ ap (λ field. string_bytes c.push_number-2.new.text ++ field) c.recursive_field.ensures)
