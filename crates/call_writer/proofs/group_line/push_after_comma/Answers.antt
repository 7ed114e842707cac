use Rattle.std.proofs.Common.{◌++◌, ap, ◌∙◌, codes}
use Rattle.std.specs.Fmt.{decimal}
use Rattle.std.specs.String.{string_bytes}
use Rattle.call_writer.proofs.Appended.{two}
use Rattle.call_writer.proofs.group_line.push_after_comma.Goals as goal

pub returns : goal.returns
returns c =
    two (string_bytes c.args.text.now) (string_bytes c.push_str.new.self) (string_bytes c.push_number.new.text) (codes ",") (decimal c.args.number)
    c.in_ok-push_str.ensures.bytes (c.in_ok-push_number.ensures ∙ ap (λ n. string_bytes c.push_str.new.self ++ decimal n) c.from.ensures)
