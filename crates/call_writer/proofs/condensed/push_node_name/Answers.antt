use Rattle.std.proofs.Common.{◌++◌, ◌==◌, ap, ◌∙◌, codes}
use Rattle.std.specs.Prelude.{if◌then◌else◌}
use Rattle.std.specs.Fmt.{decimal}
use Rattle.std.specs.String.{string_bytes}
use Rattle.call_writer.proofs.Appended.{two}
use Rattle.call_writer.proofs.condensed.push_node_name.Goals as goal

pub returns : goal.returns
returns c =
    two (string_bytes c.args.text.now) (string_bytes c.push_str.new.self) (string_bytes c.push_number.new.text)
    (if c.args.place == 0 then codes "n" else codes "g") (decimal c.args.node)
    (c.in_ok-push_str.ensures.bytes ∙ ap (λ letter. string_bytes c.args.text.now ++ letter) c.letter_of.ensures)
    (c.in_ok-push_number.ensures ∙ ap (λ n. string_bytes c.push_str.new.self ++ decimal n) c.from.ensures)
