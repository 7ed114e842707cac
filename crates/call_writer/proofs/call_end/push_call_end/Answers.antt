use Rattle.std.proofs.Common.{◌++◌, ap, sym, ◌∙◌, codes}
use Rattle.std.specs.Fmt.{decimal}
use Rattle.std.specs.String.{string_bytes}
use Rattle.call_writer.specs.Json.{truth}
use Rattle.call_writer.specs.Lines.{call_end}
use Rattle.call_writer.proofs.Appended.{three}
use Rattle.call_writer.proofs.call_end.push_call_end.Goals as goal

pub returns-then-added-eq0 : goal.returns-then-added-eq0
returns-then-added-eq0 c =
    c.in_ok-push_str.ensures.bytes
    ∙ ap (λ bytes. string_bytes c.args.text.now ++ bytes) (c.written_end.ensures ∙ ap (λ n. call_end n c.args.negated) (sym c.if-added-eq0.true))

pub returns : goal.returns
returns c =
    three (string_bytes c.args.text.now) (string_bytes c.push_str-2.new.self) (string_bytes c.push_number.new.text) (string_bytes c.push_str-3.new.self)
    (codes ",\"added\":") (decimal c.args.added) (codes ",\"negated\":" ++ (truth c.args.negated ++ codes "}\n")) c.in_ok-push_str-2.ensures.bytes
    (c.in_ok-push_number.ensures ∙ ap (λ n. string_bytes c.push_str-2.new.self ++ decimal n) c.from.ensures)
    (c.in_ok-push_str-3.ensures.bytes ∙ ap (λ bytes. string_bytes c.push_number.new.text ++ bytes) c.negated_end.ensures)
