use Rattle.std.proofs.Common.{◌++◌, ap, ◌∙◌, codes, slice_get}
use Rattle.std.specs.Fmt.{decimal}
use Rattle.std.specs.String.{string_bytes}
use Rattle.call_writer.specs.Json.{json_string}
use Rattle.call_writer.specs.Lines.{file_name}
use Rattle.call_writer.proofs.Appended.{seven}
use Rattle.call_writer.proofs.lines.push_spot.Goals as goal

pub returns-clause-text : goal.returns-clause-text
returns-clause-text c =
    seven (string_bytes c.args.text.now) (string_bytes c.push_str.new.self) (string_bytes c.push_number.new.text) (string_bytes c.push_str-2.new.self)
    (string_bytes c.push_number-2.new.text) (codes ",\"file\":") (json_string (file_name (slice_get c.args.last.now.program.now.loaded.texts c.args.file))) (codes ",\"line\":") (decimal c.args.place.line)
    (codes ",\"column\":") (decimal c.args.place.column)
    (c.in_ok-push_str.ensures.bytes ∙ ap (λ bytes. string_bytes c.args.text.now ++ bytes) (c.as_str.ensures.value ∙ c.in_ok-take.ensures.text))
    (c.in_ok-push_number.ensures ∙ ap (λ n. string_bytes c.push_str.new.self ++ decimal n) c.from.ensures)
    c.in_ok-push_str-2.ensures.bytes
    (c.in_ok-push_number-2.ensures ∙ ap (λ n. string_bytes c.push_str-2.new.self ++ decimal n) c.from-2.ensures)
