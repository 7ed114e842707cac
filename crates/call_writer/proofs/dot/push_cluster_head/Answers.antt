use Rattle.std.proofs.Common.{◌++◌, ap, ◌∙◌, codes}
use Rattle.std.specs.Fmt.{decimal}
use Rattle.std.specs.String.{string_bytes}
use Rattle.call_writer.proofs.Appended.{three}
use Rattle.call_writer.proofs.dot.push_cluster_head.Goals as goal

pub returns : goal.returns
returns c =
    three (string_bytes c.args.text.now) (string_bytes c.push_str.new.self) (string_bytes c.push_number.new.text) (string_bytes c.push_str-2.new.self)
    (codes "subgraph cluster_") (decimal c.args.least) (codes " {\n") c.in_ok-push_str.ensures.bytes
    (c.in_ok-push_number.ensures ∙ ap (λ n. string_bytes c.push_str.new.self ++ decimal n) c.from.ensures) c.in_ok-push_str-2.ensures.bytes
