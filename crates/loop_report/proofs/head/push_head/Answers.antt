use Rattle.std.proofs.Common.{length, ◌++◌, sym, ap, ◌∙◌, codes}
use Rattle.std.specs.Fmt.{decimal}
use Rattle.std.specs.String.{string_bytes}
use Rattle.graph_law.specs.Graph.{lists_of}
use Rattle.graph_law.proofs.GraphLaws.{length-lists_of}
use Rattle.report_lines.proofs.HeadNumbers.{counted_head}
use Rattle.report_lines.proofs.PutFive.{put_five}
use Rattle.loop_report.proofs.head.push_head.Goals as goal

pub returns : goal.returns
returns c =
    let m = c.member_count.result in
    let g = length c.args.groups.now in
    let r = c.recursive_count.result in
    let h = c.height_count.result in
    put_five (string_bytes c.args.text.now) (string_bytes c.push_count.new.text) (string_bytes c.push_count-2.new.text) (string_bytes c.push_count-3.new.text)
    (string_bytes c.push_count-4.new.text) (string_bytes c.push_str.new.self) (codes "predicates " ++ decimal m) (codes " groups " ++ decimal g)
    (codes " recursive " ++ decimal r) (codes " levels " ++ decimal h) (codes "\n") c.in_ok-push_count.ensures c.in_ok-push_count-2.ensures
    c.in_ok-push_count-3.ensures c.in_ok-push_count-4.ensures c.in_ok-push_str.ensures.bytes
    ∙ ap (λ line. string_bytes c.args.text.now ++ line)
    (counted_head (codes "predicates ") (lists_of c.args.groups.now) c.args.levels.now m g r h c.member_count.ensures (sym (length-lists_of c.args.groups.now))
    c.recursive_count.ensures c.height_count.ensures)
