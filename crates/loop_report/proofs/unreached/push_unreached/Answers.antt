use Rattle.std.proofs.Common.{◌≡◌, ℕ, ◌<◌, Bool, List, ◌++◌, length, map, get_or, ap, ◌∙◌, arith}
use Rattle.std.specs.List.{range_with_len}
use Rattle.std.specs.String.{string_bytes}
use Rattle.std.proofs.lemmas.List.FromFn.{length-map-range_with_len, get_or-map-range_with_len}
use Rattle.graph_law.specs.Graph.{lists_of}
use Rattle.loop_report.specs.Report.{is_grouped, unreached_line}
use Rattle.loop_report.proofs.Marks.{line_none, line_more}
use Rattle.loop_report.proofs.unreached.push_unreached.Goals as goal

-- the mark that is read at a node
mark_is : (groups : List (List ℕ)) (marks : List Bool) (count node : ℕ) (mark : Bool) → node < count → marks ≡ map (is_grouped groups) (range_with_len 0 count)
    → mark ≡ get_or marks node mark → mark ≡ is_grouped groups node
mark_is groups marks count node mark lt are read =
    read ∙ (ap (λ ms. get_or ms node mark) are ∙ get_or-map-range_with_len (is_grouped groups) 0 count node node mark lt (omega arith))

pub index-requires : goal.index-requires
index-requires c =
    omega (
      arith,
      c.in_ok-marks.marks.ok.0,
      ap length c.in_ok-marks.ensures,
      length-map-range_with_len (is_grouped (lists_of c.args.groups.now)) 0 c.count.result,
      c.count.ensures,
      c.count-node-end.ensures,
      c.loop-node-test.true,
    )

pub loop-node-preserved-then-index : goal.loop-node-preserved-then-index
loop-node-preserved-then-index c =
    let groups = lists_of c.args.groups.now in
    let line = unreached_line c.args.program.now.predicates in
    let within : c.loop-node.node < c.count.result = omega (arith, c.count.ensures, c.count-node-end.ensures, c.loop-node-test.true) in
    let is = mark_is groups c.in_ok-marks.marks.items c.count.result c.loop-node.node c.index.result.now within c.in_ok-marks.ensures c.index.ensures in
    c.loop-node.invariant
    ∙ ap (λ lines. string_bytes c.args.text.now ++ lines) (line_none line groups c.loop-node.node c.index.result.now is c.if-index.true)

pub loop-node-preserved : goal.loop-node-preserved
loop-node-preserved c =
    let groups = lists_of c.args.groups.now in
    let line = unreached_line c.args.program.now.predicates in
    let within : c.loop-node.node < c.count.result = omega (arith, c.count.ensures, c.count-node-end.ensures, c.loop-node-test.true) in
    let is = mark_is groups c.in_ok-marks.marks.items c.count.result c.loop-node.node c.index.result.now within c.in_ok-marks.ensures c.index.ensures in
    line_more line groups c.loop-node.node c.index.result.now (string_bytes c.args.text.now) (string_bytes c.loop-node.text) (string_bytes c.push_line.new.text) is
    c.if-index.false c.loop-node.invariant c.in_ok-push_line.ensures
