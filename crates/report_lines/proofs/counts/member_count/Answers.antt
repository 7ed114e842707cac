use Rattle.std.proofs.Common.{◌≡◌, ◌<◌, [], length, get_or, ap, sym, ◌∙◌, arith}
use Rattle.std.proofs.lemmas.List.Sums.{sum_by_more}
use Rattle.graph_law.specs.Graph.{lists_of}
use Rattle.graph_law.proofs.GraphLaws.{length-lists_of, get_or-lists_of}
use Rattle.report_lines.proofs.counts.member_count.Goals as goal

-- what `len` gave is how many members the group has
size : (c : goal.After-len) → c.len.result ≡ length (get_or (lists_of c.args.groups.now) c.loop-members.members-index [])
size c =
    let vec = c.members-item.result in
    let read = get_or-lists_of c.args.groups.now c.loop-members.members-index vec c.loop-members-test.true c.members-item.is in
    c.len.ensures ∙ vec.ok.0 ∙ ap length (sym read)

within : (c : goal.After-len) → c.loop-members.members-index < length (lists_of c.args.groups.now)
within c = omega (arith, length-lists_of c.args.groups.now, c.loop-members-test.true)

pub overflow_add-count : goal.overflow_add-count
overflow_add-count c = omega (arith, size c, c.requires.short c.loop-members.members-index [] (within c))

pub loop-members-preserved : goal.loop-members-preserved
loop-members-preserved c = record {
  counted =
      omega (arith, size c, sum_by_more length (lists_of c.args.groups.now) c.loop-members.members-index [] (within c));
  bounded = omega (arith, size c, c.requires.short c.loop-members.members-index [] (within c));
}
