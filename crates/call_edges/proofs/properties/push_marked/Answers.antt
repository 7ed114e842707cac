use Rattle.std.proofs.Common.{sym, ◌∙◌, subst}
use Rattle.call_edges.specs.Goals.{Adds}
use Rattle.call_edges.proofs.AmongLemmas.{among_next, among_all, among_none}
use Rattle.call_edges.proofs.PropertyLemmas.{IsKeptMark, other_mark, unfound_mark, found_mark, marks_go}
use Rattle.call_edges.proofs.properties.push_marked.Goals as goal

pub loop-mark-init : goal.loop-mark-init
loop-mark-init c = among_none (IsKeptMark c.args.program.now c.args.property c.args.names.now) c.args.marks.now c.args.nodes.now.items

pub loop-mark-preserved-then-ne : goal.loop-mark-preserved-then-ne
loop-mark-preserved-then-ne c =
    let seen = c.args.program.now in
    let property = c.args.property in
    let names = c.args.names.now in
    let nodes = c.loop-mark.nodes.items in
    among_next (IsKeptMark seen property names) c.args.marks.now c.loop-mark.mark-index _ c.args.nodes.now.items nodes nodes c.loop-mark-test.true
    c.loop-mark.invariant
    (other_mark seen property names _ nodes (sym c.ne.ensures ∙ c.if-ne.true))

pub loop-mark-preserved-in_default : goal.loop-mark-preserved-in_default
loop-mark-preserved-in_default c =
    let seen = c.args.program.now in
    let property = c.args.property in
    let names = c.args.names.now in
    let nodes = c.loop-mark.nodes.items in
    among_next (IsKeptMark seen property names) c.args.marks.now c.loop-mark.mark-index _ c.args.nodes.now.items nodes nodes c.loop-mark-test.true
    c.loop-mark.invariant
    (unfound_mark seen property names _ c.text-owner.result.now c.text.result.now c.text-owner.ensures c.text.ensures nodes c.in_default.ensures)

pub loop-mark-preserved : goal.loop-mark-preserved
loop-mark-preserved c =
    let seen = c.args.program.now in
    let property = c.args.property in
    let names = c.args.names.now in
    let nodes = c.loop-mark.nodes.items in
    let new = c.push.new.self.items in
    among_next (IsKeptMark seen property names) c.args.marks.now c.loop-mark.mark-index _ c.args.nodes.now.items nodes new c.loop-mark-test.true
    c.loop-mark.invariant
    (subst (Adds _ nodes) (sym c.in_ok-push.ensures.items)
    (found_mark seen property names _ c.text-owner.result.now c.text.result.now c.text-owner.ensures c.text.ensures nodes c.in-Some.node
    (sym c.ne.ensures ∙ c.if-ne.false) c.in-Some.ensures))

pub returns : goal.returns
returns c =
    let seen = c.args.program.now in
    let marks = c.args.marks.now in
    marks_go seen c.args.property c.args.names.now marks c.args.nodes.now.items c.loop-mark.nodes.items
    (among_all (IsKeptMark seen c.args.property c.args.names.now) marks c.loop-mark.mark-index c.args.nodes.now.items c.loop-mark.nodes.items
    c.loop-mark-test.false c.loop-mark.invariant)
