use Rattle.std.proofs.Common.{ℕ, ◌++◌, List, get_or, ap, subst, sym, ◌∙◌}
use Rattle.graph_law.specs.Graph.{lists_of}
use Rattle.effect_flow.specs.Flows.{ArePieces}
use Rattle.effect_flow.proofs.Pieces.{pieces_done, pieces_more}
use Rattle.effect_flow.proofs.heights.push_pieces.Goals as goal

pub loop-one-preserved : goal.loop-one-preserved
loop-one-preserved g c =
    let lists : List (List ℕ) = g.O.Opener.lists c.args.grouped.now.opener.now in
    let groups : List (List ℕ) = lists_of c.args.grouped.now.groups.now in
    let stretch : List ℕ = c.args.stretch.now in
    let each = c.deref-one-items.result.now in
    let n : ℕ = c.loop-one.one-index in
    let piece = c.in-Ok.piece in
    let found = c.loop-one.found.items in
    let are : ArePieces lists c.args.grouped.now.own.now groups stretch each =
    subst (λ pieces. ArePieces lists c.args.grouped.now.own.now groups stretch pieces) (sym c.deref-one-items.ensures.value) c.in_ok-each.ensures in
    pieces_more lists c.args.grouped.now.own.now groups stretch each n piece found c.extend_from_slice.new.self.items are c.loop-one-test.true
    (sym c.in-Ok.is ∙ c.one-item.is ∙ ap (λ one. get_or each n one) c.in-Ok.is)
    (c.in_ok-extend_from_slice-in-Ok.ensures.items ∙ ap (λ xs. found ++ xs) c.deref.ensures.value)
    c.loop-one.invariant

pub returns : goal.returns
returns g c =
    let lists : List (List ℕ) = g.O.Opener.lists c.args.grouped.now.opener.now in
    let groups : List (List ℕ) = lists_of c.args.grouped.now.groups.now in
    let stretch : List ℕ = c.args.stretch.now in
    let each = c.deref-one-items.result.now in
    let are : ArePieces lists c.args.grouped.now.own.now groups stretch each =
    subst (λ pieces. ArePieces lists c.args.grouped.now.own.now groups stretch pieces) (sym c.deref-one-items.ensures.value) c.in_ok-each.ensures in
    pieces_done lists c.args.grouped.now.own.now groups stretch each c.loop-one.one-index c.loop-one.found.items are c.loop-one-test.false c.loop-one.invariant
