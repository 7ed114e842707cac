use Rattle.std.proofs.Common.{ℕ, List, ap, ◌∙◌, subst, arith}
use Rattle.std.specs.List.{slice_range}
use Rattle.import_rules.specs.Program.{Seen}
use Rattle.call_edges.specs.CallLists.{AreListed}
use Rattle.call_edges.specs.Successors.{successor_lists}
use Rattle.call_edges.proofs.LaidOutLemmas.{piece_there, starts_there, node_read}
use Rattle.call_edges.proofs.graph.call_lists.CallLists.list.Goals as goal

pub index-piece-requires : goal.index-piece-requires
index-piece-requires c =
    let pieces = c.self.inside.pieces in
    let listed = subst (λ (seen : Seen). AreListed (successor_lists seen) pieces.items) c.self.view_is c.self.invariant in
    omega (arith, piece_there (successor_lists c.args.self.now) pieces.items c.args.node listed c.requires, pieces.ok.0)

pub index-requires : goal.index-requires
index-requires c =
    let pieces = c.self.inside.pieces in
    let listed = subst (λ (seen : Seen). AreListed (successor_lists seen) pieces.items) c.self.view_is c.self.invariant in
    let piece = c.index-piece.result.now in
    omega (
      arith,
      starts_there (successor_lists c.args.self.now) pieces.items c.args.node piece listed c.requires c.index-piece.ensures,
      piece.starts.ok.0,
    )

pub index-requires-2 : goal.index-requires-2
index-requires-2 c =
    let pieces = c.self.inside.pieces in
    let listed = subst (λ (seen : Seen). AreListed (successor_lists seen) pieces.items) c.self.view_is c.self.invariant in
    let piece = c.index-piece.result.now in
    omega (
      arith,
      starts_there (successor_lists c.args.self.now) pieces.items c.args.node piece listed c.requires c.index-piece.ensures,
      piece.starts.ok.0,
    )

pub between-requires-clause-ordered : goal.between-requires-clause-ordered
between-requires-clause-ordered c =
    let pieces = c.self.inside.pieces in
    let listed = subst (λ (seen : Seen). AreListed (successor_lists seen) pieces.items) c.self.view_is c.self.invariant in
    (node_read (successor_lists c.args.self.now) pieces.items c.args.node c.index.result.now c.index-2.result.now c.index-piece.result.now
    listed c.requires c.index-piece.ensures c.index.ensures c.index-2.ensures).ordered

pub between-requires-clause-within : goal.between-requires-clause-within
between-requires-clause-within c =
    let pieces = c.self.inside.pieces in
    let listed = subst (λ (seen : Seen). AreListed (successor_lists seen) pieces.items) c.self.view_is c.self.invariant in
    let piece = c.index-piece.result.now in
    let stands = node_read (successor_lists c.args.self.now) pieces.items c.args.node c.index.result.now c.index-2.result.now piece
    listed c.requires c.index-piece.ensures c.index.ensures c.index-2.ensures in
    omega (arith, stands.within, c.deref.ensures.len, piece.callees.ok.0)

pub returns : goal.returns
returns c =
    let pieces = c.self.inside.pieces in
    let listed = subst (λ (seen : Seen). AreListed (successor_lists seen) pieces.items) c.self.view_is c.self.invariant in
    c.between.ensures
    ∙ ap (λ (xs : List ℕ). slice_range xs c.index.result.now c.index-2.result.now) c.deref.ensures.value
    ∙ (node_read (successor_lists c.args.self.now) pieces.items c.args.node c.index.result.now c.index-2.result.now c.index-piece.result.now
    listed c.requires c.index-piece.ensures c.index.ensures c.index-2.ensures).is
