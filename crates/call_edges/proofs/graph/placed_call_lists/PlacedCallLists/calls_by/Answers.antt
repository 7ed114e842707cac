use Rattle.std.proofs.Common.{◌≡◌, ◌↔◌, List, ap, sym, ◌∙◌, subst, arith}
use Rattle.std.specs.Prelude.{Contains, slice_range}
use Rattle.import_rules.specs.Program.{Seen}
use Rattle.call_edges.specs.declared.placed_calls.PlacedCall.{PlacedCall}
use Rattle.call_edges.specs.CallPlaces.{CallAt, IsCallOf}
use Rattle.call_edges.specs.KeptCalls.{AreKept}
use Rattle.call_edges.specs.PlacedSeen.{see_calls}
use Rattle.call_edges.proofs.KeptCallLemmas.{kept_there, span_there, kept_read, calls_between}
use Rattle.call_edges.proofs.graph.placed_call_lists.PlacedCallLists.calls_by.Goals as goal

pub index-piece-requires : goal.index-piece-requires
index-piece-requires c =
    let pieces = c.self.inside.pieces in
    let kept = subst (λ (seen : Seen). AreKept seen pieces.items) c.self.view_is c.self.invariant in
    omega (arith, kept_there c.args.self.now pieces.items c.args.node kept c.requires, pieces.ok.0)

pub index-span-requires : goal.index-span-requires
index-span-requires c =
    let pieces = c.self.inside.pieces in
    let kept = subst (λ (seen : Seen). AreKept seen pieces.items) c.self.view_is c.self.invariant in
    let piece = c.index-piece.result.now in
    omega (arith, span_there c.args.self.now pieces.items c.args.node piece kept c.requires c.index-piece.ensures, piece.spans.ok.0)

pub between-requires-clause-ordered : goal.between-requires-clause-ordered
between-requires-clause-ordered c =
    let pieces = c.self.inside.pieces in
    let kept = subst (λ (seen : Seen). AreKept seen pieces.items) c.self.view_is c.self.invariant in
    (kept_read c.args.self.now pieces.items c.args.node c.index-piece.result.now c.index-span.result.now kept c.requires c.index-piece.ensures
    c.index-span.ensures).ordered

pub between-requires-clause-within : goal.between-requires-clause-within
between-requires-clause-within c =
    let pieces = c.self.inside.pieces in
    let kept = subst (λ (seen : Seen). AreKept seen pieces.items) c.self.view_is c.self.invariant in
    let piece = c.index-piece.result.now in
    let are =
    kept_read c.args.self.now pieces.items c.args.node piece c.index-span.result.now kept c.requires c.index-piece.ensures c.index-span.ensures in
    omega (arith, are.within, c.deref.ensures.len, piece.calls.ok.0)

pub returns : goal.returns
returns c =
    let seen = c.args.self.now in
    let pieces = c.self.inside.pieces in
    let kept = subst (λ (seen : Seen). AreKept seen pieces.items) c.self.view_is c.self.invariant in
    let piece = c.index-piece.result.now in
    let span = c.index-span.result.now in
    let are = kept_read seen pieces.items c.args.node piece span kept c.requires c.index-piece.ensures c.index-span.ensures in
    let same : slice_range piece.calls.items span.0 span.1 ≡ c.between.result.now =
    sym (c.between.ensures ∙ ap (λ (xs : List PlacedCall). slice_range xs span.0 span.1) c.deref.ensures.value) in
    let P : List PlacedCall → Type 0 = λ xs. (call : CallAt) → Contains (see_calls xs) call ↔ IsCallOf seen c.args.node call in
    subst P same (calls_between seen c.args.node piece.calls.items span are)
