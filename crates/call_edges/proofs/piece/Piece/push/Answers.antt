use Rattle.std.proofs.Common.{ℕ, List, [], ◌∷◌, ◌++◌, length, ap, ◌∙◌}
use Rattle.call_edges.proofs.piece.Piece.push.Goals as goal

pub returns-clause-starts : goal.returns-clause-starts
returns-clause-starts c =
    c.in_ok-push.ensures.items
    ∙ ap (λ n. c.args.self.now.starts.items ++ n ∷ [])
    (c.len.ensures ∙ c.extend_from_slice.new.self.ok.0 ∙ ap (λ (xs : List ℕ). length xs) c.in_ok-extend_from_slice.ensures.items)
