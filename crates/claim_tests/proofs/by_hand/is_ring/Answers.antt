use Rattle.std.proofs.Common.{◌∙◌, sym}
use Rattle.std.proofs.lemmas.Bool.{OnTrue_from}
use Rattle.std.proofs.lemmas.Slice.Eq.{bytes_eq-Decides}
use Rattle.claim_tests.proofs.by_hand.is_ring.Goals as goal

pub returns : goal.returns
returns c =
    OnTrue_from c.eq.result _
    (λ holds. (bytes_eq-Decides c.args.nodes.now c.as_slice.result.now).0 (sym c.eq.ensures ∙ holds) ∙ c.as_slice.ensures)
