-- A failure that was told stays.
use Rattle.std.proofs.Common.{◌≡◌, List, [], ◌∷◌, Some, Bool, true, ap, ◌∙◌, sym, ⊎_elim}
use mathlib.Core.Option.{Option, some}
use Rattle.node_claims.specs.Laws.{FailureStays}
use Rattle.node_claims.specs.Rule.{AtHome, IsOut, Slot}
use Rattle.node_claims.specs.declared.view.Outline.{Outline}

-- whether the book in the slot has failed, where one is there
abbrev failed_at : List (Option Slot) → Bool
failed_at (some (Some book) ∷ homes) = book.failed
failed_at _ = true

pub failure_stays : FailureStays
failure_stays s r i v book at live told homes =
    ⊎_elim
    (λ (h : AtHome s r.known r.closed). ap failed_at (sym homes ∙ h.homes) ∙ ap (λ (o : Outline). o.failed) h.outline ∙ (r.agrees i v at live).told told)
    (λ (h : IsOut s r.known r.closed). ap failed_at (sym homes ∙ h.homes))
    r.turn
