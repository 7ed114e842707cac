-- The steps in the words of the calls: a node's word is one more than its number.
use Rattle.std.proofs.Common.{◌≡◌, ℕ, suc, ◌<◌, ◌+◌, List, [], ◌∷◌, length, replicate, true, None, Some, ap, ◌∙◌, sym, subst, arith, eqb}
use Rattle.std.specs.Prelude.{All}
use mathlib.Core.Option.{none}
use prog.Atomic.{either}
use Rattle.atomic_table.specs.Table.{Me, Allows, opening, rest, step}
use Rattle.atomic_table.specs.Seated.{TableId}
use Rattle.list_laws.specs.Counts.{times, flat}
use Rattle.list_laws.proofs.Counting.{standing}
use Rattle.graph_law.specs.LegalOrder.{IsComplete}
use Rattle.group_release.specs.Book.{BookValue}
use Rattle.group_release.proofs.Nodes.{from_flat}
use Rattle.node_claims.specs.declared.view.Taken.{Taken}
use Rattle.node_claims.specs.declared.view.View.{View}
use Rattle.node_claims.specs.Claims.{ClaimsValue}
use Rattle.node_claims.specs.Views.{fresh, outline_of}
use Rattle.node_claims.specs.Rule.{RuleHolds, Slot}
use Rattle.node_claims.specs.Steps.{IsLent, MayClose, MayGive, claims, closes, gives_turn, looks_at}
use Rattle.node_claims.proofs.Claiming.{claims_it, looks_it}
use Rattle.node_claims.proofs.Turning.{closes_it, gives_one}
use Rattle.node_claims.proofs.Passes.{begins_it}

one_more : (x : ℕ) → suc x ≡ x + 1
one_more x = omega arith

pub claims_as : (slots id x : ℕ) (me : Me Slot View) → me.0.live ≡ true → x < length me.0.lists
    → Allows RuleHolds slots id me (x + 1) (λ n. either (eqb n 0) 1 n) (claims (step slots (x + 1) 0 1 none) me)
claims_as slots id x me live lt =
    subst (λ (i : ℕ). Allows RuleHolds slots id me i (λ n. either (eqb n 0) 1 n) (claims (step slots i 0 1 none) me)) (one_more x) (claims_it slots id x me live lt)

pub looks_as : (slots id x : ℕ) (me : Me Slot View) → me.0.live ≡ true → x < length me.0.lists
    → Allows RuleHolds slots id me (x + 1) (λ n. n) (looks_at (step slots (x + 1) 0 0 none) me)
looks_as slots id x me live lt = subst (λ (i : ℕ). Allows RuleHolds slots id me i (λ n. n) (looks_at (step slots i 0 0 none) me)) (one_more x) (looks_it slots id x me live lt)

pub closes_as : (slots id x : ℕ) (me : Me Slot View) (t : Taken) → me.0.live ≡ true → me.0.turn ≡ Some t → MayClose me.0 t x
    → Allows RuleHolds slots id me (x + 1) (λ _. 2) (λ _. closes (step slots (x + 1) 2 0 none) me 2)
closes_as slots id x me t live has may =
    subst (λ (i : ℕ). Allows RuleHolds slots id me i (λ _. 2) (λ _. closes (step slots i 2 0 none) me 2)) (one_more x) (closes_it slots id x me t live has may)

pub gives_as : (slots id : ℕ) (me : Me Slot View) (v : View) (b : BookValue) (t : Taken) (nodes : List ℕ) → me ≡ (v, (0, Some b) ∷ []) → v.live ≡ true
    → v.turn ≡ Some t → MayGive v t (outline_of b) nodes
    → Allows RuleHolds slots id me 0 (λ _. 0) (λ _. gives_turn nodes (step slots 0 0 0 none) me 0)
gives_as slots id me v b t nodes is live has may =
    subst (λ (m : Me Slot View). Allows RuleHolds slots id m 0 (λ _. 0) (λ _. gives_turn nodes (step slots 0 0 0 none) m 0)) (sym is) (gives_one slots id v b t nodes live has may)

abbrev pub pair : View → List (ℕ × Slot) → Me Slot View
pair v held = (v, held)

-- what the slot has after the book was put in it
pub slot_put : (v : View) (b : BookValue) (held : List (ℕ × Slot)) (me : Me Slot View) → me ≡ pair v ((0, Some b) ∷ rest held) → held ≡ (0, None) ∷ []
    → me ≡ pair v ((0, Some b) ∷ [])
slot_put v b held me is out = is ∙ ap (λ (l : List (ℕ × Slot)). pair v ((0, Some b) ∷ rest l)) out

pub table_same : (claims now : ClaimsValue) (t : TableId) → claims ≡ now → now.table ≡ t → t ≡ claims.table
table_same claims now t is at = sym (ap (λ (v : ClaimsValue). v.table) is ∙ at)

pub begins_as : (words : List ℕ) (slots : List Slot) (about b : BookValue) → words ≡ replicate (suc (length b.lists)) 0 → slots ≡ Some b ∷ [] → about ≡ b
    → b.kept ≡ [] → b.groups ≡ [] → RuleHolds (opening words slots (fresh about.lists about.roots))
begins_as words slots about b words_are slots_are about_is no_kept no_groups =
    subst RuleHolds (λ i. opening (sym words_are i) (sym slots_are i) (fresh (sym about_is i).lists (sym about_is i).roots)) (begins_it b no_kept no_groups)

-- each root that the pass saw finished is in a released group
pub complete : (v : View) (b : BookValue) (roots : List ℕ) → IsLent v (outline_of b) → All (λ root. 0 < times root v.seen) roots → IsComplete roots b.groups
complete v b roots lent seen k d lt = from_flat b.groups _ (standing _ (flat b.groups) (lent.seen _ (seen k d lt)))
