-- The first line that is no edge.
use Rattle.std.proofs.Common.{◌≡◌, ℕ, List, sym, ap, ◌∙◌, arith}
use Rattle.edge_text.specs.Faults.{line_at}
use Rattle.edge_json.specs.declared.cause.Cause.{Cause}
use Rattle.edge_json.specs.declared.cause.LineFault.{LineFault}
use Rattle.edge_json.specs.Meaning.{Meaning, bad, meaning_of, says}
use Rattle.edge_json.specs.Faults.{IsFirstFault}

-- the cause of what is wrong, or another one
abbrev cause_or : Cause → Meaning → Cause
cause_or other (says names) = other
cause_or other (bad cause) = cause

pub one_fault : (text : List ℕ) (fault other : LineFault) → IsFirstFault text fault → IsFirstFault text other → fault ≡ other
one_fault text fault other one two =
    let lines : fault.line ≡ other.line = omega (arith, one.first other two.is, two.first fault one.is) in
    let same : one.is.number ≡ two.is.number = omega (arith, lines, one.is.line_is, two.is.line_is) in
    let causes : fault.cause ≡ other.cause =
    ap (cause_or fault.cause) (sym one.is.means ∙ ap (λ n. meaning_of (line_at text n)) same ∙ two.is.means) in
    λ i. record { line = lines i; cause = causes i }
