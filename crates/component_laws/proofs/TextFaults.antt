-- A text in its form has a first fault, or none.
use Rattle.std.proofs.Common.{◌⊎◌, inl, inr, ℕ, Bool, true, false, List, refl}
use Rattle.edge_text.specs.declared.fault.Fault.{Fault}
use Rattle.edge_text.specs.Faults.{IsFault, IsFirstFault}
use Rattle.edge_json.specs.declared.cause.Cause.TheVariants.{LongName}
use Rattle.edge_json.specs.declared.cause.LineFault.{LineFault}
use Rattle.edge_json.specs.Faults.{IsFaultless as IsFaultlessJson, IsFirstFault as IsFirstLineFault}
use Rattle.component_answer.specs.declared.answer.TextFault.{TextFault}
use Rattle.component_answer.specs.Inputs.{IsFaultless, IsFirstFaultIn}
use Rattle.component_laws.proofs.FirstFaults as of_words
use Rattle.component_laws.proofs.LineFaults as of_lines

pub fault_or_none : (from_json : Bool) (text : List ℕ) → ((fault : TextFault) × IsFirstFaultIn from_json text fault) ⊎ IsFaultless from_json text
fault_or_none true text = go (of_lines.fault_or_none text)
  where
    go : ((fault : LineFault) × IsFirstLineFault text fault) ⊎ IsFaultlessJson text
        → ((fault : TextFault) × IsFirstFaultIn true text fault) ⊎ IsFaultless true text
    go (inl found) = inl (record { line = found.0.line; column = 1; cause = found.0.cause }, (refl, found.1))
    go (inr none) = inr none
fault_or_none false text = go (of_words.fault_or_none text)
  where
    go : ((fault : Fault) × IsFirstFault text fault) ⊎ ((fault : Fault) → IsFault text fault → ⊥)
        → ((fault : TextFault) × IsFirstFaultIn false text fault) ⊎ IsFaultless false text
    go (inl found) = inl (record { line = found.0.line; column = found.0.column; cause = LongName }, (refl, found.1))
    go (inr none) = inr none
