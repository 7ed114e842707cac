-- What a text says in its form, and what is wrong with it.
use Rattle.std.specs.Prelude.{◌≡◌, ℕ, Bool, true, false, List}
use Rattle.edge_text.specs.declared.fault.Fault.{Fault}
use Rattle.edge_text.specs.EdgeGraph.{Said, said_in}
use Rattle.edge_text.specs.Faults.{IsFault, IsFirstFault}
use Rattle.edge_json.specs.declared.cause.Cause.TheVariants.{LongName}
use Rattle.edge_json.specs.declared.cause.LineFault.{LineFault}
use Rattle.edge_json.specs.Faults.{IsFault as IsLineFault, IsFirstFault as IsFirstLineFault}
use Rattle.edge_json.specs.Said.{json_said}
use Rattle.component_answer.specs.declared.answer.TextFault.{TextFault}

-- what a text says: as JSON Lines, or as words
abbrev pub said_by : Bool → List ℕ → Said
said_by true text = json_said text
said_by false text = said_in text

abbrev pub line_fault : TextFault → LineFault
line_fault fault = record { line = fault.line; cause = fault.cause }

abbrev pub word_fault : TextFault → Fault
word_fault fault = record { line = fault.line; column = fault.column }

-- the first fault: a line that is no edge is told where it begins, and a name in a line of words where the name begins
abbrev pub IsFirstFaultIn : Bool → List ℕ → TextFault → Type 0
IsFirstFaultIn true text fault = (fault.column ≡ 1) × IsFirstLineFault text (line_fault fault)
IsFirstFaultIn false text fault = (fault.cause ≡ LongName) × IsFirstFault text (word_fault fault)

-- nothing is wrong with the text
abbrev pub IsFaultless : Bool → List ℕ → Type 0
IsFaultless true text = (fault : LineFault) → IsLineFault text fault → ⊥
IsFaultless false text = (fault : Fault) → IsFault text fault → ⊥
