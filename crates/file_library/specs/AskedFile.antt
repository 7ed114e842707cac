-- What a file that was asked for is found to be.
use Rattle.std.specs.Prelude.{◌≡◌, ℕ, ◌≤◌, List, [], Option, Some, None, Result, IfOk, Vec, map}
use Rattle.std.specs.List.{flat_map, AllZip}
use Rattle.std.specs.declared.alloc.AllocError.{AllocError}
use Rattle.std.specs.declared.alloc.Global.{Global}
use Rattle.prolog_tokens.specs.Places.{IsOffset}
use Rattle.module_table.specs.Facts.{Facts, see_facts}
use Rattle.module_table.specs.FileText.{HasFacts, HasFault}
use Rattle.module_table.specs.Said.{Loads, Refusal}
use Rattle.module_table.specs.declared.said.FactFault.{FactFault}
use Rattle.module_table.specs.declared.said.FactFault.TheVariants.{At, NoMemory}
use Rattle.file_library.specs.Library.{Answered}
use Rattle.file_library.specs.Answers.{see_answer, bytes_of}
use Rattle.prolog_tokens.specs.declared.limits.TheConstants.{MOST_BYTES}
use Rattle.file_library.specs.declared.answer.Answer.{Answer}
use Rattle.file_library.specs.declared.asked_file.AskedFile.{AskedFile}
use Rattle.file_library.specs.declared.asked_file.Content.{Content}
use Rattle.file_library.specs.declared.asked_file.Content.TheVariants.{Absent, Sound, Faulty}

-- there is no such file; its text with its facts, or with its fault
pub data Found : Type 0 where
  absent : Found
  sound : List ℕ → Facts → Found
  faulty : List ℕ → Refusal → Found

pub record FileFound : Type 0 where
  pub name : List ℕ
  pub found : Found

abbrev pub see_content : Content → Found
see_content Absent = absent
see_content (Sound bytes facts) = sound bytes.items (see_facts facts)
see_content (Faulty bytes cause offset) = faulty bytes.items (record { cause = cause; offset = offset })

abbrev pub see_file : AskedFile → FileFound
see_file file = record { name = file.name; found = see_content file.content }

abbrev pub text_of : Found → Option (List ℕ)
text_of absent = None
text_of (sound text facts) = Some text
text_of (faulty text fault) = Some text

-- what the library answered for the file
abbrev pub answered_of : FileFound → Answered
answered_of file = record { name = file.name; text = text_of file.found }

-- the names of the files that a file loads, which is none where it has a fault
abbrev pub loads_of : Found → List (List ℕ)
loads_of absent = []
loads_of (sound text facts) = map (λ (load : Loads). load.file) facts.loads
loads_of (faulty text fault) = []

abbrev pub loads_in : List FileFound → List (List ℕ)
loads_in files = flat_map (λ (file : FileFound). loads_of file.found) files

-- the facts or the fault are those of the file of that name with the text
abbrev pub IsTold : List ℕ → Found → Type 0
IsTold name absent = Unit {0}
IsTold name (sound text facts) = HasFacts name text facts
IsTold name (faulty text fault) = HasFault name text fault × IsOffset text fault.offset

abbrev pub IsOfText : FileFound → Type 0
IsOfText file = IsTold file.name file.found

-- why a file of that name with the text has no facts; want of memory says nothing of it
abbrev pub IsFaultOf : List ℕ → List ℕ → FactFault → Type 0
IsFaultOf name text (At cause offset) = HasFault name text (record { cause = cause; offset = offset }) × IsOffset text offset
IsFaultOf name text NoMemory = Unit {0}

abbrev pub IsSmall : Answer → Type 0
IsSmall answer = bytes_of (see_answer answer) ≤ MOST_BYTES

-- the file is that of the answer
pub record IsParsed (answer : Answer) (file : AskedFile) : Type 0 where
  pub answered : answered_of (see_file file) ≡ see_answer answer
  pub told : IsOfText (see_file file)

abbrev pub AreParsed : List Answer → Result (Vec AskedFile Global) AllocError → Type 0
AreParsed answers result = IfOk result (λ files. AllZip IsParsed answers files.items)

-- the items of lists, one list after another
abbrev pub items_in : {X : Type 0} → List (Vec X Global) → List X
items_in lists = flat_map (λ list. list.items) lists
