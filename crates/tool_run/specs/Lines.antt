-- The lines that say why a run tells nothing: those of faults, and those that begin with the name of the program that runs.
use Rattle.std.specs.Prelude.{ℕ, List, [], ◌++◌, ◌==◌, if◌then◌else◌, codes}
use Rattle.std.specs.Fmt.{decimal}
use Rattle.std.specs.List.{flat_map}
use Rattle.prolog_tokens.specs.declared.token.Place.{Place}
use Rattle.clause_text.specs.Cause.{cause_text}
use Rattle.file_library.specs.declared.fault.Fault.{Fault}
use Rattle.import_rules.specs.declared.names.PredName.{PredName}
use Rattle.import_rules.specs.declared.resolve.TheConstants.{MOST_PREDICATES}
use Rattle.loop_report.specs.Names.{name_text}
use Rattle.tool_run.specs.declared.stop.Limit.{Limit}
use Rattle.tool_run.specs.declared.stop.Limit.TheVariants.{TooManyFiles, FileTooLarge, TooMuchText, TooManyPredicates}

-- a place behind a file's name: `:LINE:COLUMN`, and nothing where the line is 0
abbrev pub place_text : Place → List ℕ
place_text place = if place.line == 0 then [] else codes ":" ++ (decimal place.line ++ (codes ":" ++ decimal place.column))

-- the line of a fault: `FILE:LINE:COLUMN: TEXT`, or `FILE: TEXT`
abbrev pub fault_line : Fault → List ℕ
fault_line fault = fault.file ++ (place_text fault.place ++ (codes ": " ++ (cause_text fault.cause ++ codes "\n")))

-- a line for each fault, in their order
abbrev pub fault_lines : List Fault → List ℕ
fault_lines faults = flat_map fault_line faults

-- a name of the words that is no predicate of the files, as the program of this name says it
abbrev pub missing_line : List ℕ → PredName → List ℕ
missing_line program root = program ++ (codes ": no predicate " ++ (name_text root ++ codes "\n"))

abbrev pub unread_line : List ℕ → List ℕ → List ℕ
unread_line program name = program ++ (codes ": cannot read " ++ (name ++ codes "\n"))

abbrev pub limit_line : List ℕ → Limit → List ℕ
limit_line program TooManyFiles = program ++ codes ": more than 1024 files\n"
limit_line program (FileTooLarge name) = program ++ (codes ": " ++ (name ++ codes " is larger than 8388608 bytes\n"))
limit_line program TooMuchText = program ++ codes ": more than 33554432 bytes of text\n"
limit_line program TooManyPredicates = program ++ (codes ": more than " ++ (decimal MOST_PREDICATES ++ codes " predicates\n"))

-- there is no memory for what is to be told
abbrev pub memory_line : List ℕ → List ℕ
memory_line program = program ++ codes ": out of memory\n"
