-- The lines that say why there is no report.
use Rattle.std.specs.Prelude.{ℕ, List, ◌++◌, codes}
use Rattle.std.specs.Fmt.{decimal}
use Rattle.edge_json.specs.declared.cause.Cause.{Cause}
use Rattle.edge_json.specs.declared.cause.Cause.TheVariants.{NotEdge, LongName}
use Rattle.component_answer.specs.declared.answer.TextFault.{TextFault}

abbrev pub program_name : List ℕ
program_name = codes "components"

abbrev pub usage_line : List ℕ
usage_line = codes "usage: components [--jobs N] [--roots NAME].. [--order] [--json] [--loops] [--from-json] [FILE]\n"

abbrev pub large_line : List ℕ → List ℕ
large_line file = codes "components: " ++ (file ++ codes " is larger than 1073741824 bytes\n")

-- `:LINE:COLUMN`
abbrev pub place_text : TextFault → List ℕ
place_text fault = codes ":" ++ (decimal fault.line ++ (codes ":" ++ decimal fault.column))

abbrev pub cause_text : Cause → List ℕ
cause_text NotEdge = codes ": line is not an edge\n"
cause_text LongName = codes ": name is longer than 65536 bytes\n"

-- a file and a place in it, and what is wrong there
abbrev pub fault_line : List ℕ → TextFault → List ℕ
fault_line file fault = file ++ (place_text fault ++ cause_text fault.cause)

abbrev pub edges_line : List ℕ
edges_line = codes "components: more than 33554432 edges\n"

abbrev pub nodes_line : List ℕ
nodes_line = codes "components: more than 8388608 nodes\n"

abbrev pub missing_line : List ℕ → List ℕ
missing_line root = codes "components: no node " ++ (root ++ codes "\n")
