-- How a run ends, with its status and its bytes.
use Rattle.std.specs.Prelude.{ℕ, List, [], Result, Ok, Err, Vec}
use Rattle.std.specs.declared.alloc.Global.{Global}
use Rattle.byte_names.specs.Names.{name_at}
use Rattle.component_answer.specs.declared.answer.TextFault.{TextFault}
use Rattle.component_answer.specs.declared.answer.Answer.{Answer}
use Rattle.component_answer.specs.declared.answer.Answer.TheVariants as of_answer
use Rattle.tool_run.specs.Lines.{unread_line, memory_line}
use Rattle.component_tool.specs.Lines.{program_name, usage_line, large_line, fault_line, edges_line, missing_line, nodes_line}
use Rattle.component_tool.specs.declared.stop.Stop.{Stop}
use Rattle.component_tool.specs.declared.stop.Stop.TheVariants as of_stop

pub data End : Type 0 where
  usage : End
  unread : List ℕ → End
  too_large : List ℕ → End
  faulty : List ℕ → TextFault → End
  too_many_edges : End
  too_many_nodes : End
  no_node : List ℕ → End
  output : List ℕ → End
  no_memory : End

abbrev pub status_of : End → ℕ
status_of usage = 2
status_of (unread file) = 4
status_of (too_large file) = 6
status_of (faulty file fault) = 3
status_of too_many_edges = 6
status_of too_many_nodes = 6
status_of (no_node root) = 2
status_of (output bytes) = 0
status_of no_memory = 7

-- the bytes for `out`
abbrev pub out_of : End → List ℕ
out_of (output bytes) = bytes
out_of end = []

-- the bytes for `err`
abbrev pub err_of : End → List ℕ
err_of usage = usage_line
err_of (unread file) = unread_line program_name file
err_of (too_large file) = large_line file
err_of (faulty file fault) = fault_line file fault
err_of too_many_edges = edges_line
err_of too_many_nodes = nodes_line
err_of (no_node root) = missing_line root
err_of (output bytes) = []
err_of no_memory = memory_line program_name

-- what is said of a text of that name with these roots, as an end
abbrev pub end_of_answer : List ℕ → List (List ℕ) → Answer → End
end_of_answer file roots (of_answer.Report bytes) = output bytes.items
end_of_answer file roots (of_answer.Fault fault) = faulty file fault
end_of_answer file roots of_answer.TooManyEdges = too_many_edges
end_of_answer file roots of_answer.TooManyNodes = too_many_nodes
end_of_answer file roots (of_answer.NoNode place) = no_node (name_at roots place)

-- why there is no report on a text of that name, as an end
abbrev pub end_of_stop : List ℕ → Stop → End
end_of_stop file of_stop.Unread = unread file
end_of_stop file of_stop.TooLarge = too_large file
end_of_stop file (of_stop.Fault fault) = faulty file fault
end_of_stop file of_stop.TooManyEdges = too_many_edges
end_of_stop file of_stop.TooManyNodes = too_many_nodes
end_of_stop file (of_stop.NoNode root) = no_node root
end_of_stop file of_stop.NoMemory = no_memory

abbrev pub end_of : List ℕ → Result (Vec ℕ Global) Stop → End
end_of file (Ok bytes) = output bytes.items
end_of file (Err stop) = end_of_stop file stop
