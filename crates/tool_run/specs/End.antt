-- How a run ends, with its status and its bytes.
use Rattle.std.specs.Prelude.{ℕ, List, [], ◌++◌, codes}
use Rattle.file_library.specs.declared.fault.Fault.{Fault}
use Rattle.import_rules.specs.declared.names.PredName.{PredName}
use Rattle.tool_run.specs.declared.stop.Limit.{Limit}
use Rattle.tool_run.specs.Lines.{fault_lines, missing_line, unread_line, limit_line, memory_line}

pub data End : Type 0 where
  usage : End
  faults : List Fault → End
  missing : PredName → End
  unread : List ℕ → End
  limit : Limit → End
  output : List ℕ → End
  no_memory : End

abbrev pub status_of : End → ℕ
status_of usage = 2
status_of (faults found) = 3
status_of (missing root) = 2
status_of (unread name) = 4
status_of (limit passed) = 6
status_of (output bytes) = 0
status_of no_memory = 7

-- the bytes for `out`: what is told of the files alone goes there
abbrev pub out_of : End → List ℕ
out_of (output bytes) = bytes
out_of end = []

-- the bytes for `err`, of a program of this name with this line of usage
abbrev pub err_of : List ℕ → List ℕ → End → List ℕ
err_of name line usage = line
err_of name line (faults found) = fault_lines found
err_of name line (missing root) = missing_line name root
err_of name line (unread file) = unread_line name file
err_of name line (limit passed) = limit_line name passed
err_of name line (output bytes) = []
err_of name line no_memory = memory_line name
