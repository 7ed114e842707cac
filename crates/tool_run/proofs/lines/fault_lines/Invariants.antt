use Rattle.std.proofs.Common.{◌≡◌, take}
use Rattle.std.specs.String.{string_bytes}
use Rattle.tool_run.specs.Lines.{fault_lines}
use Rattle.tool_run.proofs.lines.fault_lines.Given as goal

-- the lines so far
abbrev pub invariant-loop-fault : goal.invariant-loop-fault
invariant-loop-fault l = string_bytes l.text ≡ fault_lines (take l.fault-index l.faults)
