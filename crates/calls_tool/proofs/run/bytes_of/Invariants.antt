use Rattle.std.proofs.Common.{◌≡◌, ◌++◌}
use Rattle.call_told.specs.Told.{joined}
use Rattle.tool_run.specs.Say.{concatenated}
use Rattle.calls_tool.proofs.run.bytes_of.Given as goal

-- the bytes of the texts so far, and the texts that are left
abbrev pub invariant-loop-text : goal.invariant-loop-text
invariant-loop-text l = record {
  left : l.yielded ++ l.text-iterator.rest.items ≡ l.fn.texts.items;
  bytes : concatenated l.bytes.items ≡ joined l.yielded;
}
