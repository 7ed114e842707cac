use Rattle.std.proofs.Common.{◌≡◌, take}
use Rattle.prolog_names.specs.Table.{text_hash}
use Rattle.prolog_names.proofs.table.text_hash.Given as goal

-- the hash of the bytes so far
abbrev pub invariant-loop-byte : goal.invariant-loop-byte
invariant-loop-byte l = l.state ≡ text_hash (take l.byte-index l.byte-items)
