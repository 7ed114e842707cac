use Rattle.std.proofs.Common.{◌≡◌, take, fold}
use Rattle.search_stack.specs.NodeHash.{shifted}
use Rattle.search_stack.proofs.node_hasher.NodeHasherHasher.write.Given as goal

-- the bytes so far are written
abbrev pub invariant-loop-byte : goal.invariant-loop-byte
invariant-loop-byte l = l.node ≡ fold shifted l.fn.self.node (take l.byte-index l.bytes)
