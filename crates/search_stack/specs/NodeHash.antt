-- The hash of a node.
use Rattle.std.specs.Prelude.{ℕ, ◌*◌, ◌/◌, ◌%◌, ◌^◌, List, fold, bit_and, bit_or, bit_xor}
use Rattle.search_stack.specs.declared.node_hasher.NodeHasher.{NodeHasher}

-- the byte comes in at the high end
abbrev pub shifted : ℕ → ℕ → ℕ
shifted node byte = bit_or (node / 2 ^ 8) ((byte * 2 ^ 24) % 2 ^ 32)

-- the last four bytes, the lowest first
abbrev pub written : NodeHasher → List ℕ → NodeHasher
written hasher bytes = record { node = fold shifted hasher.node bytes }

-- the place of nine neighbours, with the low bits of the node at high bits
abbrev pub node_hash : NodeHasher → ℕ
node_hash hasher = bit_xor (hasher.node / 9) ((bit_and hasher.node 255 * 2 ^ 24) % 2 ^ 64)
