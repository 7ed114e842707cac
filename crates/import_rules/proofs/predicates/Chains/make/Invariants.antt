use Rattle.std.proofs.Common.{◌≡◌, ◌<◌, length, map, take}
use Rattle.prolog_names.specs.Table.{bucket_in, AreChains}
use Rattle.import_rules.specs.Chained.{next_in, hashes_in}
use Rattle.import_rules.proofs.predicates.Chains.make.Given as goal

-- the predicates so far stand in chains, with their hashes
abbrev pub invariant-loop-hash : goal.invariant-loop-hash
invariant-loop-hash l =
    AreChains (map (bucket_in l.size) l.hash-items) l.hash-index l.heads.items (next_in l.links.items)
    × (hashes_in l.links.items ≡ take l.hash-index l.hash-items)
    × (length l.heads.items ≡ l.size) × (0 < l.size)
