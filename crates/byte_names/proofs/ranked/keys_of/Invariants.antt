use Rattle.std.proofs.Common.{◌≡◌, vec_len}
use Rattle.byte_names.specs.Keys.{AreKeys}
use Rattle.byte_names.specs.Names.{names_of}
use Rattle.byte_names.proofs.ranked.keys_of.Given as goal

-- the names so far have their keys
abbrev pub invariant-loop-name : goal.invariant-loop-name
invariant-loop-name l = AreKeys (names_of l.names) l.name-index l.keys.items × (vec_len l.keys ≡ l.name-index)
