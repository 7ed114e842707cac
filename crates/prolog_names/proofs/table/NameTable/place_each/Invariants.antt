use Rattle.std.proofs.Common.{◌≡◌, ◌+◌, ◌≤◌, fold, length, map, take}
use Rattle.prolog_names.specs.Table.{bytes_of, with_name}
use Rattle.prolog_names.proofs.table.NameTable.place_each.Given as goal

-- the names so far are put in, and there are no more of them, and of bytes, than theirs
abbrev pub invariant-loop-name : goal.invariant-loop-name
invariant-loop-name l = record {
  names : l.self ≡ fold with_name l.initial.self (map (λ name. name.now) (take l.name-index l.names));
  count : length l.self ≤ length l.initial.self + l.name-index;
  few : bytes_of l.self ≤ bytes_of l.initial.self + bytes_of (map (λ name. name.now) (take l.name-index l.names));
}
