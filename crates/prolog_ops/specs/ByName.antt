-- The operators of one place, by their names.
use Rattle.std.specs.Prelude.{ℕ, List, Option, Some, None, if◌then◌else◌, map, fold}
use Rattle.std.specs.Str.{bytes_eq}
use Rattle.std.specs.String.{string_bytes}
use Rattle.std.specs.Map.{lookup}
use Rattle.std.specs.declared.alloc.Global.{Global}
use Rattle.std.specs.declared.string.String.{String}
use Rattle.prolog_ops.specs.declared.op.Op.{Op}

-- names with their operators
abbrev pub Entries : Type 0
Entries = List (List ℕ × Op)

-- the operator of each name, where it is one
abbrev pub ByName : Type 0
ByName = List ℕ → Option Op

abbrev pub op_at : Entries → ByName
op_at entries name = lookup (bytes_eq name) entries

abbrev pub no_op : ByName
no_op name = None

-- the same, with this at the name
abbrev pub with_op : ByName → List ℕ → Option Op → ByName
with_op ops name op other = if bytes_eq name other then op else ops other

-- the same, with the operator at each of these names
abbrev pub with_each : ByName → List (List ℕ) → Op → ByName
with_each ops names op = fold (λ before name. with_op before name (Some op)) ops names

abbrev pub entries_of : List (String Global × Op) → Entries
entries_of ops = map (λ entry. (string_bytes entry.0, entry.1)) ops
