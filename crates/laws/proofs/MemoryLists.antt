-- Each list that isn't too long is that of a `Vec`.
use Rattle.std.proofs.Common.{◌<◌, ◌^◌, List, length, refl, arith}
use Rattle.std.specs.Prelude.{Vec}
use Rattle.std.specs.declared.alloc.Global.{Global}
use Rattle.std.proofs.Handle.{handle}
use denote.RawPtr.{null_ptr}

abbrev pub vec_of : {X : Type 0} (xs : List X) → length xs < 2 ^ 63 → Vec X Global
vec_of xs short = record { ptr = null_ptr; len = length xs; cap = length xs; alloc = handle; items = xs; ok = (refl, omega arith); small = short }
