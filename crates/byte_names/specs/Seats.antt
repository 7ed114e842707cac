-- Where a look-up among names ends.
use Rattle.std.specs.Prelude.{◌≡◌, ℕ, ◌<◌, List, length}
use Rattle.byte_names.specs.declared.name_table.Seat.{Seat}
use Rattle.byte_names.specs.declared.name_table.Seat.TheVariants.{Taken, Free}
use Rattle.byte_names.specs.Names.{name_at}

-- the name has the index
pub record IsNameAt (names : List (List ℕ)) (place : ℕ) (name : List ℕ) : Type 0 where
  pub within : place < length names
  pub named : name_at names place ≡ name

-- where a seat is taken, it is by the name
abbrev pub IsSeat : List (List ℕ) → List ℕ → Seat → Type 0
IsSeat names name (Taken place) = IsNameAt names place name
IsSeat names name (Free at) = Unit {0}
