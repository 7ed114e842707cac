-- The bytes of a text, wherever they stand.
use Rattle.std.specs.Prelude.{ℕ, List}
use Rattle.std.specs.String.{string_bytes}
use Rattle.prolog_tokens.specs.declared.text.Room.{Room}
use Rattle.prolog_tokens.specs.declared.text.Room.TheVariants.{Short, Long}

abbrev pub room_bytes : Room → List ℕ
room_bytes room = elim room [ Short bytes ↦ bytes | Long text ↦ string_bytes text ]
