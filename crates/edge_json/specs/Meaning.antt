-- What a line of JSON means.
use Rattle.std.specs.Prelude.{ℕ, Bool, ◌||◌, not, List, [], ◌∷◌, Option, None, Some, nat_eq, nat_lt, length, option_and_then, option_map, if◌then◌else◌, codes}
use Rattle.std.specs.List.{list_any}
use Rattle.std.specs.Str.{is_utf8}
use Rattle.serde_json.specs.Data.{Data}
use Rattle.serde_json.specs.Find.{as_str, get}
use Rattle.serde_json.specs.Read.{read}
use Rattle.edge_text.specs.declared.limits.TheConstants.{MOST_NAME}
use Rattle.edge_json.specs.declared.cause.Cause.{Cause}
use Rattle.edge_json.specs.declared.cause.Cause.TheVariants.{NotEdge, LongName}

-- the value of a line that is JSON in UTF-8
abbrev pub line_value : List ℕ → Option Data
line_value line = if is_utf8 line then read line else None

-- a caller and its callee, or a node alone where there is no callee
abbrev pub names_with : Option (List ℕ) → Option Data → Option (List (List ℕ))
names_with None to = None
names_with (Some from) None = Some (from ∷ [])
names_with (Some from) (Some to) = option_map (λ name. from ∷ name ∷ []) (as_str to)

-- the names of an object: its `from` is a string, and so is its `to` if there is one
abbrev pub value_names : Data → Option (List (List ℕ))
value_names value = names_with (option_and_then as_str (get (codes "from") value)) (get (codes "to") value)

-- a name is too long
abbrev pub is_long : List ℕ → Bool
is_long name = nat_lt MOST_NAME (length name)

-- a line says names, the first of which calls the other one, or something is wrong with it
pub data Meaning : Type 0 where
  says : List (List ℕ) → Meaning
  bad : Cause → Meaning

abbrev pub meaning_with : Option (List (List ℕ)) → Meaning
meaning_with None = bad NotEdge
meaning_with (Some names) = if list_any is_long names then bad LongName else says names

-- a blank, a tab or a carriage return
abbrev pub is_blank : ℕ → Bool
is_blank byte = nat_eq byte 32 || nat_eq byte 9 || nat_eq byte 13

abbrev pub is_solid : ℕ → Bool
is_solid byte = not (is_blank byte)

-- a line of blanks says nothing
abbrev pub meaning_of : List ℕ → Meaning
meaning_of line = if list_any is_solid line then meaning_with (option_and_then value_names (line_value line)) else says []
