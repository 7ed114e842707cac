-- The kinds of effects, by the predicates that have them.
use Rattle.std.specs.Prelude.{ℕ, ◌&&◌, nat_eq, Bool, List, [], ◌∷◌, if◌then◌else◌, codes}
use Rattle.std.specs.List.{list_any}
use Rattle.std.specs.Str.{bytes_eq}
use Rattle.effect_flow.specs.declared.kinds.TheConstants.{OUTPUT, INPUT, DATABASE, STREAMS, THROW, HALT, FLAGS}

-- a name and an arity
pub record Indicator : Type 0 where
  pub name : List ℕ
  pub arity : ℕ

abbrev pub indicator : List ℕ → ℕ → Indicator
indicator name arity = record { name = name; arity = arity }

abbrev pub output_row : List Indicator
output_row =
    indicator (codes "write") 1 ∷ indicator (codes "write") 2 ∷ indicator (codes "writeq") 1 ∷ indicator (codes "writeq") 2
    ∷ indicator (codes "print") 1 ∷ indicator (codes "write_canonical") 1 ∷ indicator (codes "write_canonical") 2
    ∷ indicator (codes "write_term") 2 ∷ indicator (codes "write_term") 3 ∷ indicator (codes "nl") 0 ∷ indicator (codes "nl") 1
    ∷ indicator (codes "put_char") 1 ∷ indicator (codes "put_char") 2 ∷ indicator (codes "format") 1 ∷ indicator (codes "format") 2
    ∷ indicator (codes "format") 3 ∷ []

abbrev pub input_row : List Indicator
input_row =
    indicator (codes "read") 1 ∷ indicator (codes "read") 2 ∷ indicator (codes "read_term") 2 ∷ indicator (codes "read_term") 3
    ∷ indicator (codes "get_char") 1 ∷ indicator (codes "get_char") 2 ∷ indicator (codes "peek_char") 1 ∷ indicator (codes "peek_char") 2 ∷ []

abbrev pub database_row : List Indicator
database_row =
    indicator (codes "assert") 1 ∷ indicator (codes "asserta") 1 ∷ indicator (codes "assertz") 1 ∷ indicator (codes "retract") 1
    ∷ indicator (codes "retractall") 1 ∷ indicator (codes "abolish") 1 ∷ []

abbrev pub streams_row : List Indicator
streams_row =
    indicator (codes "open") 3 ∷ indicator (codes "open") 4 ∷ indicator (codes "close") 1 ∷ indicator (codes "close") 2
    ∷ indicator (codes "set_input") 1 ∷ indicator (codes "set_output") 1 ∷ []

abbrev pub throw_row : List Indicator
throw_row = indicator (codes "throw") 1 ∷ []

abbrev pub halt_row : List Indicator
halt_row = indicator (codes "halt") 0 ∷ indicator (codes "halt") 1 ∷ []

abbrev pub flags_row : List Indicator
flags_row = indicator (codes "set_prolog_flag") 2 ∷ indicator (codes "op") 3 ∷ []

-- the name and the arity stand in the row
abbrev pub is_in_row : List Indicator → List ℕ → ℕ → Bool
is_in_row row name arity = list_any (λ (one : Indicator). nat_eq one.arity arity && bytes_eq one.name name) row

-- the bit of the kind in whose row they stand, or 0
abbrev pub kinds : List ℕ → ℕ → ℕ
kinds name arity =
    if is_in_row output_row name arity then OUTPUT
    else if is_in_row input_row name arity then INPUT
    else if is_in_row database_row name arity then DATABASE
    else if is_in_row streams_row name arity then STREAMS
    else if is_in_row throw_row name arity then THROW
    else if is_in_row halt_row name arity then HALT
    else if is_in_row flags_row name arity then FLAGS
    else 0
