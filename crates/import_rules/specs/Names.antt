-- The names of predicates.
use Rattle.std.specs.Prelude.{ℕ, Bool, ◌&&◌, List, nat_eq}
use Rattle.std.specs.declared.cmp.Ordering.{Ordering}
use Rattle.std.specs.Ordering.{ordering_then, nat_cmp}
use Rattle.std.specs.Cmp.Lexicographic.{slice_cmp}
use Rattle.std.specs.Str.{bytes_eq}
use Rattle.import_rules.specs.declared.names.PredName.{PredName}

-- by module, then by name, then by arity
abbrev pub pred_cmp : PredName → PredName → Ordering
pred_cmp p q = ordering_then (slice_cmp nat_cmp p.module q.module) (ordering_then (slice_cmp nat_cmp p.name q.name) (nat_cmp p.arity q.arity))

-- whether the names are those of one predicate
abbrev pub is_same : PredName → PredName → Bool
is_same p q = bytes_eq p.module q.module && (bytes_eq p.name q.name && nat_eq p.arity q.arity)

-- the predicate of a module, with its name and its arity
abbrev pub pred_name : List ℕ → List ℕ → ℕ → PredName
pred_name owner name arity = record { «module» = owner; name = name; arity = arity }
