-- The predicates of a file and their clauses.
use Rattle.std.specs.Prelude.{ℕ, ◌≡◌, ◌≢◌, ◌+◌, ◌<◌, List, [], ◌∷◌, ◌++◌, Option, Some, None, Bool, true, false, ◌&&◌, nat_eq, if◌then◌else◌}
use Rattle.std.specs.Prelude.{map, flat_map, length, Contains, All, slice_index_or}
use Rattle.std.specs.declared.cmp.Ordering.{Ordering}
use Rattle.std.specs.Ordering.{ordering_then, nat_cmp, is_lt}
use Rattle.std.specs.Cmp.Lexicographic.{slice_cmp}
use Rattle.std.specs.List.Sorted.{IsStrictlySortedBy}
use Rattle.std.specs.Str.{bytes_eq}
use Rattle.prolog_names.specs.Names.{name_at}
use Rattle.prolog_terms.specs.Tree.{Tree}
use Rattle.clause_text.specs.declared.text_clauses.Clause.{Clause}
use Rattle.clause_text.specs.Clauses.{clause_trees}
use Rattle.module_table.specs.declared.clauses.Clauses.{Clauses}
use Rattle.module_table.specs.declared.clauses.Clauses.TheVariants.{One, More}
use Rattle.module_table.specs.declared.defined.Defined.{Defined}

-- a predicate of a module is defined, by a clause or without one
pub record Defines : Type 0 where
  pub module_ : List ℕ
  pub name : List ℕ
  pub arity : ℕ
  pub clause : Option Tree

-- a predicate of a module with its clauses
pub record Predicate : Type 0 where
  pub module_ : List ℕ
  pub name : List ℕ
  pub arity : ℕ
  pub clauses : List Tree

-- the clauses that are kept of a predicate
abbrev pub kept_clauses : Clauses → List Clause
kept_clauses (One one) = one
kept_clauses (More more) = more.items

-- a predicate that is kept; its own names and those of its clauses are numbers in these names
abbrev pub see_defined : List (List ℕ) → Defined → Predicate
see_defined names d = record {
  module_ = name_at names d.module;
  name = name_at names d.name;
  arity = d.arity;
  clauses = clause_trees names (kept_clauses d.clauses);
}

-- the predicate is defined by the clause
abbrev pub defined_by : List ℕ → List ℕ → ℕ → Tree → Defines
defined_by owner name arity tree = record { module_ = owner; name = name; arity = arity; clause = Some tree }

-- the predicate is defined by each of these clauses, or without one where there are none
abbrev pub defined_by_all : List ℕ → List ℕ → ℕ → List Tree → List Defines
defined_by_all owner name arity [] = record { module_ = owner; name = name; arity = arity; clause = None } ∷ []
defined_by_all owner name arity (tree ∷ trees) = map (defined_by owner name arity) (tree ∷ trees)

-- what a run defines: its predicate, by each of its clauses or without one
abbrev pub see_run : List (List ℕ) → Defined → List Defines
see_run names run = defined_by_all (name_at names run.module) (name_at names run.name) run.arity (clause_trees names (kept_clauses run.clauses))

-- the last of the runs is of the predicate with these numbers, and has clauses
pub record EndIn (owner name arity : ℕ) (runs : List Defined) : Type 0 where
  pub before : List Defined
  pub last : Defined
  pub are : runs ≡ before ++ last ∷ []
  pub modules : last.module ≡ owner
  pub names : last.name ≡ name
  pub arities : last.arity ≡ arity
  pub some : kept_clauses last.clauses ≢ []

-- the clause, where it is one of the predicate
abbrev pub clause_for : List ℕ → List ℕ → ℕ → Defines → List Tree
clause_for owner name arity d = elim d.clause [
  | Some tree ↦ if bytes_eq owner d.module_ && (bytes_eq name d.name && nat_eq arity d.arity) then tree ∷ [] else []
  | None ↦ []
]

-- the clauses of a predicate, in order
abbrev pub clauses_for : List ℕ → List ℕ → ℕ → List Defines → List Tree
clauses_for owner name arity ds = flat_map (clause_for owner name arity) ds

-- the predicate is defined
pub record IsDefined (owner name : List ℕ) (arity : ℕ) (ds : List Defines) : Type 0 where
  pub clause : Option Tree
  pub stands : Contains ds (record { module_ = owner; name = name; arity = arity; clause = clause })

-- by module, then by name, then by arity
abbrev pub predicate_cmp : Predicate → Predicate → Ordering
predicate_cmp p q = ordering_then (slice_cmp nat_cmp p.module_ q.module_) (ordering_then (slice_cmp nat_cmp p.name q.name) (nat_cmp p.arity q.arity))

-- the predicates that are defined, in order, each once and with its clauses
pub record AreDefined (ds : List Defines) (defined : List Predicate) : Type 0 where
  pub in_order : IsStrictlySortedBy predicate_cmp defined
  pub each : (p : Predicate) → Contains defined p → IsDefined p.module_ p.name p.arity ds × (p.clauses ≡ clauses_for p.module_ p.name p.arity ds)
  pub all : (owner name : List ℕ) (arity : ℕ) → IsDefined owner name arity ds
      → Contains defined (record { module_ = owner; name = name; arity = arity; clauses = clauses_for owner name arity ds })

-- a predicate of that module, name and arity, with which others are compared
abbrev pub key : List ℕ → List ℕ → ℕ → Predicate
key owner name arity = record { module_ = owner; name = name; arity = arity; clauses = [] }

abbrev pub key_of : List (List ℕ) → Defined → Predicate
key_of names d = key (name_at names d.module) (name_at names d.name) d.arity

-- whether a run is of a predicate that comes before another's
abbrev pub comes_before : List (List ℕ) → Defined → Defined → Bool
comes_before names a b = is_lt (predicate_cmp (key_of names a) (key_of names b))

-- each run is of a predicate that comes before that of the next one
abbrev pub AreApart : List (List ℕ) → List Defined → Type 0
AreApart names runs =
    (k : ℕ) (d : Defined) → k + 1 < length runs → true ≡ comes_before names (slice_index_or runs k d) (slice_index_or runs (k + 1) d)

-- none of these is of a predicate that comes after p
abbrev pub NoneIsAfter : Predicate → List Defines → Type 0
NoneIsAfter p ds = All (λ e. is_lt (predicate_cmp p (key e.module_ e.name e.arity)) ≡ false) ds
