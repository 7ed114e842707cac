-- The first word that no clause goes on with.
use Rattle.prolog_terms.specs.declared.reader.TheConstants.{DEEPEST}
use Rattle.std.specs.Prelude.{◌≡◌, ℕ, ◌<◌, ◌+◌, ◌-◌, List, length, take, slice_get, Some}
use Rattle.prolog_tokens.specs.declared.token.Kind.TheVariants.{End}
use Rattle.prolog_terms.specs.Words.{Word, Table}
use Rattle.prolog_terms.specs.Grammar.{Begins, BeginsWithin}

-- the place k is the least such that no clause of the greatest depth, followed by an End, begins with the words up to k
pub record IsRefusedAt (T : Table) (words : List Word) (k : ℕ) : Type 0 where
  pub within : k < length words
  pub before : (j : ℕ) → j < k → BeginsWithin T DEEPEST (take (j + 1) words)
  pub refused : BeginsWithin T DEEPEST (take (k + 1) words) → ⊥

-- no clause of any depth goes on with the word at k
pub record IsStuckAt (T : Table) (words : List Word) (k : ℕ) : Type 0 where
  pub place : IsRefusedAt T words k
  pub none : Begins T (take (k + 1) words) → ⊥

-- only a deeper clause goes on with the word at k
pub record IsTooDeepAt (T : Table) (words : List Word) (k : ℕ) : Type 0 where
  pub place : IsRefusedAt T words k
  pub deeper : Begins T (take (k + 1) words)

-- the words are those of no clause and its End, but begin one
pub record HasNoEnd (T : Table) (words : List Word) : Type 0 where
  pub begins : BeginsWithin T DEEPEST words
  pub open_ended : (w : Word) → slice_get words (length words - 1) ≡ Some w → w.kind ≡ End → ⊥
