-- The offset that a fault of a clause tells is one of the text.
use Rattle.std.proofs.Common.{◌≡◌, ℕ, List, [], ◌∷◌, Some, length, slice_get, sym, subst, arith, zero, suc}
use Rattle.std.specs.Str.{IsUtf8}
use Rattle.std.proofs.lemmas.Str.{IsUtf8-take}
use Rattle.std.proofs.Math.Seq.{take-length}
use Rattle.prolog_tokens.specs.declared.token.Token.{Token}
use Rattle.prolog_tokens.specs.Cut.{IsTokenOf}
use Rattle.prolog_tokens.specs.Places.{IsOffset}
use Rattle.prolog_tokens.proofs.Names.{token_from}
use Rattle.prolog_tokens.proofs.OneToken.{token_some, token_within}
use Rattle.prolog_terms.specs.declared.read_fault.ReadFault.{ReadFault}
use Rattle.prolog_terms.specs.declared.read_fault.ReadFault.TheVariants as of_clauses
use Rattle.prolog_terms.specs.Words.{Word, Table}
use Rattle.prolog_terms.specs.StuckPlace.{IsStuckAt, IsTooDeepAt}
use Rattle.prolog_terms.specs.Clause.{StandsAt, IsReadFault}
use Rattle.prolog_terms.proofs.TokenWords.{AreSpelled}

spelled_at : (text : List ℕ) (ts : List Token) (k : ℕ) (t : Token) → AreSpelled text ts → slice_get ts k ≡ Some t → IsTokenOf text t
spelled_at text [] k t spelled is = cc
spelled_at text (u ∷ ts) zero t spelled is = let same : u ≡ t = (let both : Some u ≡ Some t = is in cc) in subst (IsTokenOf text) same spelled.0
spelled_at text (u ∷ ts) (suc k) t spelled is = spelled_at text ts k t spelled.1 is

token_offset : (text : List ℕ) (t : Token) → IsUtf8 text → IsTokenOf text t → IsOffset text t.start
token_offset text t utf8 spelled = record {
  within = omega (arith, token_some text t.start t.end t.kind spelled.spells, token_within text t.start t.end t.kind spelled.spells);
  utf8 = IsUtf8-take text t.start utf8 (token_from text t.start t.end t.kind spelled.spells);
}

-- a token of the part begins at the offset
stands_offset : (text : List ℕ) (ts : List Token) (at : ℕ) (P : List Word → ℕ → Type 0) → IsUtf8 text → AreSpelled text ts → StandsAt text ts at P → IsOffset text at
stands_offset text ts at P utf8 spelled s =
    subst (IsOffset text) (sym s.starts) (token_offset text s.token utf8 (spelled_at text ts s.place s.token spelled s.stands))

whole_offset : (text : List ℕ) (at : ℕ) → at ≡ length text → IsUtf8 text → IsOffset text at
whole_offset text at is utf8 = subst (IsOffset text) (sym is) (record { within = omega arith; utf8 = subst IsUtf8 (sym (take-length text)) utf8 })

-- the offset that a fault of a clause tells
abbrev pub TellsOffset : List ℕ → ReadFault → Type 0
TellsOffset text (of_clauses.Stuck at) = IsOffset text at
TellsOffset text (of_clauses.TooDeep at) = IsOffset text at
TellsOffset text (of_clauses.NoEnd at) = IsOffset text at
TellsOffset text of_clauses.NoMemory = Unit {0}

pub read_offset : (T : Table) (text : List ℕ) (ts : List Token) (fault : ReadFault) → IsUtf8 text → AreSpelled text ts → IsReadFault T text ts fault → TellsOffset text fault
read_offset T text ts (of_clauses.Stuck at) utf8 spelled s = stands_offset text ts at (IsStuckAt T) utf8 spelled s
read_offset T text ts (of_clauses.TooDeep at) utf8 spelled s = stands_offset text ts at (IsTooDeepAt T) utf8 spelled s
read_offset T text ts (of_clauses.NoEnd at) utf8 spelled s = whole_offset text at s.0 utf8
read_offset T text ts of_clauses.NoMemory utf8 spelled s = absurd s
