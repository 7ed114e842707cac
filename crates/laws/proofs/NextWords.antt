-- Each token of a part of a text is spelled in it, and has one word.
use Rattle.std.proofs.Common.{◌≡◌, ℕ, zero, suc, List, [], ◌∷◌, Some, slice_get, subst}
use Rattle.prolog_tokens.specs.declared.token.Token.{Token}
use Rattle.prolog_tokens.specs.Cut.{IsTokenOf}
use Rattle.prolog_terms.specs.Words.{Word}
use Rattle.prolog_terms.specs.Clause.{IsWordOf, ArePart}
use Rattle.prolog_terms.proofs.TokenWords.{AreSpelled, one_words, part_spelled}
use Rattle.prolog_terms.proofs.WordsOf.{has_word}
use Rattle.prolog_terms.proofs.ReadClause.{NextWord}

spelled_at : (text : List ℕ) (ts : List Token) → AreSpelled text ts → (k : ℕ) (t : Token) → slice_get ts k ≡ Some t → IsTokenOf text t
spelled_at text [] spelled k t is = let none : ⊥ = cc in absurd none
spelled_at text (u ∷ us) spelled zero t is = let same : u ≡ t = cc in subst (IsTokenOf text) same spelled.0
spelled_at text (u ∷ us) spelled (suc k) t is = spelled_at text us spelled.1 k t is

pub token_spelled : (text : List ℕ) (ts : List Token) → ArePart text ts → (k : ℕ) (t : Token) → slice_get ts k ≡ Some t → IsTokenOf text t
token_spelled text ts part k t is = spelled_at text ts (part_spelled text ts part) k t is

same_first : (v w : Word) → v ∷ [] ≡ w ∷ [] → v ≡ w
same_first v w same = cc

one_word : (text : List ℕ) (t : Token) (v w : Word) → IsTokenOf text t → IsWordOf text t v → IsWordOf text t w → v ≡ w
one_word text t v w spelled x y = same_first v w (one_words text (t ∷ []) (v ∷ []) (w ∷ []) (spelled, tt) (x, tt) (y, tt))

-- the word of a token, which is the only one
pub record HasNextWord (text : List ℕ) (t : Token) : Type 0 where
  pub word : Word
  pub next : NextWord text t word

pub has_next_word : (text : List ℕ) (t : Token) → IsTokenOf text t → HasNextWord text t
has_next_word text t spelled =
    let found = has_word text t (record { spelled = spelled }) in
    record { word = found.word; next = record { is = found.is; only = λ other is. one_word text t other found.word spelled is found.is } }
