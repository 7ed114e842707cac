-- A text as layout and tokens in turn, and where it isn't one.
use Rattle.std.specs.Prelude.{◌≡◌, ℕ, zero, suc, ◌<◌, ◌⊎◌, ◌↔◌, List, [], ◌∷◌, length, IsTrue}
use Rattle.prolog_tokens.specs.declared.token.Token.{Token}
use Rattle.prolog_tokens.specs.declared.token.TokenFault.{TokenFault}
use Rattle.prolog_tokens.specs.Layout.{IsLayout}
use Rattle.prolog_tokens.specs.Spelling.{IsSpelled}
use Rattle.prolog_tokens.specs.Faults.{IsWrong}

-- the token stands next after the place, behind layout alone
pub record IsNext (text : List ℕ) (at : ℕ) (t : Token) : Type 0 where
  pub layout : IsLayout text at t.start
  pub spelled : IsSpelled text t.kind t.start t.end
  pub told : IsTrue t.after_layout ↔ ((at ≡ 0) ⊎ (at < t.start))

-- the tokens stand one after another, from one place up to another
abbrev pub StandBetween : List ℕ → ℕ → List Token → ℕ → Type 0
StandBetween text a [] b = a ≡ b
StandBetween text a (t ∷ ts) b = IsNext text a t × StandBetween text t.end ts b

-- the whole text is these tokens, with layout between them and at its ends
pub record IsCut (text : List ℕ) (ts : List Token) : Type 0 where
  pub last : ℕ
  pub stand : StandBetween text 0 ts last
  pub layout : IsLayout text last (length text)

-- behind layout from the place on something is wrong
pub record IsWrongNext (text : List ℕ) (at : ℕ) (fault : TokenFault) : Type 0 where
  pub place : ℕ
  pub layout : IsLayout text at place
  pub wrong : IsWrong text place fault

-- tokens with layout between them lead to a place where something is wrong
pub record HasFault (text : List ℕ) (fault : TokenFault) : Type 0 where
  pub tokens : List Token
  pub last : ℕ
  pub stand : StandBetween text 0 tokens last
  pub next : IsWrongNext text last fault

-- where the first k of the tokens that stand from the place on have ended
abbrev pub ended : ℕ → List Token → ℕ → ℕ
ended a ts zero = a
ended a [] (suc k) = a
ended a (t ∷ ts) (suc k) = ended t.end ts k

-- the token is spelled in the text
abbrev pub IsTokenOf : List ℕ → Token → Type 0
IsTokenOf text t = IsSpelled text t.kind t.start t.end
