-- Tokens have a first part, up to their first End.
use Rattle.std.proofs.Common.{◌≡◌, ◌≢◌, ◌⊎◌, inl, inr, ℕ, zero, suc, ◌+◌, ◌-◌, ◌<◌, List, [], ◌∷◌, ◌++◌, Some, length, slice_get, refl, ap, sym, ◌∙◌, subst, arith}
use Rattle.prolog_tokens.specs.declared.token.Kind.{Kind}
use Rattle.prolog_tokens.specs.declared.token.Kind.TheVariants.{Name, Quoted, Variable, Integer, Float, Str, BackStr, OpenRound, CloseRound, OpenSquare, CloseSquare, OpenCurly, CloseCurly, Comma, Bar, End}
use Rattle.prolog_tokens.specs.declared.token.Token.{Token}
use Rattle.prolog_terms.specs.Clause.{IsOneClause}
use Rattle.clause_text.specs.Clauses.{IsFirstPart, kind_there}

end_or_not : (kind : Kind) → (kind ≡ End) ⊎ (kind ≢ End)
end_or_not End = inl refl
end_or_not Name = inr (λ is. cc)
end_or_not Quoted = inr (λ is. cc)
end_or_not Variable = inr (λ is. cc)
end_or_not Integer = inr (λ is. cc)
end_or_not Float = inr (λ is. cc)
end_or_not Str = inr (λ is. cc)
end_or_not BackStr = inr (λ is. cc)
end_or_not OpenRound = inr (λ is. cc)
end_or_not CloseRound = inr (λ is. cc)
end_or_not OpenSquare = inr (λ is. cc)
end_or_not CloseSquare = inr (λ is. cc)
end_or_not OpenCurly = inr (λ is. cc)
end_or_not CloseCurly = inr (λ is. cc)
end_or_not Comma = inr (λ is. cc)
end_or_not Bar = inr (λ is. cc)

pub record HasPart (ts : List Token) : Type 0 where
  pub part : List Token
  pub rest : List Token
  pub are : ts ≡ part ++ rest
  pub first : IsFirstPart part rest

one_token : (t : Token) → IsOneClause (t ∷ [])
one_token t = record { some = omega arith; one_end = λ k token below stands. absurd (omega (arith, below)) }

-- a token that is no End, before a part
before_part : (t : Token) (part : List Token) → t.kind ≢ End → IsOneClause part → IsOneClause (t ∷ part)
before_part t part other one = record { some = omega arith; one_end = one_end }
  where
    one_end : (k : ℕ) (token : Token) → k + 1 < length (t ∷ part) → slice_get (t ∷ part) k ≡ Some token → token.kind ≢ End
    one_end zero token below stands = let is : t ≡ token = cc in subst (λ (x : Token). x.kind ≢ End) is other
    one_end (suc k) token below stands = one.one_end k token (omega (arith, below)) stands

longer : (t : Token) (ts : List Token) → t.kind ≢ End → HasPart ts → HasPart (t ∷ ts)
longer t ts other found =
    let place : suc (length found.part - 1) ≡ length (t ∷ found.part) - 1 = omega (arith, found.first.one.some) in
    record {
      part = t ∷ found.part;
      rest = found.rest;
      are = ap (λ us. t ∷ us) found.are;
      first = record {
        one = before_part t found.part other found.first.one;
        stops = elim found.first.stops [ inl stops ↦ inl (ap (kind_there (t ∷ found.part)) (sym place) ∙ stops) | inr last ↦ inr last ];
      };
    }

pub first_part : (t : Token) (ts : List Token) → HasPart (t ∷ ts)
first_part t [] = record { part = t ∷ []; rest = []; are = refl; first = record { one = one_token t; stops = inr refl } }
first_part t (next ∷ ts) = elim (end_or_not t.kind) [
  | inl is ↦ record { part = t ∷ []; rest = next ∷ ts; are = refl; first = record { one = one_token t; stops = inl (ap (λ kind. Some kind) is) } }
  | inr other ↦ longer t (next ∷ ts) other (first_part next ts)
]
