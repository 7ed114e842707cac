-- The first part of tokens, up to their first End.
use Rattle.std.proofs.Common.{◌≡◌, ◌≢◌, ℕ, ◌+◌, ◌-◌, ◌<◌, List, [], ◌∷◌, ◌++◌, Option, Some, None, option_map, length, take, drop, slice_get, ap, sym, ◌∙◌, refl, inl, inr, arith, length-append, zero, suc}
use Rattle.std.proofs.lemmas.Bool.{cases_lt}
use Rattle.std.proofs.lemmas.List.{take-append-le, take_all}
use Rattle.std.proofs.Math.Seq.{drop-append_seam}
use Rattle.prolog_tokens.specs.declared.token.Kind.{Kind}
use Rattle.prolog_tokens.specs.declared.token.Kind.TheVariants.{End}
use Rattle.prolog_tokens.specs.declared.token.Token.{Token}
use Rattle.prolog_terms.specs.Tree.{Tree}
use Rattle.prolog_terms.specs.Words.{Table}
use Rattle.prolog_terms.specs.Clause.{IsClauseOf, IsOneClause}
use Rattle.prolog_terms.proofs.ReaderTables.{IsTable}
use Rattle.prolog_terms.proofs.ClausesOf.{clause_once}
use Rattle.clause_text.specs.Clauses.{IsFirstPart, kind_there}

-- the token of a kind at a place
pub record TokenOf (ts : List Token) (at : ℕ) (kind : Kind) : Type 0 where
  pub token : Token
  pub stands : slice_get ts at ≡ Some token
  pub is : token.kind ≡ kind

pub token_of : (ts : List Token) (at : ℕ) (kind : Kind) → kind_there ts at ≡ Some kind → TokenOf ts at kind
token_of ts at kind is = found (slice_get ts at) refl is
  where
    found : (o : Option Token) → slice_get ts at ≡ o → option_map (λ (t : Token). t.kind) o ≡ Some kind → TokenOf ts at kind
    found (Some token) stands same = record { token = token; stands = stands; is = (let both : Some token.kind ≡ Some kind = same in cc) }
    found None stands same = let both : None ≡ Some kind = same in absurd (cc)

-- the kinds of tokens behind a place, and of those before others

pub kind_behind : (ts : List Token) (from k : ℕ) → kind_there (drop from ts) k ≡ kind_there ts (from + k)
kind_behind ts zero k = let same : k ≡ 0 + k = omega arith in ap (kind_there ts) same
kind_behind [] (suc from) k = refl
kind_behind (t ∷ ts) (suc from) k =
    let same : suc (from + k) ≡ suc from + k = omega arith in kind_behind ts from k ∙ ap (kind_there (t ∷ ts)) same

pub kind_before : (ts us : List Token) (k : ℕ) → k < length ts → kind_there (ts ++ us) k ≡ kind_there ts k
kind_before [] us k below = absurd (omega (arith, below))
kind_before (t ∷ ts) us zero below = refl
kind_before (t ∷ ts) us (suc k) below = kind_before ts us k (omega (arith, below))

pub kind_taken : (ts : List Token) (n k : ℕ) → k < n → kind_there (take n ts) k ≡ kind_there ts k
kind_taken ts zero k below = absurd (omega (arith, below))
kind_taken [] (suc n) k below = refl
kind_taken (t ∷ ts) (suc n) zero below = refl
kind_taken (t ∷ ts) (suc n) (suc k) below = kind_taken ts n k (omega (arith, below))

-- no other token of a part than its last is an End
pub only_last : (part : List Token) → IsOneClause part → (k : ℕ) → k + 1 < length part → kind_there part k ≢ Some End
only_last part one k below = λ is. let t = token_of part k End is in one.one_end k t.token below t.stands t.is

-- a clause is a first part
pub clause_first : (T : Table) → IsTable T → (text : List ℕ) (part rest : List Token) (tree : Tree) → IsClauseOf T text part tree → IsFirstPart part rest
clause_first T ok text part rest tree clause =
    let once = clause_once T ok text part tree clause in
    record {
      one = record {
        some = once.some;
        one_end = λ k token below stands is. once.no_other k below (ap (option_map (λ (t : Token). t.kind)) stands ∙ ap (λ x. Some x) is);
      };
      stops = inl once.last;
    }

-- two first parts of the same tokens are one

not_shorter : (part rest other after : List Token) → part ++ rest ≡ other ++ after → IsFirstPart part rest → IsFirstPart other after → length part < length other → ⊥
not_shorter part rest other after same first also short = elim first.stops [
  | inl stops ↦
      let place = length part - 1 in
      only_last other also.one place (omega (arith, first.one.some, short))
      (sym (kind_before other after place (omega (arith, short)))
      ∙ (sym (ap (λ ts. kind_there ts place) same) ∙ (kind_before part rest place (omega (arith, first.one.some)) ∙ stops)))
  | inr empty ↦ omega (arith, short, ap length same, length-append part rest, length-append other after, ap length empty)
]

same_count : (part rest other after : List Token) → part ++ rest ≡ other ++ after → IsFirstPart part rest → IsFirstPart other after → length part ≡ length other
same_count part rest other after same first also = elim (cases_lt (length part) (length other)) [
  | inl short ↦ absurd (not_shorter part rest other after same first also short)
  | inr enough ↦ elim (cases_lt (length other) (length part)) [
    | inl long ↦ absurd (not_shorter other after part rest (sym same) also first long)
    | inr not_more ↦ omega (arith, enough, not_more)
  ]
]

front : (part rest : List Token) → take (length part) (part ++ rest) ≡ part
front part rest = take-append-le (length part) part rest (omega arith) ∙ take_all (length part) part (omega arith)

pub record SameParts (part rest other after : List Token) : Type 0 where
  pub parts : part ≡ other
  pub rests : rest ≡ after

pub same_parts : (part rest other after : List Token) → part ++ rest ≡ other ++ after → IsFirstPart part rest → IsFirstPart other after → SameParts part rest other after
same_parts part rest other after same first also =
    let count = same_count part rest other after same first also in
    record {
      parts = sym (front part rest) ∙ (ap (take (length part)) same ∙ (ap (λ n. take n (other ++ after)) count ∙ front other after));
      rests = sym (drop-append_seam part rest) ∙ (ap (drop (length part)) same ∙ (ap (λ n. drop n (other ++ after)) count ∙ drop-append_seam other after));
    }

-- some tokens are no first part of none
pub some_part : (part rest : List Token) → IsFirstPart part rest → [] ≡ part ++ rest → ⊥
some_part part rest first is = omega (arith, ap length is, length-append part rest, first.one.some)
