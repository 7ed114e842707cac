-- The tokens of a part of a text are spelled in it.
use Rattle.std.proofs.Common.{◌≡◌, ℕ, ◌+◌, ◌<◌, ◌≤◌, List, [], ◌∷◌, ◌++◌, length, get_or, Some, slice_get, sym, ◌∙◌, subst, arith, zero, suc, length-append, append-nil}
use Rattle.std.proofs.lemmas.Option.{get_or_from_slice_get, slice_get_within}
use Rattle.std.proofs.lemmas.List.{get_or_append_left, get_or-append-add}
use Rattle.prolog_tokens.specs.declared.token.Token.{Token}
use Rattle.prolog_tokens.specs.Spelling.{IsSpelled}
use Rattle.prolog_tokens.specs.Cut.{StandBetween, IsCut}
use Rattle.prolog_tokens.proofs.Lookups.{cut_fewer}
use Rattle.prolog_terms.specs.Clause.{ArePart}

pub record IsToken (text : List ℕ) (t : Token) : Type 0 where
  pub spelled : IsSpelled text t.kind t.start t.end

-- those that stand between two places
pub stand_spelled : (text : List ℕ) (a b : ℕ) (ts : List Token) → StandBetween text a ts b → (k : ℕ) (d : Token) → k < length ts → IsToken text (get_or ts k d)
stand_spelled text a b [] is k d below = absurd (omega arith)
stand_spelled text a b (t ∷ ts) (next, rest) zero d below = record { spelled = next.spelled }
stand_spelled text a b (t ∷ ts) (next, rest) (suc k) d below = stand_spelled text t.end b ts rest k d (omega arith)

-- and those of a part
pub part_spelled : (text : List ℕ) (ts : List Token) (part : ArePart text ts) (k : ℕ) (t : Token) → slice_get ts k ≡ Some t → IsToken text t
part_spelled text ts part k t is =
    let within : k < length ts = slice_get_within ts k t is in
    let all = part.before ++ (ts ++ part.after) in
    let read : get_or all (length part.before + k) t ≡ t =
    get_or-append-add part.before (ts ++ part.after) k t ∙ (get_or_append_left ts part.after t k within ∙ get_or_from_slice_get ts k t t is) in
    let below : length part.before + k < length all = omega (arith, length-append part.before (ts ++ part.after), length-append ts part.after) in
    let P : Token → Type 0 = λ x. IsToken text x in
    subst P read (stand_spelled text 0 part.cut.last all part.cut.stand (length part.before + k) t below)

-- the tokens of a text are a part of themselves
pub whole_part : (text : List ℕ) (ts : List Token) → IsCut text ts → ArePart text ts
whole_part text ts cut = record { before = []; after = []; cut = subst (IsCut text) (sym (append-nil ts)) cut }

-- and are no more than its bytes
pub part_few : (text : List ℕ) (ts : List Token) → ArePart text ts → length ts ≤ length text
part_few text ts part =
    omega (arith, cut_fewer text (part.before ++ (ts ++ part.after)) part.cut, length-append part.before (ts ++ part.after), length-append ts part.after)
