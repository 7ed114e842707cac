-- Tokens, cut into clauses one after another.
use Rattle.std.proofs.Common.{◌≡◌, ℕ, ◌+◌, ◌-◌, ◌<◌, ◌≤◌, ◌⊎◌, get_or, slice_get, false, min, List, [], ◌++◌, Some, length, take, drop, option_map, ap, sym, ◌∙◌, subst, inl, inr, arith, append_assoc, length-drop, length-take}
use Rattle.std.proofs.lemmas.List.{take-append-drop, drop-drop, nil_from_length}
use Rattle.std.proofs.lemmas.Option.{slice_get-get_or}
use Rattle.prolog_tokens.specs.declared.token.Token.{Token}
use Rattle.prolog_tokens.specs.declared.token.Kind.TheVariants.{Name, End}
use Rattle.prolog_tokens.specs.Cut.{IsCut}
use Rattle.prolog_tokens.specs.Rows.{EndsClause}
use Rattle.prolog_terms.specs.Clause.{ArePart}
use Rattle.prolog_terms.specs.Clause.{IsOneClause}
use Rattle.clause_text.specs.Clauses.{IsFirstPart, EndsFirst, kind_there}
use Rattle.clause_text.proofs.FirstParts.{kind_behind, kind_taken}

-- the part of a part, from one place up to another, is one too
pub slice_part : (text : List ℕ) (ts : List Token) (from to : ℕ) → ArePart text ts → from < to → ArePart text (take (to - from) (drop from ts))
slice_part text ts from to are up =
    let place : from + (to - from) ≡ to = omega (arith, up) in
    let back : take (to - from) (drop from ts) ++ drop to ts ≡ drop from ts =
    ap (λ us. take (to - from) (drop from ts) ++ us) (sym (drop-drop (to - from) from ts ∙ ap (λ n. drop n ts) place)) ∙ take-append-drop (to - from) (drop from ts) in
    let whole : take from ts ++ (take (to - from) (drop from ts) ++ drop to ts) ≡ ts =
    ap (λ us. take from ts ++ us) back ∙ take-append-drop from ts in
    let part = take (to - from) (drop from ts) in
    let all : (are.before ++ take from ts) ++ (part ++ (drop to ts ++ are.after)) ≡ are.before ++ (ts ++ are.after) =
    append_assoc are.before (take from ts) (part ++ (drop to ts ++ are.after))
    ∙ ap (λ us. are.before ++ us)
    (ap (λ us. take from ts ++ us) (sym (append_assoc part (drop to ts) are.after))
    ∙ (sym (append_assoc (take from ts) (part ++ drop to ts) are.after) ∙ ap (λ us. us ++ are.after) whole)) in
    record { before = are.before ++ take from ts; after = drop to ts ++ are.after; cut = subst (IsCut text) (sym all) are.cut }

abbrev no_token : Token
no_token = record { kind = Name; after_layout = false; start = 0; end = 0 }

-- the tokens from a place up to where they first end
abbrev pub part_of : List Token → ℕ → ℕ → List Token
part_of ts from to = take (to - from) (drop from ts)

part_length : (ts : List Token) (from to : ℕ) → EndsFirst ts from to → length (part_of ts from to) ≡ to - from
part_length ts from to first =
    let count : length (part_of ts from to) ≡ min (to - from) (length (drop from ts)) = length-take (to - from) (drop from ts) in
    omega (arith, count, length-drop from ts, first.some, first.within)

part_kind : (ts : List Token) (from to k : ℕ) → k < to - from → kind_there (part_of ts from to) k ≡ kind_there ts (from + k)
part_kind ts from to k below = kind_taken (drop from ts) (to - from) k below ∙ kind_behind ts from k

pub part_one : (ts : List Token) (from to : ℕ) → EndsFirst ts from to → IsOneClause (part_of ts from to)
part_one ts from to first =
    let count = part_length ts from to first in
    record {
      some = omega (arith, count, first.some);
      one_end = λ k token below stands is.
          first.none (from + k) (omega arith) (omega (arith, below, count))
          (sym (part_kind ts from to k (omega (arith, below, count))) ∙ (ap (option_map (λ (t : Token). t.kind)) stands ∙ ap (λ x. Some x) is));
    }

-- the part ends with an End, if one stands where it ends
pub part_last : (ts : List Token) (from to : ℕ) → EndsFirst ts from to → kind_there ts (to - 1) ≡ Some End → kind_there (part_of ts from to) (length (part_of ts from to) - 1) ≡ Some End
part_last ts from to first stops =
    let count = part_length ts from to first in
    let place : from + (length (part_of ts from to) - 1) ≡ to - 1 = omega (arith, count, first.some) in
    part_kind ts from to (length (part_of ts from to) - 1) (omega (arith, count, first.some)) ∙ (ap (kind_there ts) place ∙ stops)

-- behind the last of the tokens stands nothing
pub nothing_behind : (ts : List Token) (from : ℕ) → length ts ≤ from → drop from ts ≡ []
nothing_behind ts from le = nil_from_length (drop from ts) (omega (arith, length-drop from ts))

-- a row of tokens that ends a clause ends with an End wherever a part of it ends
row_stops : (ts : List Token) (from to : ℕ) → EndsFirst ts from to → EndsClause ts → kind_there ts (to - 1) ≡ Some End
row_stops ts from to first ends = elim first.stops [
  | inl stops ↦ stops
  | inr last ↦
      let own : Token = get_or ts (to - 1) no_token in
      let stands : slice_get ts (to - 1) ≡ Some own = slice_get-get_or ts (to - 1) no_token (omega (arith, first.some, last)) in
      ap (option_map (λ (t : Token). t.kind)) stands ∙ ap (λ k. Some k) (ends (to - 1) own stands (omega (arith, first.some, last)))
]

-- so its first part is that of the row and all that stands after it
pub part_first : (ts : List Token) (from to : ℕ) (rest : List Token) → EndsFirst ts from to → EndsClause ts ⊎ (rest ≡ []) → IsFirstPart (part_of ts from to) (drop to ts ++ rest)
part_first ts from to rest first (inl ends) = record {
  one = part_one ts from to first;
  stops = inl (part_last ts from to first (row_stops ts from to first ends));
}
part_first ts from to rest first (inr none) = record {
  one = part_one ts from to first;
  stops = elim first.stops [
    | inl stops ↦ inl (part_last ts from to first stops)
    | inr last ↦ inr (ap (λ us. us ++ rest) (nothing_behind ts to (omega (arith, last))) ∙ none)
  ];
}

-- the tokens from a place on are the part and those behind it
back : (ts : List Token) (from to : ℕ) → EndsFirst ts from to → drop from ts ≡ part_of ts from to ++ drop to ts
back ts from to first =
    let place : from + (to - from) ≡ to = omega (arith, first.some) in
    sym (take-append-drop (to - from) (drop from ts))
    ∙ ap (λ us. take (to - from) (drop from ts) ++ us) (drop-drop (to - from) from ts ∙ ap (λ n. drop n ts) place)

pub back_with : (ts rest : List Token) (from to : ℕ) → EndsFirst ts from to → drop from ts ++ rest ≡ part_of ts from to ++ (drop to ts ++ rest)
back_with ts rest from to first = ap (λ us. us ++ rest) (back ts from to first) ∙ append_assoc (part_of ts from to) (drop to ts) rest
