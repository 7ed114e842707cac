-- The groups of one height, piece by piece.
use Rattle.std.proofs.Common.{◌≡◌, ◌↔◌, inl, inr, ℕ, ◌<◌, ◌≤◌, ◌+◌, ◌-◌, ◌*◌, min, List, [], ◌∷◌, ◌++◌, length, get_or, set, take, drop, Option, Result, Ok, IfOk, Vec, refl, ap, subst, sym, ◌∙◌, arith}
use Rattle.std.specs.Prelude.{Contains, slice_range}
use Rattle.std.specs.List.{AllZip, range_with_len}
use Rattle.std.specs.declared.alloc.AllocError.{AllocError}
use Rattle.std.proofs.lemmas.Bool.{cases_eq, cases_lt}
use Rattle.std.proofs.lemmas.List.{get_or-set_same, get_or-set_other, get_or_append_left, get_or_push, length-drop, length-set, length_push, map-append, take_all}
use Rattle.std.proofs.lemmas.List.Elements.{Contains-append_left, Contains-push, Contains-push_cases}
use Rattle.std.proofs.lemmas.List.FromFn.{get_or-range_with_len, length-range_with_len}
use Rattle.std.proofs.Math.Seq.{take-add}
use Rattle.list_laws.proofs.Zips.{zip_at, zip_count}
use Rattle.graph_law.specs.Classes.{group_at}
use Rattle.graph_law.specs.Graph.{Calls}
use Rattle.effect_flow.specs.declared.heights.TheConstants.{SIZE}
use Rattle.effect_flow.specs.declared.flows.Flow.{Flow}
use Rattle.effect_flow.specs.Carriers.{IsFlow, flow_at}
use Rattle.effect_flow.specs.Flows.{AreAdded, AreFound, ArePieces, IsPut, piece_of}
use Rattle.effect_flow.specs.Seen.{see_flow, see_flows}
use Rattle.effect_flow.proofs.Found.{found_append}

-- a piece as it is sliced
pub piece_same : (xs : List ℕ) (number m : ℕ) → m ≡ min (length xs - number * SIZE) SIZE → slice_range xs (number * SIZE) (number * SIZE + m) ≡ piece_of xs number
piece_same xs number m is =
    let rest : List ℕ = drop (number * SIZE) xs in
    let long : length rest ≡ length xs - number * SIZE = length-drop (number * SIZE) xs in
    let many : (number * SIZE + m) - number * SIZE ≡ m = omega arith in
    ap (λ n. take n rest) many
    ∙ elim (cases_lt SIZE (length rest)) [
      | inl lt ↦ let whole : m ≡ SIZE = omega (arith, is, long, lt) in ap (λ n. take n rest) whole
      | inr le ↦ take_all m rest (omega (arith, is, long, le)) ∙ sym (take_all SIZE rest le)
    ]

-- each piece is there
pub pieces_of : {A : Type 0} (lists : List (List ℕ)) (own : List ℕ) (groups : List (List ℕ)) (places : List ℕ) (each : List (Result (Vec Flow A) AllocError)) (count : ℕ)
    → ((number : ℕ) → number < count ↔ number * SIZE < length places)
    → AllZip (λ number one. IfOk one (λ found. AreFound lists own groups (piece_of places number) (see_flows found.items))) (range_with_len 0 count) each
    → ArePieces lists own groups places each
pieces_of {A} lists own groups places each count so_many zip =
    let R : ℕ → Result (Vec Flow A) AllocError → Type 0 = λ number one. IfOk one (λ found. AreFound lists own groups (piece_of places number) (see_flows found.items)) in
    let as_long : count ≡ length each = sym (length-range_with_len 0 count) ∙ zip_count R (range_with_len 0 count) each zip in
    record {
      as_many = λ number inside. omega (arith, (so_many number).1 inside, as_long);
      pieces = subst (λ (n : ℕ). AllZip R (range_with_len 0 n) each) as_long zip;
    }

-- one piece more
pub pieces_more : {A : Type 0} (lists : List (List ℕ)) (own : List ℕ) (groups : List (List ℕ)) (places : List ℕ) (each : List (Result (Vec Flow A) AllocError)) (n : ℕ)
    (piece : Vec Flow A) (found new : List Flow) → ArePieces lists own groups places each → n < length each → Ok piece ≡ get_or each n (Ok piece)
    → new ≡ found ++ piece.items → AreFound lists own groups (take (n * SIZE) places) (see_flows found)
    → AreFound lists own groups (take ((n + 1) * SIZE) places) (see_flows new)
pieces_more {A} lists own groups places each n piece found new are lt read is so_far =
    let R : ℕ → Result (Vec Flow A) AllocError → Type 0 = λ number one. IfOk one (λ found. AreFound lists own groups (piece_of places number) (see_flows found.items)) in
    let here : get_or (range_with_len 0 (length each)) n 0 ≡ n = omega (arith, get_or-range_with_len 0 (length each) n 0 lt) in
    let one : R n (get_or each n (Ok piece)) =
    subst (λ k. R k (get_or each n (Ok piece))) here
    (zip_at R (range_with_len 0 (length each)) each n 0 (Ok piece) are.pieces (omega (arith, lt, length-range_with_len 0 (length each)))) in
    let more : AreFound lists own groups (piece_of places n) (see_flows piece.items) = subst (R n) (sym read) one in
    let longer : take ((n + 1) * SIZE) places ≡ take (n * SIZE) places ++ piece_of places n =
    ap (λ k. take k places) (omega arith) ∙ take-add (n * SIZE) SIZE places in
    let both : see_flows new ≡ see_flows found ++ see_flows piece.items = ap see_flows is ∙ map-append see_flow found piece.items in
    rw (longer, both) (found_append lists own groups (take (n * SIZE) places) (piece_of places n) (see_flows found) (see_flows piece.items) so_far more)

-- all pieces are there
pub pieces_done : {A : Type 0} (lists : List (List ℕ)) (own : List ℕ) (groups : List (List ℕ)) (places : List ℕ) (each : List (Result (Vec Flow A) AllocError)) (n : ℕ)
    (found : List Flow) → ArePieces lists own groups places each → length each ≤ n → AreFound lists own groups (take (n * SIZE) places) (see_flows found)
    → AreFound lists own groups places (see_flows found)
pieces_done {A} lists own groups places each n found are passed so_far =
    let long : length places ≤ n * SIZE =
    elim (cases_lt (n * SIZE) (length places)) [
      | inl lt ↦ absurd (omega (arith, are.as_many n lt, passed))
      | inr le ↦ le
    ] in
    subst (λ xs. AreFound lists own groups xs (see_flows found)) (take_all (n * SIZE) places long) so_far

-- flows are put, place by place

pub put_none : (found old : List (List (Option ℕ))) → IsPut [] found old old
put_none found old = record {
  each = refl;
  put = λ place has. let none = has.1 in absurd (omega (arith, none));
  kept = λ place. inr refl;
}

pub put_more : (xs : List ℕ) (place : ℕ) (found old new : List (List (Option ℕ))) → place < length old → IsPut xs found old new
    → IsPut (xs ++ place ∷ []) found old (set new place (flow_at found (length xs)))
put_more xs place found old new lt is =
    let flow : List (Option ℕ) = flow_at found (length xs) in
    let within : place < length new = (let same = is.each in omega (arith, same, lt)) in
    let longer : length (xs ++ place ∷ []) ≡ length xs + 1 = length_push xs place in
    record {
      each = length-set new place flow ∙ is.each;
      put = λ p has.
          elim (cases_eq p place) [
            | inl same ↦ (
              length xs,
              (
                omega (arith, longer),
                (
                  get_or_push xs place 0 (length xs) refl ∙ sym same,
                  subst (λ k. flow_at (set new place flow) k ≡ flow) (sym same) (get_or-set_same new place flow [] within),
                ),
              ),
            )
            | inr ne ↦
                elim (Contains-push_cases xs place p has) [
                  | inl before ↦
                      let old_one = is.put p before in (
                        old_one.0,
                        (
                          (let low = old_one.1.0 in omega (arith, low, longer)),
                          (
                            get_or_append_left xs (place ∷ []) 0 old_one.0 old_one.1.0 ∙ old_one.1.1.0,
                            get_or-set_other new place p flow [] ne ∙ old_one.1.1.1,
                          ),
                        ),
                      )
                  | inr last ↦ absurd (ne (sym last))
                ]
          ];
      kept = λ p.
          elim (cases_eq p place) [
            | inl same ↦ inl (subst (λ k. Contains (xs ++ place ∷ []) k) (sym same) (Contains-push xs place))
            | inr ne ↦
                elim (is.kept p) [
                  | inl before ↦ inl (Contains-append_left xs (place ∷ []) p before)
                  | inr same ↦ inr (get_or-set_other new place p flow [] ne ∙ same)
                ]
          ];
    }

pub added : (lists : List (List ℕ)) (own : List ℕ) (groups : List (List ℕ)) (places : List ℕ) (found old new : List (List (Option ℕ)))
    → AreFound lists own groups places found → IsPut places found old new → AreAdded lists own groups places old new
added lists own groups places found old new are is =
    let Is : ℕ → List (Option ℕ) → Type 0 = λ place flow. IsFlow (Calls lists) own (group_at groups place) flow in
    let right : (place : ℕ) → Contains places place → Is place (flow_at new place) =
    λ place has.
    let one = is.put place has in
    subst (Is place) (sym one.1.1.1) (subst (λ p. Is p (flow_at found one.0)) one.1.1.0 (are.flows one.0 one.1.0)) in
    record {
      each = is.each;
      right = right;
      kept = λ place before. elim (is.kept place) [ inl has ↦ right place has | inr same ↦ subst (Is place) (sym same) before ];
    }
