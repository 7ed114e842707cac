-- How what is found for each group is collected, and what it is.
use Rattle.std.proofs.Common.{◌≡◌, inl, inr, ℕ, ◌<◌, ◌+◌, Bool, false, List, [], ◌∷◌, ◌++◌, Option, None, Some, Vec, length, get_or, sym, ap, ◌∙◌, arith, subst}
use Rattle.std.specs.Prelude.{All, option_map, MatchOption}
use Rattle.std.proofs.lemmas.Bool.{cases_eq}
use Rattle.std.proofs.lemmas.List.{get_or_append_left, get_or_push, length_push, length-replicate, map_push}
use Rattle.std.proofs.Math.ListN.{replicate}
use Rattle.std.proofs.lemmas.List.Elements.{All-from_get_or}
use Rattle.graph_law.specs.CallOrder.{AreApart, AreGroupPlaces}
use Rattle.graph_law.specs.Classes.{HasMember, IsClass, group_at, least_member}
use Rattle.graph_law.specs.Graph.{Calls}
use Rattle.graph_law.specs.LegalOrder.{IsLegalOrder}
use Rattle.graph_law.proofs.ClassLaws.{least_is_member}
use Rattle.loop_paths.specs.Circuits.{AreCircuits, AreReturns, IsReturn, circuits_of}
use Rattle.loop_paths.specs.Inner.{inner_lists}
use Rattle.loop_paths.specs.Lists.{IsLeast}
use Rattle.loop_paths.specs.Paths.{IsLead}
use Rattle.loop_paths.proofs.InnerCalls.{call_inside, inner_call, length-inner_lists}
use Rattle.loop_paths.proofs.Searching.{IsClear}
use Rattle.loop_paths.proofs.StaysInside.{AreInside, circuit_inside}

pub record IsReturning (lists : List (List ℕ)) (groups : List (List ℕ)) (n : ℕ) (found : List (Option (List ℕ))) (seen : List Bool) : Type 0 where
  pub each : length seen ≡ length lists
  pub clear : IsClear seen
  pub returns : AreReturns (Calls lists) groups n found

-- as it is said of a vector that may be there
pub return_from_match : {A : Type 0} (calls : ℕ → ℕ → Type 0) (p : ℕ) (found : Option (Vec ℕ A))
    → MatchOption found ((path : List ℕ) → IsLead calls p p path → ⊥) (λ path. IsLeast (IsLead calls p p) path.items)
    → IsReturn calls p (option_map (λ path. path.items) found)
return_from_match calls p None is = is
return_from_match calls p (Some path) is = is

pub returns_push : (calls : ℕ → ℕ → Type 0) (groups : List (List ℕ)) (n : ℕ) (found : List (Option (List ℕ))) (one : Option (List ℕ))
    → AreReturns calls groups n found → IsReturn calls (least_member (group_at groups n)) one → AreReturns calls groups (n + 1) (found ++ one ∷ [])
returns_push calls groups n found one are is = record {
  each = let long = length_push found one in let each = are.each in omega (arith, long, each);
  at = λ i lt.
      elim (cases_eq i n) as (λ _. IsReturn calls (least_member (group_at groups i)) (get_or (found ++ one ∷ []) i None)) [
        | inl same ↦ rw (same, get_or_push found one None n are.each) is
        | inr other ↦
            let each = are.each in
            rw (get_or_append_left found (one ∷ []) None i (omega (arith, lt, other, each))) (are.at i (omega (arith, lt, other)))
      ];
}

pub circuits_of-push : {A : Type 0} (found : List (Option (Vec ℕ A))) (one : Option (Vec ℕ A))
    → circuits_of (found ++ one ∷ []) ≡ circuits_of found ++ option_map (λ path. path.items) one ∷ []
circuits_of-push found one = map_push (λ each. option_map (λ path. path.items) each) found one

-- groups in a legal order are apart
pub apart_from_legal : (lists : List (List ℕ)) (groups : List (List ℕ)) → IsLegalOrder (Calls lists) groups
    → ((p : ℕ) → HasMember groups p → p < length lists) → AreApart (length lists) groups
apart_from_legal lists groups legal nodes = record {
  below = λ i p lt member. nodes p (record { place = i; within = lt; member = member });
  once = legal.once;
}

-- what is found by the calls inside groups are the circuits
pub circuits_from_returns : (lists : List (List ℕ)) (groups : List (List ℕ)) (places : List ℕ) (found : List (Option (List ℕ)))
    → IsLegalOrder (Calls lists) groups → ((p : ℕ) → HasMember groups p → p < length lists) → AreGroupPlaces (length lists) groups places
    → AreReturns (Calls (inner_lists lists places)) groups (length groups) found → AreCircuits (Calls lists) groups found
circuits_from_returns lists groups places found legal nodes placed are = record {
  each = are.each;
  at = λ i lt.
      let class : IsClass (Calls lists) (group_at groups i) = legal.each i [] lt in
      let inside : AreInside (Calls lists) (Calls (inner_lists lists places)) (group_at groups i) = record {
        out = inner_call lists places;
        into = λ p q caller callee call.
            call_inside lists places p q (nodes p (record { place = i; within = lt; member = caller }))
            (placed.at i q lt callee ∙ sym (placed.at i p lt caller)) call;
      } in
      circuit_inside (Calls lists) (Calls (inner_lists lists places)) (group_at groups i) class inside (least_member (group_at groups i))
      (least_is_member class) (get_or found i None) (are.at i lt);
}

pub least_in_each : (lists : List (List ℕ)) (groups : List (List ℕ)) (places : List ℕ) → IsLegalOrder (Calls lists) groups
    → ((p : ℕ) → HasMember groups p → p < length lists)
    → All (λ group. least_member group < length (inner_lists lists places)) groups
least_in_each lists groups places legal nodes =
    All-from_get_or (λ group. least_member group < length (inner_lists lists places)) groups []
    (λ i lt.
    let below : least_member (group_at groups i) < length lists =
    nodes (least_member (group_at groups i)) (record { place = i; within = lt; member = least_is_member (legal.each i [] lt) }) in
    let long = length-inner_lists lists places in
    omega (arith, below, long))

pub return_at : {A : Type 0} (calls : ℕ → ℕ → Type 0) (p q : ℕ) → p ≡ q → (found : Option (Vec ℕ A))
    → MatchOption found ((path : List ℕ) → IsLead calls p p path → ⊥) (λ path. IsLeast (IsLead calls p p) path.items)
    → IsReturn calls q (option_map (λ path. path.items) found)
return_at calls p q is found matches =
    let P : ℕ → Type 0 = λ each. IsReturn calls each (option_map (λ path. path.items) found) in
    subst P is (return_from_match calls p found matches)

-- there is a mark for each node of the inner calls
pub marks_each : (lists : List (List ℕ)) (places : List ℕ) (count : ℕ) (seen now : List Bool) → now ≡ seen → seen ≡ replicate count false
    → count ≡ length lists → length now ≡ length (inner_lists lists places)
marks_each lists places count seen now same marks is =
    ap length (same ∙ marks) ∙ (length-replicate count false ∙ (is ∙ sym (length-inner_lists lists places)))
