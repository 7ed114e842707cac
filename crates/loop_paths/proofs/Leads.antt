-- What is found is the least.
use Rattle.std.proofs.Common.{◌≡◌, ◌⊎◌, inl, inr, ℕ, ◌<◌, ◌≤◌, ◌+◌, Bool, List, [], ◌∷◌, ◌++◌, Option, None, Some, Vec, length, get_or, sym, ap, ◌∙◌, arith, subst}
use Rattle.std.specs.Prelude.{MatchOption}
use Rattle.std.proofs.lemmas.Bool.{cases_eq, cases_lt}
use Rattle.std.proofs.lemmas.List.{append_assoc, append-nil, length_push}
use Rattle.graph_law.specs.Reach.{IsWalk}
use Rattle.loop_paths.specs.Lists.{ComesFirst, IsLess, IsLeast}
use Rattle.loop_paths.specs.Paths.{IsPath, IsClosedWalk, IsLead}
use Rattle.loop_paths.specs.Grown.{path_at, IsAtMost, IsMet, IsTree, IsGrown}
use Rattle.loop_paths.proofs.ListLaws.{less_back, most_more, most_not, most_on, most_trans}
use Rattle.loop_paths.proofs.PathLaws.{path_one, path_push, path_short, path_some, path_split}

-- the node was met by a path that is no more than this list, or the next node to be opened was
abbrev pub IsMetOrLater : List ℕ → List (List ℕ) → ℕ → ℕ → List ℕ → Type 0
IsMetOrLater nodes paths place q bound = IsMet nodes paths q bound ⊎ ((place < length nodes) × IsAtMost (path_at paths place) bound)

-- of two paths of the tree
most_ordered : (calls : ℕ → ℕ → Type 0) (from : ℕ) (nodes callers : List ℕ) (paths : List (List ℕ)) (i j : ℕ)
    → IsTree calls from nodes callers paths → i ≤ j → j < length nodes → IsAtMost (path_at paths i) (path_at paths j)
most_ordered calls from nodes callers paths i j tree le lt =
    elim (cases_eq i j) as (λ _. IsAtMost (path_at paths i) (path_at paths j))
    [ inl is ↦ inr (ap (path_at paths) is) | inr other ↦ inl (tree.ordered i j (omega (arith, le, other)) lt) ]

met_step : (calls : ℕ → ℕ → Type 0) (from to : ℕ) (nodes callers : List ℕ) (seen : List Bool) (place p n : ℕ) (bound : List ℕ)
    → (grown : IsGrown calls from to nodes callers seen place) → calls p n
    → IsMetOrLater nodes grown.paths place p bound → IsMetOrLater nodes grown.paths place n (bound ++ n ∷ [])
met_step calls from to nodes callers seen place p n bound grown call either =
    elim either as (λ _. IsMetOrLater nodes grown.paths place n (bound ++ n ∷ [])) [
      | inr later ↦ inr (later.0, most_on (path_at grown.paths place) bound n later.1)
      | inl met ↦
          elim (cases_lt met.place place) as (λ _. IsMetOrLater nodes grown.paths place n (bound ++ n ∷ [])) [
            | inl before ↦
                let P : ℕ → Type 0 = λ each. calls each n in
                let next : IsMet nodes grown.paths n (path_at grown.paths met.place ++ n ∷ []) =
                grown.opened met.place n before (subst P (sym met.is) call) in
                inl (record {
                  place = next.place;
                  within = next.within;
                  is = next.is;
                  at_most =
                      most_trans (path_at grown.paths next.place) (path_at grown.paths met.place ++ n ∷ []) (bound ++ n ∷ []) next.at_most
                      (most_more (path_at grown.paths met.place) bound n met.at_most);
                })
            | inr past ↦
                let within : met.place < length nodes = met.within in
                inr (
                  omega (arith, past, within),
                  most_on (path_at grown.paths place) bound n
                      (most_trans (path_at grown.paths place) (path_at grown.paths met.place) bound
                      (most_ordered calls from nodes callers grown.paths place met.place grown.tree past within) met.at_most),
                )
          ]
    ]

met_along : (calls : ℕ → ℕ → Type 0) (from to : ℕ) (nodes callers : List ℕ) (seen : List Bool) (place p : ℕ) (bound rest : List ℕ) (q : ℕ)
    → (grown : IsGrown calls from to nodes callers seen place) → IsWalk calls p rest q
    → IsMetOrLater nodes grown.paths place p bound → IsMetOrLater nodes grown.paths place q (bound ++ rest)
met_along calls from to nodes callers seen place p bound [] q grown walk either =
    rw (append-nil bound) (subst (λ (each : ℕ). IsMetOrLater nodes grown.paths place each bound) walk either)
met_along calls from to nodes callers seen place p bound (n ∷ rest) q grown walk either =
    let P : List ℕ → Type 0 = λ each. IsMetOrLater nodes grown.paths place q each in
    subst P (append_assoc bound (n ∷ []) rest)
    (met_along calls from to nodes callers seen place n (bound ++ n ∷ []) rest q grown walk.1
    (met_step calls from to nodes callers seen place p n bound grown walk.0 either))

pub met_path : (calls : ℕ → ℕ → Type 0) (from to : ℕ) (nodes callers : List ℕ) (seen : List Bool) (place : ℕ) (path : List ℕ) (q : ℕ)
    → (grown : IsGrown calls from to nodes callers seen place) → IsPath calls from q path → IsMetOrLater nodes grown.paths place q path
met_path calls from to nodes callers seen place [] q grown is = absurd is
met_path calls from to nodes callers seen place (n ∷ rest) q grown is =
    met_along calls from to nodes callers seen place n (n ∷ []) rest q grown is.1
    (inl (record {
      place = 0;
      within = grown.tree.some;
      is = grown.tree.begins ∙ sym is.0;
      at_most = inr (grown.tree.first ∙ ap (λ each. each ∷ []) (sym is.0));
    }))

-- the first node that calls `to` ends the least lead
pub lead_least : (calls : ℕ → ℕ → Type 0) (from to : ℕ) (nodes callers : List ℕ) (seen : List Bool) (place : ℕ)
    → (grown : IsGrown calls from to nodes callers seen place) → place < length nodes → calls (get_or nodes place 0) to
    → IsLeast (IsLead calls from to) (path_at grown.paths place)
lead_least calls from to nodes callers seen place grown within call = record {
  is = record { last = get_or nodes place 0; is_path = grown.tree.walks place within; call = call };
  least = λ ys lead less.
      elim (met_path calls from to nodes callers seen place ys lead.last grown lead.is_path) [
        | inr later ↦ most_not (path_at grown.paths place) ys later.1 less
        | inl met ↦
            let P : ℕ → Type 0 = λ each. calls each to in
            elim (cases_lt met.place place) [
              | inl before ↦ grown.not_yet met.place before (subst P (sym met.is) lead.call)
              | inr past ↦
                  most_not (path_at grown.paths place) ys
                  (most_trans (path_at grown.paths place) (path_at grown.paths met.place) ys
                  (most_ordered calls from nodes callers grown.paths place met.place grown.tree past met.within) met.at_most) less
            ]
      ];
}

pub lead_none : (calls : ℕ → ℕ → Type 0) (from to : ℕ) (nodes callers : List ℕ) (seen : List Bool)
    → IsGrown calls from to nodes callers seen (length nodes) → (path : List ℕ) → IsLead calls from to path → ⊥
lead_none calls from to nodes callers seen grown path lead =
    elim (met_path calls from to nodes callers seen (length nodes) path lead.last grown lead.is_path) [
      | inr later ↦ let lt = later.0 in absurd (omega (arith, lt))
      | inl met ↦
          let P : ℕ → Type 0 = λ each. calls each to in
          grown.not_yet met.place met.within (subst P (sym met.is) lead.call)
    ]

-- the least lead and its end are the least path between two nodes
pub path_least : (calls : ℕ → ℕ → Type 0) (from to : ℕ) (lead : List ℕ) → (from ≡ to → ⊥) → IsLeast (IsLead calls from to) lead
    → IsLeast (λ path. IsPath calls from to path) (lead ++ to ∷ [])
path_least calls from to lead other least = record {
  is = path_push calls from least.is.last to lead least.is.is_path least.is.call;
  least = λ ys path less.
      elim (cases_lt (length ys) 2) [
        | inl short ↦ other (path_short calls from to ys path short)
        | inr two ↦
            let split = path_split calls from to ys path two in
            least.least split.0 split.2 (less_back split.0 lead to (subst (λ (each : List ℕ). IsLess each (lead ++ to ∷ [])) split.1 less))
      ];
}

pub path_none : (calls : ℕ → ℕ → Type 0) (from to : ℕ) → (from ≡ to → ⊥) → ((lead : List ℕ) → IsLead calls from to lead → ⊥)
    → (path : List ℕ) → IsPath calls from to path → ⊥
path_none calls from to other none path is =
    elim (cases_lt (length path) 2) [
      | inl short ↦ other (path_short calls from to path is short)
      | inr two ↦ let split = path_split calls from to path is two in none split.0 split.2
    ]

-- a node alone is the least path to itself
none_less_than_one : (p n : ℕ) (ys : List ℕ) → n ≡ p → IsLess (n ∷ ys) (p ∷ []) → ⊥
none_less_than_one p n ys is less =
    elim less [
      | inl shorter ↦ omega (arith, shorter)
      | inr same ↦ elim (same.1) [ inl lt ↦ omega (arith, lt, is) | inr on ↦ none_before_nothing ys on.1 ]
    ]
  where
    none_before_nothing : (xs : List ℕ) → ComesFirst xs [] → ⊥
    none_before_nothing [] first = first
    none_before_nothing (x ∷ xs) first = first

not_less : (calls : ℕ → ℕ → Type 0) (p : ℕ) (ys : List ℕ) → IsPath calls p p ys → IsLess ys (p ∷ []) → ⊥
not_less calls p [] path less = absurd path
not_less calls p (n ∷ ys) path less = none_less_than_one p n ys path.0 less

pub path_self : (calls : ℕ → ℕ → Type 0) (p : ℕ) → IsLeast (λ path. IsPath calls p p path) (p ∷ [])
path_self calls p = record { is = path_one calls p; least = not_less calls p }

-- the least lead back to a node and that node are its least closed walk
pub circuit_least : (calls : ℕ → ℕ → Type 0) (p : ℕ) (lead : List ℕ) → IsLeast (IsLead calls p p) lead
    → IsLeast (λ walk. IsClosedWalk calls p walk) (lead ++ p ∷ [])
circuit_least calls p lead least =
    let some : 0 < length lead = path_some calls p least.is.last lead least.is.is_path in
    let long : length (lead ++ p ∷ []) ≡ length lead + 1 = length_push lead p in
    record {
      is = (path_push calls p least.is.last p lead least.is.is_path least.is.call, omega (arith, some, long));
      least = λ ys walk less.
          let split = path_split calls p p ys walk.0 walk.1 in
          least.least split.0 split.2 (less_back split.0 lead p (subst (λ (each : List ℕ). IsLess each (lead ++ p ∷ [])) split.1 less));
    }

pub circuit_none : (calls : ℕ → ℕ → Type 0) (p : ℕ) → ((lead : List ℕ) → IsLead calls p p lead → ⊥)
    → (walk : List ℕ) → IsClosedWalk calls p walk → ⊥
circuit_none calls p none walk is = let split = path_split calls p p walk is.0 is.1 in none split.0 split.2

-- as it is said of a vector that may be there
pub circuit_from_lead : {A : Type 0} (calls : ℕ → ℕ → Type 0) (p : ℕ) (found : Option (Vec ℕ A))
    → MatchOption found ((path : List ℕ) → IsLead calls p p path → ⊥) (λ path. IsLeast (IsLead calls p p) path.items)
    → MatchOption found ((walk : List ℕ) → IsClosedWalk calls p walk → ⊥) (λ circuit. IsLeast (λ walk. IsClosedWalk calls p walk) (circuit.items ++ p ∷ []))
circuit_from_lead calls p None none = circuit_none calls p none
circuit_from_lead calls p (Some path) least = circuit_least calls p path.items least
