-- Edges between ranks, put in place of those between indices.
use Rattle.std.proofs.Common.{◌≡◌, ℕ, ◌+◌, ◌<◌, ◌≤◌, List, length, map, get_or, set, refl, sym, ap, ◌∙◌, inl, inr, arith}
use Rattle.std.proofs.lemmas.Bool.{cases_eq}
use Rattle.std.proofs.lemmas.List.{get_or-set_same, get_or-set_other, get_or-map, get_or_default, length-set, length-map, same_lists}
use Rattle.flat_graph.specs.declared.edge.Edge.{Edge}
use Rattle.edge_text.specs.Ranked.{ranked_edge}

-- the first of them are between ranks
pub record AreRankedUpTo (ranks : List ℕ) (given : List Edge) (i : ℕ) (now : List Edge) : Type 0 where
  pub long : length now ≡ length given
  pub done : (k : ℕ) (d : Edge) → k < i → k < length given → get_or now k d ≡ ranked_edge ranks (get_or given k d)
  pub rest : (k : ℕ) (d : Edge) → i ≤ k → get_or now k d ≡ get_or given k d

pub none_ranked : (ranks : List ℕ) (given : List Edge) → AreRankedUpTo ranks given 0 given
none_ranked ranks given = record { long = refl; done = λ k d lt. absurd (omega (arith, lt)); rest = λ k d upto. refl }

pub one_ranked : (ranks : List ℕ) (given : List Edge) (i : ℕ) (now : List Edge) (d : Edge) → AreRankedUpTo ranks given i now → i < length given
    → AreRankedUpTo ranks given (i + 1) (set now i (ranked_edge ranks (get_or now i d)))
one_ranked ranks given i now none are lt =
    let edge = ranked_edge ranks (get_or now i none) in
    record {
      long = length-set now i edge ∙ are.long;
      done = λ k d below within. elim (cases_eq k i) [
        | inl is ↦
            ap (λ j. get_or (set now i edge) j d) is ∙ get_or-set_same now i edge d (omega (arith, lt, are.long))
            ∙ ap (ranked_edge ranks) (are.rest i none (omega arith) ∙ get_or_default given i none d lt ∙ ap (λ j. get_or given j d) (sym is))
        | inr ne ↦ get_or-set_other now i k edge d ne ∙ are.done k d (omega (arith, below, ne)) within
      ];
      rest = λ k d upto.
          let ne : k ≡ i → ⊥ = λ is. omega (arith, is, upto) in
          get_or-set_other now i k edge d ne ∙ are.rest k d (omega (arith, upto));
    }

pub all_ranked : (ranks : List ℕ) (given : List Edge) (i : ℕ) (now : List Edge) → AreRankedUpTo ranks given i now → length given ≤ i
    → now ≡ map (ranked_edge ranks) given
all_ranked ranks given i now are whole =
    same_lists now (map (ranked_edge ranks) given) (are.long ∙ sym (length-map given (ranked_edge ranks)))
    (λ k d lt.
    let within : k < length given = omega (arith, lt, are.long) in
    are.done k d (omega (arith, within, whole)) within ∙ sym (get_or-map (ranked_edge ranks) given k d d within))
