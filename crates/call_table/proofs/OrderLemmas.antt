-- Clauses and calls of the same predicates in another order.
use Rattle.std.proofs.Common.{ℕ, List, All, IsPermutation}
use Rattle.std.specs.Prelude.{Contains}
use Rattle.std.proofs.lemmas.List.Sorted.{All-permutation, Contains-permutation, IsPermutation-sym}
use Rattle.prolog_tokens.specs.declared.token.Place.{Place}
use Rattle.import_rules.specs.Program.{Seen}
use Rattle.call_edges.specs.Calls.{IsAmong}
use Rattle.call_edges.specs.CallPlaces.{IsCallOf}
use Rattle.call_edges.specs.declared.placed_calls.PlacedCall.{PlacedCall}
use Rattle.call_table.specs.declared.clause_at.ClauseAt.{ClauseAt}
use Rattle.call_table.specs.declared.extents.Extent.{Extent}
use Rattle.call_table.specs.Clauses.{clauses_in}
use Rattle.call_table.specs.Table.{ArePlacedCalls, ArePlacedClauses}

among_same : {X M : Type 0} (P : X → M → Type 0) (xs ys : List X) (m : M) → ((x : X) → Contains xs x → Contains ys x) → IsAmong P xs m → IsAmong P ys m
among_same P xs ys m to among = record { one = among.one; has = to among.one among.has; is = among.is }

module _ (seen : Seen) (order nodes : List ℕ) (same : IsPermutation nodes order) where
  there : (q : ℕ) → Contains nodes q → Contains order q
  there q = Contains-permutation nodes order q same

  back : (q : ℕ) → Contains order q → Contains nodes q
  back q = Contains-permutation order nodes q (IsPermutation-sym nodes order same)

  pub all_same : (P : ℕ → Type 0) → All P nodes → All P order
  all_same P all = All-permutation P nodes order same all

  pub clauses_same : (clauses : List ClauseAt) (extents : List Extent) → ArePlacedClauses seen order clauses extents → ArePlacedClauses seen nodes clauses extents
  clauses_same clauses extents are =
      let P : ℕ → ClauseAt → Type 0 = λ node. Contains (clauses_in seen node) in
      record {
        are = record {
          ordered = are.are.ordered;
          each = λ c. (
            λ has. among_same P order nodes c back ((are.are.each c).0 has),
            λ among. (are.are.each c).1 (among_same P nodes order c there among),
          );
        };
        placed = are.placed;
      }

  pub calls_same : (calls : List PlacedCall) (places : List Place) → ArePlacedCalls seen order calls places → ArePlacedCalls seen nodes calls places
  calls_same calls places are = record {
    are = record {
      ordered = are.are.ordered;
      each = λ c. (
        λ has. among_same (IsCallOf seen) order nodes c back ((are.are.each c).0 has),
        λ among. (are.are.each c).1 (among_same (IsCallOf seen) nodes order c there among),
      );
    };
    placed = are.placed;
  }
