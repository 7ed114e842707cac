-- Clauses and calls in order stand in order.
use Rattle.std.proofs.Common.{◌≡◌, ◌⊎◌, inl, inr, ℕ, ◌<◌, ◌≤◌, List, All, AllPairs, map, get_or, refl, arith}
use Rattle.std.specs.Ordering.{ordering_then, nat_cmp}
use Rattle.std.specs.declared.cmp.Ordering.{Ordering}
use Rattle.std.specs.declared.cmp.Ordering.TheVariants.{Less, Equal, Greater}
use Rattle.std.proofs.lemmas.Cmp.{ranked}
use Rattle.std.proofs.lemmas.List.Elements.{All-map}
use Rattle.import_rules.specs.Program.{Seen}
use Rattle.import_rules.proofs.Lists.{all_pairs_map}
use Rattle.file_library.specs.Spots.{StandsInText}
use Rattle.call_edges.specs.CallPlaces.{CallAt, AreCallsOf, call_cmp, callee_cmp}
use Rattle.call_table.specs.declared.clause_at.ClauseAt.{ClauseAt}
use Rattle.call_table.specs.Clauses.{AreClausesOf}
use Rattle.file_library.specs.Spots.{IsUpto, AreSpots}
use Rattle.call_table.specs.Table.{clause_spot, call_spot}

pub second_upto : (o : Ordering) (m n : ℕ) (rest : Ordering) → o ≡ nat_cmp m n → ordering_then o rest ≡ Less → m ≤ n
second_upto Less m n rest is less = let lt : m < n = ranked m n Less is in omega (arith, lt)
second_upto Equal m n rest is less = let same : m ≡ n = ranked m n Equal is in omega (arith, same)
second_upto Greater m n rest is less = let both : Greater ≡ Less = less in absurd (cc)

upto_by : (o : Ordering) (a b m n : ℕ) (rest : Ordering) → o ≡ nat_cmp a b → ordering_then o (ordering_then (nat_cmp m n) rest) ≡ Less → (a < b) ⊎ ((a ≡ b) × (m ≤ n))
upto_by Less a b m n rest is less = inl (ranked a b Less is)
upto_by Equal a b m n rest is less = inr (ranked a b Equal is, second_upto (nat_cmp m n) m n rest refl less)
upto_by Greater a b m n rest is less = let both : Greater ≡ Less = less in absurd (cc)

pub clauses_are_spots : (seen : Seen) (nodes : List ℕ) (clauses : List ClauseAt) → AreClausesOf seen nodes clauses
    → All (λ (c : ClauseAt). StandsInText seen.loaded.texts c.file c.offset) clauses → AreSpots seen.loaded.texts (map clause_spot clauses)
clauses_are_spots seen nodes clauses are stand = record {
  ordered = all_pairs_map IsUpto clause_spot clauses
      (λ i j d before lt.
      let a = get_or clauses i d in
      let b = get_or clauses j d in
      upto_by (nat_cmp a.file b.file) a.file b.file a.offset b.offset (ordering_then (nat_cmp a.end b.end) (nat_cmp a.node b.node)) refl (are.ordered i j d before lt));
  stand = All-map (λ (s : ℕ × ℕ). StandsInText seen.loaded.texts s.0 s.1) clause_spot clauses stand;
}

pub calls_are_spots : (seen : Seen) (nodes : List ℕ) (calls : List CallAt) → AreCallsOf seen nodes calls
    → All (λ (c : CallAt). StandsInText seen.loaded.texts c.file c.offset) calls → AreSpots seen.loaded.texts (map call_spot calls)
calls_are_spots seen nodes calls are stand = record {
  ordered = all_pairs_map IsUpto call_spot calls
      (λ i j d before lt.
      let a = get_or calls i d in
      let b = get_or calls j d in
      upto_by (nat_cmp a.file b.file) a.file b.file a.offset b.offset (ordering_then (nat_cmp a.caller b.caller) (callee_cmp a b)) refl (are.ordered i j d before lt));
  stand = All-map (λ (s : ℕ × ℕ). StandsInText seen.loaded.texts s.0 s.1) call_spot calls stand;
}

-- and so do any calls in order
pub ordered_are_spots : (seen : Seen) (calls : List CallAt) → AllPairs (λ a b. call_cmp a b ≡ Less) calls
    → All (λ (c : CallAt). StandsInText seen.loaded.texts c.file c.offset) calls → AreSpots seen.loaded.texts (map call_spot calls)
ordered_are_spots seen calls ordered stand = record {
  ordered = all_pairs_map IsUpto call_spot calls
      (λ i j d before lt.
      let a = get_or calls i d in
      let b = get_or calls j d in
      upto_by (nat_cmp a.file b.file) a.file b.file a.offset b.offset (ordering_then (nat_cmp a.caller b.caller) (callee_cmp a b)) refl (ordered i j d before lt));
  stand = All-map (λ (s : ℕ × ℕ). StandsInText seen.loaded.texts s.0 s.1) call_spot calls stand;
}
