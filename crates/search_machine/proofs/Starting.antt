-- The opening state is good.
use Rattle.std.proofs.Common.{◌≡◌, inl, ℕ, zero, suc, ◌<◌, false, List, [], ◌++◌, length, map, get_or, Option, None, refl, ap, ◌∙◌, sym, arith, true≢false}
use Rattle.std.proofs.lemmas.List.{length-replicate}
use Rattle.std.specs.Prelude.{All, replicate}
use Rattle.list_laws.specs.Counts.{times, flat}
use Rattle.graph_law.specs.Graph.{IsClosed}
use Rattle.search_stack.proofs.Driving.{unmarked}
use Rattle.blocked_table.specs.Kept.{kept_at}
use Rattle.blocked_table.proofs.Chain.{none_is_not}
use Rattle.group_release.specs.Outline.{kept_nodes, listed, nodes_of}
use Rattle.group_release.proofs.Books.{first_good}
use Rattle.search_machine.specs.Runs.{opening_state}
use Rattle.search_machine.specs.State.{IsGoodState, times_standing}

pub read_replicate : {X : Type 0} (d : X) (n i : ℕ) → get_or (replicate n d) i d ≡ d
read_replicate d zero i = refl
read_replicate d (suc n) zero = refl
read_replicate d (suc n) (suc i) = read_replicate d n i

nothing_listed : {X : Type 0} (g : Option X → List ℕ) → g None ≡ [] → (n x : ℕ) → times x (flat (map g (replicate n None))) ≡ 0
nothing_listed g none zero x = refl
nothing_listed g none (suc n) x =
    let rest : times x (flat (map g (replicate n None))) ≡ 0 = nothing_listed g none n x in
    ap (λ xs. times x (xs ++ flat (map g (replicate n None)))) none ∙ rest

pub starts_good : (lists : List (List ℕ)) (roots : List ℕ) (places : ℕ) → IsClosed lists → All (λ root. root < length lists) roots
    → IsGoodState lists roots false (opening_state (length lists) roots places)
starts_good lists roots places closed rooted =
    let nothing : (v : ℕ) → times_standing (opening_state (length lists) roots places) v ≡ 0 = λ v.
    let running : times v (kept_nodes (replicate places None)) ≡ 0 = nothing_listed nodes_of refl places v in
    let waiting : times v (flat (map listed (replicate places None))) ≡ 0 = nothing_listed listed refl places v in
    omega (arith, running, waiting) in
    record {
      counted = length-replicate (length lists) false;
      places = length-replicate places None ∙ sym (length-replicate places None);
      book = first_good lists roots closed rooted;
      some = λ i search at. absurd (none_is_not search None refl at);
      ends = λ i w search at. absurd (none_is_not search None refl at);
      running = λ i search at. absurd (none_is_not search (kept_at (replicate places None) i) (read_replicate None places i) at);
      waits = λ i v waits. absurd (none_is_not v (get_or (replicate places None) i None) (read_replicate None places i) waits);
      wants = λ i w search at. absurd (none_is_not search None refl at);
      once = λ v is. absurd (true≢false (sym is ∙ unmarked (length lists) v));
      never = λ v isnt. nothing v;
      come = λ v has. has;
      given = λ v has. inl has;
    }
