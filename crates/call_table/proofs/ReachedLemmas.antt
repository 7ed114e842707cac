-- The groups of what the roots reach have members of the program.
use Rattle.std.proofs.Common.{◌≡◌, ◌<◌, ℕ, List, [], All, Contains, length, get_or, subst, arith}
use Rattle.std.proofs.lemmas.List.{get_or_default}
use Rattle.std.proofs.lemmas.List.Elements.{All-contains, Contains-get_or}
use Rattle.graph_law.specs.Classes.{HasMember}
use Rattle.graph_law.specs.Graph.{Calls}
use Rattle.graph_law.specs.LegalOrder.{IsLegalOrder}
use Rattle.graph_law.specs.Reach.{IsReached}
use Rattle.graph_law.proofs.ReachLaws.{along_walk}
use Rattle.import_rules.specs.Program.{Seen}
use Rattle.call_edges.specs.Successors.{successor_lists}
use Rattle.call_edges.proofs.SuccessorLemmas.{lists_count, lists_closed}
use Rattle.call_table.specs.Reached.{AreNodes}

pub roots_listed : (seen : Seen) (roots : List ℕ) → All (λ q. q < length seen.predicates) roots → All (λ q. q < length (successor_lists seen)) roots
roots_listed seen roots below k d lt = omega (arith, below k d lt, lists_count seen)

pub members_listed : (seen : Seen) (roots : List ℕ) (groups : List (List ℕ)) → All (λ q. q < length seen.predicates) roots
    → ((p : ℕ) → HasMember groups p → IsReached (Calls (successor_lists seen)) roots p) → (p : ℕ) → HasMember groups p → p < length (successor_lists seen)
members_listed seen roots groups below reach p has =
    let lists = successor_lists seen in
    let reached = reach p has in
    along_walk (Calls lists) (λ q. q < length lists) (λ q r lt call. lists_closed seen q r call) reached.start reached.reaches.path p reached.reaches.walk
    (All-contains (λ q. q < length lists) roots reached.start (roots_listed seen roots below) reached.is_start)

pub are_nodes : (seen : Seen) (roots : List ℕ) (groups : List (List ℕ)) → All (λ q. q < length seen.predicates) roots → IsLegalOrder (Calls (successor_lists seen)) groups
    → ((p : ℕ) → HasMember groups p → IsReached (Calls (successor_lists seen)) roots p) → AreNodes (length seen.predicates) groups
are_nodes seen roots groups below legal reach = record {
  inhabited = λ k d lt. (legal.each k d lt).inhabited;
  below = λ k d lt j e within.
      let P : List ℕ → Type 0 = λ group. Contains group (get_or (get_or groups k d) j e) in
      let member = subst P (get_or_default groups k d [] lt) (Contains-get_or (get_or groups k d) j e within) in
      omega (arith, members_listed seen roots groups below reach (get_or (get_or groups k d) j e) (record { place = k; within = lt; member = member }), lists_count seen);
}

-- what is reached by the calls of one program is by those of the other, which is the same
pub reached_by : (own seen : Seen) (roots : List ℕ) (groups : List (List ℕ)) → own ≡ seen
    → ((p : ℕ) → HasMember groups p → IsReached (Calls (successor_lists own)) roots p) → (p : ℕ) → HasMember groups p → IsReached (Calls (successor_lists seen)) roots p
reached_by own seen roots groups same reach p has = subst (λ (s : Seen). IsReached (Calls (successor_lists s)) roots p) same (reach p has)
