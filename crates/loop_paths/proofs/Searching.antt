-- How a search begins, and what it leaves behind.
use Rattle.std.proofs.Common.{◌≡◌, ◌↔◌, inl, inr, ℕ, ◌<◌, Bool, true, false, List, [], ◌∷◌, Option, None, Some, length, get_or, set, refl, sym, ap, ◌∙◌, arith, subst, get_or-set_same, get_or-set_other}
use Rattle.std.specs.Prelude.{Contains, All}
use Rattle.std.proofs.lemmas.Bool.{cases_eq, cases_lt, false≢true}
use Rattle.std.proofs.lemmas.List.{get_or_past, get_or_read}
use Rattle.std.proofs.lemmas.List.Elements.{Contains-get_or}
use Rattle.graph_law.specs.Graph.{Calls, IsClosed}
use Rattle.graph_law.specs.Stamp.{IsStamped}
use Rattle.loop_paths.specs.Found.{IsFound}
use Rattle.loop_paths.specs.Grown.{AreSeen, IsGrown}
use Rattle.loop_paths.proofs.PathLaws.{path_one}

-- no node is marked
abbrev pub IsClear : List Bool → Type 0
IsClear seen = (q : ℕ) → get_or seen q false ≡ true → ⊥

one_at : (p i : ℕ) → i < 1 → i ≡ 0
one_at p i lt = omega (arith, lt)

pub grown_start : (calls : ℕ → ℕ → Type 0) (from to : ℕ) (seen : List Bool) → IsClear seen → from < length seen
    → IsGrown calls from to (from ∷ []) (0 ∷ []) (set seen from true) 0
grown_start calls from to seen clear lt = record {
  paths = (from ∷ []) ∷ [];
  tree = record {
    some = omega arith;
    a_caller_each = refl;
    a_path_each = refl;
    begins = refl;
    first = refl;
    before = λ i some within. absurd (omega (arith, some, within));
    on = λ i some within. absurd (omega (arith, some, within));
    walks = λ i within. rw (one_at from i within) (path_one calls from);
    ordered = λ i j before within. absurd (omega (arith, before, within));
  };
  upto = omega arith;
  callers_before = λ i some within. absurd (omega (arith, some, within));
  seen_are = record {
    marked = λ q has.
        let is : q ≡ from = sym has.2 ∙ ap (λ i. get_or (from ∷ []) i q) (one_at from has.0 has.1) in
        rw is (get_or-set_same seen from true false lt);
    met = λ q marked.
        elim (cases_eq q from) as (λ _. Contains (from ∷ []) q)
        [ inl is ↦ (0, omega arith, sym is) | inr other ↦ absurd (clear q (sym (get_or-set_other seen from q true false other) ∙ marked)) ];
  };
  opened = λ k q lt. absurd (omega (arith, lt));
  not_yet = λ k lt. absurd (omega (arith, lt));
}

-- a marked node is below the number of marks
pub marked_within : (seen : List Bool) (q : ℕ) → get_or seen q false ≡ true → q < length seen
marked_within seen q marked =
    elim (cases_lt q (length seen)) [ inl lt ↦ lt | inr past ↦ absurd (false≢true (sym (get_or_past seen q false past) ∙ marked)) ]

pub node_within : (nodes : List ℕ) (seen : List Bool) (k : ℕ) → AreSeen nodes seen → k < length nodes → get_or nodes k 0 < length seen
node_within nodes seen k are lt = marked_within seen (get_or nodes k 0) (are.marked (get_or nodes k 0) (Contains-get_or nodes k 0 lt))

pub nodes_within : (nodes : List ℕ) (seen : List Bool) → AreSeen nodes seen → All (λ node. node < length seen) nodes
nodes_within nodes seen are k d lt = marked_within seen (get_or nodes k d) (are.marked (get_or nodes k d) (Contains-get_or nodes k d lt))

-- the marks of the nodes that were met are taken away
pub cleared : (nodes : List ℕ) (seen after : List Bool) → AreSeen nodes seen → IsStamped nodes false seen after → IsClear after
cleared nodes seen after are stamped q marked =
    elim (stamped.kept q false) [
      | inl has ↦ false≢true (sym (stamped.stamped q false has) ∙ marked)
      | inr same ↦ false≢true (sym (stamped.stamped q false (are.met q (sym same ∙ marked))) ∙ marked)
    ]

-- the search is grown up to the place, from whatever node it began
pub record IsGrowing (lists : List (List ℕ)) (to : ℕ) (nodes0 callers0 : List ℕ) (seen0 : List Bool) (nodes callers : List ℕ) (seen : List Bool) (place : ℕ) : Type 0 where
  pub each : length seen ≡ length seen0
  pub some : (from : ℕ) × IsGrown (Calls lists) from to nodes callers seen place
  pub grown : (from : ℕ) → IsGrown (Calls lists) from to nodes0 callers0 seen0 0 → IsGrown (Calls lists) from to nodes callers seen place

-- the mark that is read for a node
pub mark_read : (seen : List Bool) (p : ℕ) (mark value : Bool) → p < length seen → mark ≡ get_or seen p mark → mark ≡ value → get_or seen p false ≡ value
mark_read seen p mark value lt read is = sym (get_or_read seen p mark lt read false) ∙ is

pub begun_at : (lists : List (List ℕ)) (from to : ℕ) (nodes callers : List ℕ) (seen : List Bool) → nodes ≡ from ∷ [] → callers ≡ 0 ∷ []
    → IsClear seen → from < length lists → length seen ≡ length lists → IsGrown (Calls lists) from to nodes callers (set seen from true) 0
begun_at lists from to nodes callers seen nodes_are callers_are clear lt each =
    rw (nodes_are, callers_are) (grown_start (Calls lists) from to seen clear (omega (arith, lt, each)))

pub found_seen : (lists : List (List ℕ)) (from to : ℕ) (nodes callers : List ℕ) (seen : List Bool) (found : Option ℕ)
    → IsFound lists from to nodes callers seen found → AreSeen nodes seen
found_seen lists from to nodes callers seen None grown = grown.seen_are
found_seen lists from to nodes callers seen (Some place) both = both.0.seen_are

pub found_place : (lists : List (List ℕ)) (from to : ℕ) (nodes callers : List ℕ) (seen : List Bool) (found : Option ℕ) (place : ℕ)
    → IsFound lists from to nodes callers seen found → found ≡ Some place → IsFound lists from to nodes callers seen (Some place)
found_place lists from to nodes callers seen found place is at = subst (IsFound lists from to nodes callers seen) at is

pub found_none : (lists : List (List ℕ)) (from to : ℕ) (nodes callers : List ℕ) (seen : List Bool) (found : Option ℕ)
    → IsFound lists from to nodes callers seen found → found ≡ None → IsFound lists from to nodes callers seen None
found_none lists from to nodes callers seen found is at = subst (IsFound lists from to nodes callers seen) at is

pub callees_within : (lists : List (List ℕ)) (node count : ℕ) (callees : List ℕ) → IsClosed lists → length lists ≡ count
    → ((q : ℕ) → Contains callees q ↔ Calls lists node q) → All (λ callee. callee < count) callees
callees_within lists node count callees closed same are k d lt =
    let inside : get_or callees k d < length lists = closed node (get_or callees k d) ((are (get_or callees k d)).0 (Contains-get_or callees k d lt)) in
    omega (arith, inside, same)

-- the callees of a node that was read
pub as_read : (lists : List (List ℕ)) (nodes callees now : List ℕ) (place node : ℕ) → node ≡ get_or nodes place 0 → now ≡ callees
    → ((q : ℕ) → Contains callees q ↔ Calls lists node q) → (q : ℕ) → Contains now q ↔ Calls lists (get_or nodes place 0) q
as_read lists nodes callees now place node is same are q =
    rw (same, sym is) (are q)
