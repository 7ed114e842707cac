-- What a running search keeps from edge to edge.
use Rattle.std.proofs.Common.{◌≡◌, ℕ, ◌<◌, ◌≤◌, inl, inr, Bool, true, false, List, [], ◌∷◌, ◌++◌, length, None, Some, refl, ap, ◌∙◌, sym, subst, arith}
use Rattle.std.proofs.lemmas.Bool.{both_ways}
use Rattle.std.proofs.lemmas.List.{append-nil, get_or-map, length-map, map-append, same_lists}
use Rattle.std.proofs.lemmas.List.Elements.{Contains-append_left, Contains-append_right}
use Rattle.std.specs.Prelude.{Contains, IsTrue}
use Rattle.list_laws.proofs.OneOrder.{in_first}
use Rattle.list_laws.specs.Counts.{times}
use Rattle.list_laws.proofs.Counting.{times-append}
use Rattle.graph_law.specs.Graph.{IsClosed}
use Rattle.search_stack.specs.Stack.{Entry, Stack, IsShaped, size, height, node, position, top}
use Rattle.search_stack.specs.GoodSearch.{IsGood}
use Rattle.search_stack.specs.Search.{SearchValue, IsDone, IsLastBegun, IsOn, IsRipe, next_successor, one_more_begun, pushed, retreated}
use Rattle.search_stack.proofs.Driving.{begun_from, retreated_from, two_frames}
use Rattle.search_stack.proofs.Edges.{good_more}
use Rattle.search_stack.proofs.Steps.{pushes}
use Rattle.search_stack.proofs.UnderWay.{SameNodes}
use Rattle.group_release.specs.Outline.{nodes_on}
use Rattle.group_release.proofs.Beside.{last_below}
use Rattle.group_release.proofs.Nodes.{on_counted}
use Rattle.node_claims.specs.declared.view.View.{View}
use Rattle.node_claims.specs.Claims.{ClaimsValue, PassValue, IsPassOf}
use Rattle.node_claims.specs.Steps.{IsLater}
use Rattle.node_claims.specs.Views.{Noted, claimed}
use Rattle.search_pool.specs.Worker.{HasNodes, IsSearching, IsWorking}

-- the nodes of a search stay where its stack has the same nodes
pub same_nodes : {s t : Stack} → SameNodes s t → nodes_on t ≡ nodes_on s
unfolding node size
same_nodes {s} {t} same =
    let no_entry : Entry = record { node = 0; succs = []; begun = 0 } in
    let first : length (nodes_on t) ≡ length t.entries = length-map t.entries (λ entry. entry.node) in
    let second : length (nodes_on s) ≡ length s.entries = length-map s.entries (λ entry. entry.node) in
    same_lists (nodes_on t) (nodes_on s) (first ∙ same.size_is ∙ sym second)
    (λ k d lt.
    get_or-map (λ entry. entry.node) t.entries k no_entry d (omega (arith, lt, first))
    ∙ same.node_is k
    ∙ sym (get_or-map (λ entry. entry.node) s.entries k no_entry d (omega (arith, lt, first, second, same.size_is))))

pub pushed_nodes : (s : Stack) (v : ℕ) (list : List ℕ) → nodes_on (pushed s v list) ≡ nodes_on s ++ v ∷ []
unfolding pushed
pushed_nodes s v list = map-append (λ entry. entry.node) s.entries ((record { node = v; succs = list; begun = 0 }) ∷ [])

-- a note that was made last is there
pub noted_last : (v n : ℕ) (looks : List (ℕ × ℕ)) → Noted v n (looks ++ (v, n) ∷ [])
noted_last v n [] = inl (refl, refl)
noted_last v n (p ∷ looks) = inr (noted_last v n looks)

-- the pass has the nodes of the stack, where none is unopened
pub has_alone : {claims : ClaimsValue} {pass : PassValue} {search : SearchValue} → HasNodes claims pass search None → pass.view.nodes ≡ nodes_on search.stack
has_alone {claims} {pass} {search} has = has.nodes ∙ append-nil (nodes_on search.stack)

-- the search goes on with the same nodes
pub moves_on : {claims : ClaimsValue} {pass : PassValue} {old now : SearchValue} {opened : Bool} (after : Bool) → IsSearching claims pass old opened
    → SameNodes old.stack now.stack → now.wanted ≡ None → IsGood claims.lists claims.roots pass.view.seen after now.stack
    → IsSearching claims pass now after
moves_on {claims} {pass} {old} {now} {opened} after runs same wants good = record {
  working =
      record {
        has =
            record {
              pass_of = runs.working.has.pass_of;
              nodes = runs.working.has.nodes ∙ ap (λ (l : List ℕ). l ++ []) (sym (same_nodes same));
            };
        wants_nothing = wants;
        good = good;
      };
  some = omega (arith, runs.some, same.size_is);
}

-- there is more room, and nothing else is new
pub has_room : {claims : ClaimsValue} {pass : PassValue} {old now : SearchValue} → IsSearching claims pass old false → now.stack ≡ old.stack
    → now.wanted ≡ old.wanted → IsSearching claims pass now false
has_room {claims} {pass} {old} {now} runs same wants = record {
  working =
      record {
        has =
            record {
              pass_of = runs.working.has.pass_of;
              nodes = runs.working.has.nodes ∙ ap (λ (s : Stack). nodes_on s ++ []) (sym same);
            };
        wants_nothing = wants ∙ runs.working.wants_nothing;
        good = subst (IsGood claims.lists claims.roots pass.view.seen false) (sym same) runs.working.good;
      };
  some = subst (λ (s : Stack). 0 < size s) (sym same) runs.some;
}

-- the top begins an edge
pub begins_on : {claims : ClaimsValue} {pass : PassValue} {old now : SearchValue} (v : ℕ) → IsSearching claims pass old false
    → next_successor old.stack ≡ Some v
    → now ≡ record old { stack = one_more_begun old.stack (position old.stack (top old.stack)) }
    → IsGood claims.lists claims.roots pass.view.seen true now.stack → IsSearching claims pass now true
begins_on {claims} {pass} {old} {now} v runs next is good =
    let begun = begun_from old now v next is in
    moves_on true runs begun.keeps.nodes (begun.wanted_is ∙ runs.working.wants_nothing) good

-- the last edge leads to a node of the graph
pub leads_within : {claims : ClaimsValue} {pass : PassValue} {search : SearchValue} {lists : List (List ℕ)} (v : ℕ)
    → IsSearching claims pass search true → claims.lists ≡ lists → IsClosed lists → IsLastBegun search.stack v → v < length claims.lists
leads_within {claims} {pass} {search} {lists} v runs made closed last = last_below runs.working.good last (subst IsClosed (sym made) closed)

-- the top segment joins the one below
pub unripe_two : (search : SearchValue) (ripe : Bool) → IsShaped search.stack → IsDone search.stack → (IsRipe search.stack → IsTrue ripe)
    → ripe ≡ false → 2 ≤ height search.stack
unripe_two search ripe shaped done is isnt = two_frames shaped done (λ so. both_ways ripe isnt (is so))

pub retreats_on : {claims : ClaimsValue} {pass : PassValue} {old now : SearchValue} → IsSearching claims pass old false → 2 ≤ height old.stack
    → now ≡ record old { stack = retreated old.stack } → IsGood claims.lists claims.roots pass.view.seen false now.stack
    → IsSearching claims pass now false
retreats_on {claims} {pass} {old} {now} runs two is good =
    let after = retreated_from old now two is in
    moves_on false runs after.nodes (ap (λ (value : SearchValue). value.wanted) is ∙ runs.working.wants_nothing) good

-- the node that the pass has won is on the search
pub opens_it : {claims : ClaimsValue} {pass : PassValue} {old now : SearchValue} {v : ℕ} (list : List ℕ) → IsWorking claims pass old (Some v) true
    → now.stack ≡ pushed old.stack v list → now.wanted ≡ None → IsGood claims.lists claims.roots pass.view.seen false now.stack
    → IsSearching claims pass now false
opens_it {claims} {pass} {old} {now} {v} list works is wants good = record {
  working =
      record {
        has =
            record {
              pass_of = works.has.pass_of;
              nodes = works.has.nodes ∙ sym (ap nodes_on is ∙ pushed_nodes old.stack v list) ∙ sym (append-nil (nodes_on now.stack));
            };
        wants_nothing = wants;
        good = good;
      };
  some = omega (arith, ap size is, (pushes old.stack v list).size_is);
}

-- a node of the search is never found unseen
pub away_from : {claims : ClaimsValue} {pass : PassValue} {search : SearchValue} {opened : Bool} {v : ℕ} → IsSearching claims pass search opened
    → IsLater v pass.view 0 → IsOn search.stack v → ⊥
away_from {claims} {pass} {search} {opened} {v} runs later on =
    let here : times v pass.view.nodes ≡ times v (nodes_on search.stack) = ap (times v) (has_alone runs.working.has) in
    let none : 0 < 0 = later.own (omega (arith, here, on_counted search.stack v on)) in
    omega (arith, none)

-- the pass knows more, and has the same nodes
pub knows_more : {claims : ClaimsValue} {pass after : PassValue} {search : SearchValue} {opened : Bool} → IsSearching claims pass search opened
    → IsPassOf claims after → after.view.nodes ≡ pass.view.nodes → ((u : ℕ) → Contains pass.view.seen u → Contains after.view.seen u)
    → IsSearching claims after search opened
knows_more {claims} {pass} {after} {search} {opened} runs of same grows = record {
  working =
      record {
        has = record { pass_of = of; nodes = same ∙ runs.working.has.nodes };
        wants_nothing = runs.working.wants_nothing;
        good = good_more after.view.seen runs.working.good grows;
      };
  some = runs.some;
}

-- a node was found held
module _ {claims : ClaimsValue} {pass after : PassValue} {search : SearchValue} (v : ℕ) (runs : IsSearching claims pass search true)
    (of : IsPassOf claims after) (view : after.view ≡ claimed v 1 pass.view) where
  pub held_runs : IsSearching claims after search true
  held_runs =
      let seen : after.view.seen ≡ pass.view.seen = ap (λ (w : View). w.seen) view in
      knows_more runs of (ap (λ (w : View). w.nodes) view) (λ u has. subst (λ (l : List ℕ). Contains l u) (sym seen) has)

  pub held_noted : Noted v 1 after.view.looks
  held_noted =
      let looks : after.view.looks ≡ pass.view.looks ++ (v, 1) ∷ [] = ap (λ (w : View). w.looks) view in
      subst (λ (l : List (ℕ × ℕ)). Noted v 1 l) (sym looks) (noted_last v 1 pass.view.looks)

-- a node was found finished
module _ {claims : ClaimsValue} {pass after : PassValue} {search : SearchValue} (v : ℕ) (runs : IsSearching claims pass search true)
    (of : IsPassOf claims after) (view : after.view ≡ claimed v 2 pass.view) where
  seen_is : after.view.seen ≡ pass.view.seen ++ v ∷ []
  seen_is = ap (λ (w : View). w.seen) view

  pub done_runs : IsSearching claims after search true
  done_runs =
      knows_more runs of (ap (λ (w : View). w.nodes) view)
      (λ u has. subst (λ (l : List ℕ). Contains l u) (sym seen_is) (Contains-append_left pass.view.seen (v ∷ []) u has))

  pub done_seen : Contains after.view.seen v
  done_seen =
      subst (λ (l : List ℕ). Contains l v) (sym seen_is) (Contains-append_right pass.view.seen (v ∷ []) v (in_first v []))

  -- the pass forgets no node that it has seen finished
  pub done_keeps : (x : ℕ) → 0 < times x pass.view.seen → 0 < times x after.view.seen
  done_keeps x had = omega (arith, had, ap (times x) seen_is, times-append x pass.view.seen (v ∷ []))
