use Rattle.std.proofs.Common.{◌≡◌, ◌<◌, List, ℕ, All, length, ap, sym, ◌∙◌, subst}
use Rattle.import_rules.specs.Program.{Seen}
use Rattle.graph_law.specs.Graph.{lists_of}
use Rattle.call_table.specs.Memberships.{AreGroupsOf}
use Rattle.call_table.specs.Table.{ArePlacedCalls, ArePlacedClauses}
use Rattle.call_table.proofs.OrderLemmas.{all_same, calls_same, clauses_same}
use Rattle.call_table.proofs.table.call_table.Goals as goal

pub clauses_beside_calls-requires-clause-below : goal.clauses_beside_calls-requires-clause-below
clauses_beside_calls-requires-clause-below g c κs within =
    let seen = c.args.lists.now in
    let order = c.in_ok-order.order.items in
    let below = all_same seen order c.args.nodes.now c.in_ok-order.ensures.same (λ p. p < length seen.predicates) c.requires.below in
    subst (λ (ps : List ℕ). All (λ p. p < length seen.predicates) ps) (sym c.deref.ensures.value) below

pub returns : goal.returns
returns g c =
    let seen = c.args.lists.now in
    let order = c.in_ok-order.order.items in
    let nodes = c.args.nodes.now in
    let same = c.in_ok-order.ensures.same in
    let found = c.in_ok-clauses in
    let clauses_told =
    clauses_same seen order nodes same found.clauses.items found.clause_extents.items
    (subst (λ ps. ArePlacedClauses seen ps found.clauses.items found.clause_extents.items) c.deref.ensures.value found.ensures.clauses) in
    let calls_told =
    calls_same seen order nodes same found.calls.items found.call_places.items
    (subst (λ ps. ArePlacedCalls seen ps found.calls.items found.call_places.items) c.deref.ensures.value found.ensures.calls) in
    record {
      clauses = clauses_told.are;
      clause_extents = clauses_told.placed;
      calls = calls_told.are;
      call_places = calls_told.placed;
      groups_are =
          subst (λ count. AreGroupsOf count (lists_of c.args.groups.now) c.in_ok-groups.groups.items)
          (c.count.ensures ∙ ap (λ (s : Seen). length s.predicates) c.program-program.ensures) c.in_ok-groups.ensures;
    }
