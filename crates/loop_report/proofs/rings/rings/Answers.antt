use Rattle.std.proofs.Common.{◌≡◌, ℕ, ◌<◌, true, false, List, [], ◌∷◌, ◌++◌, length, sym, subst, ◌∙◌, ap, append_assoc}
use Rattle.std.proofs.lemmas.Iterator.Adapters.{YieldsList-from_vec}
use Rattle.std.proofs.lemmas.Iterator.Consumers.{YieldsList-end}
use Rattle.std.proofs.lemmas.List.{length-map, map-id}
use Rattle.graph_law.specs.Graph.{Calls, lists_of}
use Rattle.graph_law.specs.Reach.{IsReached}
use Rattle.graph_law.specs.Classes.{HasMember}
use Rattle.graph_law.proofs.GraphLaws.{lists_of-push, reached_is_node}
use Rattle.loop_report.specs.ModuleGraph.{texts_of}
use Rattle.report_lines.specs.Reportable.{LeastDiffer}
use Rattle.report_lines.proofs.Printable.{least_differ}
use Rattle.loop_report.proofs.RingLemmas.{AreKept, IsLooping, kept_more, kept_skip, members_nodes, next_differs, next_there, rings_done}
use Rattle.loop_report.proofs.rings.rings.Goals as goal

pub is_ring-requires-clause-members : goal.is_ring-requires-clause-members
is_ring-requires-clause-members c =
    let lists = c.args.graph.now.lists in
    let groups = c.in_ok-groups.groups.items in
    let gives = c.into_iter-group-iterator.ensures.into_iter_gives in
    let whole : c.loop-group.yielded ++ c.in-Some.group ∷ c.next.new.self.rest.items ≡ groups =
    ap (λ rest. c.loop-group.yielded ++ rest) (sym c.in-Some.ensures.steps.0) ∙ (c.loop-group.invariant.0 ∙ gives.0) in
    let nodes : (p : ℕ) → HasMember (lists_of groups) p → p < length lists = λ p has.
    reached_is_node c.roots.ensures.graph p (subst (λ roots. IsReached (Calls lists) roots p) c.roots.ensures.roots (c.in_ok-groups.ensures.reached p has)) in
    rw (c.deref.ensures.value)
    (members_nodes (length lists) (lists_of groups) nodes c.in-Some.group.items (next_there c.loop-group.yielded c.next.new.self.rest.items groups c.in-Some.group whole))

pub loop-group-preserved-then-not-is_ring : goal.loop-group-preserved-then-not-is_ring
loop-group-preserved-then-not-is_ring c =
    let holds : List ℕ → Type 0 = IsLooping (texts_of c.args.modules.now) c.args.graph.now.lists in
    let group = c.in-Some.group in
    let not : holds group.items → ⊥ = λ is.
    let yes_it_is : c.is_ring.result ≡ true = c.is_ring.ensures.1 (subst holds (sym c.deref.ensures.value) is) in
    let both : false ≡ true = sym c.if-not-is_ring.true ∙ yes_it_is in
    cc in (
      append_assoc c.loop-group.yielded (group ∷ []) c.next.new.self.rest.items
          ∙ (ap (λ rest. c.loop-group.yielded ++ rest) (sym c.in-Some.ensures.steps.0) ∙ c.loop-group.invariant.0),
      subst (λ groups. AreKept holds groups (lists_of c.loop-group.rings.items)) (sym (lists_of-push c.loop-group.yielded group))
          (kept_skip holds (lists_of c.loop-group.yielded) (lists_of c.loop-group.rings.items) group.items not c.loop-group.invariant.1),
    )

pub loop-group-preserved : goal.loop-group-preserved
loop-group-preserved c =
    let holds : List ℕ → Type 0 = IsLooping (texts_of c.args.modules.now) c.args.graph.now.lists in
    let group = c.in-Some.group in
    let groups = c.in_ok-groups.groups.items in
    let done = c.loop-group.yielded in
    let rest = c.next.new.self.rest.items in
    let gives = c.into_iter-group-iterator.ensures.into_iter_gives in
    let whole : done ++ group ∷ rest ≡ groups = ap (λ items. done ++ items) (sym c.in-Some.ensures.steps.0) ∙ (c.loop-group.invariant.0 ∙ gives.0) in
    let apart : LeastDiffer (lists_of (done ++ group ∷ rest)) = subst (λ vecs. LeastDiffer (lists_of vecs)) (sym whole) (least_differ c.in_ok-groups.ensures.legal) in
    let is : holds group.items = subst holds c.deref.ensures.value (c.is_ring.ensures.0 c.if-not-is_ring.false) in (
      append_assoc done (group ∷ []) rest ∙ (ap (λ items. done ++ items) (sym c.in-Some.ensures.steps.0) ∙ c.loop-group.invariant.0),
      subst (λ all. AreKept holds all (lists_of c.push.new.self.items)) (sym (lists_of-push done group))
          (subst (AreKept holds (lists_of done ++ group.items ∷ []))
          (sym (ap lists_of c.in_ok-push.ensures.items ∙ lists_of-push c.loop-group.rings.items group))
          (kept_more holds (lists_of done) (lists_of c.loop-group.rings.items) group.items is (next_differs done rest group apart) c.loop-group.invariant.1)),
    )

pub returns : goal.returns
returns c =
    let lists = c.args.graph.now.lists in
    let modules = texts_of c.args.modules.now in
    let groups = c.in_ok-groups.groups in
    let done = c.loop-group.yielded in
    let gives = c.into_iter-group-iterator.ensures.into_iter_gives in
    let road = YieldsList-from_vec {s = c.into_iter-group-iterator.result} groups.items gives.0 (gives.1 ∙ groups.ok.0) in
    let all : done ≡ groups.items =
    sym (map-id done) ∙ (YieldsList-end road done c.loop-group.group-iterator c.loop-group.yielded_by c.next.result c.next.new.self c.in-None.is c.next.ensures.steps).0 in
    let nodes : (p : ℕ) → HasMember (lists_of groups.items) p → p < length lists = λ p has.
    reached_is_node c.roots.ensures.graph p (subst (λ roots. IsReached (Calls lists) roots p) c.roots.ensures.roots (c.in_ok-groups.ensures.reached p has)) in
    rings_done modules lists (lists_of groups.items) c.roots.result.now c.loop-group.rings.items c.sort.new.self.items
    (length-map c.args.modules.now (λ text. text.now) ∙ c.requires.as_many) (c.roots.ensures.roots ∙ c.requires.all_roots) c.in_ok-groups.ensures.legal
    c.in_ok-groups.ensures.complete nodes (subst (λ vecs. AreKept (IsLooping modules lists) (lists_of vecs) (lists_of c.loop-group.rings.items)) all c.loop-group.invariant.1)
    c.in_ok-sort.ensures.permutation c.in_ok-sort.ensures.sorted
