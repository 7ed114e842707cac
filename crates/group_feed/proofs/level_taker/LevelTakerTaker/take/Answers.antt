use Rattle.std.proofs.Common.{◌≡◌, ◌↔◌, ℕ, ◌≤◌, List, [], ◌∷◌, ◌++◌, IsTrue, length, get_or, eqb, sym, refl, ap, ◌∙◌, subst, rules, arith}
use Rattle.std.proofs.lemmas.Bool.Decides.{Decides-eqb}
use Rattle.std.proofs.lemmas.List.Elements.{Contains-get_or, Decides-contains, contains_decides}
use Rattle.std.specs.Prelude.{Contains}
use Rattle.graph_law.specs.Graph.{Calls, IsClosed}
use Rattle.graph_law.specs.Stamp.{IsStamped}
use Rattle.graph_law.proofs.GraphLaws.{all_below_from_closed}
use Rattle.group_release.proofs.MemberSteps.{seen_all, seen_more}
use Rattle.group_feed.specs.Leveling.{LevelsTaken}
use Rattle.group_feed.specs.Ordered.{AreOrdered}
use Rattle.group_feed.proofs.TakeSteps.{callee_within, heights_low, leveled_more, midway, new_below}
use Rattle.group_feed.proofs.level_taker.LevelTakerTaker.take.Goals as goal

pub stamp-requires : goal.stamp-requires
stamp-requires g c =
    rw (c.deref_mut.ensures.value, c.self.invariant.placed.each)
    (new_below (g.O.Opener.lists c.self.inside.opener.now) c.args.self.now.taken c.args.group.now
    (rw (ap (λ (v : LevelsTaken). v.lists) c.self.view_is) c.requires.ordered))

pub loop-member-init : goal.loop-member-init
loop-member-init g c =
    let lists : List (List ℕ) = g.O.Opener.lists c.self.inside.opener.now in
    let taken : List (List ℕ) = c.self.inside.trail in
    let ordered : AreOrdered lists (taken ++ c.args.group.now ∷ []) =
    subst (λ (v : LevelsTaken). AreOrdered v.lists (v.taken ++ c.args.group.now ∷ [])) (sym c.self.view_is) c.requires.ordered in
    let stamped : IsStamped c.args.group.now c.len.result c.self.inside.places.items c.stamp.new.table = rw c.deref_mut.ensures.value at c.stamp.ensures in
    record {
      opener = refl;
      trail = refl;
      midway = midway lists taken c.args.group.now c.self.inside.places.items c.stamp.new.table c.len.result c.self.inside.places.len
          c.self.inside.levels.items ordered
          c.self.invariant (c.len.ensures ∙ c.self.inside.levels.ok.0) c.self.inside.places.ok.0 stamped;
      seen = search rules;
    }

pub expand-requires-clause-below : goal.expand-requires-clause-below
expand-requires-clause-below g c =
    new_below (g.O.Opener.lists c.loop-member.self-inside.opener.now) c.loop-member.self-inside.trail c.args.group.now
    c.loop-member.invariant.midway.ordered c.loop-member.member-index 0 c.loop-member-test.true

pub raise_height-height-requires-clause-nodes : goal.raise_height-height-requires-clause-nodes
raise_height-height-requires-clause-nodes g c =
    let lists : List (List ℕ) = g.O.Opener.lists c.loop-member.self-inside.opener.now in
    let is : c.deref.result.now ≡ get_or lists (get_or c.args.group.now c.loop-member.member-index 0) [] = c.deref.ensures.value ∙ c.in_ok-expand.ensures.ok in
    let closed : IsClosed lists = subst (λ b. IsClosed (g.O.Opener.lists b.now)) (sym c.loop-member.invariant.opener) c.count.ensures.closed in
    all_below_from_closed lists (get_or c.args.group.now c.loop-member.member-index 0) (length c.deref-in-loop-member.result.now) c.deref.result.now is
    (ap length c.deref-in-loop-member.ensures.value ∙ c.loop-member.invariant.midway.placed.each) closed

pub raise_height-height-requires-clause-known : goal.raise_height-height-requires-clause-known
raise_height-height-requires-clause-known g c = λ k d lt.
    let lists : List (List ℕ) = g.O.Opener.lists c.loop-member.self-inside.opener.now in
    let taken : List (List ℕ) = c.loop-member.self-inside.trail in
    let n : ℕ = c.loop-member.member-index in
    let member : ℕ = get_or c.args.group.now n 0 in
    let is : c.deref.result.now ≡ get_or lists member [] = c.deref.ensures.value ∙ c.in_ok-expand.ensures.ok in
    let call : Calls lists member (get_or c.deref.result.now k d) =
    subst (λ each. Contains each (get_or c.deref.result.now k d)) is (Contains-get_or c.deref.result.now k d lt) in
    let low : get_or c.loop-member.self-inside.places.items (get_or c.deref.result.now k d) 0 ≤ length taken =
    callee_within lists taken c.args.group.now c.loop-member.self-inside.places.items c.loop-member.invariant.midway.ordered
    c.loop-member.invariant.midway.placed member
    (get_or c.deref.result.now k d) (Contains-get_or c.args.group.now n 0 c.loop-member-test.true) call in
    rw (c.deref-in-loop-member.ensures.value, c.deref-in-loop-member-2.ensures.value, c.loop-member.invariant.midway.are.each) low

pub raise_height-height-requires-clause-low : goal.raise_height-height-requires-clause-low
raise_height-height-requires-clause-low g c =
    let lists : List (List ℕ) = g.O.Opener.lists c.loop-member.self-inside.opener.now in
    let same : length lists ≡ length (g.O.Opener.lists c.self.inside.opener.now) = ap (λ b. length (g.O.Opener.lists b.now)) c.loop-member.invariant.opener in
    rw c.deref-in-loop-member-2.ensures.value
    (heights_low lists c.loop-member.self-inside.trail c.args.group.now c.loop-member.self-inside.places.items
    c.loop-member.self-inside.levels.items c.loop-member.invariant.midway.ordered c.loop-member.invariant.midway.are
    (omega (arith, same, c.count.ensures.count, c.count.type_inv)))

pub loop-member-preserved : goal.loop-member-preserved
loop-member-preserved g c =
    let lists : List (List ℕ) = g.O.Opener.lists c.loop-member.self-inside.opener.now in
    let member : ℕ = get_or c.args.group.now c.loop-member.member-index 0 in
    let is : c.deref.result.now ≡ get_or lists member [] = c.deref.ensures.value ∙ c.in_ok-expand.ensures.ok in
    let also : c.deref-in-loop-member-3.result.now ≡ get_or lists member [] = c.deref-in-loop-member-3.ensures.value ∙ c.in_ok-expand.ensures.ok in
    let own : IsTrue c.contains-recursive.result ↔ Contains c.deref-in-loop-member-3.result.now member =
    Decides-contains c.deref-in-loop-member-3.result.now member c.contains-recursive.result
    (contains_decides eqb Decides-eqb c.deref-in-loop-member-3.result.now member c.contains-recursive.result c.contains-recursive.ensures.cases) in
    record {
      opener = c.loop-member.invariant.opener;
      trail = c.loop-member.invariant.trail;
      midway = c.loop-member.invariant.midway;
      seen = seen_more c.raise_height-height.result c.contains-recursive.result c.loop-member.invariant.seen c.loop-member-test.true
          (rw (is, c.deref-in-loop-member.ensures.value, c.deref-in-loop-member-2.ensures.value) at c.raise_height-height.ensures) (rw also at own);
    }

pub invariant_of-self : goal.invariant_of-self
invariant_of-self g c = c.loop-member.invariant.midway.are

pub invariant_of-self-in_err-push : goal.invariant_of-self-in_err-push
invariant_of-self-in_err-push g c = rw c.in_err-push.ensures.items c.loop-member.invariant.midway.are

pub invariant_of-self-2 : goal.invariant_of-self-2
invariant_of-self-2 g c =
    let lists : List (List ℕ) = g.O.Opener.lists c.loop-member.self-inside.opener.now in
    let taken : List (List ℕ) = c.loop-member.self-inside.trail in
    rw (c.add.ensures, c.in_ok-push.ensures.items)
    (leveled_more lists taken c.args.group.now c.loop-member.self-inside.places.items c.loop-member.self-inside.places.items
    c.loop-member.self-inside.levels.items
    (record { height = c.loop-member.height; recursive = c.loop-member.recursive }) c.loop-member.invariant.midway.ordered c.loop-member.invariant.midway.are
    c.loop-member.invariant.midway.placed (seen_all c.loop-member.invariant.seen c.loop-member-test.false))

pub returns-clause-ok : goal.returns-clause-ok
returns-clause-ok g c =
    c.add.ensures ∙ ap (λ t. t ++ c.args.group.now ∷ []) (c.loop-member.invariant.trail ∙ ap (λ (v : LevelsTaken). v.taken) c.self.view_is)
