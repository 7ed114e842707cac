use Rattle.std.proofs.Common.{◌≡◌, ◌↔◌, ℕ, List, [], IsTrue, length, get_or, eqb, ◌∙◌, subst}
use Rattle.std.proofs.lemmas.Bool.Decides.{Decides-eqb}
use Rattle.std.proofs.lemmas.List.Elements.{Contains-get_or, Decides-contains, contains_decides}
use Rattle.std.specs.Prelude.{Contains}
use Rattle.graph_law.specs.Graph.{Calls}
use Rattle.graph_law.proofs.GraphLaws.{all_below_from_closed}
use Rattle.group_release.proofs.MemberSteps.{seen_more, seen_all}
use Rattle.group_release.proofs.level.level_of.Goals as goal

pub raise_height-height-requires-clause-nodes : goal.raise_height-height-requires-clause-nodes
raise_height-height-requires-clause-nodes g c =
    let lists : List (List ℕ) = g.O.Opener.lists c.args.opener.now in
    let is : c.deref.result.now ≡ get_or lists (get_or c.args.group.now c.loop-member.member-index 0) [] =
    c.deref.ensures.value ∙ c.in_ok-expand.ensures.ok in
    all_below_from_closed lists (get_or c.args.group.now c.loop-member.member-index 0) (length c.args.places.now) c.deref.result.now is
    c.requires.counted c.requires.closed

pub raise_height-height-requires-clause-known : goal.raise_height-height-requires-clause-known
raise_height-height-requires-clause-known g c = λ k d lt.
    let lists : List (List ℕ) = g.O.Opener.lists c.args.opener.now in
    let n : ℕ = c.loop-member.member-index in
    let member : ℕ = get_or c.args.group.now n 0 in
    let is : c.deref.result.now ≡ get_or lists member [] = c.deref.ensures.value ∙ c.in_ok-expand.ensures.ok in
    let call : Calls lists member (get_or c.deref.result.now k d) =
    subst (λ each. Contains each (get_or c.deref.result.now k d)) is (Contains-get_or c.deref.result.now k d lt) in
    c.requires.known member (get_or c.deref.result.now k d) (Contains-get_or c.args.group.now n 0 c.loop-member-test.true) call

pub loop-member-preserved : goal.loop-member-preserved
loop-member-preserved g c =
    let lists : List (List ℕ) = g.O.Opener.lists c.args.opener.now in
    let member : ℕ = get_or c.args.group.now c.loop-member.member-index 0 in
    let is : c.deref.result.now ≡ get_or lists member [] = c.deref.ensures.value ∙ c.in_ok-expand.ensures.ok in
    let also : c.deref-in-loop-member.result.now ≡ get_or lists member [] = c.deref-in-loop-member.ensures.value ∙ c.in_ok-expand.ensures.ok in
    let own : IsTrue c.contains-recursive.result ↔ Contains c.deref-in-loop-member.result.now member =
    Decides-contains c.deref-in-loop-member.result.now member c.contains-recursive.result
    (contains_decides eqb Decides-eqb c.deref-in-loop-member.result.now member c.contains-recursive.result c.contains-recursive.ensures.cases) in
    seen_more c.raise_height-height.result c.contains-recursive.result c.loop-member.invariant c.loop-member-test.true
    (rw is at c.raise_height-height.ensures) (rw also at own)

pub returns : goal.returns
returns g c = seen_all c.loop-member.invariant c.loop-member-test.false
