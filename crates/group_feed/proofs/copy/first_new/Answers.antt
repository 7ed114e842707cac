use Rattle.std.proofs.Common.{◌≡◌, ℕ, ◌<◌, List, length, true≢false, sym, ap, ◌∙◌, subst, arith}
use Rattle.graph_law.specs.Classes.{HasMember, group_at, least_member}
use Rattle.graph_law.specs.Graph.{lists_of}
use Rattle.graph_law.proofs.GraphLaws.{length-lists_of, within_lists}
use Rattle.group_release.specs.Released.{ReleasedGroups}
use Rattle.group_feed.specs.Copying.{AreCopiedUpTo}
use Rattle.group_feed.proofs.CopyPlaces.{copied_before, new_more}
use Rattle.group_feed.proofs.copy.first_new.Goals as goal

pub loop-at-preserved : goal.loop-at-preserved
loop-at-preserved c =
    let groups : List (List ℕ) = c.args.book.now.groups in
    let copies : List (List ℕ) = c.args.copies.now.groups in
    let n : ℕ = c.loop-at.at in
    let same : c.released-released.result.now.groups ≡ groups = ap (λ (r : ReleasedGroups). r.groups) c.released-released.ensures in
    let lt : n < length groups =
    subst (λ (l : List (List ℕ)). n < length l) (c.groups-at-end.ensures.groups ∙ same) (within_lists c.groups-at-end.result.now n c.loop-at-test.true) in
    let first : c.first_member.result ≡ least_member (group_at groups n) = c.first_member.ensures ∙ ap (λ l. least_member (group_at l n)) same in
    new_more c.args.book.now.lists copies groups (length c.groups-copied.result.now) n c.requires.ordered c.keeps.ensures.good.legal lt
    (λ has. true≢false (sym (c.holds.ensures.1 (subst (HasMember copies) (sym first) has)) ∙ c.if-holds.false)) c.loop-at.invariant

pub returns : goal.returns
returns c =
    let groups : List (List ℕ) = c.args.book.now.groups in
    let copies : List (List ℕ) = c.args.copies.now.groups in
    let behind = c.groups-at-end.result.now in
    let long : length (lists_of behind) ≡ length groups =
    ap length (c.groups-at-end.ensures.groups ∙ ap (λ (r : ReleasedGroups). r.groups) c.released-released.ensures) in
    let passed = c.loop-at-test.false in
    let made : length c.groups-copied.result.now ≡ length copies =
    sym (length-lists_of c.groups-copied.result.now) ∙ ap length c.groups-copied.ensures.groups in
    subst (λ n. AreCopiedUpTo n groups copies) (sym made)
    (copied_before c.args.book.now.lists copies groups c.requires.ordered c.keeps.ensures.good.legal c.requires.within
    (λ i p from lt. c.loop-at.invariant i p (omega (arith, from, made)) (omega (arith, lt, long, passed, length-lists_of behind))))
