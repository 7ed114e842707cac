use Rattle.std.proofs.Common.{◌≡◌, ◌<◌, ℕ, List, [], ◌++◌, None, sym, ap, ◌∙◌, subst}
use Rattle.graph_law.specs.Graph.{Calls}
use Rattle.graph_law.specs.Reach.{IsReached}
use Rattle.search_stack.specs.Search.{SearchValue}
use Rattle.list_laws.specs.Counts.{flat, times}
use Rattle.group_release.specs.Book.{BookValue}
use Rattle.node_claims.specs.Claims.{nodes_with}
use Rattle.node_claims.specs.Steps.{MayGive}
use Rattle.node_claims.specs.Views.{outline_of}
use Rattle.node_claims.specs.declared.view.View.{View}
use Rattle.group_feed.specs.Copying.{AreCopied, AreNodesSeen, AreWithin}
use Rattle.group_feed.specs.Ordered.{AreOrdered}
use Rattle.group_feed.proofs.FeedSteps.{may_rest, seen_copied, seen_within, within_seen}
use Rattle.group_feed.proofs.feeder.copy_turn.Goals as goal

pub give-requires : goal.give-requires
give-requires g c =
    let now : BookValue = c.copy_or_fail-goes_on.new.book in
    let book : BookValue = c.turn-turn.result.book in
    let is : now ≡ record book { failed = now.failed } =
    c.copy_or_fail-goes_on.ensures.book ∙ ap (λ (b : BookValue). record b { failed = now.failed }) c.book.ensures.value in
    let idle : c.turn-turn.result.view.nodes ≡ [] = ap (λ (v : View). v.nodes) c.turn-turn.ensures.view ∙ c.requires.idle.1 in
    subst (λ (s : SearchValue). MayGive c.turn-turn.result.view c.turn-turn.result.taken (outline_of now) (nodes_with s None)) (sym c.empty.ensures)
    (may_rest c.turn-turn.result.view c.turn-turn.result.taken book now c.turn-turn.ensures.taken is
    (λ f. c.copy_or_fail-goes_on.ensures.failed (ap (λ (b : BookValue). b.failed) c.book.ensures.value ∙ f)) idle)

pub copy_or_fail-goes_on-requires-clause-within : goal.copy_or_fail-goes_on-requires-clause-within
copy_or_fail-goes_on-requires-clause-within g c =
    let copies : List (List ℕ) = c.args.copies.now.groups in
    subst (λ (b : BookValue). AreWithin copies b.groups) (sym c.book.ensures.value)
    (seen_within copies c.turn-turn.result.book.groups c.args.pass.view.seen c.requires.seen c.turn-turn.ensures.lent.seen)

pub returns-clause-seen : goal.returns-clause-seen
returns-clause-seen g c =
    let now : BookValue = c.copy_or_fail-goes_on.new.book in
    let copies : List (List ℕ) = c.copy_or_fail-goes_on.new.copies.groups in
    let within : AreWithin copies now.groups =
    subst (AreWithin copies) (sym (ap (λ (b : BookValue). b.groups) c.copy_or_fail-goes_on.ensures.book)) c.copy_or_fail-goes_on.ensures.within in
    let seen : c.give-2.result.view.seen ≡ c.turn-turn.result.view.seen ++ flat now.groups = ap (λ (v : View). v.seen) c.give-2.ensures.view in
    subst (AreNodesSeen copies) (sym seen) (within_seen copies now.groups c.turn-turn.result.view.seen within)

pub returns-clause-are : goal.returns-clause-are
returns-clause-are g c =
    let copies : List (List ℕ) = c.copy_or_fail-goes_on.new.copies.groups in
    let lists : c.book.result.now.lists ≡ c.args.claims.now.lists =
    ap (λ (b : BookValue). b.lists) c.book.ensures.value ∙ sym c.turn-turn.ensures.lent.lists ∙ c.requires.idle.0.1.0 in
    let roots : c.book.result.now.roots ≡ c.args.claims.now.roots =
    ap (λ (b : BookValue). b.roots) c.book.ensures.value ∙ sym c.turn-turn.ensures.lent.roots ∙ c.requires.idle.0.1.1 in
    record {
      ordered = subst (λ (l : List (List ℕ)). AreOrdered l copies) lists c.copy_or_fail-goes_on.ensures.ordered;
      reached = λ v has.
          subst (λ (r : List ℕ). IsReached (Calls c.args.claims.now.lists) r v) roots
          (subst (λ (l : List (List ℕ)). IsReached (Calls l) c.book.result.now.roots v) lists
          (c.copy_or_fail-goes_on.ensures.reached v (c.copy_or_fail-goes_on.ensures.within v has)));
    }

pub returns-clause-all : goal.returns-clause-all
returns-clause-all g c = λ goes.
    let now : BookValue = c.copy_or_fail-goes_on.new.book in
    let copies : List (List ℕ) = c.copy_or_fail-goes_on.new.copies.groups in
    let kept : now.groups ≡ c.book.result.now.groups = ap (λ (b : BookValue). b.groups) c.copy_or_fail-goes_on.ensures.book in
    let same : now.groups ≡ c.turn-turn.result.book.groups = kept ∙ ap (λ (b : BookValue). b.groups) c.book.ensures.value in
    let within : AreWithin now.groups copies =
    subst (λ (groups : List (List ℕ)). AreWithin groups copies) (sym kept) (c.copy_or_fail-goes_on.ensures.all goes) in
    let lent : (x : ℕ) → 0 < times x c.turn-turn.result.view.seen → 0 < times x (flat now.groups) =
    λ x seen. subst (λ (groups : List (List ℕ)). 0 < times x (flat groups)) (sym same)
    (c.turn-turn.ensures.lent.seen x (subst (λ (v : View). 0 < times x v.seen) c.turn-turn.ensures.view seen)) in
    let seen : c.give-2.result.view.seen ≡ c.turn-turn.result.view.seen ++ flat now.groups = ap (λ (v : View). v.seen) c.give-2.ensures.view in
    subst (λ (s : List ℕ). AreCopied s copies) (sym seen) (seen_copied copies now.groups c.turn-turn.result.view.seen within lent)
