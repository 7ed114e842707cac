use Rattle.std.proofs.Common.{◌≡◌, ℕ, ◌<◌, List, ◌∷◌, [], ◌++◌, length, true≢false, sym, refl, ap, ◌∙◌, subst, arith}
use Rattle.graph_law.specs.Classes.{HasMember, group_at, least_member}
use Rattle.graph_law.specs.Graph.{lists_of}
use Rattle.graph_law.proofs.GraphLaws.{length-lists_of, within_lists}
use Rattle.group_release.specs.Released.{ReleasedGroups}
use Rattle.group_feed.proofs.CopySteps.{appended_as_is, class_at, copied_more, copied_so_far, copied_there, is_new}
use Rattle.group_feed.proofs.copy.copy_new.Goals as goal

pub loop-at-init : goal.loop-at-init
loop-at-init c = record {
  count = refl;
  copied = copied_so_far c.args.book.now.lists c.args.book.now.groups c.args.copies.now.groups c.first_new-from.result c.requires.ordered c.requires.within
      c.first_new-from.ensures;
}

pub loop-at-preserved-then-holds : goal.loop-at-preserved-then-holds
loop-at-preserved-then-holds c =
    let groups : List (List ℕ) = c.args.book.now.groups in
    let copies : List (List ℕ) = c.loop-at.copies.groups in
    let n : ℕ = c.loop-at.at in
    let same : c.released-released.result.now.groups ≡ groups = ap (λ (r : ReleasedGroups). r.groups) c.released-released.ensures in
    let lt : n < length groups =
    subst (λ (l : List (List ℕ)). n < length l) (c.groups-at-end.ensures.groups ∙ same) (within_lists c.groups-at-end.result.now n c.loop-at-test.true) in
    let first : c.first_member.result ≡ least_member (group_at groups n) = c.first_member.ensures ∙ ap (λ l. least_member (group_at l n)) same in
    record {
      count = c.loop-at.invariant.count;
      copied = copied_there c.args.book.now.lists groups c.args.copies.now.groups copies n c.keeps.ensures.good.legal lt
          (subst (HasMember copies) first (c.holds.ensures.0 c.if-holds.true)) c.loop-at.invariant.copied;
    }

pub append-requires : goal.append-requires
append-requires c =
    let groups : List (List ℕ) = c.args.book.now.groups in
    let copies : List (List ℕ) = c.loop-at.copies.groups in
    let n : ℕ = c.loop-at.at in
    let same : c.released-released.result.now.groups ≡ groups = ap (λ (r : ReleasedGroups). r.groups) c.released-released.ensures in
    let lt : n < length groups =
    subst (λ (l : List (List ℕ)). n < length l) (c.groups-at-end.ensures.groups ∙ same) (within_lists c.groups-at-end.result.now n c.loop-at-test.true) in
    let first : c.first_member.result ≡ least_member (group_at groups n) = c.first_member.ensures ∙ ap (λ l. least_member (group_at l n)) same in
    let below : (p : ℕ) → HasMember groups p → p < length c.args.book.now.lists =
    λ p has. let low = c.keeps.ensures.released.apart.below has.place p has.within has.member in low in
    rw (c.in_ok-copy.ensures, same)
    (is_new c.args.book.now.lists copies groups c.loop-at.copies.count n (c.loop-at.invariant.count ∙ c.requires.count) c.loop-at.invariant.copied.ordered
    c.keeps.ensures.good.legal below lt
    (λ has. true≢false (sym (c.holds.ensures.1 (subst (HasMember copies) (sym first) has)) ∙ c.if-holds.false)))

pub loop-at-preserved : goal.loop-at-preserved
loop-at-preserved c =
    let groups : List (List ℕ) = c.args.book.now.groups in
    let copies : List (List ℕ) = c.loop-at.copies.groups in
    let n : ℕ = c.loop-at.at in
    let same : c.released-released.result.now.groups ≡ groups = ap (λ (r : ReleasedGroups). r.groups) c.released-released.ensures in
    let lt : n < length groups =
    subst (λ (l : List (List ℕ)). n < length l) (c.groups-at-end.ensures.groups ∙ same) (within_lists c.groups-at-end.result.now n c.loop-at-test.true) in
    let first : c.first_member.result ≡ least_member (group_at groups n) = c.first_member.ensures ∙ ap (λ l. least_member (group_at l n)) same in
    let below : (p : ℕ) → HasMember groups p → p < length c.args.book.now.lists =
    λ p has. let low = c.keeps.ensures.released.apart.below has.place p has.within has.member in low in
    let away : HasMember copies (least_member (group_at groups n)) → ⊥ =
    λ has. true≢false (sym (c.holds.ensures.1 (subst (HasMember copies) (sym first) has)) ∙ c.if-holds.false) in
    let copy_is : c.in_ok-copy.copy.items ≡ group_at groups n = c.in_ok-copy.ensures ∙ ap (λ l. group_at l n) same in
    let grown : c.append.new.self.groups ≡ copies ++ group_at groups n ∷ [] =
    appended_as_is c.loop-at.copies c.append.new.self (group_at groups n) (class_at n c.keeps.ensures.good.legal lt).ascending
    (rw copy_is at c.append.ensures) in
    record {
      count = c.append.ensures.count ∙ c.loop-at.invariant.count;
      copied = rw grown
          (copied_more c.args.book.now.lists groups c.args.copies.now.groups copies n c.keeps.ensures.good.legal below lt away c.loop-at.invariant.copied);
    }

pub returns-clause-all : goal.returns-clause-all
returns-clause-all c = λ p has.
    let groups : List (List ℕ) = c.args.book.now.groups in
    let behind = c.groups-at-end.result.now in
    let long : length (lists_of behind) ≡ length groups =
    ap length (c.groups-at-end.ensures.groups ∙ ap (λ (r : ReleasedGroups). r.groups) c.released-released.ensures) in
    let within = has.within in
    let passed = c.loop-at-test.false in
    c.loop-at.invariant.copied.upto has.place p (omega (arith, long, within, length-lists_of behind, passed)) has.member
