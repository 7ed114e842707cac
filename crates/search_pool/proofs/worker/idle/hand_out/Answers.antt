-- Each root that comes next is handed out.
use Rattle.std.proofs.Common.{◌≡◌, [], ◌∷◌, ◌++◌, length, refl, ap, ◌∙◌, sym, subst, arith}
use Rattle.std.proofs.lemmas.List.{length-append}
use Rattle.group_release.specs.Book.{BookValue}
use Rattle.search_pool.proofs.worker.idle.hand_out.Goals as goal
use Rattle.search_pool.proofs.TurnIdling.{HandsOut, hands_more, hands_none}

pub loop-turn-init : goal.loop-turn-init
loop-turn-init c = (
  hands_none c.args.book.now c.args.book.now c.clear.new.self.items refl c.clear.ensures.items,
  (ap length c.clear.ensures.items, refl),
)

pub loop-turn-preserved : goal.loop-turn-preserved
loop-turn-preserved c = (
  hands_more c.args.book.now c.loop-turn.book c.next_root.new.self c.loop-turn.stretch.roots.items c.in-Some.root c.loop-turn.invariant.0
      c.in-Some.ensures.next c.in-Some.ensures.given c.push.new.self.items c.in_ok-push.ensures.items,
  (
    let more : length c.push.new.self.items ≡ length (c.loop-turn.stretch.roots.items ++ c.in-Some.root ∷ []) = ap length c.in_ok-push.ensures.items in
        omega (arith, more, length-append c.loop-turn.stretch.roots.items (c.in-Some.root ∷ []), c.loop-turn.invariant.1.0),
    c.loop-turn.invariant.1.1,
  ),
)

pub returns-in_default-clause-only : goal.returns-in_default-clause-only
returns-in_default-clause-only c =
    let hands : HandsOut c.args.book.now c.next_root.new.self c.loop-turn.stretch.roots.items =
    subst (λ (b : BookValue). HandsOut c.args.book.now b c.loop-turn.stretch.roots.items) (sym c.in_default.ensures.unchanged) c.loop-turn.invariant.0 in
    hands.only

pub returns-in_default-clause-handed : goal.returns-in_default-clause-handed
returns-in_default-clause-handed c =
    let hands : HandsOut c.args.book.now c.next_root.new.self c.loop-turn.stretch.roots.items =
    subst (λ (b : BookValue). HandsOut c.args.book.now b c.loop-turn.stretch.roots.items) (sym c.in_default.ensures.unchanged) c.loop-turn.invariant.0 in
    hands.handed

pub returns-in_default-clause-all : goal.returns-in_default-clause-all
returns-in_default-clause-all c none =
    ap (λ (b : BookValue). b.given) c.in_default.ensures.unchanged ∙ c.in_default.ensures.all
    ∙ ap (λ (b : BookValue). length b.roots) c.loop-turn.invariant.0.only

pub returns-in_err-push-clause-only : goal.returns-in_err-push-clause-only
returns-in_err-push-clause-only c =
    let more : HandsOut c.args.book.now c.next_root.new.self (c.loop-turn.stretch.roots.items ++ c.in-Some.root ∷ []) =
    hands_more c.args.book.now c.loop-turn.book c.next_root.new.self c.loop-turn.stretch.roots.items c.in-Some.root c.loop-turn.invariant.0
    c.in-Some.ensures.next c.in-Some.ensures.given _ refl in
    more.only

pub returns-clause-all : goal.returns-clause-all
returns-clause-all c none =
    absurd (omega (arith, none, c.loop-turn.invariant.1.0, c.loop-turn-test.false, c.stretch_len-most.ensures))
