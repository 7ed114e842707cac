use Rattle.std.proofs.Common.{inl, inr, sym, arith, true≢false}
use Rattle.blocked_table.proofs.WalkSteps.{nearer, walk_never, walk_on, walk_ready, walking_start}
use Rattle.blocked_table.proofs.blocked.Blocked.walk.Goals as goal

pub walk-init : goal.walk-init
walk-init c = walking_start c.args.self.now.kept c.args.on c.args.places.now.items c.requires.empty

pub returns-in_default-clause-never : goal.returns-in_default-clause-never
returns-in_default-clause-never c =
    walk_never c.args.search.now.stack c.holder.ensures.table c.walk.invariant (inl c.in_default.ensures.none)
    (λ on. true≢false (sym (c.walk-test.ensures.1 on))) c.requires.apart

pub returns-in_default-wanted-clause-never : goal.returns-in_default-wanted-clause-never
returns-in_default-wanted-clause-never c =
    let walked = rw (← c.self.view_is) at c.walk.invariant in
    let holds = rw (← c.self.view_is) at c.in-Some.ensures.some in
    let free = rw (← c.self.view_is) at c.requires.apart in
    rw (← c.self.view_is)
    (walk_never c.args.search.now.stack c.self.invariant.table walked
    (inr (walk_ready c.in-Some.place c.in-Some-index.keeper c.index.result.now holds c.index.ensures c.in-Some-index.is c.in_default-wanted.ensures))
    (λ on. true≢false (sym (c.walk-test.ensures.1 on))) free)

pub walk-smaller : goal.walk-smaller
walk-smaller c =
    let pushed = c.in_ok-push.ensures.items in
    let walked = rw (← c.self.view_is) at c.walk.invariant in
    let holds = rw (← c.self.view_is) at c.in-Some.ensures.some in
    let sum = (rw c.in_ok-entries.ensures.ok_part at c.checked_add.ensures).1 in
    let more =
    walk_on c.in-Some.place c.in-Some-wanted.wanted c.in_ok-entries.entries c.in-Some-index.keeper c.index.result.now walked holds c.index.ensures
    c.in-Some-index.is c.in-Some-wanted.ensures (omega (arith, sum, c.len.ensures.len)) in
    rw (← c.self.view_is) (rw pushed (nearer c.walk.places.items c.in-Some.place c.self.invariant.table more))

pub walk-preserved : goal.walk-preserved
walk-preserved c =
    let pushed = c.in_ok-push.ensures.items in
    let walked = rw (← c.self.view_is) at c.walk.invariant in
    let holds = rw (← c.self.view_is) at c.in-Some.ensures.some in
    let sum = (rw c.in_ok-entries.ensures.ok_part at c.checked_add.ensures).1 in
    rw (← c.self.view_is)
    (rw pushed
    (walk_on c.in-Some.place c.in-Some-wanted.wanted c.in_ok-entries.entries c.in-Some-index.keeper c.index.result.now walked holds c.index.ensures
    c.in-Some-index.is c.in-Some-wanted.ensures (omega (arith, sum, c.len.ensures.len))))

pub returns-clause-path : goal.returns-clause-path
returns-clause-path c = c.walk.invariant.path

pub returns-clause-entries : goal.returns-clause-entries
returns-clause-entries c = c.walk.invariant.entries_is
