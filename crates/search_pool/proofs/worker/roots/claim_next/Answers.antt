-- The next root is claimed, whatever is found.
use Rattle.search_pool.proofs.worker.roots.claim_next.Goals as goal
use Rattle.search_pool.proofs.TurnRooting.{done_at_work, has_noted, notes_stay, read_noted}

pub returns-in-Won-clause-noted : goal.returns-in-Won-clause-noted
returns-in-Won-clause-noted c =
    read_noted c.args.worker.now.stretch.roots.items c.args.worker.now.stretch.next c.index-root.result.now c.claim.new.pass.view.looks c.requires.some
    c.index-root.ensures
    (has_noted _ 0 c.args.worker.now.pass.view c.claim.new.pass.view c.in-Won.ensures.view)

pub returns-in-Won-clause-noted_before : goal.returns-in-Won-clause-noted_before
returns-in-Won-clause-noted_before c = notes_stay _ 0 c.args.worker.now.pass.view c.claim.new.pass.view c.in-Won.ensures.view

pub returns-in-Held-clause-noted : goal.returns-in-Held-clause-noted
returns-in-Held-clause-noted c =
    read_noted c.args.worker.now.stretch.roots.items c.args.worker.now.stretch.next c.index-root.result.now c.claim.new.pass.view.looks c.requires.some
    c.index-root.ensures
    (has_noted _ 1 c.args.worker.now.pass.view c.claim.new.pass.view c.in-Held.ensures.view)

pub returns-in-Held-clause-noted_before : goal.returns-in-Held-clause-noted_before
returns-in-Held-clause-noted_before c = notes_stay _ 1 c.args.worker.now.pass.view c.claim.new.pass.view c.in-Held.ensures.view

pub returns-in-Done-clause-noted : goal.returns-in-Done-clause-noted
returns-in-Done-clause-noted c =
    read_noted c.args.worker.now.stretch.roots.items c.args.worker.now.stretch.next c.index-root.result.now c.claim.new.pass.view.looks c.requires.some
    c.index-root.ensures
    (has_noted _ 2 c.args.worker.now.pass.view c.claim.new.pass.view c.in-Done.ensures.view)

pub returns-in-Done-clause-noted_before : goal.returns-in-Done-clause-noted_before
returns-in-Done-clause-noted_before c = notes_stay _ 2 c.args.worker.now.pass.view c.claim.new.pass.view c.in-Done.ensures.view

pub returns-in-Done-clause-others : goal.returns-in-Done-clause-others
returns-in-Done-clause-others c =
    let work = done_at_work c.requires.at_work c.claim.ensures.pass _ c.in-Done.ensures.view in
    record { working = work.working; handed = work.handed; within = work.within; seen = work.seen }
