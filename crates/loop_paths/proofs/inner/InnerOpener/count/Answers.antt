use Rattle.std.proofs.Common.{sym, ◌∙◌}
use Rattle.loop_paths.proofs.InnerCalls.{inner_closed, length-inner_lists}
use Rattle.loop_paths.proofs.inner.InnerOpener.count.Goals as goal

pub returns-clause-count : goal.returns-clause-count
returns-clause-count g c =
    c.count.ensures.count ∙ sym (length-inner_lists (g.O.Opener.lists c.args.self.now.opener.now) c.args.self.now.places.now)

pub returns-clause-closed : goal.returns-clause-closed
returns-clause-closed g c =
    inner_closed (g.O.Opener.lists c.args.self.now.opener.now) c.args.self.now.places.now c.count.ensures.closed
