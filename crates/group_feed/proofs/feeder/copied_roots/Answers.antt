use Rattle.std.proofs.Common.{ℕ, take, get_or}
use Rattle.std.proofs.lemmas.List.{take_more}
use Rattle.std.proofs.lemmas.List.Elements.{All-push}
use Rattle.graph_law.specs.Classes.{HasMember}
use Rattle.group_feed.proofs.feeder.copied_roots.Goals as goal

pub loop-index-preserved : goal.loop-index-preserved
loop-index-preserved c =
    let n : ℕ = c.loop-index.index in
    rw (take_more c.args.roots.now n 0 c.loop-index-test.true)
    (All-push (HasMember c.args.copies.now.groups) (take n c.args.roots.now) (get_or c.args.roots.now n 0) c.loop-index.invariant
    (c.holds.ensures.0 c.if-not-holds.false))
