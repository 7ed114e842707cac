use Rattle.std.proofs.Common.{◌<◌, get_or, subst, sym, arith}
use Rattle.list_laws.specs.Counts.{times}
use Rattle.list_laws.proofs.Counting.{times-append}
use Rattle.node_claims.specs.Claims.{PassValue}
use Rattle.pool_tests.proofs.seen_tests.groups_of.Goals as goal

pub finish-requires-clause-seen : goal.finish-requires-clause-seen
finish-requires-clause-seen g c k d lt =
    let root = get_or c.args.claims.roots k d in
    subst (λ (pass : PassValue). 0 < times root pass.view.seen) (sym c.join-pass.ensures)
    (omega (arith, c.requires.through.1.1 k d lt, times-append root c.args.first.view.seen c.args.second.view.seen))
