use Rattle.std.proofs.Common.{rules, ◌≡◌, arith}
use Rattle.std.specs.Prelude.{slice_index_or}
use Rattle.blocked_table.proofs.blocked.Blocked.holder.Goals as goal

pub returns-then-word-eq0-clause-none : goal.returns-then-word-eq0-clause-none
returns-then-word-eq0-clause-none c =
    let word : c.unwrap_or-word.result ≡ slice_index_or c.self.inside.holders.items c.args.node 0 = search rules in
    rw (← c.self.view_is)
    (λ place holds. omega (arith, word, c.if-word-eq0.true, (c.self.invariant.words place c.args.node).1 holds))
