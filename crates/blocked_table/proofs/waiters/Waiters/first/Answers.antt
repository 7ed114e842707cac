use Rattle.std.proofs.Common.{rules, ◌≡◌, ◌∙◌, sym}
use Rattle.blocked_table.specs.WaitersFields.{word_at}
use Rattle.blocked_table.proofs.Linked.{none_waits}
use Rattle.blocked_table.proofs.waiters.Waiters.first.Goals as goal

pub returns-then-word-eq0-clause-none : goal.returns-then-word-eq0-clause-none
returns-then-word-eq0-clause-none c =
    let word : c.unwrap_or-word.result ≡ word_at c.self.inside.heads.items c.args.node = search rules in
    rw (← c.self.view_is) (λ place waits. none_waits c.self.invariant.linked c.args.node (sym word ∙ c.if-word-eq0.true) place waits)
