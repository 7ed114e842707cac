use Rattle.std.proofs.Common.{◌≡◌, ◌+◌, ◌-◌, take, reverse, ap, ◌∙◌, arith}
use Rattle.prolog_terms.proofs.Entries.{measure_top}
use Rattle.prolog_terms.proofs.stack.measure_at.Goals as goal

pub returns : goal.returns
returns c = λ names trees.
    let height = c.args.height in
    let tall : height ≡ height - 1 + 1 = omega (arith, c.if-height-eq0.false) in
    measure_top names c.args.entries.now height c.entry_at-top.result (reverse (take (height - 1) c.args.entries.now)) c.pending_bound.result c.args.priority c.args.depth trees c.requires
    (ap (λ n. reverse (take n c.args.entries.now)) tall ∙ c.entry_at-top.ensures) (c.pending_bound.ensures names trees)
