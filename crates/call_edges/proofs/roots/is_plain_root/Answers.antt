use Rattle.std.proofs.Common.{sym, ◌∙◌}
use Rattle.std.proofs.lemmas.Bool.{false≢true}
use Rattle.call_edges.proofs.roots.is_plain_root.Goals as goal

pub returns-then-file : goal.returns-then-file
returns-then-file c = (λ is. absurd (false≢true is), λ is. sym is.plain ∙ c.if-file.true)

pub returns : goal.returns
returns c = (
  λ is. record { is_root = c.is_among.ensures.0 is; plain = c.if-file.false },
  λ is. c.is_among.ensures.1 is.is_root,
)
