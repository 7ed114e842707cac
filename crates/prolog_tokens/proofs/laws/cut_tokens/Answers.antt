use Rattle.prolog_tokens.proofs.OneToken.{token_some, token_within}
use Rattle.prolog_tokens.proofs.Lookups.{cut_next, cut_spelled, cut_order}
use Rattle.prolog_tokens.proofs.laws.cut_tokens.Goals as goal

pub returns-clause-next : goal.returns-clause-next
returns-clause-next c = cut_next

pub returns-clause-spelled : goal.returns-clause-spelled
returns-clause-spelled c = cut_spelled

pub returns-clause-some : goal.returns-clause-some
returns-clause-some c = λ text t s. token_some text t.start t.end t.kind s.spells

pub returns-clause-within : goal.returns-clause-within
returns-clause-within c = λ text t s. token_within text t.start t.end t.kind s.spells

pub returns-clause-order : goal.returns-clause-order
returns-clause-order c = cut_order
