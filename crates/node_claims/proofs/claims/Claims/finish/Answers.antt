use Rattle.std.proofs.Common.{List, ℕ, ap, ◌∙◌, sym, subst}
use Rattle.graph_law.specs.LegalOrder.{IsComplete}
use Rattle.group_release.specs.Book.{BookValue}
use Rattle.node_claims.proofs.Calls.{complete}
use Rattle.node_claims.proofs.claims.Claims.finish.Goals as goal

pub returns-clause-complete : goal.returns-clause-complete
returns-clause-complete g c =
    subst (λ (groups : List (List ℕ)). IsComplete c.args.self.roots groups)
    (sym (c.into_groups.ensures.groups ∙ ap (λ (book : BookValue). book.groups) c.into_pages.ensures))
    (complete c.args.pass.view c.take-seat.result.1 c.args.self.roots c.take-seat.ensures.lent c.requires.seen)
