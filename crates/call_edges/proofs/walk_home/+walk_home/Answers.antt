use Rattle.call_edges.proofs.WalkLemmas.{on_ok}
use Rattle.call_edges.proofs.walk_home.+walk_home.Goals as goal

pub returns-in-Some-clause-meant : goal.returns-in-Some-clause-meant
returns-in-Some-clause-meant t c =
    on_ok c.walk_home-in-Some.result c.walk_home-in-Some.ensures.meant (λ more all. more (c.in_ok-walk_home.ensures.meant all))
