use Rattle.std.proofs.Common.{ℕ, ◌<◌, List, Contains, length, subst}
use Rattle.std.proofs.lemmas.List.Elements.{All-contains}
use Rattle.graph_law.specs.Graph.{Calls}
use Rattle.graph_law.proofs.ReachLaws.{along_walk}
use Rattle.graph_rows.proofs.answers.groups.Goals as goal

pub returns-clause-nodes : goal.returns-clause-nodes
returns-clause-nodes c = λ p member.
    let lists : List (List ℕ) = c.args.graph.now.lists in
    let graph = c.roots-roots.ensures.graph in
    let reached = c.in_ok-groups.ensures.reached p member in
    along_walk (Calls lists) (λ n. n < length lists) (λ n m low call. graph.closed n m call) reached.start reached.reaches.path p reached.reaches.walk
    (All-contains (λ n. n < length lists) c.args.graph.now.roots reached.start graph.rooted
    (subst (λ (roots : List ℕ). Contains roots reached.start) c.roots-roots.ensures.roots reached.is_start))
