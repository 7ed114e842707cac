use Rattle.std.proofs.Common.{sym, ◌∙◌}
use Rattle.call_edges.proofs.RootLemmas.{searched}
use Rattle.call_edges.proofs.roots.is_among.Goals as goal

pub returns : goal.returns
returns c =
    let told = searched c.args.names.now c.args.name.now c.binary_search.result c.requires c.binary_search.ensures.bound c.binary_search.ensures.position in
    (λ is. told.0 (sym c.is_ok.ensures.value ∙ is), λ has. c.is_ok.ensures.value ∙ told.1 has)
