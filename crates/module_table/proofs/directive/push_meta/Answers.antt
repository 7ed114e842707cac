use Rattle.std.proofs.Common.{Ok, sym, ap, ◌∙◌}
use Rattle.prolog_terms.specs.Terms.{tree_of}
use Rattle.module_table.specs.Metas.{takes_of}
use Rattle.module_table.specs.Kept.{see_kinds}
use Rattle.module_table.proofs.KindLemmas.{takes_on}
use Rattle.module_table.proofs.directive.push_meta.Goals as goal

pub returns-clause-ok : goal.returns-clause-ok
returns-clause-ok c names nodes =
    let old = see_kinds names nodes c.args.kinds.now in
    ap (λ k. Ok k) (takes_on old (takes_of c.args.owner.now (tree_of c.args.declared.now)) ∙ (λ i. record old { takes = sym c.in_ok-push_takes.ensures i }))
