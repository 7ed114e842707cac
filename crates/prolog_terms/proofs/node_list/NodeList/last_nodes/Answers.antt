use Rattle.std.proofs.Common.{◌≡◌, subst, sym, ap, ◌∙◌}
use Rattle.std.specs.Prelude.{slice_range}
use Rattle.prolog_terms.specs.Sized.{AreTerms}
use Rattle.prolog_terms.specs.Terms.{root_tree}
use Rattle.prolog_terms.proofs.LastTerm.{one_slice, slice_root}
use Rattle.prolog_terms.proofs.node_list.NodeList.last_nodes.Goals as goal

pub returns-clause-one : goal.returns-clause-one
returns-clause-one c =
    let nodes = c.args.self.now in
    let from = c.before_these.result in
    let list : c.deref.result.now ≡ nodes = c.deref.ensures.value ∙ c.self.view_is in
    let are : AreTerms nodes c.self.inside.terms = subst (λ ns. AreTerms ns c.self.inside.terms) c.self.view_is c.self.invariant in
    subst (λ ns. AreTerms (slice_range ns from c.args.end) 1) (sym list)
    (one_slice nodes c.self.inside.terms are c.args.end from c.requires.some c.requires.there c.before_these.ensures.within c.before_these.ensures.rest)

pub returns-clause-root : goal.returns-clause-root
returns-clause-root c = λ names.
    let nodes = c.args.self.now in
    let from = c.before_these.result in
    let list : c.deref.result.now ≡ nodes = c.deref.ensures.value ∙ c.self.view_is in
    let are : AreTerms nodes c.self.inside.terms = subst (λ ns. AreTerms ns c.self.inside.terms) c.self.view_is c.self.invariant in
    ap (λ ns. root_tree names (slice_range ns from c.args.end)) list
    ∙ slice_root nodes c.self.inside.terms are c.args.end from c.requires.some c.requires.there c.before_these.ensures.within c.before_these.ensures.rest names
