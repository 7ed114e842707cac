use Rattle.prolog_terms.specs.Views.{trees_in}
use Rattle.std.proofs.lemmas.List.Elements.{All-push}
use Rattle.std.proofs.Common.{All, subst, map, ◌≡◌, ◌+◌, ◌-◌, suc, sym, ap, ◌∙◌, arith, take}
use Rattle.prolog_terms.specs.Tree.{more}
use Rattle.prolog_terms.specs.Terms.{tree_of, IsOf}
use Rattle.prolog_terms.specs.Forest.{forest, parts_of, before_last}
use Rattle.prolog_terms.proofs.SizedNodes.{behind, behind_push, behind_all, all_reversed}
use Rattle.prolog_terms.proofs.term.Parts.to_vec.Goals as goal

pub loop-part-preserved : goal.loop-part-preserved
loop-part-preserved c =
    let self = c.args.self.now in
    let left = self.count - (c.loop-part._part + 1) in
    let next : self.count - c.loop-part._part ≡ suc left = omega (arith, c.loop-part-test.true) in
    let trees = forest self.names.now (take c.loop-part.end self.nodes.now) in
    let taken = behind c.loop-part.terms.items in
    let of = IsOf self.names.now self.nodes.now in
    let within : All of c.push.new.self.items =
    subst (All of) (sym c.in_ok-push.ensures.items) (All-push of c.loop-part.terms.items c.part.result c.loop-part.invariant.1 c.part.ensures.within) in (
      ap (λ ts. parts_of left ts (behind c.push.new.self.items)) (c.before-end.ensures.rest self.names.now)
          ∙ (ap (parts_of left (before_last trees)) (ap behind c.in_ok-push.ensures.items ∙ behind_push c.loop-part.terms.items c.part.result)
          ∙ (ap (λ t. parts_of left (before_last trees) (more t taken)) c.part.ensures.tree
          ∙ (sym (ap (λ n. parts_of n trees taken) next) ∙ c.loop-part.invariant.0))),
      within,
    )

pub returns-clause-trees : goal.returns-clause-trees
returns-clause-trees c =
    let self = c.args.self.now in
    let done : self.count - c.loop-part._part ≡ 0 = omega (arith, c.loop-part-test.false) in
    let trees = forest self.names.now (take c.loop-part.end self.nodes.now) in
    let taken = behind c.loop-part.terms.items in
    ap (map tree_of) c.reverse.ensures.items
    ∙ (behind_all c.loop-part.terms.items
    ∙ ap trees_in (sym (ap (λ n. parts_of n trees taken) done) ∙ c.loop-part.invariant.0))

pub returns-clause-within : goal.returns-clause-within
returns-clause-within c =
    let of = IsOf c.args.self.now.names.now c.args.self.now.nodes.now in
    subst (All of) (sym c.reverse.ensures.items) (all_reversed of c.loop-part.terms.items c.loop-part.invariant.1)
