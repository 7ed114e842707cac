use Rattle.std.proofs.Common.{Some, ◌≡◌, ap, sym, ◌∙◌, arith, codes, subst}
use Rattle.prolog_names.specs.Names.{name_at}
use Rattle.prolog_terms.specs.Terms.{tree_of}
use Rattle.prolog_terms.proofs.ViewLemmas.{AreBelow, sides_below}
use Rattle.module_table.specs.Heads.{within, behind_modules}
use Rattle.module_table.proofs.HeadLemmas.{behind_some, behind_nameless, behind_none}
use Rattle.module_table.proofs.head.+behind_modules.Goals as goal

pub returns-in_default-clause-is : goal.returns-in_default-clause-is
returns-in_default-clause-is t c =
    let owner = name_at c.args.term.now.names.now c.args.owner in
    ap (within owner) c.inside.ensures.tree ∙ sym (behind_none owner (tree_of c.args.term.now) (sym c.in_default.ensures.trees))

pub behind_modules-requires : goal.behind_modules-requires
behind_modules-requires t c =
    let below : AreBelow (tree_of c.args.term.now) (tree_of c.in-Some.left) (tree_of c.in-Some.right) = sides_below (codes ":") _ _ _ (sym c.in-Some.ensures.trees) in
    (omega (arith, below.right_below), tt)

pub returns-in-Some-atom_number-clause-is : goal.returns-in-Some-atom_number-clause-is
returns-in-Some-atom_number-clause-is t c =
    let names = c.args.term.now.names.now in
    let owner = name_at names c.args.owner in
    let right = tree_of c.in-Some.right in
    let own = c.in-Some-atom_number.own in
    let result = c.behind_modules.result in
    subst (λ n. record { module_ = name_at n result.module; tree = tree_of result.term } ≡ behind_modules (name_at n own) right) c.in-Some.ensures.within.1.0 c.behind_modules.ensures.is
    ∙ sym
    (behind_some owner (tree_of c.args.term.now) (tree_of c.in-Some.left) right (name_at names own) (sym c.in-Some.ensures.trees)
    (sym c.in-Some-atom_number.ensures ∙ ap (λ n. Some (name_at n own)) c.in-Some.ensures.within.0.0))

pub returns-in-None-clause-is : goal.returns-in-None-clause-is
returns-in-None-clause-is t c =
    let owner = name_at c.args.term.now.names.now c.args.owner in
    ap (within owner) c.inside-in-None.ensures.tree
    ∙ sym (behind_nameless owner (tree_of c.args.term.now) (tree_of c.in-Some.left) (tree_of c.in-Some.right) (sym c.in-Some.ensures.trees) (sym c.in-None.ensures))
