use Rattle.std.proofs.Common.{◌≡◌, refl, sym, ◌∙◌, ap}
use Rattle.prolog_terms.specs.Tree.{span_of}
use Rattle.prolog_terms.specs.Terms.{tree_of, trees_of}
use denote.Enum.Bare.{sameb}
use Rattle.prolog_terms.specs.contracts.term.Form.{the_type}
use Rattle.prolog_terms.specs.declared.term.Form.{Form}
use Rattle.prolog_terms.specs.declared.term.Form.TheVariants.{Functional, Prefix, Infix, Postfix}
use Rattle.module_table.specs.Loading.{system_at, is_functional}
use Rattle.module_table.proofs.Shapes.{no_system, one_system}
use Rattle.module_table.proofs.load.is_system.Goals as goal

pub returns-in_default-only : goal.returns-in_default-only
returns-in_default-only c =
    let v = c.in-Compound in
    no_system v.name.now v.form (span_of (tree_of c.inside.result)) (trees_of v.args) (sym c.in_default-only.ensures.tree)
    ∙ ap system_at (v.ensures.tree ∙ c.inside.ensures.tree)

same : (form : Form) → sameb the_type form Functional ≡ is_functional form
same Functional = refl
same Prefix = refl
same Infix = refl
same Postfix = refl

pub returns : goal.returns
returns c =
    let v = c.in-Compound in
    c.eq.ensures
    ∙ (same v.form
    ∙ (one_system v.name.now v.form (span_of (tree_of c.inside.result)) (trees_of v.args) (tree_of c.in-Some._inner) (sym c.in-Some.ensures.tree)
    ∙ ap system_at (v.ensures.tree ∙ c.inside.ensures.tree)))
