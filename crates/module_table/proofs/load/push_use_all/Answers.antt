use Rattle.std.proofs.Common.{◌≡◌, [], Some, None, map, ap, ◌∙◌, subst}
use Rattle.std.specs.Prelude.{IfErr}
use Rattle.prolog_terms.specs.Terms.{tree_of}
use Rattle.module_table.specs.declared.load.LoadKind.TheVariants.{UseAll}
use Rattle.module_table.specs.Said.{IsWhy}
use Rattle.module_table.specs.Loading.{load_said, loads_said, use_all_said}
use Rattle.module_table.proofs.load.push_use_all.Goals as goal

pub returns-in_ok-to_vec-in-Some-clause-refused : goal.returns-in_ok-to_vec-in-Some-clause-refused
returns-in_ok-to_vec-in-Some-clause-refused c =
    let user = c.args.user.now in
    let tree = tree_of c.args.spec.now in
    let same : loads_said user UseAll (map tree_of c.deref.result.now) ≡ use_all_said user tree =
    ap (λ terms. loads_said user UseAll (map tree_of terms)) c.deref.ensures.value
    ∙ (ap (loads_said user UseAll) c.in_ok-to_vec-in-Some.ensures.trees
    ∙ ap (λ found. elim found [ Some trees ↦ loads_said user UseAll trees | None ↦ load_said user UseAll [] tree ]) c.in-Some.ensures.trees) in
    subst (λ said. IfErr c.push_loads.result (λ fault. IsWhy said fault)) same c.push_loads.ensures.refused
