use Rattle.std.proofs.Common.{◌≡◌, List, All, map, ap, sym, ◌∙◌, subst}
use Rattle.call_edges.specs.Bodies.{Body, see_body, goals_in, IsLight}
use Rattle.call_edges.proofs.LightLemmas.{goals_light}
use Rattle.call_edges.proofs.faults.directive_faults.Goals as goal

pub faults_in-requires : goal.faults_in-requires
faults_in-requires c =
    let seen = c.args.program.now in
    let are : map see_body c.deref.result.now ≡ goals_in seen.loaded.files = ap (map see_body) c.deref.ensures.value ∙ c.in_ok-bodies.ensures in
    let P : List Body → Type 0 = λ bodies. All IsLight bodies in
    subst P (sym are) (goals_light seen c.is_known.ensures)
