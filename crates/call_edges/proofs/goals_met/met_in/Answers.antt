use Rattle.std.proofs.Common.{◌≡◌, List, All, map, ap, sym, ◌∙◌, subst}
use Rattle.call_edges.specs.Seen.{see_mets}
use Rattle.call_edges.specs.Bodies.{Body, see_body, bodies_in, IsLight}
use Rattle.call_edges.proofs.BodyMets.{all_met}
use Rattle.call_edges.proofs.KeptMeanings.{none_meant}
use Rattle.call_edges.proofs.LightLemmas.{bodies_light}
use Rattle.call_edges.proofs.goals_met.met_in.Goals as goal

pub push_met-requires : goal.push_met-requires
push_met-requires c =
    let seen = c.args.program.now in
    let are : map see_body c.deref.result.now ≡ bodies_in seen c.args.node = ap (map see_body) c.deref.ensures.value ∙ c.in_ok-bodies.ensures in
    let P : List Body → Type 0 = λ bodies. All IsLight bodies in
    subst P (sym are) (bodies_light seen c.args.node c.is_known.ensures)

pub returns-clause-met : goal.returns-clause-met
returns-clause-met c =
    let seen = c.args.program.now in
    let are : map see_body c.deref.result.now ≡ bodies_in seen c.args.node = ap (map see_body) c.deref.ensures.value ∙ c.in_ok-bodies.ensures in
    all_met seen c.args.node (map see_body c.deref.result.now) (see_mets c.new-met.result.items) (see_mets c.push_met.new.met.items) are (ap see_mets c.new-met.ensures.items)
    c.in_ok-push_met.ensures.met

pub returns-clause-meant : goal.returns-clause-meant
returns-clause-meant c =
    let seen = c.args.program.now in
    c.in_ok-push_met.ensures.meant (none_meant seen c.new-met.result.items c.new-met.ensures.items)
