use Rattle.std.proofs.Common.{◌≡◌, List, All, map, ap, sym, ◌∙◌, subst}
use Rattle.call_edges.specs.Bodies.{Body, see_body, bodies_in, IsLight}
use Rattle.call_edges.proofs.CallLemmas.{node_goes}
use Rattle.call_edges.proofs.LightLemmas.{bodies_light}
use Rattle.call_edges.proofs.WalkLemmas.{on_ok}
use Rattle.call_edges.proofs.calls.push_callees.Goals as goal

pub push_called-requires : goal.push_called-requires
push_called-requires c =
    let seen = c.args.program.now in
    let are : map see_body c.deref.result.now ≡ bodies_in seen c.args.node = ap (map see_body) c.deref.ensures.value ∙ c.in_ok-bodies.ensures in
    let P : List Body → Type 0 = λ bodies. All IsLight bodies in
    subst P (sym are) (bodies_light seen c.args.node c.is_known.ensures)

pub returns : goal.returns
returns c =
    let seen = c.args.program.now in
    let are : map see_body c.deref.result.now ≡ bodies_in seen c.args.node = ap (map see_body) c.deref.ensures.value ∙ c.in_ok-bodies.ensures in
    on_ok c.push_called.result c.push_called.ensures (λ adds.
    node_goes seen c.args.node (map see_body c.deref.result.now) c.args.out.now.items c.push_called.new.out.items are c.requires.empty adds)
