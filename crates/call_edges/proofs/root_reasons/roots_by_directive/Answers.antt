use Rattle.std.proofs.Common.{◌≡◌, List, ℕ, ◌↔◌, All, map, ap, sym, ◌∙◌, subst}
use Rattle.std.specs.Prelude.{Contains}
use Rattle.call_edges.specs.Bodies.{Body, see_body, goals_in, IsLight}
use Rattle.call_edges.specs.RootReasons.{IsRootByDirective}
use Rattle.call_edges.proofs.LightLemmas.{goals_light}
use Rattle.call_edges.proofs.RootReasons.{all_below, called_are, directive_below}
use Rattle.call_edges.proofs.root_reasons.roots_by_directive.Goals as goal

pub push_called-requires : goal.push_called-requires
push_called-requires c =
    let seen = c.args.program.now in
    let are : map see_body c.deref.result.now ≡ goals_in seen.loaded.files = ap (map see_body) c.deref.ensures.value ∙ c.in_ok-goals.ensures in
    let P : List Body → Type 0 = λ bodies. All IsLight bodies in
    subst P (sym are) (goals_light seen c.is_known.ensures)

pub returns-clause-are : goal.returns-clause-are
returns-clause-are c =
    let seen = c.args.program.now in
    let are : map see_body c.deref.result.now ≡ goals_in seen.loaded.files = ap (map see_body) c.deref.ensures.value ∙ c.in_ok-goals.ensures in
    called_are seen (map see_body c.deref.result.now) c.new-nodes.result.items c.push_called.new.out.items c.new-nodes.ensures.items are
    c.in_ok-push_called.ensures

pub returns-clause-below : goal.returns-clause-below
returns-clause-below c =
    let seen = c.args.program.now in
    let nodes : List ℕ = c.push_called.new.out.items in
    let are : map see_body c.deref.result.now ≡ goals_in seen.loaded.files = ap (map see_body) c.deref.ensures.value ∙ c.in_ok-goals.ensures in
    let each : (q : ℕ) → Contains nodes q ↔ IsRootByDirective seen q =
    called_are seen (map see_body c.deref.result.now) c.new-nodes.result.items nodes c.new-nodes.ensures.items are c.in_ok-push_called.ensures in
    all_below seen (IsRootByDirective seen) nodes (directive_below seen) each
