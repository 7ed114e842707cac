use Rattle.std.proofs.Common.{◌≡◌, List, All, map, ap, sym, ◌∙◌, subst}
use Rattle.call_edges.specs.Bodies.{Body, see_body, goals_in, IsLight}
use Rattle.call_edges.specs.PlacedSeen.{see_calls}
use Rattle.call_edges.proofs.LightLemmas.{goals_light}
use Rattle.call_edges.proofs.DirectiveCallLemmas.{all_directive_calls, directive_calls_stand}
use Rattle.call_edges.proofs.directives.directive_calls.Goals as goal

pub push_calls_in-requires : goal.push_calls_in-requires
push_calls_in-requires c =
    let seen = c.args.program.now in
    let are : map see_body c.deref.result.now ≡ goals_in seen.loaded.files = ap (map see_body) c.deref.ensures.value ∙ c.in_ok-goals.ensures in
    let P : List Body → Type 0 = λ bodies. All IsLight bodies in
    subst P (sym are) (goals_light seen c.is_known.ensures)

pub returns-clause-calls : goal.returns-clause-calls
returns-clause-calls c =
    let seen = c.args.program.now in
    let are : map see_body c.deref.result.now ≡ goals_in seen.loaded.files = ap (map see_body) c.deref.ensures.value ∙ c.in_ok-goals.ensures in
    all_directive_calls seen (map see_body c.deref.result.now) (see_calls c.new-calls.result.items) c.push_calls_in.new.calls.items
    c.sort_unstable.new.self.items c.dedup.new.self.items (ap see_calls c.new-calls.ensures.items) are c.in_ok-push_calls_in.ensures
    c.sort_unstable.ensures.permutation c.sort_unstable.ensures.sorted c.dedup.ensures.filtered

pub returns-clause-stand : goal.returns-clause-stand
returns-clause-stand c =
    let seen = c.args.program.now in
    let are : map see_body c.deref.result.now ≡ goals_in seen.loaded.files = ap (map see_body) c.deref.ensures.value ∙ c.in_ok-goals.ensures in
    directive_calls_stand seen (see_calls c.dedup.new.self.items) c.is_known.ensures
    (all_directive_calls seen (map see_body c.deref.result.now) (see_calls c.new-calls.result.items) c.push_calls_in.new.calls.items
    c.sort_unstable.new.self.items c.dedup.new.self.items (ap see_calls c.new-calls.ensures.items) are c.in_ok-push_calls_in.ensures
    c.sort_unstable.ensures.permutation c.sort_unstable.ensures.sorted c.dedup.ensures.filtered)
