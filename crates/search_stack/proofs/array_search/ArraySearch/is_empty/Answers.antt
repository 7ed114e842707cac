use Rattle.std.proofs.Common.{◌≡◌, ◌∙◌, vec_len, sym, arith, eqb-true}
use Rattle.std.proofs.lemmas.Bool.{eq-eqb}
use Rattle.search_stack.specs.Stack.{size}
use Rattle.search_stack.proofs.ArrayLaws.{long_as}
use Rattle.search_stack.proofs.ArraySteps.{arrayed}
use Rattle.search_stack.proofs.array_search.ArraySearch.is_empty.Goals as goal

pub returns : goal.returns
returns c =
    let long : size (arrayed c.self.inside) ≡ vec_len c.self.inside.nodes =
    omega (arith, long_as c.self.inside.succs.items c.self.inside.nodes.items c.self.inside.frames.items, c.self.inside.nodes.ok.0) in
    rw (← c.self.view_is) (
      λ yes. long ∙ eqb-true (vec_len c.self.inside.nodes) 0 (sym c.is_empty.ensures ∙ yes),
      λ none. c.is_empty.ensures ∙ eq-eqb (vec_len c.self.inside.nodes) 0 (sym long ∙ none),
    )
