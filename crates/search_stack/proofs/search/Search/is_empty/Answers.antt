use Rattle.std.proofs.Common.{◌∙◌, sym}
use Rattle.search_stack.proofs.FieldLaws.{size_is}
use Rattle.search_stack.proofs.search.Search.is_empty.Goals as goal

pub returns : goal.returns
returns c =
    let same = size_is c.self.inside.opened.entries c.self.inside.frames.items in
    rw (← c.self.view_is) (λ yes. same ∙ c.is_empty.ensures.0 yes, λ none. c.is_empty.ensures.1 (sym same ∙ none))
