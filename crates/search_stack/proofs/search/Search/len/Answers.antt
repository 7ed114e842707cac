use Rattle.std.proofs.Common.{◌∙◌, sym}
use Rattle.search_stack.proofs.FieldLaws.{size_is, distinct}
use Rattle.search_stack.proofs.search.Search.len.Goals as goal

pub returns-clause-len : goal.returns-clause-len
returns-clause-len c =
    rw (← c.self.view_is) (c.len.ensures.len ∙ sym (size_is c.self.inside.opened.entries c.self.inside.frames.items))

pub returns-clause-distinct : goal.returns-clause-distinct
returns-clause-distinct c =
    rw (← c.self.view_is) (distinct c.self.inside.opened.entries c.self.inside.frames.items c.len.ensures.unique)
