use Rattle.std.proofs.Common.{sym, arith}
use Rattle.search_stack.specs.Fields.{stack_of}
use Rattle.search_stack.proofs.FieldLaws.{height_is}
use Rattle.search_stack.proofs.Steps.{position_of, low_of}
use Rattle.search_stack.proofs.search.Search.frame_at.Goals as goal

pub index-requires : goal.index-requires
index-requires c =
    let lt = rw (← c.self.view_is) at c.requires in
    omega (arith, lt, c.self.inside.frames.ok.0, height_is c.self.inside.opened.entries c.self.inside.frames.items)

pub returns-clause-position : goal.returns-clause-position
returns-clause-position c =
    let lt = rw (← c.self.view_is) at c.requires in
    rw (← c.self.view_is)
    (sym
    (position_of (stack_of c.self.inside.opened.entries c.self.inside.frames.items) c.args.frame c.index.result.now c.index.result.now lt
    (sym c.index.ensures)))

pub returns-clause-low : goal.returns-clause-low
returns-clause-low c =
    let lt = rw (← c.self.view_is) at c.requires in
    rw (← c.self.view_is)
    (sym
    (low_of (stack_of c.self.inside.opened.entries c.self.inside.frames.items) c.args.frame c.index.result.now c.index.result.now lt
    (sym c.index.ensures)))
