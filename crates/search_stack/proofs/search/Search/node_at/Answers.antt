use Rattle.std.proofs.Common.{sym, arith}
use Rattle.search_stack.proofs.FieldLaws.{size_is, node_read}
use Rattle.search_stack.proofs.search.Search.node_at.Goals as goal

pub unwrap-requires : goal.unwrap-requires
unwrap-requires c =
    let lt = rw (← c.self.view_is) at c.requires in
    c.get_index.ensures.found.1 (omega (arith, lt, size_is c.self.inside.opened.entries c.self.inside.frames.items))

pub returns : goal.returns
returns c =
    let entry = rw c.unwrap.ensures at c.get_index.ensures.entry in
    rw (← c.self.view_is)
    (sym
    (node_read c.self.inside.opened.entries c.self.inside.frames.items c.args.position c.unwrap.result.0.now c.unwrap.result.1.now (sym entry)))
