use Rattle.std.proofs.Common.{arith}
use Rattle.search_stack.proofs.FieldLaws.{size_is, height_is}
use Rattle.search_stack.proofs.Shapes.{few_frames}
use Rattle.search_stack.proofs.search.Search.frame_count.Goals as goal

pub overflow_cast-result : goal.overflow_cast-result
overflow_cast-result c =
    omega (
      arith,
      c.len.ensures,
      c.self.inside.frames.ok.0,
      few_frames c.self.invariant.shaped,
      size_is c.self.inside.opened.entries c.self.inside.frames.items,
      height_is c.self.inside.opened.entries c.self.inside.frames.items,
      c.self.invariant.small,
    )

pub returns : goal.returns
returns c =
    rw (← c.self.view_is)
    (omega (arith, c.len.ensures, c.self.inside.frames.ok.0, height_is c.self.inside.opened.entries c.self.inside.frames.items))
