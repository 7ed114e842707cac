use Rattle.std.proofs.Common.{◌≡◌, ◌≤◌, ◌++◌, map, take, vec_capacity}
use Rattle.search_stack.specs.Search.{moved}
use Rattle.search_stack.proofs.transfer.move_frames.Given as goal

abbrev pub invariant-loop-frame : goal.invariant-loop-frame
invariant-loop-frame l = record {
  items : l.to.items ≡ l.fn.to.items ++ map (moved l.base l.cut.position) (take l.frame-index l.frame-items);
  room : vec_capacity l.fn.to ≤ vec_capacity l.to;
}
