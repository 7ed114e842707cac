use Rattle.std.proofs.Common.{ℕ, List, [], sym, subst, arith}
use Rattle.search_stack.specs.declared.frame.Frame.{Frame}
use Rattle.search_stack.specs.declared.search.Opened.{Opened}
use Rattle.search_stack.specs.Fields.{stack_of}
use Rattle.search_stack.specs.Stack.{IsShaped}
use Rattle.search_stack.proofs.Shapes.{shaped_empty}
use Rattle.search_stack.proofs.search.Search.empty.Goals as goal

pub invariant_of-result : goal.invariant_of-result
invariant_of-result c =
    let P : List (ℕ × Opened) → Type 0 = λ es. IsShaped (stack_of es c.new-2.result.items) in
    let Q : List Frame → Type 0 = λ fs. IsShaped (stack_of [] fs) in
    record {
      shaped = subst P (sym c.with_hasher.ensures.empty) (subst Q (sym c.new-2.ensures.items) shaped_empty);
      entry_room = omega arith;
      frame_room = rw c.new-2.ensures.items (omega arith);
      small = rw c.with_hasher.ensures.empty (omega arith);
    }
