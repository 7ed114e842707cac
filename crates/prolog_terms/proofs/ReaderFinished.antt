-- The reader behind the End of a clause.
use Rattle.std.proofs.Common.{◌≡◌, true, false, List, refl}
use Rattle.prolog_terms.specs.declared.stack.Entry.{Entry}
use Rattle.prolog_terms.specs.declared.operand.Operand.{Operand}
use Rattle.prolog_terms.specs.declared.state.Mode.{Mode}
use Rattle.prolog_terms.specs.declared.state.Mode.TheVariants as mode
use Rattle.prolog_terms.specs.declared.waiting.Waiting.{Waiting}
use Rattle.prolog_terms.specs.declared.waiting.Waiting.TheVariants as waiting
use Rattle.prolog_terms.specs.declared.waiting.Waited.{Waited}
use Rattle.prolog_terms.specs.Tree.{Tree}
use Rattle.prolog_terms.specs.Forest.{last_of, before_last}
use Rattle.prolog_terms.specs.ReaderSeen.{OperandSeen, StackSeen, WaitingSeen, ready_seen, finished, is_finished}
use Rattle.prolog_terms.specs.StackSeen.{Names, see_operand, see_entries, in_wait}

-- its tree is the last
pub record IsFinishedWith (seen : WaitingSeen) (tree : Tree) : Type 0 where
  pub stack : StackSeen
  pub operand : OperandSeen
  pub is : seen ≡ ready_seen stack (finished operand)
  pub tree_is : operand.tree ≡ tree

pub finished_with : (names : Names) (es : List Entry) (trees : List Tree) (m : Mode) (o : Operand) (w : Waiting) (words : Waited) → is_finished (in_wait names es trees m o w words) ≡ true
    → IsFinishedWith (in_wait names es trees m o w words) (last_of trees)
finished_with names es trees mode.Done o waiting.Nothing words h =
    record { stack = see_entries names es (before_last trees); operand = see_operand (last_of trees) o; is = refl; tree_is = refl }
finished_with names es trees mode.Want o waiting.Nothing words h = let both : false ≡ true = h in cc
finished_with names es trees mode.Have o waiting.Nothing words h = let both : false ≡ true = h in cc
finished_with names es trees m o waiting.Name words h = let both : false ≡ true = h in cc
finished_with names es trees m o waiting.Operator words h = let both : false ≡ true = h in cc
finished_with names es trees m o waiting.Doubt words h = let both : false ≡ true = h in cc
