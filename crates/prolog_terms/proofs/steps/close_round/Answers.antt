use Rattle.std.proofs.Common.{ap, arith}
use Rattle.prolog_terms.specs.ReaderSeen.{parts_held}
use Rattle.prolog_terms.specs.Forest.{before_last}
use Rattle.prolog_terms.specs.StackSeen.{innermost, trees_in, see_held}
use Rattle.prolog_terms.proofs.ReaderRoom.{parts_same, closed_room}
use Rattle.prolog_terms.proofs.steps.close_round.Goals as goal

pub round_behind-requires : goal.round_behind-requires
round_behind-requires c = record {
  room = λ names.
      let known = c.args.names.now in
      let state = c.close.new.state in
      let old = see_held known c.args.state.now c.args.operand in
      omega (arith, parts_same names known (innermost state.stack) (before_last (trees_in names state)) (before_last (trees_in known state)), ap (λ h. parts_held h.stack) c.in_ok-last.ensures, closed_room old.stack old.operand, c.requires.room);
}
