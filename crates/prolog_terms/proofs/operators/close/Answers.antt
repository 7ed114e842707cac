use Rattle.std.proofs.Common.{◌∷◌, length, ap, sym, ◌∙◌, arith}
use Rattle.prolog_terms.specs.declared.stack.Entry.{Entry}
use Rattle.prolog_terms.specs.declared.pending.Pending.TheVariants.{Operator as OperatorKept}
use Rattle.prolog_terms.specs.Forest.{before_last, forest}
use Rattle.prolog_terms.specs.StackSeen.{innermost, trees_in, see_held}
use Rattle.prolog_terms.proofs.ReaderLoops.{closed_built, closed_stop}
use Rattle.prolog_terms.proofs.operators.close.Goals as goal

pub loop-operator-preserved : goal.loop-operator-preserved
loop-operator-preserved c =
    let names = c.args.names.now in
    let state = c.loop-operator.state in
    let top : Entry = record { pending = OperatorKept c.in-Some.operator.now; reach = c.in-Some.ensures.0; separates = c.in-Some.ensures.1 } in
    closed_built names (innermost state.stack) (innermost c.shorten.new.self) c.in-Some.operator.now c.in-Some.ensures.0 c.in-Some.ensures.1
    (trees_in names state) (forest names c.build.new.nodes) c.loop-operator.last c.in_ok-last.last
    (c.in-Some.ensures.3 ∙ ap (λ below. top ∷ below) (sym (c.shorten.ensures top c.in-Some.ensures.2 c.in-Some.ensures.3)))
    c.in_ok-last.ensures
    ∙ c.loop-operator.invariant

pub loop-operator-smaller : goal.loop-operator-smaller
loop-operator-smaller c =
    let top : Entry = record { pending = OperatorKept c.in-Some.operator.now; reach = c.in-Some.ensures.0; separates = c.in-Some.ensures.1 } in
    omega (arith, ap length c.in-Some.ensures.3, ap length (c.shorten.ensures top c.in-Some.ensures.2 c.in-Some.ensures.3))

pub returns : goal.returns
returns c =
    let names = c.args.names.now in
    let state = c.loop-operator.state in
    let last = c.loop-operator.last in
    sym (closed_stop (see_held names state last).stack (see_held names state last).operand (c.in_default.ensures names (before_last (trees_in names state)))) ∙ c.loop-operator.invariant
