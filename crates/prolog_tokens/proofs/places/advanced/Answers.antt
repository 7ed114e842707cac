use Rattle.std.proofs.Common.{rules, ◌≡◌, true, false, get_or, subst, arith}
use Rattle.prolog_tokens.specs.Places.{IsCounted, begins_character}
use Rattle.prolog_tokens.proofs.PlaceSteps.{counted_newline, counted_begins, counted_within, Bounds, counted_bounds}
use Rattle.prolog_tokens.proofs.places.advanced.Goals as goal

pub overflow_add-line : goal.overflow_add-line
overflow_add-line c =
    let bounds : Bounds c.loop-at.at c.loop-at.line c.loop-at.column = counted_bounds c.args.bytes.now c.loop-at.at c.loop-at.line c.loop-at.column (omega (arith, c.requires.within, c.loop-at-test.true)) c.loop-at.invariant in
    omega (arith, bounds.line_le, c.requires.small, c.requires.within, c.loop-at-test.true)

pub loop-at-preserved-then-byte-eq10 : goal.loop-at-preserved-then-byte-eq10
loop-at-preserved-then-byte-eq10 c =
    counted_newline c.args.bytes.now c.loop-at.at c.loop-at.line c.loop-at.column (omega (arith, c.requires.within, c.loop-at-test.true)) c.if-byte-eq10.true c.loop-at.invariant

pub overflow_add-column : goal.overflow_add-column
overflow_add-column c =
    let bounds : Bounds c.loop-at.at c.loop-at.line c.loop-at.column = counted_bounds c.args.bytes.now c.loop-at.at c.loop-at.line c.loop-at.column (omega (arith, c.requires.within, c.loop-at-test.true)) c.loop-at.invariant in
    omega (arith, bounds.column_le, c.requires.small, c.requires.within, c.loop-at-test.true)

pub loop-at-preserved-then-not-begins_character : goal.loop-at-preserved-then-not-begins_character
loop-at-preserved-then-not-begins_character c =
    let none : begins_character (get_or c.args.bytes.now c.loop-at.at 0) ≡ false = search rules in
    counted_within c.args.bytes.now c.loop-at.at c.loop-at.line c.loop-at.column (omega (arith, c.requires.within, c.loop-at-test.true)) c.if-byte-eq10.false none c.loop-at.invariant

pub loop-at-preserved : goal.loop-at-preserved
loop-at-preserved c =
    let begins : begins_character (get_or c.args.bytes.now c.loop-at.at 0) ≡ true = search rules in
    counted_begins c.args.bytes.now c.loop-at.at c.loop-at.line c.loop-at.column (omega (arith, c.requires.within, c.loop-at-test.true)) c.if-byte-eq10.false begins c.loop-at.invariant

pub returns : goal.returns
returns c =
    let at_end : c.loop-at.at ≡ c.args.to = omega (arith, c.loop-at.auto.at-end c.requires.order, c.loop-at-test.false) in
    subst (λ n. IsCounted c.args.bytes.now n c.loop-at.line c.loop-at.column) at_end c.loop-at.invariant
