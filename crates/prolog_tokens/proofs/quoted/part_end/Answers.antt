use Rattle.std.proofs.Common.{get_or, refl, arith}
use Rattle.prolog_tokens.specs.Quoted.{plain, escape, NoPart}
use Rattle.prolog_tokens.specs.Escapes.{IsEscape}
use Rattle.prolog_tokens.proofs.Parts.{escape_after, no_part_backslash}
use Rattle.prolog_tokens.proofs.quoted.part_end.Goals as goal

pub returns-in_err-found : goal.returns-in_err-found
returns-in_err-found c =
    let none : NoPart c.args.bytes.now c.args.quote c.args.at = no_part_backslash c.args.bytes.now c.args.quote c.args.at c.requires.quote c.if-bytes-at-eq92.true c.in_err-found.ensures in
    rw c.from_residual.ensures none

pub returns-then-bytes-at-eq92 : goal.returns-then-bytes-at-eq92
returns-then-bytes-at-eq92 c =
    let found : IsEscape c.args.bytes.now c.args.at c.in_ok-found.found.code c.in_ok-found.found.end = c.in_ok-found.ensures in
    (escape c.in_ok-found.found.code, record { within = (escape_after c.args.bytes.now c.args.at c.in_ok-found.found.code c.in_ok-found.found.end found).within; by = found })

pub returns-then-bytes-at : goal.returns-then-bytes-at
returns-then-bytes-at c =
    (plain (get_or c.args.bytes.now c.args.at 0), record { within = omega arith; by = (refl, c.if-bytes-at.true, c.if-bytes-at-eq92.false, refl) })
