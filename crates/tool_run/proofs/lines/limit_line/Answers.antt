use Rattle.std.proofs.Common.{◌≡◌, ◌++◌, ℕ, List, IfOk, codes, refl, subst}
use Rattle.std.specs.Fmt.{digits}
use Rattle.std.specs.String.{string_bytes}
use Rattle.tool_run.specs.declared.stop.Limit.TheVariants.{TooManyPredicates}
use Rattle.tool_run.specs.Lines.{limit_line}
use Rattle.tool_run.proofs.lines.limit_line.Goals as goal

-- the line of too many predicates, written out
many_predicates : (program : List ℕ) → program ++ codes ": more than 1048576 predicates\n" ≡ limit_line program TooManyPredicates
unfolding digits
many_predicates program = refl

pub returns-in-TooManyPredicates : goal.returns-in-TooManyPredicates
returns-in-TooManyPredicates c =
    rw c.in-TooManyPredicates.is
    (subst (λ line. IfOk c.line-in-TooManyPredicates.result (λ text. string_bytes text ≡ line)) (many_predicates c.args.program.now) c.line-in-TooManyPredicates.ensures)
