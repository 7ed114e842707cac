use Rattle.std.proofs.Common.{◌≡◌, ◌<◌, ◌+◌, ◌++◌, ◌∷◌, [], ℕ, ap, sym, ◌∙◌, codes, arith}
use Rattle.std.specs.Fmt.{decimal}
use Rattle.std.proofs.lemmas.Fmt.{decimal_digit}
use Rattle.call_writer.proofs.lines.short_arity.Goals as goal

-- a number that has one digit
one_digit : (n d : ℕ) → n ≡ d → d < 10 → codes "\",\"arity\":" ++ ((48 + d) ∷ []) ≡ codes "\",\"arity\":" ++ decimal n
one_digit n d is small = ap (λ digits. codes "\",\"arity\":" ++ digits) (sym (ap decimal is ∙ decimal_digit d small))

pub returns-in-0 : goal.returns-in-0
returns-in-0 c = one_digit c.args.arity 0 c.in-0.is (omega arith)

pub returns-in-1 : goal.returns-in-1
returns-in-1 c = one_digit c.args.arity 1 c.in-1.is (omega arith)

pub returns-in-2 : goal.returns-in-2
returns-in-2 c = one_digit c.args.arity 2 c.in-2.is (omega arith)

pub returns-in-3 : goal.returns-in-3
returns-in-3 c = one_digit c.args.arity 3 c.in-3.is (omega arith)

pub returns-in-4 : goal.returns-in-4
returns-in-4 c = one_digit c.args.arity 4 c.in-4.is (omega arith)

pub returns-in-5 : goal.returns-in-5
returns-in-5 c = one_digit c.args.arity 5 c.in-5.is (omega arith)

pub returns-in-6 : goal.returns-in-6
returns-in-6 c = one_digit c.args.arity 6 c.in-6.is (omega arith)

pub returns-in-7 : goal.returns-in-7
returns-in-7 c = one_digit c.args.arity 7 c.in-7.is (omega arith)

pub returns-in-8 : goal.returns-in-8
returns-in-8 c = one_digit c.args.arity 8 c.in-8.is (omega arith)

pub returns-in_default : goal.returns-in_default
returns-in_default c = one_digit c.args.arity 9 (omega (arith, c.requires, c.in_default)) (omega arith)
