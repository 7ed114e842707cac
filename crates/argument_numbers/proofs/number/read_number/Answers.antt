use Rattle.std.proofs.Common.{◌≡◌, ◌<◌, ◌^◌, ℕ, false, List, [], ◌∷◌, IsTrue, All, arith, refl, ◌==◌}
use Rattle.std.specs.Int.{IsInRange}
use Rattle.std.specs.Str.Parse.{IsNumeral, AllDigits, digits_value, without_leading_plus}
use Rattle.std.proofs.lemmas.Bool.Decides.{nat_tests}
use Rattle.std.proofs.lemmas.List.Elements.{All-head, All-tail}
use Rattle.std.proofs.lemmas.Str.{digit_value_digit}
use Rattle.argument_numbers.specs.Numbers.{is_digit, IsNumber}
use Rattle.argument_numbers.proofs.number.read_number.Goals as goal

digit_range : (b : ℕ) → IsTrue (is_digit b) → IsInRange 48 57 b
digit_range b h = (grind (arith, nat_tests), grind (arith, nat_tests))

all_digits : (text : List ℕ) → All (λ b. IsTrue (is_digit b)) text → AllDigits 10 text
all_digits [] h = tt
all_digits (b ∷ more) h =
    let within = digit_range b (All-head (λ x. IsTrue (is_digit x)) b more h) in
    (omega (arith, digit_value_digit b within, within.0, within.1), all_digits more (All-tail (λ x. IsTrue (is_digit x)) b more h))

is_numeral : (text : List ℕ) → IsNumber text → IsNumeral 10 text
is_numeral text number = (number.some, all_digits text number.digits)

-- a digit isn't `+`
no_plus : (text : List ℕ) → IsNumber text → without_leading_plus text ≡ text
no_plus [] number = absurd (omega (arith, number.some))
no_plus (b ∷ more) number =
    let within = digit_range b (All-head (λ x. IsTrue (is_digit x)) b more number.digits) in
    let is : (b == 43) ≡ false = grind (arith, nat_tests) in
    rw is refl

pub returns-in_default : goal.returns-in_default
returns-in_default c n is =
    let text = c.args.text.now in
    let value : n ≡ digits_value 10 text = is.is in
    let fits : digits_value 10 text < 2 ^ 64 = omega (arith, value, is.most, c.ranges.high.fits) in
    c.in_default.ensures.value.0 (rw (no_plus text is.number) (is_numeral text is.number, fits))
