-- The class of each ASCII character stands at its code in the table.
use Rattle.std.proofs.Common.{◌≡◌, ℕ, ◌+◌, ◌<◌, map, get_or, refl, ap, ◌∙◌, arith}
use Rattle.std.specs.List.{range_with_len}
use Rattle.std.proofs.lemmas.List.FromFn.{get_or-map-range_with_len}
use Rattle.prolog_tokens.specs.declared.chars.Class.{Class}
use Rattle.prolog_tokens.specs.Chars.{ascii_class}
use Rattle.prolog_tokens.specs.declared.chars.TheConstants.{ASCII_CLASSES}

classes_are : ASCII_CLASSES ≡ map ascii_class (range_with_len 0 128)
classes_are = refl

pub class_there : (b : ℕ) (class : Class) → b < 128 → get_or ASCII_CLASSES b class ≡ ascii_class b
class_there b class below =
    let same : 0 + b ≡ b = omega arith in
    ap (λ classes. get_or classes b class) classes_are ∙ get_or-map-range_with_len ascii_class 0 128 b b class below same
