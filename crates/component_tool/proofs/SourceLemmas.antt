-- What a source of one text answers.
use Rattle.std.proofs.Common.{◌≡◌, ℕ, ◌+◌, ◌≤◌, Bool, false, not, if◌then◌else◌, List, Some, None, length, take, sym, ap, ◌∙◌, arith, length-take}
use Rattle.std.specs.Str.{bytes_eq}
use Rattle.std.proofs.lemmas.Bool.{not-false}
use Rattle.file_library.specs.Library.{Files, IsFound}
use Rattle.tool_run.specs.Wanted.{one_file}

pub found_one : (name text asked room : List ℕ) (limit : ℕ) → not (bytes_eq name asked) ≡ false → room ≡ take (limit + 1) text
    → (length room ≤ limit + 1) × ((files : Files) → Some (one_file name text) ≡ Some files → IsFound files asked limit room)
found_one name text asked room limit same is = (
  omega (arith, ap (λ (xs : List ℕ). length xs) is, length-take (limit + 1) text),
  λ files told.
      let there : one_file name text asked ≡ Some text = ap (λ (b : Bool). if b then Some text else None) (not-false (bytes_eq name asked) same) in
      let one : one_file name text ≡ files = cc in
      record { bytes = text; has = sym (ap (λ (f : Files). f asked) one) ∙ there; is = is },
)
