-- How many bytes the names of tokens have.
use Rattle.std.proofs.Common.{◌≡◌, ℕ, ◌+◌, ◌-◌, ◌*◌, ◌<◌, ◌≤◌, List, [], ◌∷◌, length, drop, ap, arith, length-append}
use Rattle.std.specs.Prelude.{Some, None, slice_range}
use Rattle.std.specs.List.{flat_map}
use Rattle.std.proofs.lemmas.List.{length-take}
use Rattle.std.proofs.lemmas.Str.{length-encode, len_utf8_bounds}
use Rattle.prolog_tokens.specs.Quoted.{Part, plain, twice, escape, AreParts}
use Rattle.prolog_tokens.specs.Values.{part_bytes, IsQuotedText}
use Rattle.prolog_tokens.proofs.Parts.{part_after}

-- a part stands for at most four bytes
part_few : (q : ℕ) (p : Part) → length (part_bytes q p) ≤ 4
part_few q (plain x) = omega arith
part_few q twice = omega arith
part_few q (escape None) = omega arith
part_few q (escape (Some c)) = omega (arith, length-encode c, (len_utf8_bounds c).1)

-- and each has a byte of its own or more
parts_few : (text : List ℕ) (q a : ℕ) (ps : List Part) (b : ℕ) → AreParts text q a ps b → (a ≤ b) × (length (flat_map (part_bytes q) ps) ≤ 4 * (b - a))
parts_few text q a [] b are = (omega (arith, are), omega arith)
parts_few text q a (p ∷ ps) b are =
    let some = part_after text q a p are.0 are.1 in
    let rest = parts_few text q are.0 ps b are.2 in (
      omega (arith, some, rest.0),
      omega (arith, some, rest.0, rest.1, part_few q p, length-append (part_bytes q p) (flat_map (part_bytes q) ps)),
    )

pub quoted_few : (text : List ℕ) (q a b : ℕ) (name : List ℕ) → IsQuotedText text q a b name → length name ≤ 4 * (b - a)
quoted_few text q a b name is = omega (arith, ap length is.is, (parts_few text q (a + 1) is.parts (b - 1) is.are).1)

pub slice_few : (text : List ℕ) (a b : ℕ) (name : List ℕ) → name ≡ slice_range text a b → length name ≤ 4 * (b - a)
slice_few text a b name is = omega (arith, ap length is, length-take (b - a) (drop a text))

-- where the names so far have at most four bytes for each that stands before a token, and some more
module _ (old base starts ends : ℕ) (few : old ≤ 4 * starts + base) (some : starts < ends) where
  pub few_ahead : {new next : ℕ} → new ≤ old + 4 * (ends - starts) → ends ≤ next → new ≤ 4 * next + base
  few_ahead more behind = omega (arith, few, some, more, behind)

  pub few_with : {size : ℕ} → ends ≤ size → old + 4 * (ends - starts) ≤ 4 * size + base
  few_with within = omega (arith, few, some, within)
