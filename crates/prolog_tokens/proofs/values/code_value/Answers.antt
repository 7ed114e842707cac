use Rattle.std.proofs.Common.{◌≡◌, ◌≢◌, ℕ, Option, Some, get_or, sym, ◌∙◌, ap, arith}
use Rattle.std.specs.Str.{chars}
use Rattle.std.proofs.lemmas.Option.{get_or_from_slice_get}
use Rattle.prolog_tokens.specs.Chars.{code_at}
use Rattle.prolog_tokens.specs.Escapes.{IsEscape}
use Rattle.prolog_tokens.proofs.Once.{SameEnd, escape_once}
use Rattle.prolog_tokens.proofs.Readings.{escaped_code, itself_code}
use Rattle.prolog_tokens.proofs.values.code_value.Goals as goal

pub returns-in_err-escape_at : goal.returns-in_err-escape_at
returns-in_err-escape_at c = λ code b how is.
    let none : (x : Option ℕ) (e : ℕ) → IsEscape c.args.text.now c.args.at x e → ⊥ = rw c.as_bytes-bytes.ensures.value at c.in_err-escape_at.ensures in
    let backslash : get_or c.args.text.now c.args.at 0 ≡ 92 = rw c.as_bytes-bytes.ensures.value at c.if-bytes-at-eq92.true in
    absurd (none (Some code) b (escaped_code c.args.text.now c.args.at code b how backslash is))

pub returns-then-bytes-at-eq92 : goal.returns-then-bytes-at-eq92
returns-then-bytes-at-eq92 c = λ code b how is.
    let found : IsEscape c.args.text.now c.args.at c.in_ok-escape_at.field-0.code c.in_ok-escape_at.field-0.end = rw c.as_bytes-bytes.ensures.value at c.in_ok-escape_at.ensures in
    let backslash : get_or c.args.text.now c.args.at 0 ≡ 92 = rw c.as_bytes-bytes.ensures.value at c.if-bytes-at-eq92.true in
    let same : SameEnd c.in_ok-escape_at.field-0.code (Some code) c.in_ok-escape_at.field-0.end b =
    escape_once c.args.text.now c.args.at c.in_ok-escape_at.field-0.code (Some code) c.in_ok-escape_at.field-0.end b found (escaped_code c.args.text.now c.args.at code b how backslash is) in
    let both : Some c.in_ok-code.code ≡ Some code = sym c.in_ok-code.was ∙ same.what in
    let one : c.in_ok-code.code ≡ code = cc in
    let value : c.from-then-bytes-at-eq92.result ≡ code = c.from-then-bytes-at-eq92.ensures ∙ one in
    (value, omega (arith, value, c.from-then-bytes-at-eq92.type_inv))

pub returns : goal.returns
returns c = λ code b how is.
    let text = c.args.text.now in
    let first : get_or (chars c.chars.result.rest.now) 0 0 ≡ c.in_ok-code-2.code =
    get_or_from_slice_get (chars c.chars.result.rest.now) 0 c.in_ok-code-2.code 0 (sym c.in_ok-code-2.ensures.steps.2) in
    let there : code_at text c.args.at ≡ c.in_ok-code-2.code = ap (λ bs. get_or (chars bs) 0 0) (sym (c.chars.ensures.rest ∙ c.range_from.ensures.value)) ∙ first in
    let quote : get_or text c.args.at 0 ≢ 39 = rw c.as_bytes-bytes.ensures.value at c.if-bytes-at-eq39.false in
    let backslash : get_or text c.args.at 0 ≢ 92 = rw c.as_bytes-bytes.ensures.value at c.if-bytes-at-eq92.false in
    let value : c.from-2.result ≡ code = c.from-2.ensures ∙ sym there ∙ sym (itself_code text c.args.at code b how quote backslash is) in
    (value, omega (arith, value, c.from-2.type_inv))
