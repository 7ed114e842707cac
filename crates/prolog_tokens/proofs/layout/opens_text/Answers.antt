use Rattle.std.proofs.Common.{◌≡◌, sym, subst, inl, inr, eq-eqb, arith}
use Rattle.std.proofs.lemmas.Bool.Decides.{nat_tests}
use Rattle.prolog_tokens.specs.declared.chars.Class.TheVariants.{OrderMark}
use Rattle.prolog_tokens.specs.Chars.{class_at}
use Rattle.prolog_tokens.specs.Numbers.{IsChar}
use Rattle.prolog_tokens.proofs.Pieces.{char_once}
use Rattle.prolog_tokens.proofs.layout.opens_text.Goals as goal

pub returns-in-OrderMark : goal.returns-in-OrderMark
returns-in-OrderMark c =
    let text = c.args.text.now in
    let char : IsChar text 0 c.char_end.result = rw c.as_bytes.ensures.value at c.char_end.ensures in
    let is : class_at text 0 ≡ OrderMark = sym c.in-OrderMark.ensures in (
      λ test. let same : c.char_end.result ≡ c.args.at = grind (arith, nat_tests) in inr (record { is = is; char = subst (IsChar text 0) same char }),
      λ first. elim first [
        | inl zero ↦ absurd (c.if-at-eq0.false zero)
        | inr mark ↦ eq-eqb c.char_end.result c.args.at (char_once text 0 c.char_end.result c.args.at char mark.char)
      ],
    )
