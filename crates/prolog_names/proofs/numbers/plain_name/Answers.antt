use Rattle.std.proofs.Common.{arith}
use Rattle.std.proofs.lemmas.Str.{IsCharBoundary-after_ascii}
use Rattle.prolog_tokens.proofs.Once.{closed_within}
use Rattle.prolog_tokens.proofs.OneToken.{single_quote}
use Rattle.prolog_names.proofs.PlainNames.{quotes_apart, plain_text}
use Rattle.prolog_names.proofs.numbers.plain_name.Goals as goal

pub range-inner-requires-clause-start_le_end : goal.range-inner-requires-clause-start_le_end
range-inner-requires-clause-start_le_end c = quotes_apart c.args.text.now c.args.token.start c.args.token.end c.requires

pub range-inner-requires-clause-start_boundary : goal.range-inner-requires-clause-start_boundary
range-inner-requires-clause-start_boundary c = λ _.
    IsCharBoundary-after_ascii c.args.text.now c.args.token.start c.utf8.text
    (omega (arith, quotes_apart c.args.text.now c.args.token.start c.args.token.end c.requires, closed_within c.args.text.now 39 c.args.token.start c.args.token.end single_quote c.requires))
    (omega (arith, c.requires.opens))

pub returns : goal.returns
returns c =
    let bytes = c.as_bytes-byte-items.result.now in
    plain_text c.args.text.now c.args.token.start c.args.token.end c.range-inner.result.now bytes c.utf8.text c.requires c.range-inner.ensures.value
    c.as_bytes-byte-items.ensures.value
    (λ k below. c.loop-byte.invariant.no_quote k (omega (arith, below, c.loop-byte-test.false)))
    (λ k below. c.loop-byte.invariant.no_backslash k (omega (arith, below, c.loop-byte-test.false)))
