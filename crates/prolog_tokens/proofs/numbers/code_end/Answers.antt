use Rattle.std.proofs.Common.{refl}
use Rattle.prolog_tokens.specs.Numbers.{itself}
use Rattle.prolog_tokens.specs.Chars.{code_at}
use Rattle.prolog_tokens.proofs.numbers.code_end.Goals as goal

pub returns-in_default : goal.returns-in_default
returns-in_default c = (c.if-byte-eq92.true, λ code b part. c.in_default.ensures _ _ part.by)

pub returns : goal.returns
returns c = (
  code_at c.args.bytes.now c.args.at,
  itself,
  record {
    char = c.char_end.ensures;
    is = refl;
    no_quote = c.if-byte-eq39.false;
    no_backslash = c.if-byte-eq92.false;
    no_newline = c.if-byte-eq10.false;
  },
)
