use Rattle.std.proofs.Common.{◌≡◌, ◌<◌, nat_lt, true, get_or, arith}
use Rattle.std.proofs.lemmas.Bool.Decides.{nat_tests}
use Rattle.prolog_tokens.proofs.Classes.{inner_class, inner_byte}
use Rattle.prolog_tokens.proofs.chars.is_inner.Goals as goal

pub returns : goal.returns
returns c =
    let bytes = c.args.bytes.now in (
      λ test. inner_class bytes c.args.at c.if-byte-lt128.false (let below : get_or bytes c.args.at 0 < 192 = grind (arith, nat_tests) in below),
      λ is. let below : get_or bytes c.args.at 0 < 192 = (inner_byte bytes c.args.at is).below in let test : nat_lt (get_or bytes c.args.at 0) 192 ≡ true = grind (arith, nat_tests) in test,
    )
