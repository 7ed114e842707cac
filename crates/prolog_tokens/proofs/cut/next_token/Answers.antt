use Rattle.std.proofs.Common.{◌≤◌, length, arith}
use Rattle.prolog_tokens.proofs.OneToken.{token_within}
use Rattle.prolog_tokens.proofs.cut.next_token.Goals as goal

pub overflow_cast-result-2 : goal.overflow_cast-result-2
overflow_cast-result-2 c =
    let within : c.in_ok-spelling.spelling.end ≤ length c.args.text.now =
    token_within c.args.text.now c.in_ok-start.start c.in_ok-spelling.spelling.end c.in_ok-spelling.spelling.kind c.in_ok-spelling.ensures.spells in
    omega arith
