use Rattle.std.proofs.Common.{◌<◌, ◌≤◌, length, arith}
use Rattle.std.proofs.lemmas.List.Elements.{All-push}
use Rattle.prolog_tokens.specs.Cut.{IsNext}
use Rattle.prolog_tokens.proofs.OneToken.{token_within}
use Rattle.prolog_tokens.proofs.Between.{next_some}
use Rattle.prolog_tokens.proofs.RowLemmas.{begin_behind, goes_on_one}
use Rattle.prolog_tokens.proofs.rows.go_on.Goals as goal

pub loop-token-smaller : goal.loop-token-smaller
loop-token-smaller c =
    let next : IsNext c.args.text.now c.loop-token.row.end c.in-Some.token = rw c.in-Some.is at c.in_ok-token.ensures in
    let some : c.loop-token.row.end < c.in-Some.token.end = next_some c.args.text.now c.loop-token.row.end c.in-Some.token next in
    let within : c.in-Some.token.end ≤ length c.args.text.now = token_within c.args.text.now c.in-Some.token.start c.in-Some.token.end c.in-Some.token.kind next.spelled.spells in
    omega arith

pub loop-token-preserved : goal.loop-token-preserved
loop-token-preserved c =
    let text = c.args.text.now in
    let token = c.in-Some.token in
    let next : IsNext text c.loop-token.row.end token = rw c.in-Some.is at c.in_ok-token.ensures in
    record {
      row = goes_on_one text c.args.row.now c.loop-token.row token c.push.new.self.items c.loop-token.invariant.row next c.in_ok-push.ensures.items;
      before = λ old. rw (c.in_ok-push.ensures.items) (All-push (λ t. t.start < c.args.to) c.loop-token.row.tokens.items token (c.loop-token.invariant.before old) (omega (arith, c.if-token-to.false)));
      begins = begin_behind text c.loop-token.row.end token c.utf8.text next;
    }
