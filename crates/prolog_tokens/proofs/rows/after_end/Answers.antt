use Rattle.std.proofs.Common.{◌≢◌, ◌<◌, ◌≤◌, [], ◌∷◌, ◌++◌, length, inr, refl, arith, rules}
use Rattle.std.proofs.lemmas.List.Elements.{All-push, All-nil}
use Rattle.prolog_tokens.specs.declared.token.Kind.TheVariants.{End}
use Rattle.prolog_tokens.specs.declared.token.Token.{Token}
use Rattle.prolog_tokens.specs.Cut.{IsNext}
use Rattle.prolog_tokens.proofs.OneToken.{token_within}
use Rattle.prolog_tokens.proofs.Between.{stand_more, next_some}
use Rattle.prolog_tokens.proofs.RowLemmas.{begin_behind}
use Rattle.prolog_tokens.proofs.rows.after_end.Goals as goal

pub loop-token-init : goal.loop-token-init
loop-token-init c = record {
  before = ([], refl, All-nil (λ (t : Token). t.kind ≢ End));
  begins = c.requires.span;
}

pub returns-then-eq-clause-span : goal.returns-then-eq-clause-span
returns-then-eq-clause-span c =
    let next : IsNext c.args.text.now c.loop-token.at c.in-Ok-Some.token = rw c.in-Ok-Some.field-0-is at (rw c.in-Ok-Some.is at c.next_token.ensures) in
    begin_behind c.args.text.now c.loop-token.at c.in-Ok-Some.token c.utf8.text next

pub returns-then-eq-clause-end : goal.returns-then-eq-clause-end
returns-then-eq-clause-end c =
    let text = c.args.text.now in
    let token = c.in-Ok-Some.token in
    let next : IsNext text c.loop-token.at token = rw c.in-Ok-Some.field-0-is at (rw c.in-Ok-Some.is at c.next_token.ensures) in
    let before = c.loop-token.invariant.before in
    inr (record {
      before = before.0;
      last = token;
      stand = stand_more text c.args.span.now.from c.loop-token.at before.0 token before.1 next;
      none = before.2;
      ends = search rules;
      start = omega (arith, c.if-token-span.false);
      to = refl;
    })

pub loop-token-smaller : goal.loop-token-smaller
loop-token-smaller c =
    let next : IsNext c.args.text.now c.loop-token.at c.in-Ok-Some.token = rw c.in-Ok-Some.field-0-is at (rw c.in-Ok-Some.is at c.next_token.ensures) in
    let some : c.loop-token.at < c.in-Ok-Some.token.end = next_some c.args.text.now c.loop-token.at c.in-Ok-Some.token next in
    let within : c.in-Ok-Some.token.end ≤ length c.args.text.now = token_within c.args.text.now c.in-Ok-Some.token.start c.in-Ok-Some.token.end c.in-Ok-Some.token.kind next.spelled.spells in
    omega arith

pub loop-token-preserved : goal.loop-token-preserved
loop-token-preserved c =
    let text = c.args.text.now in
    let token = c.in-Ok-Some.token in
    let next : IsNext text c.loop-token.at token = rw c.in-Ok-Some.field-0-is at (rw c.in-Ok-Some.is at c.next_token.ensures) in
    let before = c.loop-token.invariant.before in
    record {
      before = (
        before.0 ++ token ∷ [],
        stand_more text c.args.span.now.from c.loop-token.at before.0 token before.1 next,
        All-push (λ t. t.kind ≢ End) before.0 token before.2 (search rules),
      );
      begins = begin_behind text c.loop-token.at token c.utf8.text next;
    }
