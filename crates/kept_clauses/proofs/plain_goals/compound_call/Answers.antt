use Rattle.std.proofs.Common.{nat_eq, ◌≤◌, ap, ◌||◌, ◌∙◌, subst, sym}
use Rattle.std.proofs.Math.Bool.{or-true}
use Rattle.kept_clauses.proofs.plain_goals.compound_call.Goals as goal

pub returns-clause-fit : goal.returns-clause-fit
returns-clause-fit c =
    let fit = c.is_plain_name.ensures.fit c.if-not-is_plain_name.false in
    record {
      at = fit.0;
      arity = subst (λ n. n ≤ 63) (c.len.ensures ∙ sym c.len-arity.ensures) fit.1;
      free = ap (λ b. nat_eq c.len-arity.result 0 || b) fit.2 ∙ or-true (nat_eq c.len-arity.result 0);
    }
