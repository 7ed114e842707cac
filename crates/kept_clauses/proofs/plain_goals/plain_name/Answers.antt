use Rattle.kept_clauses.proofs.plain_goals.plain_name.Goals as goal

pub returns-clause-fit : goal.returns-clause-fit
returns-clause-fit c =
    let fit = c.is_plain_name.ensures.fit c.if-not-is_plain_name.false in
    record { at = fit.0; arity = fit.1; free = fit.2 }
