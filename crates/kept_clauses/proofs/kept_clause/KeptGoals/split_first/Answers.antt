use Rattle.std.proofs.Common.{◌+◌, ◌∷◌, ap, sym, ◌∙◌, drop}
use Rattle.kept_clauses.specs.Plain.{called, whole}
use Rattle.kept_clauses.specs.Words.{goals_in}
use Rattle.kept_clauses.proofs.WordLemmas.{goals_at, no_word}
use Rattle.kept_clauses.proofs.kept_clause.KeptGoals.split_first.Goals as goal

pub returns-in_default-clause-goals : goal.returns-in_default-clause-goals
returns-in_default-clause-goals c =
    let goals = c.args.self.now in
    ap (goals_in goals.names.now goals.list.now.1) (no_word goals.list.now.0 goals.at c.in_default.ensures.word)

pub returns-in-Call-clause-goals : goal.returns-in-Call-clause-goals
returns-in-Call-clause-goals c =
    let goals = c.args.self.now in
    let names = goals.names.now in
    let rest = goals_in names goals.list.now.1 (drop (goals.at + 1) goals.list.now.0) in
    goals_at names goals.list.now.1 goals.list.now.0 goals.at c.in-Some.word _ c.in-Some.ensures.word (sym c.kind_of.ensures ∙ c.in-Call.is)
    ∙ (λ i. called (sym (c.call_of.ensures names) i) ∷ rest)

pub returns-in-Term-clause-goals : goal.returns-in-Term-clause-goals
returns-in-Term-clause-goals c =
    let goals = c.args.self.now in
    let names = goals.names.now in
    let rest = goals_in names goals.list.now.1 (drop (goals.at + 1) goals.list.now.0) in
    goals_at names goals.list.now.1 goals.list.now.0 goals.at c.in-Some.word _ c.in-Some.ensures.word (sym c.kind_of.ensures ∙ c.in-Term.is)
    ∙ (λ i. whole (sym c.term.ensures.tree i) ∷ rest)

pub returns-in-Fact-clause-goals : goal.returns-in-Fact-clause-goals
returns-in-Fact-clause-goals c =
    let goals = c.args.self.now in
    goals_at goals.names.now goals.list.now.1 goals.list.now.0 goals.at c.in-Some.word _ c.in-Some.ensures.word (sym c.kind_of.ensures ∙ c.in-Fact.is)

pub returns-in-Rule-clause-goals : goal.returns-in-Rule-clause-goals
returns-in-Rule-clause-goals c =
    let goals = c.args.self.now in
    goals_at goals.names.now goals.list.now.1 goals.list.now.0 goals.at c.in-Some.word _ c.in-Some.ensures.word (sym c.kind_of.ensures ∙ c.in-Rule.is)

pub returns-in-End-clause-goals : goal.returns-in-End-clause-goals
returns-in-End-clause-goals c =
    let goals = c.args.self.now in
    goals_at goals.names.now goals.list.now.1 goals.list.now.0 goals.at c.in-Some.word _ c.in-Some.ensures.word (sym c.kind_of.ensures ∙ c.in-End.is)
