use Rattle.std.proofs.Common.{[], Some, None, length, ap, subst}
use Rattle.std.specs.Prelude.{option_map}
use Rattle.prolog_terms.specs.Terms.{tree_of}
use Rattle.kept_clauses.specs.BodyGoals.{BodyHasNames}
use Rattle.kept_clauses.specs.Plain.{body_goals}
use Rattle.kept_clauses.specs.Words.{AddsClause, AddsGoals}
use Rattle.kept_clauses.proofs.PlainAdds.{made_plain}
use Rattle.kept_clauses.proofs.WordLemmas.{no_goals, adds_fact, adds_rule, kind_fact, kind_rule, on_ok}
use Rattle.kept_clauses.proofs.kept_list.KeptList.push_plain.Goals as goal

pub returns-in_default : goal.returns-in_default
returns-in_default c =
    on_ok c.push_word-in_default.result c.push_word-in_default.ensures
    (λ pushed names tree is ends.
    let old = c.args.self.now in
    let first = c.push_word.new.self in
    let new = c.push_word-in_default.new.self in
    let head = c.named_word.result in
    let end = c.end_word.result in
    let word = c.named_word.ensures in
    subst (AddsClause names old new (length old.0))
    (made_plain names tree c.args.head.now c.args.to head end None is ends (record { number = word.number; at = word.at; arity = word.arity }) c.end_word.ensures.to
    (ap (option_map (λ term. body_goals (tree_of term))) c.in_default.is))
    (adds_fact names old first first new head end [] c.in_ok-push_word.ensures (no_goals names first) pushed c.end_word.ensures.kind (kind_fact head word.bits)))

pub returns : goal.returns
returns c =
    on_ok c.push_word-3.result c.push_word-3.ensures
    (λ pushed names tree is ends.
    let old = c.args.self.now in
    let first = c.push_word-2.new.self in
    let second = c.push_goals.new.self in
    let new = c.push_word-3.new.self in
    let head = c.named_word-2.result in
    let end = c.end_word-2.result in
    let word = c.named_word-2.ensures in
    let body = c.in-Some.body in
    let goals = body_goals (tree_of body) in
    let body_is = c.in-Some.is in
    let names_are = subst (BodyHasNames names) body_is is.names_are in
    subst (AddsClause names old new (length old.0))
    (made_plain names tree c.args.head.now c.args.to head end (Some goals) is ends (record { number = word.number; at = word.at; arity = word.arity }) c.end_word-2.ensures.to
    (ap (option_map (λ term. body_goals (tree_of term))) body_is))
    (adds_rule names old first second new head end goals c.in_ok-push_word-2.ensures
    (subst (λ ns. AddsGoals ns first second goals) names_are c.in_ok-push_goals.ensures) pushed c.end_word-2.ensures.kind (kind_rule head word.bits)))
