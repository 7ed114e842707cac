use Rattle.plain_clauses.proofs.FormMets.{body_met, form_met, silent_unmet}
use Rattle.clause_text.proofs.PlainForms.{directive_none}
use Rattle.plain_clauses.proofs.FormHeads.{head_is, span_is}
use Rattle.plain_clauses.proofs.laws.plain_forms.Goals as goal

pub returns-clause-directive : goal.returns-clause-directive
returns-clause-directive c = directive_none

pub returns-clause-head : goal.returns-clause-head
returns-clause-head c = head_is

pub returns-clause-span : goal.returns-clause-span
returns-clause-span c = span_is

pub returns-clause-met : goal.returns-clause-met
returns-clause-met c = form_met

pub returns-clause-body : goal.returns-clause-body
returns-clause-body c = body_met

pub returns-clause-silent : goal.returns-clause-silent
returns-clause-silent c = silent_unmet
