use Rattle.plain_clauses.proofs.PlainMets.{plain_met}
use Rattle.clause_text.proofs.PlainOffsets.{plain_stands}
use Rattle.plain_clauses.proofs.PlainSaid.{directive_same, head_same, span_same, start_same}
use Rattle.clause_text.proofs.PlainWeights.{plain_light}
use Rattle.plain_clauses.proofs.WrittenForms.{form_same, plain_once}
use Rattle.plain_clauses.proofs.laws.plain_law.Goals as goal

pub returns-clause-directive : goal.returns-clause-directive
returns-clause-directive c = directive_same

pub returns-clause-head : goal.returns-clause-head
returns-clause-head c = head_same

pub returns-clause-span : goal.returns-clause-span
returns-clause-span c = span_same

pub returns-clause-start : goal.returns-clause-start
returns-clause-start c = start_same

pub returns-clause-met : goal.returns-clause-met
returns-clause-met c = plain_met

pub returns-clause-light : goal.returns-clause-light
returns-clause-light c = plain_light

pub returns-clause-placed : goal.returns-clause-placed
returns-clause-placed c = plain_stands

pub returns-clause-form : goal.returns-clause-form
returns-clause-form c = form_same

pub returns-clause-once : goal.returns-clause-once
returns-clause-once c = plain_once
