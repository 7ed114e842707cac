use Rattle.plain_clauses.proofs.PlainSaid.{facts_are, refused_same}
use Rattle.plain_clauses.proofs.WholeFacts.{whole_facts}
use Rattle.plain_clauses.proofs.WholeTexts.{text_whole, texts_whole}
use Rattle.plain_clauses.proofs.laws.same_facts.Goals as goal

pub returns-clause-facts : goal.returns-clause-facts
returns-clause-facts c = facts_are

pub returns-clause-whole : goal.returns-clause-whole
returns-clause-whole c = whole_facts

pub returns-clause-text : goal.returns-clause-text
returns-clause-text c = text_whole

pub returns-clause-texts : goal.returns-clause-texts
returns-clause-texts c = texts_whole

pub returns-clause-refusal : goal.returns-clause-refusal
returns-clause-refusal c = refused_same
