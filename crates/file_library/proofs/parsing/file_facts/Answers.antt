use Rattle.clause_text.specs.Clauses.{text_trees}
use Rattle.file_library.proofs.ParsedFiles.{facts_fault}
use Rattle.file_library.proofs.parsing.file_facts.Goals as goal

pub returns-in-Ok-clause-fault : goal.returns-in-Ok-clause-fault
returns-in-Ok-clause-fault g c =
    facts_fault c.args.name.now c.args.bytes.now (text_trees c.in-Ok.clauses) c.facts.result c.in-Ok.ensures.ok c.facts.ensures.refused
