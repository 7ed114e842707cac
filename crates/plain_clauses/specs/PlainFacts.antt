-- Facts of files with plain trees, and with clauses as they are written.
use Rattle.std.specs.Prelude.{ℕ, List, Ok, Err, map, option_map}
use Rattle.prolog_terms.specs.Tree.{Tree}
use Rattle.clause_text.specs.Clauses.{ReadsAs}
use Rattle.module_table.specs.Defined.{Defines, Predicate}
use Rattle.module_table.specs.Facts.{Facts, AreFacts}
use Rattle.module_table.specs.Said.{Said, Part, defines}
use Rattle.kept_clauses.specs.Plain.{plain}

abbrev pub plain_predicate : Predicate → Predicate
plain_predicate predicate = record predicate { clauses = map plain predicate.clauses }

abbrev pub plain_facts : Facts → Facts
plain_facts facts = record facts { defined = map plain_predicate facts.defined }

-- the text is clauses, and the facts are those of a file of that name with these clauses as they are written
pub record HasWholeFacts (name text : List ℕ) (facts : Facts) : Type 0 where
  pub trees : List Tree
  pub reads : ReadsAs text trees
  pub are : AreFacts name trees facts

-- what clauses say, each that defines with its plain tree

abbrev pub plain_defines : Defines → Defines
plain_defines own = record own { clause = option_map plain own.clause }

abbrev pub plain_part : Part → Part
plain_part (defines own) = defines (plain_defines own)
plain_part part = part

abbrev pub plain_said : Said → Said
plain_said (Ok parts) = Ok (map plain_part parts)
plain_said (Err refusal) = Err refusal
