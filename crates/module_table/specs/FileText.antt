-- What a file is by its name and its text: its facts, or its fault.
use Rattle.std.specs.Prelude.{◌≡◌, ◌⊎◌, ℕ, List, Err, map}
use Rattle.prolog_terms.specs.Tree.{Tree}
use Rattle.kept_clauses.specs.Plain.{plain}
use Rattle.clause_text.specs.declared.fault.TextFault.TheVariants as of_text
use Rattle.clause_text.specs.Clauses.{ReadsAs}
use Rattle.clause_text.specs.TextFault.{HasTextFault}
use Rattle.module_table.specs.Said.{Refusal}
use Rattle.module_table.specs.Facts.{Facts, AreFacts, file_said}

-- the text is clauses, and the facts are those of a file of that name with the plain trees of these clauses
pub record HasFacts (name text : List ℕ) (facts : Facts) : Type 0 where
  pub trees : List Tree
  pub reads : ReadsAs text trees
  pub are : AreFacts name (map plain trees) facts

-- the text is clauses, and what their plain trees say is refused
pub record HasRefusal (name text : List ℕ) (refusal : Refusal) : Type 0 where
  pub trees : List Tree
  pub reads : ReadsAs text trees
  pub said : file_said name (map plain trees) ≡ Err refusal

-- why a file has no facts: why its text isn't read, or why what its clauses say is refused
abbrev pub HasFault : List ℕ → List ℕ → Refusal → Type 0
HasFault name text fault = HasTextFault text (of_text.At fault.cause fault.offset) ⊎ HasRefusal name text fault
