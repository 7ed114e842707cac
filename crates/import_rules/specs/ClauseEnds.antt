-- Where the clauses of files end.
use Rattle.std.specs.Prelude.{ℕ, ◌<◌, ◌≤◌, Contains}
use Rattle.std.specs.List.{AllZip}
use Rattle.prolog_tokens.specs.Places.{IsOffset}
use Rattle.prolog_terms.specs.Tree.{Tree}
use Rattle.prolog_terms.specs.Views.{start_of}
use Rattle.kept_clauses.specs.Plain.{clause_span}
use Rattle.module_table.specs.Defined.{Predicate}
use Rattle.module_table.specs.Facts.{Facts}
use Rattle.file_library.specs.Loaded.{NamedText}
use Rattle.import_rules.specs.Program.{Seen}

-- where a clause ends inside its brackets: directly after its last character
abbrev pub end_of : Tree → ℕ
end_of clause = (clause_span clause).to

-- the clause is one of a predicate of the file
pub record IsClauseIn (file : Facts) (clause : Tree) : Type 0 where
  pub predicate : Predicate
  pub defined : Contains file.defined predicate
  pub has : Contains predicate.clauses clause

-- each clause of the file goes up to an offset of the text, and of two that start apart the one has ended before the other starts
pub record StandApart (text : NamedText) (file : Facts) : Type 0 where
  pub forward : (clause : Tree) → IsClauseIn file clause → start_of clause ≤ end_of clause
  pub stand : (clause : Tree) → IsClauseIn file clause → IsOffset text.1 (end_of clause)
  pub apart : (first second : Tree) → IsClauseIn file first → IsClauseIn file second → start_of first < start_of second
      → end_of first ≤ start_of second

-- and so for each file of a program
abbrev pub AllStandApart : Seen → Type 0
AllStandApart seen = AllZip StandApart seen.loaded.texts seen.loaded.files
