-- What a program over files is: how it names itself, what it is asked for, and what it answers.
use Rattle.std.specs.Prelude.{ℕ, List, Option}
use Rattle.import_rules.specs.declared.names.PredName.{PredName}
use Rattle.import_rules.specs.Program.{Seen}

-- a program that can be asked for any of these
pub record Tool (A : Type 0) : Type 1 where
  -- the name that begins its lines
  pub name : List ℕ
  -- the line that says which words it takes
  pub usage : List ℕ
  -- of what size a file is made, which is then read in place of others
  pub make : A → Option ℕ
  -- the files that are read, where none is made
  pub files : A → List (List ℕ)
  -- the predicates that these files must define
  pub names : A → Option (List PredName)
  -- which bytes tell what is asked for of the predicates of files
  pub tells : A → Seen → List ℕ → Type 0
