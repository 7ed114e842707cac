-- What is kept of the names of one file.
use Rattle.std.specs.Prelude.{ℕ, ◌≡◌, ◌+◌, List, Some}
use Rattle.prolog_names.specs.Names.{name_at}
use Rattle.module_table.specs.declared.file_facts.FileFacts.{FileFacts}
use Rattle.import_rules.specs.declared.own_names.OwnName.{OwnName}
use Rattle.import_rules.specs.OwnNames.{kept_in}
use Rattle.import_rules.specs.Program.{Seen, found}

-- what is kept of a name of the file is what the name means in the file's module
abbrev pub AreFound : Seen → FileFacts → List OwnName → Type 0
AreFound seen file kept =
    (number node : ℕ) → (kept_in kept number).after ≡ node + 1
    → found seen file.module (name_at file.names number) (kept_in kept number).arity ≡ Some node
