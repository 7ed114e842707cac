-- Predicates by the numbers of their names in the files that define them.
use Rattle.std.specs.Prelude.{ℕ, ◌≡◌, ◌+◌, List, [], Some, Vec, map, slice_get, slice_index_or}
use Rattle.std.specs.declared.alloc.Global.{Global}
use Rattle.prolog_names.specs.Names.{name_at}
use Rattle.module_table.specs.declared.file_facts.FileFacts.{FileFacts}
use Rattle.import_rules.specs.declared.names.PredName.{PredName}
use Rattle.import_rules.specs.declared.own_names.OwnName.{OwnName}
use Rattle.import_rules.specs.declared.own_names.OwnNames.{OwnNames}
use Rattle.import_rules.specs.Find.{number_of}
use Rattle.import_rules.specs.Names.{pred_name}

-- what is kept where there is nothing
abbrev pub nothing : OwnName
nothing = record { arity = 0; after = 0 }

abbrev pub kept_in : List OwnName → ℕ → OwnName
kept_in list number = slice_index_or list number nothing

abbrev pub lists_in : List (Vec OwnName Global) → List (List OwnName)
lists_in lists = map (λ (list : Vec OwnName Global). list.items) lists

-- what is kept of the name of a number in a file
abbrev pub kept_at : List (Vec OwnName Global) → ℕ → ℕ → OwnName
kept_at lists file number = kept_in (slice_index_or (lists_in lists) file []) number

-- nothing is kept of any name
abbrev pub AreNothing : List (Vec OwnName Global) → Type 0
AreNothing lists = (file number : ℕ) → kept_at lists file number ≡ nothing

-- the predicate of the file's module that has the name of a number, with so many arguments
abbrev pub own_name : FileFacts → ℕ → ℕ → PredName
own_name file number arity = pred_name file.module (name_at file.names number) arity

-- what is kept of a name of a file is the number of the predicate of the file's module that has the name
abbrev pub AreKept : List FileFacts → List PredName → List (Vec OwnName Global) → Type 0
AreKept files predicates lists =
    (place number node : ℕ) (file : FileFacts) → slice_get files place ≡ Some file → (kept_at lists place number).after ≡ node + 1
    → number_of predicates (own_name file number (kept_at lists place number).arity) ≡ Some node

abbrev pub AreOwn : List FileFacts → List PredName → OwnNames → Type 0
AreOwn files predicates own = AreKept files predicates own.lists.items
