-- File specifications, and the loads that they make.
use Rattle.std.specs.Prelude.{ℕ, List, [], ◌++◌, Option, Some, None, Bool, true, false, if◌then◌else◌, codes}
use Rattle.std.specs.Str.{bytes_eq}
use Rattle.prolog_terms.specs.Tree.{Tree, atom, compound, paren, more, none}
use Rattle.prolog_terms.specs.declared.term.Form.{Form}
use Rattle.prolog_terms.specs.declared.term.Form.TheVariants.{Functional}
use Rattle.prolog_terms.specs.Views.{inside, start_of}
use Rattle.clause_text.specs.Lists.{written_items}
use Rattle.clause_text.specs.declared.cause.Cause.TheVariants.{BadSpec}
use Rattle.module_table.specs.declared.indicator.Indicator.{Indicator}
use Rattle.module_table.specs.declared.load.LoadKind.{LoadKind}
use Rattle.module_table.specs.declared.load.LoadKind.TheVariants.{UseAll}
use Rattle.module_table.specs.FileName.{resolved}
use Rattle.module_table.specs.Said.{Said, nothing, only, loads, refused, each_said}

abbrev pub both_texts : Option (List ℕ) → Option (List ℕ) → Option (List ℕ)
both_texts (Some left) (Some right) = Some (left ++ codes "/" ++ right)
both_texts left right = None

-- the text of an atom, or of such texts with `/` between them
abbrev pub path_text : Tree → Option (List ℕ)
path_text (atom name span) = Some name
path_text (compound name (more left (more right none)) form span) = if bytes_eq name (codes "/") then both_texts (path_text left) (path_text right) else None
path_text (paren inner span) = path_text inner
path_text tree = None

abbrev pub resolved_in : List ℕ → Option (List ℕ) → Option (List ℕ)
resolved_in user (Some text) = resolved user text
resolved_in user None = None

-- the file that a specification names in a file
abbrev pub file_of : List ℕ → Tree → Option (List ℕ)
file_of user tree = resolved_in user (path_text tree)

-- one argument in functional notation, as in `library(lists)`, is a file of the system
abbrev pub is_functional : Form → Bool
is_functional Functional = true
is_functional _ = false

abbrev pub system_at : Tree → Bool
system_at (compound name (more inner none) form span) = is_functional form
system_at tree = false

abbrev pub is_system : Tree → Bool
is_system tree = system_at (inside tree)

-- the load that a specification makes
abbrev pub load_said : List ℕ → LoadKind → List Indicator → Tree → Said
load_said user kind items tree =
    if is_system tree then nothing
    else elim (file_of user tree) [
      | Some file ↦ only (loads (record { file = file; kind = kind; items = items; from = start_of tree }))
      | None ↦ refused BadSpec tree
    ]

-- one load for each specification
abbrev pub loads_said : List ℕ → LoadKind → List Tree → Said
loads_said user kind trees = each_said (load_said user kind []) trees

-- what `use_module/1` says: a specification, or a list of them
abbrev pub use_all_said : List ℕ → Tree → Said
use_all_said user tree = elim (written_items tree) [ Some trees ↦ loads_said user UseAll trees | None ↦ load_said user UseAll [] tree ]
