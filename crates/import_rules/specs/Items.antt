-- What modules import.
use Rattle.std.specs.Prelude.{ℕ, Bool, ◌&&◌, not, List, [], Some, None, map, filter, flat_map, if◌then◌else◌}
use Rattle.std.specs.Str.{bytes_eq}
use Rattle.module_table.specs.declared.indicator.Indicator.{Indicator}
use Rattle.module_table.specs.declared.load.LoadKind.{LoadKind}
use Rattle.module_table.specs.declared.load.LoadKind.TheVariants.{UseAll, UseSome, Ensure}
use Rattle.module_table.specs.Said.{Loads}
use Rattle.module_table.specs.Facts.{Facts}
use Rattle.import_rules.specs.Files.{is_local, file_named, is_first, has_export}
use Rattle.import_rules.specs.Clashes.{Imports}

-- the module of the file gets the indicator from the module of another, by what stands at the offset
abbrev pub item : Facts → Facts → ℕ → Indicator → Imports
item user file offset i = record {
  into = record { «module» = user.module_; name = i.name; arity = i.arity };
  from_module = file.module_;
  file = user.file;
  offset = offset;
}

-- what a load takes of the exports of a module file
abbrev pub taken : Facts → Facts → Loads → LoadKind → List Imports
taken user file load UseSome = map (λ (i : Indicator). item user file i.from i) (filter (has_export file) load.items)
taken user file load UseAll = map (item user file load.from) file.exports
taken user file load Ensure = map (item user file load.from) file.exports

-- only the first module file of a module gives items, and none to its own module
abbrev pub gives : List Facts → Facts → Facts → Bool
gives files user file = file.is_module && (is_first files file && not (bytes_eq file.module_ user.module_))

-- the items that a load of the file makes
abbrev pub given : List Facts → Facts → Loads → Facts → List Imports
given files user load file = if gives files user file then taken user file load load.kind else []

abbrev pub items_of_load : List Facts → Facts → Loads → List Imports
items_of_load files user load = elim (file_named files load.file) [ Some file ↦ given files user load file | None ↦ [] ]

-- all import items that are exported, in order of file and offset
abbrev pub items : List Facts → List Imports
items files = flat_map (λ (user : Facts). flat_map (items_of_load files user) user.loads) files

-- the predicate of the item isn't local
abbrev pub is_foreign : List Facts → Imports → Bool
is_foreign files i = not (is_local files i.into)

-- those of predicates that aren't local
abbrev pub foreign_items : List Facts → List Imports
foreign_items files = filter (is_foreign files) (items files)
