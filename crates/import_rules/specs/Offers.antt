-- What files offer to modules, and what is taken of it: names that one file alone offers need no items of their own.
use Rattle.std.specs.Prelude.{◌≡◌, Bool, AllPairs, ◌&&◌, List, [], ◌∷◌, Some, None, map, filter, flat_map, if◌then◌else◌}
use Rattle.std.specs.List.{list_any}
use Rattle.module_table.specs.declared.indicator.Indicator.{Indicator}
use Rattle.module_table.specs.declared.load.LoadKind.{LoadKind}
use Rattle.module_table.specs.declared.load.LoadKind.TheVariants.{UseAll, UseSome, Ensure}
use Rattle.module_table.specs.Said.{Loads}
use Rattle.module_table.specs.Facts.{Facts}
use Rattle.std.specs.declared.cmp.Ordering.TheVariants.{Less}
use Rattle.import_rules.specs.declared.item.Item.{Item}
use Rattle.import_rules.specs.Clashes.{Imports, see_item, AreClashes, AreFirsts}
use Rattle.import_rules.specs.Files.{file_named, is_first, has_export}
use Rattle.import_rules.specs.Items.{gives, is_foreign, item}
use Rattle.import_rules.specs.Names.{is_same, pred_cmp, pred_name}

-- an export of a file, as an item for no module
abbrev pub offer : Facts → Indicator → Imports
offer file e = record { into = pred_name [] e.name e.arity; from_module = file.module_; file = file.file; offset = e.from }

-- only the first module file of a module offers its exports
abbrev pub offers_of : List Facts → Facts → List Imports
offers_of files file = if file.is_module && is_first files file then map (offer file) file.exports else []

abbrev pub offers : List Facts → List Imports
offers files = flat_map (offers_of files) files

-- whether the indicator has the name of one of the items for no module
abbrev pub is_shared : List Imports → Indicator → Bool
is_shared shared e = list_any (λ (i : Imports). is_same (pred_name [] e.name e.arity) i.into) shared

-- the items of a load that are kept: those that it lists, and those of shared names
abbrev pub kept : List Imports → Facts → Facts → Loads → LoadKind → List Imports
kept shared user file load UseSome = map (λ (i : Indicator). item user file i.from i) (filter (has_export file) load.items)
kept shared user file load UseAll = map (item user file load.from) (filter (is_shared shared) file.exports)
kept shared user file load Ensure = map (item user file load.from) (filter (is_shared shared) file.exports)

abbrev pub kept_given : List Facts → List Imports → Facts → Loads → Facts → List Imports
kept_given files shared user load file = if gives files user file then kept shared user file load load.kind else []

abbrev pub kept_of_load : List Facts → List Imports → Facts → Loads → List Imports
kept_of_load files shared user load = elim (file_named files load.file) [ Some file ↦ kept_given files shared user load file | None ↦ [] ]

abbrev pub kept_items : List Facts → List Imports → List Imports
kept_items files shared = filter (is_foreign files) (flat_map (λ (user : Facts). flat_map (kept_of_load files shared user) user.loads) files)

-- that the module of the user takes all exports of the file, as an item whose name is made of both modules
abbrev pub pair : Facts → Loads → Facts → Imports
pair user load file = record { into = pred_name user.module_ file.module_ 0; from_module = file.module_; file = user.file; offset = load.from }

abbrev pub pairs : List Facts → Facts → Loads → Facts → LoadKind → List Imports
pairs files user load file UseSome = []
pairs files user load file UseAll = if gives files user file then pair user load file ∷ [] else []
pairs files user load file Ensure = if gives files user file then pair user load file ∷ [] else []

abbrev pub pairs_of_load : List Facts → Facts → Loads → List Imports
pairs_of_load files user load = elim (file_named files load.file) [ Some file ↦ pairs files user load file load.kind | None ↦ [] ]

abbrev pub all_pairs : List Facts → List Imports
all_pairs files = flat_map (λ (user : Facts). flat_map (pairs_of_load files user) user.loads) files

-- the names of the items rise
abbrev pub AreRisingItems : List Item → Type 0
AreRisingItems items = AllPairs (λ (i j : Imports). pred_cmp i.into j.into ≡ Less) (map see_item items)
