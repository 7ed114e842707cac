-- Parts of files, as what is defined at a place.
use Rattle.std.specs.Prelude.{ℕ, List, [], ◌∷◌, Option, Some, None, map, slice_get}
use Rattle.std.specs.List.{range_with_len}
use Rattle.prolog_names.specs.Names.{name_at}
use Rattle.module_table.specs.declared.defined.Defined.{Defined}
use Rattle.module_table.specs.declared.file_facts.FileFacts.{FileFacts}
use Rattle.import_rules.specs.declared.names.NameView.{NameView}
use Rattle.import_rules.specs.declared.names.PredName.{PredName}
use Rattle.import_rules.specs.declared.part.Part.{Part}
use Rattle.import_rules.specs.declared.places.Places.{Places}
use Rattle.import_rules.specs.Names.{pred_name}
use Rattle.import_rules.specs.Numbers.{DefinedAt, see_places}

-- the name of what is defined, whose numbers are in these names; an empty one where nothing is
abbrev pub name_of_defined : List (List ℕ) → Option Defined → PredName
name_of_defined names (Some d) = pred_name (name_at names d.module) (name_at names d.name) d.arity
name_of_defined names None = pred_name [] [] 0

abbrev pub name_in_file : ℕ → Option FileFacts → PredName
name_in_file part (Some file) = name_of_defined file.names (slice_get file.defined.items part)
name_in_file part None = pred_name [] [] 0

-- the name of the predicate that is defined at a place of the files
abbrev pub name_of_part : List FileFacts → Part → PredName
name_of_part files p = name_in_file p.part (slice_get files p.file)

abbrev pub see_name : NameView → PredName
see_name n = pred_name n.module.now n.name.now n.arity

abbrev pub see_part : List FileFacts → Part → DefinedAt
see_part files p = record { name = name_of_part files p; at = (p.file, p.part) }

abbrev pub part_at : ℕ → ℕ → Part
part_at file part = record { file = file; part = part }

-- the places of so many predicates of a file
abbrev pub parts_to : ℕ → ℕ → List Part
parts_to file count = map (part_at file) (range_with_len 0 count)

abbrev pub places_of_parts : List Part → List (ℕ × ℕ)
places_of_parts parts = map (λ (p : Part). (p.file, p.part)) parts

-- the name of a predicate that is defined at these places: that at the first of them
abbrev pub first_name : List FileFacts → List (ℕ × ℕ) → PredName
first_name files [] = pred_name [] [] 0
first_name files (at ∷ more) = name_of_part files (part_at at.0 at.1)

abbrev pub name_of_places : List FileFacts → Places → PredName
name_of_places files places = first_name files (see_places places)

-- the names of predicates, by the places at which they are defined
abbrev pub names_at : List FileFacts → List Places → List PredName
names_at files all = map (name_of_places files) all
