-- What modules import, in parts: what loads list, what files offer, what two files offer, and who takes all that others offer.
use Rattle.std.specs.Prelude.{◌≡◌, List, [], map}
use Rattle.module_table.specs.Facts.{Facts}
use Rattle.import_rules.specs.declared.check.ImportItems.{ImportItems}
use Rattle.import_rules.specs.declared.names.PredName.{PredName}
use Rattle.import_rules.specs.Clashes.{Imports, see_item, AreClashes, AreFirsts}
use Rattle.import_rules.specs.Offers.{kept_items, offers}
use Rattle.import_rules.specs.SharedNames.{AreExporters}
use Rattle.import_rules.specs.TakenModules.{AreTaken}

-- items of no name that is shared are those that loads list
pub record AreImported (files : List Facts) (predicates : List PredName) (imports : ImportItems) : Type 0 where
  pub shared : List Imports
  pub are_shared : AreClashes (offers files) shared
  pub are_kept : AreFirsts (kept_items files []) (map see_item imports.kept.items)
  pub are_offered : AreFirsts (offers files) (map see_item imports.offered.items)
  pub are_taken : AreTaken files imports.taken
  pub names : imports.shared.names ≡ map (λ (i : Imports). i.into) shared
  pub exporters : AreExporters imports.taken.modules predicates (offers files) imports.shared.names imports.shared.exporters.items
