-- Items that are kept clash where all do.
use Rattle.std.proofs.Common.{◌≡◌, List, subst}
use Rattle.module_table.specs.Facts.{Facts}
use Rattle.import_rules.specs.Clashes.{Imports, AreClashes}
use Rattle.import_rules.specs.Items.{foreign_items}
use Rattle.import_rules.specs.Offers.{kept_items, offers}
use Rattle.import_rules.proofs.Kept.{all_clashes, kept_foreign, same_clash}

pub clashes_of_all : (files : List Facts) (all shared clashes : List Imports) → all ≡ offers files → AreClashes all shared → AreClashes (kept_items files shared) clashes
    → AreClashes (foreign_items files) clashes
clashes_of_all files all shared clashes are_all are_shared are =
    all_clashes (foreign_items files) (kept_items files shared) clashes (kept_foreign files shared)
    (same_clash files shared (subst (λ os. AreClashes os shared) are_all are_shared)) are
