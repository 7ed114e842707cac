-- Import items of which some were left out, and that they give what all give.
use Rattle.std.specs.Prelude.{ℕ, ◌≡◌, ◌≢◌, Bool, true, List, All, Contains, filter}
use Rattle.module_table.specs.declared.load.LoadKind.TheVariants.{UseSome}
use Rattle.module_table.specs.Facts.{Facts}
use Rattle.module_table.specs.Kinds.{first_of}
use Rattle.module_table.specs.Said.{Loads}
use Rattle.import_rules.specs.declared.names.PredName.{PredName}
use Rattle.import_rules.specs.Clashes.{Imports, clash, items_for}
use Rattle.import_rules.specs.Items.{is_foreign}
use Rattle.import_rules.specs.Offers.{kept_of_load}

-- some of the items give each predicate where all give it, and from a second module first where all do
pub record AreEnough (all some : List Imports) : Type 0 where
  pub each : All (Contains all) some
  pub first : (p : PredName) → first_of (items_for p some) ≡ first_of (items_for p all)
  pub second : (p : PredName) → clash some p ≡ clash all p

-- one of the items gives the predicate that the item does, from the same module
abbrev pub IsDouble : List Imports → Imports → Type 0
IsDouble all i = (j : Imports) × Contains all j × (j.into ≡ i.into) × (j.from_module ≡ i.from_module)

-- some of the items of users of one module, and the files all of whose exports they took: another load of all of these
-- gives nothing more
pub record AreGathered (files : List Facts) (shared : List Imports) (own : List ℕ) (all some : List Imports) (has : List ℕ → Bool) : Type 0 where
  pub enough : AreEnough all some
  pub whole : (user : Facts) (load : Loads) (i : Imports) → user.module_ ≡ own → has load.file ≡ true → load.kind ≢ UseSome
      → Contains (filter (is_foreign files) (kept_of_load files shared user load)) i → IsDouble all i
