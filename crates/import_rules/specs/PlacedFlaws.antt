-- What is wrong, with its lines and columns.
use Rattle.std.specs.Prelude.{◌≡◌, ℕ, List, Some, Contains, map, slice_get}
use Rattle.std.specs.List.{AllZip, zip}
use Rattle.std.specs.List.Sorted.{IsPermutation, IsSorted}
use Rattle.prolog_tokens.specs.declared.token.Place.{Place}
use Rattle.prolog_tokens.specs.Places.{IsOffset}
use Rattle.file_library.specs.Asked.{AreInOrder}
use Rattle.file_library.specs.Loaded.{NamedText}
use Rattle.file_library.specs.Spots.{AreLimited}
use Rattle.file_library.specs.declared.fault.Fault.{Fault}
use Rattle.import_rules.specs.Flaws.{Flaw, flaw_cmp, IsFaultOf}

-- the texts of files, in order of name, not too many and none of them too large
pub record AreTexts (texts : List NamedText) : Type 0 where
  pub ordered : AreInOrder (map (λ (text : NamedText). text.0) texts)
  pub limited : AreLimited texts

-- what is wrong stands in the text of its file
pub record StandsIn (texts : List NamedText) (flaw : Flaw) : Type 0 where
  pub text : List ℕ
  pub there : Contains texts (flaw.file, text)
  pub at : IsOffset text flaw.offset

-- the spot at which it stands
pub record IsSpotOf (texts : List NamedText) (flaw : Flaw) (spot : ℕ × ℕ) : Type 0 where
  pub text : NamedText
  pub is : slice_get texts spot.0 ≡ Some text
  pub named : text.0 ≡ flaw.file
  pub offset : spot.1 ≡ flaw.offset

abbrev pub fault_at : Flaw → Place → Fault
fault_at flaw place = record { file = flaw.file; offset = flaw.offset; place = place; cause = flaw.cause }

-- what is wrong, each with its place
abbrev pub faults_at : List Flaw → List Place → List Fault
faults_at flaws places = map (λ pair. fault_at pair.0 pair.1) (zip flaws places)

-- the faults are what is wrong, in order and each with its line and column
pub record ArePlacedFlaws (texts : List NamedText) (flaws : List Flaw) (faults : List Fault) : Type 0 where
  pub sorted : List Flaw
  pub moved : IsPermutation flaws sorted
  pub in_order : IsSorted flaw_cmp sorted
  pub placed : AllZip (IsFaultOf texts) sorted faults
