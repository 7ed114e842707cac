-- The loaded files as they are looked up: by name, and each with its exports in order.
use Rattle.std.specs.Prelude.{◌≡◌, ℕ, Bool, ◌&&◌, List, All, AllPairs, map}
use Rattle.std.specs.List.Sorted.{IsPermutation, IsSortedByKey}
use Rattle.std.specs.Borrow.{Bor}
use Rattle.std.specs.declared.cmp.Ordering.{Ordering}
use Rattle.std.specs.declared.cmp.Ordering.TheVariants.{Less}
use Rattle.std.specs.Ordering.{ordering_then, nat_cmp}
use Rattle.std.specs.Cmp.Lexicographic.{slice_cmp}
use Rattle.std.specs.Str.{bytes_eq}
use Rattle.module_table.specs.declared.indicator.Indicator.{Indicator}
use Rattle.module_table.specs.Facts.{Facts, see_facts}
use Rattle.file_library.specs.Asked.{AreInOrder}
use Rattle.import_rules.specs.declared.known_file.KnownFile.{KnownFile}
use Rattle.import_rules.specs.declared.lookups.Lookups.{Lookups}
use Rattle.import_rules.specs.Clashes.{Imports, see_item}
use Rattle.import_rules.specs.Files.{AreNumbered, is_first}
use Rattle.import_rules.specs.Names.{pred_cmp}

-- by name, then by arity
abbrev pub indicator_cmp : Indicator → Indicator → Ordering
indicator_cmp a b = ordering_then (slice_cmp nat_cmp a.name b.name) (nat_cmp a.arity b.arity)

abbrev pub see_known : KnownFile → Facts
see_known known = see_facts known.facts.now

abbrev pub indicators_of : List (Bor Indicator) → List Indicator
indicators_of lent = map (λ i. i.now) lent

-- the names of the files rise
abbrev pub AreRising : List Facts → Type 0
AreRising files = AllPairs (λ (f g : Facts). slice_cmp nat_cmp f.file g.file ≡ Less) files

-- whether the file declares the module
abbrev pub declares : List ℕ → Facts → Bool
declares own file = file.is_module && bytes_eq file.module_ own

-- the exports of the file in order
pub record AreExports (known : KnownFile) : Type 0 where
  pub sorted : IsSortedByKey (λ (i : Bor Indicator). i.now) indicator_cmp known.exports.items
  pub moved : IsPermutation (see_known known).exports (indicators_of known.exports.items)

-- the file has its exports, and leads where it is the first of the files that declares its module
pub record IsKnownIn (files : List Facts) (known : KnownFile) : Type 0 where
  pub exports : AreExports known
  pub leads : known.leads ≡ ((see_known known).is_module && is_first files (see_known known))

-- the files, each known
pub record AreKnown (files : List Facts) (known : List KnownFile) : Type 0 where
  pub are : map see_known known ≡ files
  pub each : All (IsKnownIn files) known

abbrev pub files_of : Lookups → List Facts
files_of lookups = map see_known lookups.known.items

abbrev pub shared_of : Lookups → List Imports
shared_of lookups = map see_item lookups.shared.items

abbrev pub absent_of : Lookups → List (List ℕ)
absent_of lookups = lookups.absent.now

-- what is looked up is right: the files in order, each known, the absent names in order, all predicates, and the shared
-- names in order
pub record IsReady (lookups : Lookups) : Type 0 where
  pub rising : AreRising (files_of lookups)
  pub known : All (IsKnownIn (files_of lookups)) lookups.known.items
  pub absent : AreInOrder (absent_of lookups)
  pub numbered : AreNumbered (files_of lookups) lookups.predicates.now
  pub shared : AllPairs (λ (i j : Imports). pred_cmp i.into j.into ≡ Less) (shared_of lookups)
