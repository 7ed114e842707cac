-- What is wrong stands in the text of its file.
use Rattle.std.proofs.Common.{◌≡◌, ℕ, Bool, true, false, ◌&&◌, not, List, [], ◌∷◌, ◌++◌, Option, Some, None, All, Contains, map, filter, if◌then◌else◌, refl, sym, subst}
use Rattle.std.specs.List.{AllZip, filter_map, cons_option, flat_map, list_any}
use Rattle.std.specs.Str.{bytes_eq}
use Rattle.std.proofs.lemmas.Bool.{and_parts}
use Rattle.std.proofs.lemmas.List.Concat.{flat_map-cons}
use Rattle.std.proofs.lemmas.List.Elements.{All-nil, All-cons, All-append, All-map, All-filter, All-weaker, All-contains}
use Rattle.list_laws.proofs.OneOrder.{in_rest, in_first}
use Rattle.prolog_tokens.specs.Places.{IsOffset}
use Rattle.clause_text.specs.declared.cause.Cause.{Cause}
use Rattle.clause_text.specs.declared.cause.Cause.TheVariants.{TwoModules, NoFile, NotModule, NotExported, NotDefined, TwoImports}
use Rattle.module_table.specs.declared.indicator.Indicator.{Indicator}
use Rattle.module_table.specs.declared.load.LoadKind.{LoadKind}
use Rattle.module_table.specs.declared.load.LoadKind.TheVariants.{UseAll, UseSome, Ensure}
use Rattle.module_table.specs.Facts.{Facts}
use Rattle.module_table.specs.Kinds.{first_of}
use Rattle.module_table.specs.Placed.{ArePlacedIn}
use Rattle.module_table.specs.Said.{Loads}
use Rattle.file_library.specs.Loaded.{NamedText}
use Rattle.file_library.proofs.LoadFaults.{left_partner}
use Rattle.import_rules.specs.Clashes.{Imports, AreClashes, clash, first_other, items_for}
use Rattle.import_rules.specs.Files.{file_named, has_export, is_first, is_local}
use Rattle.import_rules.specs.Flaws.{clash_flaw, export_flaws, exported, file_flaws, flaw, load_flaws, module_flaws, only_if, unlisted_flaws, use_flaws}
use Rattle.import_rules.specs.Items.{foreign_items, given, gives, is_foreign, item, items, items_of_load, taken}
use Rattle.import_rules.specs.PlacedFlaws.{StandsIn}
use Rattle.import_rules.specs.Program.{IsReadFrom}
use Rattle.import_rules.proofs.Lists.{all_by, kept_there}

-- what holds of all that each gives
pub all_flat_map : {X Y : Type 0} (P : Y → Type 0) (f : X → List Y) (xs : List X) → ((x : X) → Contains xs x → All P (f x)) → All P (flat_map f xs)
all_flat_map {X} {Y} P f [] each = All-nil P
all_flat_map {X} {Y} P f (x ∷ xs) each =
    subst (All P) (sym (flat_map-cons f x xs))
    (All-append P (f x) (flat_map f xs) (each x (in_first x xs)) (all_flat_map P f xs (λ y has. each y (in_rest x y xs has))))

module _ (texts : List NamedText) (files : List Facts) (absent : List (List ℕ)) (user : Facts) (text : List ℕ) (there : Contains texts (user.file, text)) (placed : ArePlacedIn text user) where
  stand_at : (cause : Cause) (offset : ℕ) → IsOffset text offset → StandsIn texts (flaw cause user offset)
  stand_at cause offset is = record { text = text; there = there; at = is }

  stand_if : (b : Bool) (cause : Cause) (offset : ℕ) → (b ≡ true → IsOffset text offset) → All (StandsIn texts) (only_if b (flaw cause user offset))
  stand_if true cause offset is = All-cons (StandsIn texts) (flaw cause user offset) [] (stand_at cause offset (is refl)) (All-nil (StandsIn texts))
  stand_if false cause offset is = All-nil (StandsIn texts)

  stand_each : (cause : Cause) (p : Indicator → Bool) (is : List Indicator) → All (λ (i : Indicator). IsOffset text i.from) is
      → All (StandsIn texts) (map (λ (i : Indicator). flaw cause user i.from) (filter p is))
  stand_each cause p is offsets =
      All-map (StandsIn texts) (λ (i : Indicator). flaw cause user i.from) (filter p is)
      (All-filter p (λ (i : Indicator). StandsIn texts (flaw cause user i.from)) is
      (All-weaker (λ (i : Indicator). IsOffset text i.from) (λ (i : Indicator). StandsIn texts (flaw cause user i.from)) (λ i at. stand_at cause i.from at) is offsets))

  module _ (load : Loads) (has : Contains user.loads load) where
    load_at : IsOffset text load.from
    load_at = All-contains (λ (l : Loads). IsOffset text l.from) user.loads load placed.of_loads has

    items_at : All (λ (i : Indicator). IsOffset text i.from) load.items
    items_at = All-contains (λ (l : Loads). All (λ (i : Indicator). IsOffset text i.from) l.items) user.loads load placed.of_items has

    use_stand : (file : Facts) (kind : LoadKind) → All (StandsIn texts) (use_flaws user load file kind)
    use_stand file Ensure = All-nil (StandsIn texts)
    use_stand file UseAll = stand_if (not file.is_module) NotModule load.from (λ is. load_at)
    use_stand file UseSome = some file.is_module
      where
        some : (b : Bool) → All (StandsIn texts) (if b then unlisted_flaws user load file else flaw NotModule user load.from ∷ [])
        some true = stand_each NotExported (λ i. not (has_export file i)) load.items items_at
        some false = stand_if true NotModule load.from (λ is. load_at)

    load_stand : All (StandsIn texts) (load_flaws files absent user load)
    load_stand =
        All-append (StandsIn texts) (only_if (list_any (bytes_eq load.file) absent) (flaw NoFile user load.from))
        (elim (file_named files load.file) [ Some file ↦ use_flaws user load file load.kind | None ↦ [] ])
        (stand_if (list_any (bytes_eq load.file) absent) NoFile load.from (λ is. load_at)) (named (file_named files load.file))
      where
        named : (file : Option Facts) → All (StandsIn texts) (elim file [ Some f ↦ use_flaws user load f load.kind | None ↦ [] ])
        named (Some file) = use_stand file load.kind
        named None = All-nil (StandsIn texts)

    item_stand : (file : Facts) (offset : ℕ) (i : Indicator) → IsOffset text offset → StandsIn texts (clash_flaw (item user file offset i))
    item_stand file offset i is = stand_at TwoImports offset is

    taken_stand : (file : Facts) (kind : LoadKind) → All (λ (i : Imports). StandsIn texts (clash_flaw i)) (taken user file load kind)
    taken_stand file UseSome =
        All-map (λ (i : Imports). StandsIn texts (clash_flaw i)) (λ (i : Indicator). item user file i.from i) (filter (has_export file) load.items)
        (All-filter (has_export file) (λ (i : Indicator). StandsIn texts (clash_flaw (item user file i.from i))) load.items
        (All-weaker (λ (i : Indicator). IsOffset text i.from) (λ (i : Indicator). StandsIn texts (clash_flaw (item user file i.from i))) (λ i at. item_stand file i.from i at) load.items items_at))
    taken_stand file UseAll =
        All-map (λ (i : Imports). StandsIn texts (clash_flaw i)) (item user file load.from) file.exports
        (all_by (λ (i : Indicator). StandsIn texts (clash_flaw (item user file load.from i))) file.exports (λ i has. item_stand file load.from i load_at))
    taken_stand file Ensure =
        All-map (λ (i : Imports). StandsIn texts (clash_flaw i)) (item user file load.from) file.exports
        (all_by (λ (i : Indicator). StandsIn texts (clash_flaw (item user file load.from i))) file.exports (λ i has. item_stand file load.from i load_at))

    items_stand : All (λ (i : Imports). StandsIn texts (clash_flaw i)) (items_of_load files user load)
    items_stand = named (file_named files load.file)
      where
        given_if : (file : Facts) (b : Bool) → All (λ (i : Imports). StandsIn texts (clash_flaw i)) (if b then taken user file load load.kind else [])
        given_if file true = taken_stand file load.kind
        given_if file false = All-nil (λ (i : Imports). StandsIn texts (clash_flaw i))

        named : (file : Option Facts) → All (λ (i : Imports). StandsIn texts (clash_flaw i)) (elim file [ Some f ↦ given files user load f | None ↦ [] ])
        named (Some file) = given_if file (gives files user file)
        named None = All-nil (λ (i : Imports). StandsIn texts (clash_flaw i))

  pub file_stands : All (StandsIn texts) (file_flaws files absent user)
  file_stands =
      All-append (StandsIn texts) (module_flaws files user ++ export_flaws files user) (flat_map (load_flaws files absent user) user.loads)
      (All-append (StandsIn texts) (module_flaws files user) (export_flaws files user)
      (stand_if (user.is_module && not (is_first files user)) TwoModules user.module_from (λ is. placed.of_module (and_parts user.is_module (not (is_first files user)) is).0))
      (stand_each NotDefined (λ (e : Indicator). not (is_local files (exported user e))) user.exports placed.of_exports))
      (all_flat_map (StandsIn texts) (load_flaws files absent user) user.loads load_stand)

  pub file_items_stand : All (λ (i : Imports). StandsIn texts (clash_flaw i)) (flat_map (items_of_load files user) user.loads)
  file_items_stand = all_flat_map (λ (i : Imports). StandsIn texts (clash_flaw i)) (items_of_load files user) user.loads items_stand

-- a clash is one of the items
pub clashes_there : (all clashes : List Imports) → AreClashes all clashes → All (Contains all) clashes
clashes_there all clashes are = subst (All (Contains all)) (sym are.are) (each are.predicates)
  where
    first_there : (is : List Imports) (i : Imports) → first_of is ≡ Some i → Contains is i
    first_there [] i is = cc
    first_there (x ∷ xs) i is = let same : x ≡ i = cc in subst (Contains (x ∷ xs)) same (in_first x xs)

    other_there : (is : List Imports) (i : Imports) → first_other is ≡ Some i → Contains is i
    other_there [] i is = cc
    other_there (first ∷ others) i is =
        in_rest first i others
        (kept_there (λ (x : Imports). not (bytes_eq x.from_module first.from_module)) others i
        (first_there (filter (λ (x : Imports). not (bytes_eq x.from_module first.from_module)) others) i is))

    each : (ps : List _) → All (Contains all) (filter_map (clash all) ps)
    each [] = All-nil (Contains all)
    each (p ∷ ps) = one (clash all p) refl (each ps)
      where
        one : (found : Option Imports) → clash all p ≡ found → All (Contains all) (filter_map (clash all) ps) → All (Contains all) (cons_option found (filter_map (clash all) ps))
        one (Some i) is rest = All-cons (Contains all) i (filter_map (clash all) ps) (kept_there _ all i (other_there (items_for p all) i is)) rest
        one None is rest = rest

-- all that is wrong stands in the texts
pub all_stand : (texts : List NamedText) (files : List Facts) (absent : List (List ℕ)) (clashes : List Imports) → AllZip IsReadFrom texts files → AreClashes (foreign_items files) clashes
    → All (StandsIn texts) (flat_map (file_flaws files absent) files ++ map clash_flaw clashes)
all_stand texts files absent clashes read are =
    All-append (StandsIn texts) (flat_map (file_flaws files absent) files) (map clash_flaw clashes)
    (all_flat_map (StandsIn texts) (file_flaws files absent) files
    (λ user has. let at = beside user has in file_stands texts files absent user at.0 at.1 at.2))
    (All-map (StandsIn texts) clash_flaw clashes
    (All-weaker (Contains (foreign_items files)) (λ i. StandsIn texts (clash_flaw i))
    (λ i has. All-contains (λ (i : Imports). StandsIn texts (clash_flaw i)) (items files) i all_items (kept_there (is_foreign files) (items files) i has))
    clashes (clashes_there (foreign_items files) clashes are)))
  where
    beside : (user : Facts) → Contains files user → (text : List ℕ) × Contains texts (user.file, text) × ArePlacedIn text user
    beside user has =
        let from = left_partner IsReadFrom texts files user read has in
        (from.0.1, subst (λ name. Contains texts (name, from.0.1)) (sym from.2.named) from.1, from.2.placed)

    all_items : All (λ (i : Imports). StandsIn texts (clash_flaw i)) (items files)
    all_items =
        all_flat_map (λ (i : Imports). StandsIn texts (clash_flaw i)) (λ (user : Facts). flat_map (items_of_load files user) user.loads) files
        (λ user has. let at = beside user has in file_items_stand texts files absent user at.0 at.1 at.2)
