-- A predicate is defined at one place of a file at most.
use Rattle.std.proofs.Common.{◌≡◌, ◌+◌, ◌≤◌, ℕ, Bool, true, false, List, [], ◌∷◌, Option, Some, None, Contains, filter, flat_map, length}
use Rattle.std.proofs.Common.{length-append, map, refl, sym, ap, subst, arith}
use Rattle.std.specs.Prelude.{slice_get}
use Rattle.std.specs.List.{AllByRecursion, enumerate_from}
use Rattle.std.specs.List.Sorted.{IsStrictlySortedBy}
use Rattle.std.specs.declared.cmp.Ordering.TheVariants.{Less}
use Rattle.std.proofs.lemmas.List.{length-map}
use Rattle.std.proofs.lemmas.List.Elements.{filter-append}
use Rattle.std.proofs.lemmas.List.FromFn.{length-enumerate_from}
use Rattle.list_laws.proofs.Members.{stands_in}
use Rattle.list_laws.proofs.OneOrder.{in_first, in_rest}
use Rattle.module_table.specs.Defined.{Predicate, predicate_cmp}
use Rattle.module_table.specs.Facts.{Facts}
use Rattle.import_rules.specs.declared.names.PredName.{PredName}
use Rattle.import_rules.specs.Files.{name_in}
use Rattle.import_rules.specs.Names.{is_same}
use Rattle.import_rules.specs.Numbers.{DefinedAt, parts_in, parts_of_file, places_for}
use Rattle.import_rules.specs.Program.{Seen, places_at, places_in}
use Rattle.import_rules.proofs.Members.{counted_from}
use Rattle.import_rules.proofs.NameOrder.{apart_from_Less, same_parts}

module _ (name : PredName) where
  abbrev is_named : DefinedAt → Bool
  is_named d = is_same name d.name

  -- the parts of a file, with numbers from this one on
  abbrev parts_from : ℕ → ℕ → List Predicate → List DefinedAt
  parts_from file n parts = map (λ (part : ℕ × Predicate). record { name = name_in part.1; at = (file, part.0) }) (enumerate_from n parts)

  -- those behind a part that has the name don't have it
  none_behind : (file n : ℕ) (first : Predicate) (parts : List Predicate) → is_same name (name_in first) ≡ true
      → AllByRecursion (λ q. predicate_cmp first q ≡ Less) parts → length (filter is_named (parts_from file n parts)) ≡ 0
  none_behind file n first [] is up = refl
  none_behind file n first (q ∷ parts) is up =
      let same : name ≡ name_in first = same_parts name (name_in first) is in
      let apart : is_same name (name_in q) ≡ false = subst (λ p. is_same p (name_in q) ≡ false) (sym same) (apart_from_Less (name_in first) (name_in q) up.0) in
      rw apart (none_behind file (n + 1) first parts is up.1)

  one_in_file : (file n : ℕ) (parts : List Predicate) → IsStrictlySortedBy predicate_cmp parts → length (filter is_named (parts_from file n parts)) ≤ 1
  unfolding IsStrictlySortedBy
  one_in_file file n [] up = omega arith
  one_in_file file n (q ∷ parts) up = at (is_same name (name_in q)) refl (one_in_file file (n + 1) parts up.1)
    where
      at : (b : Bool) → is_same name (name_in q) ≡ b → length (filter is_named (parts_from file (n + 1) parts)) ≤ 1
          → length (filter is_named (parts_from file n (q ∷ parts))) ≤ 1
      at true is rest = rw is (omega (arith, none_behind file (n + 1) q parts is up.0))
      at false is rest = rw is rest

-- tests that few of each list pass
few_pass : {X Y : Type 0} (test : Y → Bool) (f : X → List Y) (xs : List X) → ((x : X) → Contains xs x → length (filter test (f x)) ≤ 1)
    → length (filter test (flat_map f xs)) ≤ length xs
few_pass test f [] few = omega arith
few_pass test f (x ∷ xs) few =
    omega (
      arith,
      ap length (filter-append test (f x) (flat_map f xs)),
      length-append (filter test (f x)) (filter test (flat_map f xs)),
      few x (in_first x xs),
      few_pass test f xs (λ y has. few y (in_rest x y xs has)),
    )

-- the predicates of each file are in order
abbrev pub AreInOrder : List Facts → Type 0
AreInOrder files = (file : Facts) → Contains files file → IsStrictlySortedBy predicate_cmp file.defined

places_few : (files : List Facts) (name : PredName) → AreInOrder files → length (places_for (parts_in files) name) ≤ length files
places_few files name up =
    let of_file : ℕ × Facts → List DefinedAt = λ at. parts_of_file at.0 at.1 in
    let named : List DefinedAt = filter (is_named name) (parts_in files) in
    omega (
      arith,
      length-map named (λ (d : DefinedAt). d.at),
      length-enumerate_from 0 files,
      few_pass (is_named name) of_file (enumerate_from 0 files)
          (λ at has. let counted = counted_from 0 files at has in one_in_file name at.0 0 at.1.defined (up at.1 (stands_in files counted.0 at.1 counted.2))),
    )

-- a predicate has no more places than there are files
pub node_places_few : (seen : Seen) (node : ℕ) → AreInOrder seen.loaded.files → length (places_in seen node) ≤ length seen.loaded.files
unfolding places_in
node_places_few seen node up = by_name (slice_get seen.predicates node)
  where
    by_name : (o : Option PredName) → length (places_at seen.loaded.files o) ≤ length seen.loaded.files
    by_name (Some name) = places_few seen.loaded.files name up
    by_name None = omega arith
