-- A table of one name for each import is what is found beside the predicates themselves.
use Rattle.std.proofs.Common.{◌≡◌, inl, inr, List, [], ◌∷◌, Option, Some, None, Bool, true, false, not, Contains, filter, refl, sym, ap, subst, ◌∙◌}
use Rattle.std.specs.Prelude.{option_map}
use Rattle.std.specs.List.{filter_map}
use Rattle.std.specs.Str.{bytes_eq}
use Rattle.std.proofs.lemmas.Bool.{false_from_ne_true, not-false}
use Rattle.std.proofs.lemmas.List.Elements.{All-contains}
use Rattle.std.proofs.lemmas.Slice.Eq.{bytes_eq-Decides}
use Rattle.module_table.specs.Facts.{Facts}
use Rattle.module_table.specs.Kinds.{first_of}
use Rattle.list_laws.proofs.OneOrder.{nothing_in, first_or_rest, in_first}
use Rattle.import_rules.specs.declared.names.PredName.{PredName}
use Rattle.import_rules.specs.Clashes.{Imports, items_for, first_other, clash, AreClashes}
use Rattle.import_rules.specs.Files.{is_local}
use Rattle.import_rules.specs.Find.{source, first_source}
use Rattle.import_rules.specs.Items.{items, foreign_items, is_foreign}
use Rattle.import_rules.specs.Names.{is_same}
use Rattle.list_laws.proofs.Members.{kept_in as kept}
use Rattle.import_rules.proofs.Lists.{kept_there, kept_passes}
use Rattle.import_rules.proofs.NameOrder.{same_parts, same_itself, same_from}

-- items that give one predicate give it from one module, where none clash

pub none_at : {X Y : Type 0} (f : X → Option Y) (xs : List X) (x : X) → filter_map f xs ≡ [] → Contains xs x → f x ≡ None
none_at {X} {Y} f [] x none has = absurd (nothing_in x has)
none_at {X} {Y} f (y ∷ xs) x none has = at (none_at f xs x) (f y) refl none
  where
    at : (filter_map f xs ≡ [] → Contains xs x → f x ≡ None) → (r : Option Y) → f y ≡ r → filter_map f (y ∷ xs) ≡ [] → f x ≡ None
    at rest None is empty =
        elim (first_or_rest y x xs has) [
          | inl same ↦ subst (λ z. f z ≡ None) same is
          | inr later ↦ rest (rw is at empty) later
        ]
    at rest (Some z) is empty = let full : filter_map f (y ∷ xs) ≡ z ∷ filter_map f xs = rw is refl in cc

no_first : {X : Type 0} (p : X → Bool) (xs : List X) (x : X) → first_of (filter p xs) ≡ None → Contains xs x → p x ≡ false
no_first {X} p xs x none has =
    false_from_ne_true (p x) (λ is. in_none (filter p xs) none (kept p xs x has is))
  where
    in_none : (ys : List X) → first_of ys ≡ None → Contains ys x → ⊥
    in_none [] empty there = nothing_in x there
    in_none (y ∷ ys) empty there = cc

of_first : (first : Imports) (others : List Imports) (i : Imports) → first_other (first ∷ others) ≡ None → Contains (first ∷ others) i
    → i.from_module ≡ first.from_module
of_first first others i none has =
    elim (first_or_rest first i others has) [
      | inl is ↦ ap (λ (k : Imports). k.from_module) (sym is)
      | inr later ↦
          (bytes_eq-Decides i.from_module first.from_module).0
          (not-false (bytes_eq i.from_module first.from_module)
          (no_first (λ (k : Imports). not (bytes_eq k.from_module first.from_module)) others i none later))
    ]

pub one_module : (is : List Imports) (i j : Imports) → first_other is ≡ None → Contains is i → Contains is j → i.from_module ≡ j.from_module
one_module [] i j none has also = absurd (nothing_in i has)
one_module (first ∷ others) i j none has also = of_first first others i none has ∙ sym (of_first first others j none also)

pub one_source : (is : List Imports) → AreClashes is [] → (i j : Imports) → Contains is i → Contains is j → i.into ≡ j.into → source i ≡ source j
one_source is are i j has also same =
    let p = i.into in
    let none : clash is p ≡ None = none_at (clash is) are.predicates p (sym are.are) (All-contains (λ (k : Imports). Contains are.predicates k.into) is i are.all has) in
    let module_is : i.from_module ≡ j.from_module =
    one_module (items_for p is) i j none (kept (λ (k : Imports). is_same p k.into) is i has (same_itself p))
    (kept (λ (k : Imports). is_same p k.into) is j also (same_from p j.into same)) in
    λ at. record { «module» = module_is at; name = (same at).name; arity = (same at).arity }

-- the first item for a name

pub foreign_there : (files : List Facts) (i : Imports) → Contains (items files) i → is_local files i.into ≡ false → Contains (foreign_items files) i
foreign_there files i has other = kept (is_foreign files) (items files) i has (ap not other)

pub foreign_item : (files : List Facts) (i : Imports) → Contains (foreign_items files) i → Contains (items files) i × (is_local files i.into ≡ false)
foreign_item files i has =
    (kept_there (is_foreign files) (items files) i has, at (is_local files i.into) (kept_passes (is_foreign files) (items files) i has))
  where
    at : (b : Bool) → not b ≡ true → b ≡ false
    at true is = cc
    at false is = refl

-- what the first of the items for a name is
pub first_is : (p : PredName) (all : List Imports) (i : Imports) → first_of (items_for p all) ≡ Some i → Contains all i × (p ≡ i.into)
first_is p all i is =
    let stands : Contains (items_for p all) i = led (items_for p all) is in
    (kept_there (λ (k : Imports). is_same p k.into) all i stands, same_parts p i.into (kept_passes (λ (k : Imports). is_same p k.into) all i stands))
  where
    led : (xs : List Imports) → first_of xs ≡ Some i → Contains xs i
    led [] e = cc
    led (x ∷ xs) e = let same : x ≡ i = cc in subst (Contains (x ∷ xs)) same (in_first x xs)

-- there is one for the name of an item
some_first : (p : PredName) (all : List Imports) (i : Imports) → Contains all i → p ≡ i.into → (j : Imports) × (first_of (items_for p all) ≡ Some j)
some_first p all i has is = at (items_for p all) (kept (λ (k : Imports). is_same p k.into) all i has (same_from p i.into is))
  where
    at : (xs : List Imports) → Contains xs i → (j : Imports) × (first_of xs ≡ Some j)
    at [] there = absurd (nothing_in i there)
    at (x ∷ xs) there = (x, refl)

pub source_first : (files : List Facts) → AreClashes (foreign_items files) [] → (i : Imports) → Contains (foreign_items files) i
    → first_source files i.into ≡ Some (source i)
source_first files none i has =
    let here = foreign_item files i has in
    let some = some_first i.into (items files) i here.0 refl in
    let j = some.0 in
    let is = first_is i.into (items files) j some.1 in
    let also : Contains (foreign_items files) j = foreign_there files j is.0 (subst (λ p. is_local files p ≡ false) is.1 here.1) in
    ap (option_map source) some.1 ∙ ap (λ p. Some p) (one_source (foreign_items files) none j i also has (sym is.1))
