-- What is imported from two modules.
use Rattle.std.specs.Prelude.{◌≡◌, ℕ, Bool, not, List, [], ◌∷◌, Option, None, All, AllPairs, Contains, map, filter}
use Rattle.std.specs.List.{filter_map}
use Rattle.std.specs.Str.{bytes_eq}
use Rattle.std.specs.declared.cmp.Ordering.TheVariants.{Less}
use Rattle.module_table.specs.Kinds.{first_of}
use Rattle.import_rules.specs.declared.names.PredName.{PredName}
use Rattle.import_rules.specs.declared.item.Item.{Item}
use Rattle.import_rules.specs.Names.{pred_cmp, is_same}

-- an import item: a module gets a predicate, under that name, from a module; and where the item stands
pub record Imports : Type 0 where
  pub into : PredName
  pub from_module : List ℕ
  pub file : List ℕ
  pub offset : ℕ

abbrev pub see_item : Item → Imports
see_item i = record {
  into = record { «module» = i.module.now; name = i.name.now; arity = i.arity };
  from_module = i.from_module.now;
  file = i.file.now;
  offset = i.offset;
}

-- the items that give the predicate, in order
abbrev pub items_for : PredName → List Imports → List Imports
items_for p items = filter (λ (i : Imports). is_same p i.into) items

-- the first of the items whose module differs from that of the first of them
abbrev pub first_other : List Imports → Option Imports
first_other [] = None
first_other (first ∷ others) = first_of (filter (λ (i : Imports). not (bytes_eq i.from_module first.from_module)) others)

-- where a predicate is imported from a second module
abbrev pub clash : List Imports → PredName → Option Imports
clash items p = first_other (items_for p items)

-- whether the item is from another module than that
abbrev pub from_another : List ℕ → Item → Bool
from_another own item = not (bytes_eq item.from_module.now own)

-- one for each predicate that the items give from two modules, in order of the predicates
pub record AreClashes (items : List Imports) (clashes : List Imports) : Type 0 where
  pub predicates : List PredName
  pub in_order : AllPairs (λ p q. pred_cmp p q ≡ Less) predicates
  pub each : All (Contains (map (λ (i : Imports). i.into) items)) predicates
  pub all : All (λ (i : Imports). Contains predicates i.into) items
  pub are : clashes ≡ filter_map (clash items) predicates

-- one of the items for each predicate that they give, in order of the predicates
pub record AreFirsts (items : List Imports) (firsts : List Imports) : Type 0 where
  pub in_order : AllPairs (λ (i j : Imports). pred_cmp i.into j.into ≡ Less) firsts
  pub each : All (Contains items) firsts
  pub all : All (λ (i : Imports). Contains (map (λ (f : Imports). f.into) firsts) i.into) items
