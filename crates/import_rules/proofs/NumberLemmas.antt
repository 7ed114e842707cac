-- The numbers of predicates, and the names that are numbered.
use Rattle.std.proofs.Common.{◌≡◌, ℕ, zero, suc, ◌+◌, List, [], ◌∷◌, ◌++◌, Some, None, Bool, true, false, ◌||◌, cond, All, AllPairs, Contains, map, flat_map, refl, sym, ap, subst, ◌∙◌, arith}
use Rattle.std.specs.Prelude.{slice_get}
use Rattle.std.specs.List.{list_any, enumerate_from, position_from}
use Rattle.std.specs.declared.cmp.Ordering.TheVariants.{Less, Equal}
use Rattle.std.proofs.lemmas.Bool.{false_from_ne_true}
use Rattle.std.proofs.lemmas.Cmp.{tied_itself}
use Rattle.std.proofs.lemmas.Iterator.Adapters.{position_from-zero}
use Rattle.std.proofs.lemmas.List.{map-append}
use Rattle.std.proofs.lemmas.List.Elements.{All-map}
use Rattle.std.proofs.lemmas.Option.{slice_get_within, get_or_from_slice_get}
use Rattle.prolog_terms.proofs.ViewLemmas.{some_once}
use Rattle.module_table.specs.Defined.{Predicate}
use Rattle.module_table.specs.Facts.{Facts}
use Rattle.list_laws.proofs.OneOrder.{before_rest, rest_in_order}
use Rattle.import_rules.specs.declared.names.PredName.{PredName}
use Rattle.import_rules.specs.Files.{name_in, defined_in, all_defined, is_local, AreNumbered}
use Rattle.import_rules.specs.Find.{number_of}
use Rattle.import_rules.specs.Names.{pred_cmp, is_same}
use Rattle.import_rules.specs.Numbers.{DefinedAt, AreNumbers, parts_of_file, parts_in}
use Rattle.import_rules.proofs.Lists.{any_same}
use Rattle.import_rules.proofs.NameOrder.{pred_cmp_total, same_parts, same_from}
use Rattle.import_rules.proofs.PartsSoFar.{part_of, of_file}

-- the names of parts

names_from : (place n : ℕ) (file : Facts) (defined : List Predicate)
    → map (λ (d : DefinedAt). d.name) (map (part_of place file) (enumerate_from n defined)) ≡ map name_in defined
names_from place n file [] = refl
names_from place n file (p ∷ defined) = ap (λ ps. name_in p ∷ ps) (names_from place (n + 1) file defined)

files_from : (n : ℕ) (files : List Facts) → map (λ (d : DefinedAt). d.name) (flat_map of_file (enumerate_from n files)) ≡ flat_map defined_in files
files_from n [] = refl
files_from n (file ∷ files) =
    map-append (λ (d : DefinedAt). d.name) (parts_of_file n file) (flat_map of_file (enumerate_from (n + 1) files))
    ∙ (λ i. names_from n 0 file file.defined i ++ files_from (n + 1) files i)

pub part_names : (files : List Facts) → map (λ (d : DefinedAt). d.name) (parts_in files) ≡ all_defined files
part_names files = files_from 0 files

pub numbered_by : (files : List Facts) (predicates : List PredName) (places : List (List (ℕ × ℕ))) → AreNumbers (parts_in files) predicates places
    → AreNumbered files predicates
numbered_by files predicates places are = record {
  in_order = are.in_order;
  defined = subst (λ names. All (Contains names) predicates) (part_names files) are.defined;
  all = subst (All (Contains predicates)) (part_names files) (All-map (Contains predicates) (λ (d : DefinedAt). d.name) (parts_in files) are.all);
}

-- a name is numbered just where it is local
pub numbered_is_local : (files : List Facts) (predicates : List PredName) → AreNumbered files predicates → (p : PredName)
    → list_any (is_same p) predicates ≡ is_local files p
numbered_is_local files predicates are p = any_same (is_same p) predicates (all_defined files) are.defined are.all

-- the number of a name is its place

from_none : (p : PredName) (i : ℕ) (ps : List PredName) → list_any (is_same p) ps ≡ false → position_from (is_same p) i ps ≡ None
from_none p i [] none = refl
from_none p i (q ∷ ps) none = at (from_none p (i + 1) ps) (is_same p q) none
  where
    at : (list_any (is_same p) ps ≡ false → position_from (is_same p) (i + 1) ps ≡ None) → (b : Bool) → (b || list_any (is_same p) ps) ≡ false
        → cond b (Some i) (position_from (is_same p) (i + 1) ps) ≡ None
    at rest true fails = cc
    at rest false fails = rest fails

pub number_none : (predicates : List PredName) (p : PredName) → list_any (is_same p) predicates ≡ false → number_of predicates p ≡ None
number_none predicates p none = position_from-zero (is_same p) predicates ∙ from_none p 0 predicates none

-- names that come before another are other ones
not_before : (p q : PredName) → pred_cmp q p ≡ Less → is_same p q ≡ false
not_before p q less =
    false_from_ne_true (is_same p q)
    (λ is.
    let tie : pred_cmp p p ≡ Equal = tied_itself pred_cmp_total p in
    let below : pred_cmp p p ≡ Less = subst (λ x. pred_cmp x p ≡ Less) (sym (same_parts p q is)) less in
    let both : Equal ≡ Less = sym tie ∙ below in
    cc)

stands_at : (p : PredName) (ps : List PredName) (n : ℕ) → slice_get ps n ≡ Some p → Contains ps p
stands_at p ps n is = (n, slice_get_within ps n p is, get_or_from_slice_get ps n p p is)

from_at : (p : PredName) (i : ℕ) (ps : List PredName) (n : ℕ) → AllPairs (λ p q. pred_cmp p q ≡ Less) ps → slice_get ps n ≡ Some p
    → position_from (is_same p) i ps ≡ Some (i + n)
from_at p i [] n up is = cc
from_at p i (q ∷ ps) zero up is =
    let same : is_same p q ≡ true = same_from p q (sym (some_once is)) in
    let here : i ≡ i + 0 = omega arith in
    ap (λ b. cond b (Some i) (position_from (is_same p) (i + 1) ps)) same ∙ ap (λ k. Some k) here
from_at p i (q ∷ ps) (suc n) up is =
    let less : pred_cmp q p ≡ Less = before_rest (λ p q. pred_cmp p q ≡ Less) q p ps up (stands_at p ps n is) in
    let next : (i + 1) + n ≡ i + suc n = omega arith in
    ap (λ b. cond b (Some i) (position_from (is_same p) (i + 1) ps)) (not_before p q less)
    ∙ from_at p (i + 1) ps n (rest_in_order (λ p q. pred_cmp p q ≡ Less) q ps up) is
    ∙ ap (λ k. Some k) next

pub number_at : (predicates : List PredName) (p : PredName) (n : ℕ) → AllPairs (λ p q. pred_cmp p q ≡ Less) predicates → slice_get predicates n ≡ Some p
    → number_of predicates p ≡ Some n
number_at predicates p n up is =
    let here : 0 + n ≡ n = omega arith in
    position_from-zero (is_same p) predicates ∙ from_at p 0 predicates n up is ∙ ap (λ k. Some k) here

-- the name stands at a place, counted from a number on
abbrev IsAt : PredName → ℕ → List PredName → ℕ → Type 0
IsAt p i ps n = (k : ℕ) × (n ≡ i + k) × (slice_get ps k ≡ Some p)

-- what has a number stands there
from_some : (p : PredName) (i : ℕ) (ps : List PredName) (n : ℕ) → position_from (is_same p) i ps ≡ Some n → IsAt p i ps n
from_some p i [] n is = cc
from_some p i (q ∷ ps) n is =
    at
    (λ found.
    let behind = from_some p (i + 1) ps n found in
    let next : n ≡ i + suc behind.0 = omega (arith, behind.1) in
    (suc behind.0, next, behind.2))
    (is_same p q) refl is
  where
    at : (position_from (is_same p) (i + 1) ps ≡ Some n → IsAt p i (q ∷ ps) n) → (b : Bool) → is_same p q ≡ b → cond b (Some i) (position_from (is_same p) (i + 1) ps) ≡ Some n → IsAt p i (q ∷ ps) n
    at later true same found =
        let here : i ≡ n = some_once found in
        let at_it : n ≡ i + 0 = omega (arith, here) in
        (0, at_it, ap (λ x. Some x) (sym (same_parts p q same)))
    at later false other found = later found

pub number_there : (predicates : List PredName) (p : PredName) (n : ℕ) → number_of predicates p ≡ Some n → slice_get predicates n ≡ Some p
number_there predicates p n is =
    let found = from_some p 0 predicates n (sym (position_from-zero (is_same p) predicates) ∙ is) in
    let same : found.0 ≡ n = omega (arith, found.1) in
    subst (λ k. slice_get predicates k ≡ Some p) same found.2
