-- What the opening names are in the opening table, and that no other name is an operator there.
use Rattle.std.proofs.Common.{◌≡◌, ◌≢◌, ℕ, ◌<◌, Bool, true, false, ◌&&◌, ◌||◌, List, [], ◌∷◌, Option, Some, None, option_map, slice_index_or, length, map, cond, codes, refl, sym, ap, ◌∙◌}
use Rattle.std.specs.List.{list_any, list_all}
use Rattle.std.specs.Str.{bytes_eq}
use Rattle.std.proofs.lemmas.Bool.{false_from_ne_true}
use Rattle.std.proofs.lemmas.List.{get_or-map}
use Rattle.std.proofs.lemmas.List.Elements.{All-from_get_or}
use Rattle.std.proofs.lemmas.List.Folds.{list_any_none}
use Rattle.std.proofs.lemmas.Slice.Eq.{bytes_eq-Decides}
use Rattle.prolog_names.specs.Names.{name_at, opening_names}
use Rattle.prolog_ops.specs.ByName.{ByName, no_op, with_op, with_each}
use Rattle.prolog_ops.specs.Table.{Place, Prefix, Infix, Postfix, Row, with_rows, opening_rows, opening}
use Rattle.prolog_ops.specs.declared.op.Op.{Op}
use Rattle.prolog_terms.specs.Words.{Sides, sides, named_operator}
use Rattle.prolog_terms.specs.declared.operator_sides.TheConstants.{OPENING_PREFIXES, OPENING_INFIXES}

-- each opening name has the sides that stand at its number

abbrev sides_in : Place → List (Option Sides)
sides_in place = map (named_operator (opening place)) opening_names

prefixes_are : OPENING_PREFIXES ≡ sides_in Prefix
prefixes_are = refl

infixes_are : OPENING_INFIXES ≡ sides_in Infix
infixes_are = refl

sides_at : (place : Place) (table : List (Option Sides)) → table ≡ sides_in place → (k : ℕ) → k < length opening_names
    → slice_index_or table k None ≡ named_operator (opening place) (name_at opening_names k)
sides_at place table is k below =
    ap (λ sides. slice_index_or sides k None) is ∙ get_or-map (named_operator (opening place)) opening_names k [] None below

-- each operator's name is an opening name

abbrev all_stand : List Row → Bool
all_stand rows = list_all (λ (row : Row). list_all (λ name. list_any (bytes_eq name) opening_names) row.names) rows

rows_stand : (place : Place) → all_stand (opening_rows place) ≡ true
rows_stand Prefix = refl
rows_stand Infix = refl
rows_stand Postfix = refl

-- so a name that is none of them is no operator
module _ (name : List ℕ) (other : (k : ℕ) → k < length opening_names → name_at opening_names k ≢ name) where
  unequal : (one : List ℕ) → list_any (bytes_eq one) opening_names ≡ true → bytes_eq one name ≡ false
  unequal one there = false_from_ne_true (bytes_eq one name) (λ same. clash (ap (λ n. list_any (bytes_eq n) opening_names) (bytes_of same)))
    where
      bytes_of : bytes_eq one name ≡ true → one ≡ name
      bytes_of same = (bytes_eq-Decides one name).0 same

      absent : list_any (bytes_eq name) opening_names ≡ false
      absent =
          list_any_none (bytes_eq name) opening_names
          (All-from_get_or (λ p. bytes_eq name p ≡ false) opening_names []
          (λ k below. false_from_ne_true (bytes_eq name (name_at opening_names k))
          (λ same. other k below (sym ((bytes_eq-Decides name (name_at opening_names k)).0 same)))))

      clash : list_any (bytes_eq one) opening_names ≡ list_any (bytes_eq name) opening_names → ⊥
      clash same = let both : true ≡ false = sym there ∙ same ∙ absent in cc

  both_true : (a b : Bool) → (a && b) ≡ true → (a ≡ true) × (b ≡ true)
  both_true true b h = (refl, h)
  both_true false b h = cc

  none_each : (ops : ByName) (names : List (List ℕ)) (op : Op) → list_all (λ one. list_any (bytes_eq one) opening_names) names ≡ true
      → ops name ≡ None → with_each ops names op name ≡ None
  none_each ops [] op all none = none
  none_each ops (one ∷ names) op all none =
      let split = both_true (list_any (bytes_eq one) opening_names) (list_all (λ n. list_any (bytes_eq n) opening_names) names) all in
      none_each (with_op ops one (Some op)) names op split.1 (ap (λ b. cond b (Some op) (ops name)) (unequal one split.0) ∙ none)

  none_rows : (ops : ByName) (rows : List Row) → all_stand rows ≡ true → ops name ≡ None → with_rows ops rows name ≡ None
  none_rows ops [] all none = none
  none_rows ops (row ∷ rows) all none =
      let split = both_true (list_all (λ n. list_any (bytes_eq n) opening_names) row.names) (all_stand rows) all in
      none_rows (with_each ops row.names row.op) rows split.1 (none_each ops row.names row.op split.0 none)

  none_there : (place : Place) → opening place name ≡ None
  none_there place = none_rows no_op (opening_rows place) (rows_stand place) refl

-- what is no operator as a text is none as a name
unnamed : (ops : ByName) (name : List ℕ) → ops name ≡ None → named_operator ops name ≡ None
unnamed ops name none = ap (option_map sides) (by (bytes_eq name (codes ",") || bytes_eq name (codes "|")))
  where
    by : (separates : Bool) → cond separates None (ops name) ≡ None
    by true = refl
    by false = none

pub prefix_at : (k : ℕ) → k < length opening_names → slice_index_or OPENING_PREFIXES k None ≡ named_operator (opening Prefix) (name_at opening_names k)
prefix_at = sides_at Prefix OPENING_PREFIXES prefixes_are

pub infix_at : (k : ℕ) → k < length opening_names → slice_index_or OPENING_INFIXES k None ≡ named_operator (opening Infix) (name_at opening_names k)
infix_at = sides_at Infix OPENING_INFIXES infixes_are

pub no_postfix : (name : List ℕ) → named_operator (opening Postfix) name ≡ None
no_postfix name = unnamed (opening Postfix) name refl

-- a name that isn't one of the opening names, where it isn't empty, is no operator of the opening table
pub no_operator : (place : Place) (name : List ℕ) → (name ≢ [] → (k : ℕ) → k < length opening_names → name_at opening_names k ≢ name)
    → named_operator (opening place) name ≡ None
no_operator place [] other = unnamed (opening place) [] (none_empty place)
  where
    none_empty : (place : Place) → opening place [] ≡ None
    none_empty Prefix = refl
    none_empty Infix = refl
    none_empty Postfix = refl
no_operator place (c ∷ cs) other = unnamed (opening place) (c ∷ cs) (none_there (c ∷ cs) (other (λ empty. cc)) place)
