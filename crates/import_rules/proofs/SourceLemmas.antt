-- One more item among those whose names were given numbers.
use Rattle.std.proofs.Common.{◌≡◌, ℕ, ◌+◌, ◌<◌, inl, inr, false, List, [], ◌∷◌, ◌++◌, Some, None, AllPairs, Contains, length, map, take, get_or, refl, sym, ap, subst, ◌∙◌, arith}
use Rattle.std.specs.Prelude.{slice_get}
use Rattle.std.specs.List.{list_any}
use Rattle.std.specs.declared.cmp.Ordering.TheVariants.{Less}
use Rattle.std.proofs.lemmas.Bool.{cases_lt}
use Rattle.std.proofs.lemmas.List.{get_or_append_left, get_or_push, length_push, map-append, take_more}
use Rattle.std.proofs.lemmas.List.Elements.{Contains-append_left, Contains-push, Contains-push_cases}
use Rattle.list_laws.proofs.OneOrder.{nothing_in}
use Rattle.import_rules.specs.declared.item.Item.{Item}
use Rattle.import_rules.specs.declared.names.PredName.{PredName}
use Rattle.import_rules.specs.Clashes.{Imports, see_item}
use Rattle.import_rules.specs.Find.{source, number_of}
use Rattle.import_rules.specs.Names.{pred_cmp, is_same, pred_name}
use Rattle.import_rules.specs.Sources.{IsGiven, AreSources}
use Rattle.import_rules.proofs.NumberLemmas.{number_at, number_none}

pub no_sources : (predicates : List PredName) → AreSources predicates [] [] []
no_sources predicates = record {
  as_many = refl {A = ℕ};
  each = λ n p within. absurd (omega (arith, within));
  all = λ i has. absurd (nothing_in i has);
}

given_more : (predicates : List PredName) (items : List Imports) (i : Imports) (name : PredName) (number : ℕ) → IsGiven predicates items name number
    → IsGiven predicates (items ++ i ∷ []) name number
given_more predicates items i name number given = record {
  by = given.by;
  stands = Contains-append_left items (i ∷ []) given.by given.stands;
  into = given.into;
  is = given.is;
}

-- an item that gives no predicate
pub left_out : (predicates : List PredName) (items : List Imports) (names : List PredName) (targets : List ℕ) (i : Imports)
    → number_of predicates (source i) ≡ None → AreSources predicates items names targets → AreSources predicates (items ++ i ∷ []) names targets
left_out predicates items names targets i none are = record {
  as_many = are.as_many;
  each = λ n p within. given_more predicates items i (get_or names n p) (get_or targets n 0) (are.each n p within);
  all = λ j has.
      elim (Contains-push_cases items i j has) [
        | inl before ↦ are.all j before
        | inr is ↦ inl (subst (λ k. number_of predicates (source k) ≡ None) is none)
      ];
}

-- an item that gives the predicate of that number
pub put_behind : (predicates : List PredName) (items : List Imports) (names : List PredName) (targets : List ℕ) (i : Imports) (number : ℕ)
    → number_of predicates (source i) ≡ Some number → AreSources predicates items names targets
    → AreSources predicates (items ++ i ∷ []) (names ++ i.into ∷ []) (targets ++ number ∷ [])
put_behind predicates items names targets i number is are = record {
  as_many = length_push targets number ∙ ap (λ n. n + 1) are.as_many ∙ sym (length_push names i.into);
  each = λ n p within.
      elim (cases_lt n (length names)) [
        | inl before ↦
            subst (λ name. IsGiven predicates (items ++ i ∷ []) name (get_or (targets ++ number ∷ []) n 0)) (sym (get_or_append_left names (i.into ∷ []) p n before))
            (subst (IsGiven predicates (items ++ i ∷ []) (get_or names n p))
            (sym (get_or_append_left targets (number ∷ []) 0 n (omega (arith, before, are.as_many))))
            (given_more predicates items i (get_or names n p) (get_or targets n 0) (are.each n p before)))
        | inr past ↦
            let last : length names ≡ n = omega (arith, past, within, length_push names i.into) in
            subst (λ name. IsGiven predicates (items ++ i ∷ []) name (get_or (targets ++ number ∷ []) n 0)) (sym (get_or_push names i.into p n last))
            (subst (IsGiven predicates (items ++ i ∷ []) i.into) (sym (get_or_push targets number 0 n (are.as_many ∙ last)))
            (record { by = i; stands = Contains-push items i; into = refl; is = is }))
      ];
  all = λ j has.
      elim (Contains-push_cases items i j has) [
        | inl before ↦
            elim (are.all j before) [
              | inl none ↦ inl none
              | inr there ↦ inr (Contains-append_left names (i.into ∷ []) j.into there)
            ]
        | inr same ↦ inr (subst (λ (k : Imports). Contains (names ++ i.into ∷ []) k.into) same (Contains-push names i.into))
      ];
}

-- the items so far, and the next one
pub next_item : (items : List Item) (n : ℕ) (d : Item) → n < length items
    → map see_item (take n items) ++ see_item (get_or items n d) ∷ [] ≡ map see_item (take (n + 1) items)
next_item items n d within =
    sym (ap (map see_item) (take_more items n d within) ∙ map-append see_item (take n items) (get_or items n d ∷ []))

-- the predicate that the item at a place gives
abbrev pub given_at : List Item → ℕ → Item → PredName
given_at items n d = pred_name (get_or items n d).from_module.now (get_or items n d).name.now (get_or items n d).arity

pub leave_out : (predicates : List PredName) (items : List Item) (n : ℕ) (d : Item) (names : List PredName) (targets : List ℕ) → n < length items
    → list_any (is_same (given_at items n d)) predicates ≡ false
    → AreSources predicates (map see_item (take n items)) names targets → AreSources predicates (map see_item (take (n + 1) items)) names targets
leave_out predicates items n d names targets within none are =
    subst (λ is. AreSources predicates is names targets) (next_item items n d within)
    (left_out predicates (map see_item (take n items)) names targets (see_item (get_or items n d)) (number_none predicates (given_at items n d) none) are)

pub put_next : (predicates : List PredName) (items : List Item) (n : ℕ) (d : Item) (names new_names : List PredName) (targets new_targets : List ℕ) (name : PredName)
    (target : ℕ) → n < length items → AllPairs (λ p q. pred_cmp p q ≡ Less) predicates → slice_get predicates target ≡ Some (given_at items n d)
    → name ≡ (see_item (get_or items n d)).into → new_names ≡ names ++ name ∷ [] → new_targets ≡ targets ++ target ∷ []
    → AreSources predicates (map see_item (take n items)) names targets → AreSources predicates (map see_item (take (n + 1) items)) new_names new_targets
put_next predicates items n d names new_names targets new_targets name target within up is named names_are targets_are are =
    subst (λ ns. AreSources predicates (map see_item (take (n + 1) items)) ns new_targets) (sym (names_are ∙ ap (λ x. names ++ x ∷ []) named))
    (subst (λ ts. AreSources predicates (map see_item (take (n + 1) items)) (names ++ (see_item (get_or items n d)).into ∷ []) ts) (sym targets_are)
    (subst (λ is. AreSources predicates is (names ++ (see_item (get_or items n d)).into ∷ []) (targets ++ target ∷ [])) (next_item items n d within)
    (put_behind predicates (map see_item (take n items)) names targets (see_item (get_or items n d)) target
    (number_at predicates (given_at items n d) target up is) are)))
