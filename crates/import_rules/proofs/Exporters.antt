-- Exporters of names, one after another.
use Rattle.std.proofs.Common.{◌≡◌, ◌≢◌, All, arith, refl, ℕ, ◌+◌, ◌<◌, AllPairs, None, false, get_or, length, map, take, inl, inr, List, [], ◌∷◌, ◌++◌, Some, Contains, sym, ap, subst, ◌∙◌}
use Rattle.std.specs.Prelude.{Vec, slice_get}
use Rattle.std.specs.declared.alloc.Global.{Global}
use Rattle.std.specs.List.{list_any}
use Rattle.std.specs.declared.cmp.Ordering.TheVariants.{Less}
use Rattle.std.proofs.lemmas.Bool.{cases_eq, cases_lt}
use Rattle.std.proofs.lemmas.List.{get_or_past, length-map}
use Rattle.std.proofs.lemmas.List.Elements.{Contains-append_left, Contains-push, Contains-push_cases}
use Rattle.list_laws.proofs.OneOrder.{nothing_in}
use Rattle.import_rules.specs.declared.names.PredName.{PredName}
use Rattle.import_rules.specs.declared.shared_names.Exporter.{Exporter}
use Rattle.import_rules.specs.declared.item.Item.{Item}
use Rattle.import_rules.specs.Clashes.{Imports, see_item}
use Rattle.import_rules.specs.Find.{number_of}
use Rattle.import_rules.specs.Names.{is_same, pred_cmp}
use Rattle.import_rules.specs.SharedNames.{AreExporters, IsExporter, exporters_at}
use Rattle.import_rules.specs.TakenModules.{module_name}
use Rattle.import_rules.proofs.Marks.{inner, list_at, no_index, one_index}
use Rattle.import_rules.proofs.NumberLemmas.{number_at, number_none}
use Rattle.import_rules.proofs.SourceLemmas.{given_at, next_item}
use Rattle.prolog_terms.proofs.ViewLemmas.{some_once}

pub empty_each : (lists : List (Vec Exporter Global)) → All (λ (list : Vec Exporter Global). list.items ≡ []) lists → (n : ℕ) → exporters_at lists n ≡ []
empty_each [] each n = refl
empty_each (list ∷ lists) each n =
    elim (cases_lt n (length (list ∷ lists))) [
      | inl within ↦ list_at (list ∷ lists) n list within ∙ each n list within
      | inr past ↦ get_or_past (inner (list ∷ lists)) n [] (omega (arith, past, length-map (list ∷ lists) (λ (l : Vec Exporter Global). l.items)))
    ]

module _ (modules predicates : List PredName) (names : List PredName) where
  pub no_exporters : (lists : List (Vec Exporter Global)) → ((n : ℕ) → exporters_at lists n ≡ []) → AreExporters modules predicates [] names lists
  no_exporters lists empty = record {
    each = λ n e has. absurd (nothing_in e (subst (λ es. Contains es e) (empty n) has));
    all = λ n o e has. absurd (nothing_in o has);
  }

  module _ (offers : List Imports) (o : Imports) where
    -- an offer without an exporter
    pub offer_passed : (lists : List (Vec Exporter Global)) → AreExporters modules predicates offers names lists
        → ((n : ℕ) (e : Exporter) → slice_get names n ≡ Some o.into → IsExporter modules predicates o e → ⊥) → AreExporters modules predicates (offers ++ o ∷ []) names lists
    offer_passed lists are none = record {
      each = λ n e has.
          let by = are.each n e has in
          (by.0, Contains-append_left offers (o ∷ []) by.0 by.1, by.2, by.3);
      all = λ n p e has named is.
          elim (Contains-push_cases offers o p has) [
            | inl old ↦ are.all n p e old named is
            | inr same ↦
                absurd
                (none n e (named ∙ ap (λ (i : Imports). Some i.into) (sym same)) (subst (λ (i : Imports). IsExporter modules predicates i e) (sym same) is))
          ];
    }

    pub offer_put : (old new : List (Vec Exporter Global)) (at : ℕ) (one : Exporter) → slice_get names at ≡ Some o.into → IsExporter modules predicates o one
        → ((n : ℕ) (e : Exporter) → slice_get names n ≡ Some o.into → IsExporter modules predicates o e → (n ≡ at) × (e ≡ one))
        → exporters_at new at ≡ exporters_at old at ++ one ∷ [] → ((n : ℕ) → n ≢ at → exporters_at new n ≡ exporters_at old n)
        → AreExporters modules predicates offers names old → AreExporters modules predicates (offers ++ o ∷ []) names new
    offer_put old new at one named is only here others are = record {
      each = λ n e has.
          let before : Contains (exporters_at old n) e → (p : Imports) × Contains (offers ++ o ∷ []) p × (slice_get names n ≡ Some p.into) × IsExporter modules predicates p e =
          λ there.
          let by = are.each n e there in
          (by.0, Contains-append_left offers (o ∷ []) by.0 by.1, by.2, by.3) in
          elim (cases_eq n at) [
            | inl same ↦
                elim (Contains-push_cases (exporters_at old at) one e (subst (λ es. Contains es e) (ap (exporters_at new) same ∙ here) has)) [
                  | inl there ↦ before (subst (λ k. Contains (exporters_at old k) e) (sym same) there)
                  | inr alike ↦ (o, Contains-push offers o, ap (slice_get names) same ∙ named, subst (IsExporter modules predicates o) alike is)
                ]
            | inr other ↦ before (subst (λ es. Contains es e) (others n other) has)
          ];
      all = λ n p e has so exports.
          elim (Contains-push_cases offers o p has) [
            | inl earlier ↦ kept n e (are.all n p e earlier so exports)
            | inr same ↦
                let both = only n e (so ∙ ap (λ (i : Imports). Some i.into) (sym same)) (subst (λ (i : Imports). IsExporter modules predicates i e) (sym same) exports) in
                subst (λ k. Contains (exporters_at new k) e) (sym both.0)
                (subst (Contains (exporters_at new at)) (sym both.1) (subst (λ es. Contains es one) (sym here) (Contains-push (exporters_at old at) one)))
          ];
    }
      where
        kept : (n : ℕ) (e : Exporter) → Contains (exporters_at old n) e → Contains (exporters_at new n) e
        kept n e there =
            elim (cases_eq n at) [
              | inl same ↦
                  subst (λ es. Contains es e) (sym (ap (exporters_at new) same ∙ here))
                  (Contains-append_left (exporters_at old at) (one ∷ []) e (subst (λ k. Contains (exporters_at old k) e) same there))
              | inr other ↦ subst (λ es. Contains es e) (sym (others n other)) there
            ]

-- the exporters of offers up to the next one

module _ (modules predicates names : List PredName) (offers : List Item) (n : ℕ) (d : Item) (within : n < length offers) where
  pub name_passed : (lists : List (Vec Exporter Global)) → list_any (is_same (see_item (get_or offers n d)).into) names ≡ false
      → AreExporters modules predicates (map see_item (take n offers)) names lists → AreExporters modules predicates (map see_item (take (n + 1) offers)) names lists
  name_passed lists none are =
      subst (λ os. AreExporters modules predicates os names lists) (next_item offers n d within)
      (offer_passed modules predicates names (map see_item (take n offers)) (see_item (get_or offers n d)) lists are
      (λ at e is exports. no_index names (see_item (get_or offers n d)).into at none is))

  pub source_passed : (lists : List (Vec Exporter Global)) → list_any (is_same (given_at offers n d)) predicates ≡ false
      → AreExporters modules predicates (map see_item (take n offers)) names lists → AreExporters modules predicates (map see_item (take (n + 1) offers)) names lists
  source_passed lists none are =
      subst (λ os. AreExporters modules predicates os names lists) (next_item offers n d within)
      (offer_passed modules predicates names (map see_item (take n offers)) (see_item (get_or offers n d)) lists are
      (λ at e is exports. let both : Some e.source ≡ None = sym exports.is ∙ number_none predicates (given_at offers n d) none in cc))

  pub module_passed : (lists : List (Vec Exporter Global)) → list_any (is_same (module_name (get_or offers n d).from_module.now)) modules ≡ false
      → AreExporters modules predicates (map see_item (take n offers)) names lists → AreExporters modules predicates (map see_item (take (n + 1) offers)) names lists
  module_passed lists none are =
      subst (λ os. AreExporters modules predicates os names lists) (next_item offers n d within)
      (offer_passed modules predicates names (map see_item (take n offers)) (see_item (get_or offers n d)) lists are
      (λ at e is exports. no_index modules (module_name (get_or offers n d).from_module.now) e.from none exports.from))

  pub next_put : (old new : List (Vec Exporter Global)) (at from number : ℕ) → AllPairs (λ p q. pred_cmp p q ≡ Less) predicates → AllPairs (λ p q. pred_cmp p q ≡ Less) names
      → AllPairs (λ p q. pred_cmp p q ≡ Less) modules → slice_get names at ≡ Some (see_item (get_or offers n d)).into → slice_get predicates number ≡ Some (given_at offers n d)
      → slice_get modules from ≡ Some (module_name (get_or offers n d).from_module.now)
      → exporters_at new at ≡ exporters_at old at ++ record { from = from; source = number } ∷ [] → ((m : ℕ) → m ≢ at → exporters_at new m ≡ exporters_at old m)
      → AreExporters modules predicates (map see_item (take n offers)) names old → AreExporters modules predicates (map see_item (take (n + 1) offers)) names new
  next_put old new at from number up names_up modules_up is so there here others are =
      let numbered : number_of predicates (given_at offers n d) ≡ Some number = number_at predicates (given_at offers n d) number up so in
      subst (λ os. AreExporters modules predicates os names new) (next_item offers n d within)
      (offer_put modules predicates names (map see_item (take n offers)) (see_item (get_or offers n d)) old new at (record { from = from; source = number }) is
      (record { from = there; is = numbered })
      (λ m e named exports.
      let first : e.from ≡ from = one_index modules (module_name (get_or offers n d).from_module.now) e.from from modules_up exports.from there in
      let second : e.source ≡ number = some_once (sym exports.is ∙ numbered) in (
        one_index names (see_item (get_or offers n d)).into m at names_up named is,
        λ j. record { from = first j; source = second j },
      ))
      here others are)
