use Rattle.std.proofs.Common.{◌≡◌, List, All, AllPairs, length, map, sym, ap, subst, arith}
use Rattle.std.specs.declared.cmp.Ordering.TheVariants.{Less}
use Rattle.std.proofs.lemmas.List.{length-map}
use Rattle.module_table.specs.declared.file_facts.FileFacts.{FileFacts}
use Rattle.module_table.specs.Facts.{see_facts}
use Rattle.file_library.specs.SortedOut.{see_loaded}
use Rattle.import_rules.specs.declared.names.PredName.{PredName}
use Rattle.import_rules.specs.Chained.{AreChained}
use Rattle.import_rules.specs.Files.{AreNumbered}
use Rattle.import_rules.specs.Meanings.{AreTargets}
use Rattle.import_rules.specs.Metas.{AreDeclared, HasFewMetas, metas_in}
use Rattle.import_rules.specs.Names.{pred_cmp}
use Rattle.import_rules.specs.Numbers.{lists_of}
use Rattle.import_rules.specs.OwnNames.{AreOwn}
use Rattle.import_rules.specs.Parts.{name_of_places, names_at}
use Rattle.import_rules.specs.Program.{IsProgram}
use Rattle.import_rules.proofs.Loaded.{few_files, few_metas_in_each}
use Rattle.import_rules.proofs.NumberLemmas.{numbered_by}
use Rattle.import_rules.proofs.Seen.{is_program}
use Rattle.import_rules.proofs.resolve.resolve_all.Goals as goal

pub returns-then-len-gt-MOST_PREDICATES-clause-refused : goal.returns-then-len-gt-MOST_PREDICATES-clause-refused
returns-then-len-gt-MOST_PREDICATES-clause-refused c =
    let places = c.in_ok-places.places in
    let loaded = c.args.loaded in
    let predicates = names_at loaded.files.items places.items in record {
      predicates = predicates;
      numbered = numbered_by (see_loaded loaded).files predicates (lists_of places.items) c.in_ok-places.ensures;
      many_are = omega (arith, c.if-len-gt-MOST_PREDICATES.true, c.len.ensures, places.ok.0, length-map places.items (name_of_places loaded.files.items));
    }

pub make-requires-clause-few : goal.make-requires-clause-few
make-requires-clause-few c =
    omega (arith, c.if-len-gt-MOST_PREDICATES.false, c.len.ensures, c.in_ok-places.places.ok.0, ap length c.deref-2.ensures.value)

pub make-requires-clause-in_order : goal.make-requires-clause-in_order
make-requires-clause-in_order c =
    let same : names_at c.deref.result.now c.deref-2.result.now ≡ names_at c.args.loaded.files.items c.in_ok-places.places.items =
    λ i. names_at (c.deref.ensures.value i) (c.deref-2.ensures.value i) in
    subst (λ (ps : List PredName). AllPairs (λ p q. pred_cmp p q ≡ Less) ps) (sym same) c.in_ok-places.ensures.in_order

pub meanings-requires-clause-numbered : goal.meanings-requires-clause-numbered
meanings-requires-clause-numbered c =
    let places = c.in_ok-places.places in
    let loaded = c.args.loaded in
    let predicates = names_at loaded.files.items places.items in
    let files = (see_loaded loaded).files in
    let same : names_at c.deref-3.result.now c.deref-4.result.now ≡ predicates = λ i. names_at (c.deref-3.ensures.value i) (c.deref-4.ensures.value i) in
    subst (AreNumbered files) (sym same) (numbered_by files predicates (lists_of places.items) c.in_ok-places.ensures)

pub meanings-requires-clause-few : goal.meanings-requires-clause-few
meanings-requires-clause-few c =
    let places = c.in_ok-places.places in
    let loaded = c.args.loaded in
    let same : names_at c.deref-3.result.now c.deref-4.result.now ≡ names_at loaded.files.items places.items =
    λ i. names_at (c.deref-3.ensures.value i) (c.deref-4.ensures.value i) in
    omega (
      arith,
      c.if-len-gt-MOST_PREDICATES.false,
      c.len.ensures,
      places.ok.0,
      ap (λ (ps : List PredName). length ps) same,
      length-map places.items (name_of_places loaded.files.items),
    )

pub invariant_of-tables : goal.invariant_of-tables
invariant_of-tables c =
    let places = c.in_ok-places.places in
    let loaded = c.args.loaded in
    let predicates = names_at loaded.files.items places.items in
    let files = (see_loaded loaded).files in
    let numbers = c.in_ok-places.ensures in
    let imports = c.in-Ok.imports in
    let made : names_at c.deref.result.now c.deref-2.result.now ≡ predicates = λ i. names_at (c.deref.ensures.value i) (c.deref-2.ensures.value i) in
    let same : names_at c.deref-3.result.now c.deref-4.result.now ≡ predicates = λ i. names_at (c.deref-3.ensures.value i) (c.deref-4.ensures.value i) in
    let owned : names_at c.deref-6.result.now c.deref-7.result.now ≡ predicates = λ i. names_at (c.deref-6.ensures.value i) (c.deref-7.ensures.value i) in
    record {
      was_loaded = ∣ c.requires ∣₁;
      few = omega (arith, c.if-len-gt-MOST_PREDICATES.false, c.len.ensures, places.ok.0);
      numbered = ∣ numbered_by files predicates (lists_of places.items) numbers ∣₁;
      chained = subst (λ names. AreChained names c.in_ok-chains.chains) made c.in_ok-chains.ensures;
      own_kept =
          subst (λ (ps : List PredName). AreOwn loaded.files.items ps c.in_ok-own_names.own_names) owned
          (subst (λ (fs : List FileFacts). AreOwn fs (names_at c.deref-6.result.now c.deref-7.result.now) c.in_ok-own_names.own_names) c.deref-6.ensures.value
          c.in_ok-own_names.ensures);
      faultless = ∣ c.in-Ok.ensures.faultless ∣₁;
      meant = subst (λ ps. AreTargets files ps imports) same c.in-Ok.ensures.targets;
      placed = numbers.placed;
      told =
          subst (λ (ps : List PredName). AreDeclared (metas_in files) ps c.in_ok-meta_places.meta_places.items) same
          (subst (λ (fs : List FileFacts). AreDeclared (metas_in (map see_facts fs)) (names_at c.deref-3.result.now c.deref-4.result.now) c.in_ok-meta_places.meta_places.items)
          c.deref-5.ensures.value c.in_ok-meta_places.ensures);
    }

pub returns-clause-ok : goal.returns-clause-ok
returns-clause-ok c =
    let places = c.in_ok-places.places in
    let loaded = c.args.loaded in
    let predicates = names_at loaded.files.items places.items in
    subst (IsProgram (see_loaded loaded)) (sym c.of.ensures)
    (is_program _ (numbered_by (see_loaded loaded).files predicates (lists_of places.items) c.in_ok-places.ensures)
    (omega (arith, c.if-len-gt-MOST_PREDICATES.false, c.len.ensures, places.ok.0)) c.in-Ok.ensures.faultless)

pub meta_places-requires-clause-few : goal.meta_places-requires-clause-few
meta_places-requires-clause-few c =
    let loaded = c.args.loaded in
    omega (arith, few_files (see_loaded loaded) c.requires, length-map loaded.files.items see_facts, ap length c.deref-5.ensures.value)

pub meta_places-requires-clause-small : goal.meta_places-requires-clause-small
meta_places-requires-clause-small c =
    subst (λ (files : List FileFacts). All HasFewMetas (map see_facts files)) (sym c.deref-5.ensures.value) (few_metas_in_each (see_loaded c.args.loaded) c.requires)

pub meta_places-requires-clause-in_order : goal.meta_places-requires-clause-in_order
meta_places-requires-clause-in_order c =
    let same : names_at c.deref-3.result.now c.deref-4.result.now ≡ names_at c.args.loaded.files.items c.in_ok-places.places.items =
    λ i. names_at (c.deref-3.ensures.value i) (c.deref-4.ensures.value i) in
    subst (λ (ps : List PredName). AllPairs (λ p q. pred_cmp p q ≡ Less) ps) (sym same) c.in_ok-places.ensures.in_order

pub make-requires-2-clause-few : goal.make-requires-2-clause-few
make-requires-2-clause-few c =
    omega (arith, c.if-len-gt-MOST_PREDICATES.false, c.len.ensures, c.in_ok-places.places.ok.0, ap length c.deref-7.ensures.value)

pub make-requires-2-clause-in_order : goal.make-requires-2-clause-in_order
make-requires-2-clause-in_order c =
    let same : names_at c.deref-6.result.now c.deref-7.result.now ≡ names_at c.args.loaded.files.items c.in_ok-places.places.items =
    λ i. names_at (c.deref-6.ensures.value i) (c.deref-7.ensures.value i) in
    subst (λ (ps : List PredName). AllPairs (λ p q. pred_cmp p q ≡ Less) ps) (sym same) c.in_ok-places.ensures.in_order
