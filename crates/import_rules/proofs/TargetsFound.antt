-- The tables of what modules import give what is found beside the predicates themselves.
use Rattle.std.proofs.Common.{◌≡◌, ◌≢◌, ℕ, ◌<◌, Bool, true, false, not, ◌&&◌, inl, inr, List, [], ◌∷◌, Option, Some, None, AllPairs, Contains, length, map, flat_map, get_or, refl, sym, ap, subst, ◌∙◌}
use Rattle.std.specs.Prelude.{if◌then◌else◌, option_map, slice_get}
use Rattle.std.specs.List.{list_any}
use Rattle.std.specs.Str.{bytes_eq}
use Rattle.std.specs.declared.cmp.Ordering.TheVariants.{Less}
use Rattle.std.proofs.lemmas.Bool.{and_parts, cases_Bool}
use Rattle.std.proofs.lemmas.List.Elements.{All-contains}
use Rattle.std.proofs.lemmas.Option.{slice_get_within, get_or_from_slice_get, slice_get-get_or}
use Rattle.prolog_terms.proofs.ViewLemmas.{some_once}
use Rattle.list_laws.proofs.OneOrder.{nothing_in, first_or_rest}
use Rattle.module_table.specs.declared.indicator.Indicator.{Indicator}
use Rattle.module_table.specs.declared.load.LoadKind.{LoadKind}
use Rattle.module_table.specs.declared.load.LoadKind.TheVariants.{UseAll, UseSome, Ensure}
use Rattle.module_table.specs.Facts.{Facts}
use Rattle.module_table.specs.Kinds.{first_of}
use Rattle.module_table.specs.Said.{Loads}
use Rattle.import_rules.specs.declared.import_tables.ImportTables.{ImportTables}
use Rattle.import_rules.specs.declared.names.PredName.{PredName}
use Rattle.import_rules.specs.declared.shared_names.Exporter.{Exporter}
use Rattle.import_rules.specs.Clashes.{Imports, items_for, AreClashes, AreFirsts}
use Rattle.import_rules.specs.Files.{AreNumbered, file_named, is_first, is_local}
use Rattle.import_rules.specs.Find.{source, first_source, number_of, or_found, found_in}
use Rattle.import_rules.specs.Items.{foreign_items, given, gives, item, items, items_of_load, taken}
use Rattle.import_rules.specs.KnownFiles.{AreRising}
use Rattle.import_rules.specs.Meanings.{AreTargets, IsNotOffered, IsShared}
use Rattle.import_rules.specs.Names.{is_same, pred_cmp, pred_name}
use Rattle.import_rules.specs.Offers.{all_pairs, kept_items, offer, offers, offers_of, pair, pairs, pairs_of_load}
use Rattle.import_rules.specs.SharedNames.{AreExporters}
use Rattle.import_rules.specs.Sources.{AreSources}
use Rattle.import_rules.specs.TakenModules.{AreTaken, IsTaken, marked_at, module_name}
use Rattle.import_rules.proofs.Enough.{whole_has}
use Rattle.import_rules.proofs.Kept.{kept_foreign, kept_or_paired}
use Rattle.import_rules.proofs.Lists.{all_pairs_map, any_from, any_there, map_from, map_has}
use Rattle.import_rules.proofs.Marks.{index_of}
use Rattle.import_rules.proofs.Meant.{found_there}
use Rattle.import_rules.proofs.Members.{flat_map_from, flat_map_has}
use Rattle.import_rules.proofs.NameOrder.{same_from, same_parts}
use Rattle.import_rules.proofs.NumberLemmas.{number_none, number_there, numbered_is_local}
use Rattle.import_rules.proofs.Offered.{IsOffered, bare, clashes_rise, is_offered, is_shared_name, one_leader, one_offer}
use Rattle.import_rules.proofs.Targets.{first_is, foreign_item, foreign_there, one_source, source_first}

-- an offer, by the file that makes it
record IsOfferBy (files : List Facts) (o : Imports) : Type 0 where
  file : Facts
  export_ : Indicator
  stands : Contains files file
  is_module : file.is_module ≡ true
  is_first : is_first files file ≡ true
  has : Contains file.exports export_
  is : offer file export_ ≡ o

offer_by : (files : List Facts) (o : Imports) → Contains (offers files) o → IsOfferBy files o
offer_by files o has = at (from.0.is_module && is_first files from.0) refl from.2
  where
    from : (file : Facts) × Contains files file × Contains (offers_of files file) o
    from = flat_map_from (offers_of files) files o has

    at : (b : Bool) → (from.0.is_module && is_first files from.0) ≡ b → Contains (if b then map (offer from.0) from.0.exports else []) o → IsOfferBy files o
    at false is there = absurd (nothing_in o there)
    at true is there =
        let by = map_from (offer from.0) from.0.exports o there in
        let parts = and_parts from.0.is_module (is_first files from.0) is in record {
          file = from.0;
          export_ = by.0;
          stands = from.1;
          is_module = parts.0;
          is_first = parts.1;
          has = by.1;
          is = by.2;
        }

-- a load that takes all exports of a file, by which a module is paired with another
record IsPairBy (files : List Facts) (k : Imports) : Type 0 where
  user : Facts
  load : Loads
  file : Facts
  has_user : Contains files user
  has_load : Contains user.loads load
  named : file_named files load.file ≡ Some file
  gives_it : gives files user file ≡ true
  whole : load.kind ≢ UseSome
  is : pair user load file ≡ k

pair_by : (files : List Facts) (k : Imports) → Contains (all_pairs files) k → IsPairBy files k
pair_by files k has = at (file_named files load.file) refl inner.2
  where
    outer : (u : Facts) × Contains files u × Contains (flat_map (pairs_of_load files u) u.loads) k
    outer = flat_map_from (λ (user : Facts). flat_map (pairs_of_load files user) user.loads) files k has

    user : Facts
    user = outer.0

    inner : (l : Loads) × Contains user.loads l × Contains (pairs_of_load files user l) k
    inner = flat_map_from (pairs_of_load files user) user.loads k outer.2

    load : Loads
    load = inner.0

    given_by : (file : Facts) (b : Bool) → file_named files load.file ≡ Some file → load.kind ≢ UseSome → gives files user file ≡ b
        → Contains (if b then pair user load file ∷ [] else []) k → IsPairBy files k
    given_by file false named whole is there = absurd (nothing_in k there)
    given_by file true named whole is there = record {
      user = user;
      load = load;
      file = file;
      has_user = outer.1;
      has_load = inner.1;
      named = named;
      gives_it = is;
      whole = whole;
      is = elim (first_or_rest (pair user load file) k [] there) [ inl same ↦ same | inr none ↦ absurd (nothing_in k none) ];
    }

    in_kind : (file : Facts) (kind : LoadKind) → file_named files load.file ≡ Some file → load.kind ≡ kind → Contains (pairs files user load file kind) k → IsPairBy files k
    in_kind file UseSome named is there = absurd (nothing_in k there)
    in_kind file UseAll named is there = given_by file (gives files user file) named (λ some. let both : UseAll ≡ UseSome = sym is ∙ some in cc) refl there
    in_kind file Ensure named is there = given_by file (gives files user file) named (λ some. let both : Ensure ≡ UseSome = sym is ∙ some in cc) refl there

    at : (r : Option Facts) → file_named files load.file ≡ r → Contains (elim r [ Some file ↦ pairs files user load file load.kind | None ↦ [] ]) k → IsPairBy files k
    at None is there = absurd (nothing_in k there)
    at (Some file) is there = in_kind file load.kind is refl there

-- a module that is paired with that of an offer gets what is offered
pair_item : (files : List Facts) (own : List ℕ) (o k : Imports) → AreRising files → Contains (offers files) o → Contains (all_pairs files) k
    → k.into ≡ pred_name own o.from_module 0
    → (i : Imports) × Contains (items files) i × (i.into ≡ pred_name own o.into.name o.into.arity) × (i.from_module ≡ o.from_module)
pair_item files own o k rise has also into =
    let one = offer_by files o has in
    let two = pair_by files k also in
    let gives_parts = and_parts two.file.is_module (is_first files two.file && not (bytes_eq two.file.module_ two.user.module_)) two.gives_it in
    let first = and_parts (is_first files two.file) (not (bytes_eq two.file.module_ two.user.module_)) gives_parts.1 in
    let into_is : pred_name two.user.module_ two.file.module_ 0 ≡ pred_name own o.from_module 0 = ap (λ (i : Imports). i.into) two.is ∙ into in
    let one_module : one.file.module_ ≡ two.file.module_ = ap (λ (i : Imports). i.from_module) one.is ∙ sym (ap (λ (p : PredName). p.name) into_is) in
    let same : one.file ≡ two.file =
    one_leader files one.file two.file rise one.stands (found_there files two.load.file two.file two.named) one.is_module gives_parts.0 one.is_first first.0 one_module in
    let e = one.export_ in
    let it = item two.user two.file two.load.from e in
    let there : Contains (taken two.user two.file two.load two.load.kind) it =
    whole_has two.user two.file two.load two.load.kind two.whole e (subst (λ (f : Facts). Contains f.exports e) same one.has) in (
      it,
      flat_map_has (λ (u : Facts). flat_map (items_of_load files u) u.loads) files two.user it two.has_user
          (flat_map_has (items_of_load files two.user) two.user.loads two.load it two.has_load
          (subst (λ r. Contains (elim r [ Some f ↦ given files two.user two.load f | None ↦ [] ]) it) (sym two.named)
          (subst (λ b. Contains (if b then taken two.user two.file two.load two.load.kind else []) it) (sym two.gives_it) there))),
      (λ j. pred_name ((into_is j).module) (one.is j).into.name (one.is j).into.arity),
      sym one_module ∙ ap (λ (i : Imports). i.from_module) one.is,
    )

-- what is found

module _ (files : List Facts) (predicates : List PredName) (tables : ImportTables) (kept offered shared : List Imports) (rise : AreRising files)
    (numbered : AreNumbered files predicates) (none : AreClashes (foreign_items files) []) (are_shared : AreClashes (offers files) shared)
    (are_kept : AreFirsts (kept_items files []) kept) (are_offered : AreFirsts (offers files) offered) (are_taken : AreTaken files tables.taken)
    (names_are : tables.shared.names ≡ map (λ (i : Imports). i.into) shared)
    (exporters_are : AreExporters tables.taken.modules predicates (offers files) tables.shared.names tables.shared.exporters.items)
    (kept_are : AreSources predicates kept tables.names tables.targets.items) (offered_are : AreSources predicates offered tables.offered tables.sources.items)
    (in_order : AllPairs (λ p q. pred_cmp p q ≡ Less) tables.offered) where
  not_numbered : (p : PredName) → is_local files p ≡ false → number_of predicates p ≡ None
  not_numbered p other = number_none predicates p (numbered_is_local files predicates numbered p ∙ other)

  -- what an imported name is found as
  import_found : (i : Imports) → Contains (foreign_items files) i → found_in files predicates i.into ≡ number_of predicates (source i)
  import_found i has =
      ap (λ found. or_found predicates found (first_source files i.into)) (not_numbered i.into (foreign_item files i has).1)
      ∙ ap (or_found predicates None) (source_first files none i has)

  kept_there_too : (i : Imports) → Contains kept i → Contains (foreign_items files) i
  kept_there_too i has = kept_foreign files [] i (All-contains (Contains (kept_items files [])) kept i are_kept.each has)

  kept_found : (k : ℕ) (p : PredName) → k < length tables.names → found_in files predicates (get_or tables.names k p) ≡ Some (get_or tables.targets.items k 0)
  kept_found k p within =
      let given = kept_are.each k p within in
      ap (found_in files predicates) (sym given.into) ∙ import_found given.by (kept_there_too given.by given.stands) ∙ given.is

  foreign_name : (p : PredName) (i : Imports) → list_any (is_same p) predicates ≡ false → Contains (items files) i → p ≡ i.into → Contains (foreign_items files) i
  foreign_name p i not_own has is =
      foreign_there files i has (subst (λ q. is_local files q ≡ false) is (sym (numbered_is_local files predicates numbered p) ∙ not_own))

  offered_there : (o : Imports) → Contains offered o → Contains (offers files) o
  offered_there o has = All-contains (Contains (offers files)) offered o are_offered.each has

  -- marks are those of pairs

  pair_of : (own other : List ℕ) (user from : ℕ) → slice_get tables.taken.modules user ≡ Some (module_name own) → slice_get tables.taken.modules from ≡ Some (module_name other)
      → marked_at tables.taken.rows.items user from ≡ true → (k : Imports) × Contains (all_pairs files) k × (k.into ≡ pred_name own other 0)
  pair_of own other user from is so marked =
      let by = are_taken.marked.each user from marked in
      let k = by.0 in
      let two = pair_by files k by.1 in
      let into : k.into ≡ pred_name two.user.module_ two.file.module_ 0 = ap (λ (i : Imports). i.into) (sym two.is) in
      let own_is : two.user.module_ ≡ own = sym (ap (λ (r : PredName). r.module) into) ∙ ap (λ (r : PredName). r.module) (some_once (sym by.2 ∙ is)) in
      let other_is : two.file.module_ ≡ other = sym (ap (λ (r : PredName). r.name) into) ∙ ap (λ (r : PredName). r.module) (some_once (sym by.3 ∙ so)) in
      (k, by.1, into ∙ (λ j. pred_name (own_is j) (other_is j) 0))

  taken_pair : (own other : List ℕ) (k : Imports) → Contains (all_pairs files) k → k.into ≡ pred_name own other 0 → IsTaken tables.taken own other
  taken_pair own other k has is =
      let two = pair_by files k has in
      let into : pred_name two.user.module_ two.file.module_ 0 ≡ k.into = ap (λ (i : Imports). i.into) two.is in
      let own_is : two.user.module_ ≡ k.into.module = ap (λ (r : PredName). r.module) into in
      let other_is : two.file.module_ ≡ k.into.name = ap (λ (r : PredName). r.name) into in
      let user = index_of tables.taken.modules (module_name k.into.module)
      (subst (λ own. Contains tables.taken.modules (module_name own)) own_is (are_taken.modules two.user two.has_user)) in
      let from = index_of tables.taken.modules (module_name k.into.name)
      (subst (λ own. Contains tables.taken.modules (module_name own)) other_is (are_taken.modules two.file (found_there files two.load.file two.file two.named))) in record {
        user = user.0;
        from = from.0;
        is_user = user.1 ∙ ap (λ (r : PredName). Some (module_name r.module)) is;
        is_from = from.1 ∙ ap (λ (r : PredName). Some (module_name r.name)) is;
        is_marked = are_taken.marked.all k user.0 from.0 has user.1 from.1;
      }

  -- what a module that is taken offers is found
  offer_found : (p : PredName) (o k : Imports) (n : ℕ) → list_any (is_same p) predicates ≡ false → Contains (offers files) o → o.into ≡ bare p → Contains (all_pairs files) k
      → k.into ≡ pred_name p.module o.from_module 0 → number_of predicates (source o) ≡ Some n → found_in files predicates p ≡ Some n
  offer_found p o k n not_own has o_into also pair is =
      let found = pair_item files p.module o k rise has also pair in
      let i = found.0 in
      let into : i.into ≡ p = found.2 ∙ ap (λ (r : PredName). pred_name p.module r.name r.arity) o_into in
      let same : source i ≡ source o = λ j. pred_name (found.3 j) (found.2 j).name (found.2 j).arity in
      ap (found_in files predicates) (sym into) ∙ import_found i (foreign_name p i not_own found.1 (sym into)) ∙ ap (number_of predicates) same ∙ is

  taken_found : (n : ℕ) (p q : PredName) → list_any (is_same p) predicates ≡ false → slice_get tables.offered n ≡ Some (bare p)
      → slice_get predicates (get_or tables.sources.items n 0) ≡ Some q → IsTaken tables.taken p.module q.module
      → found_in files predicates p ≡ Some (get_or tables.sources.items n 0)
  taken_found n p q not_own here is taken =
      let given = offered_are.each n (bare p) (slice_get_within tables.offered n (bare p) here) in
      let o = given.by in
      let o_into : o.into ≡ bare p = given.into ∙ get_or_from_slice_get tables.offered n (bare p) (bare p) here in
      let q_is : source o ≡ q = some_once (sym (number_there predicates (source o) (get_or tables.sources.items n 0) given.is) ∙ is) in
      let k = pair_of p.module q.module taken.user taken.from taken.is_user taken.is_from taken.is_marked in
      offer_found p o k.0 (get_or tables.sources.items n 0) not_own (offered_there o given.stands) o_into k.1
      (k.2 ∙ ap (λ (r : PredName). pred_name p.module r.module 0) (sym q_is)) given.is

  shared_found : (p : PredName) (exporter : Exporter) → list_any (is_same p) predicates ≡ false → IsShared tables p exporter
      → found_in files predicates p ≡ Some exporter.source
  shared_found p exporter not_own is =
      let given = exporters_are.each is.at exporter is.there in
      let k = pair_of p.module given.0.from_module is.user exporter.from is.is_user given.3.from is.is_taken in
      offer_found p given.0 k.0 exporter.source not_own given.1 (some_once (sym given.2 ∙ is.named)) k.1 k.2 given.3.is

  -- the source of an item for a name that is neither kept nor taken has no number

  of_kept : (p : PredName) (j : Imports) → list_any (is_same p) tables.names ≡ false → p ≡ j.into → Contains (foreign_items files) j → Contains (kept_items files []) j
      → number_of predicates (source j) ≡ None
  of_kept p j not_kept is has also =
      let by =
      map_from (λ (f : Imports). f.into) kept j.into (All-contains (λ (k : Imports). Contains (map (λ (f : Imports). f.into) kept) k.into) (kept_items files []) j are_kept.all also) in
      let i = by.0 in
      let nothing : number_of predicates (source i) ≡ None =
      elim (kept_are.all i by.1) [
        | inl given ↦ given
        | inr there ↦
            let passes : list_any (is_same p) tables.names ≡ true = any_there (is_same p) tables.names i.into there (same_from p i.into (is ∙ sym by.2)) in
            let both : true ≡ false = sym passes ∙ not_kept in
            cc
      ] in
      ap (number_of predicates) (one_source (foreign_items files) none j i has (kept_there_too i by.1) (sym by.2)) ∙ nothing

  module _ (p : PredName) (j : Imports) (is : p ≡ j.into) (has : Contains (items files) j) (k : Imports) (k_has : Contains (all_pairs files) k)
      (k_into : k.into ≡ pred_name j.into.module j.from_module 0) where
    o : IsOffered files j
    o = is_offered files j has

    -- the module takes all exports of that of the item
    takes_from : (own : List ℕ) → own ≡ j.from_module → IsTaken tables.taken p.module own
    takes_from own own_is = taken_pair p.module own k k_has (k_into ∙ (λ m. pred_name (sym is m).module (sym own_is m) 0))

    of_alone : is_shared_name shared j.into ≡ false → IsNotOffered predicates tables p → number_of predicates (source j) ≡ None
    of_alone apart none_taken =
        elim (offered_are.all f f_by.1) [
          | inl given ↦ ap (number_of predicates) (sym (alike f f_by.1 f_into)) ∙ given
          | inr there ↦ absurd (taken_it there)
        ]
      where
        f_by : (g : Imports) × Contains offered g × (g.into ≡ o.by.into)
        f_by = map_from (λ (g : Imports). g.into) offered o.by.into (All-contains (λ (g : Imports). Contains (map (λ (h : Imports). h.into) offered) g.into) (offers files) o.by are_offered.all o.stands)

        f : Imports
        f = f_by.0

        f_into : f.into ≡ bare j.into
        f_into = f_by.2 ∙ o.into

        -- an offer of the name is from the module of the item
        alike : (g : Imports) → Contains offered g → g.into ≡ bare j.into → source g ≡ source j
        alike g g_has into =
            let from : g.from_module ≡ j.from_module =
            one_offer files shared are_shared j.into g o.by apart (offered_there g g_has) o.stands into o.into ∙ o.from_module in
            λ m. pred_name (from m) (into m).name (into m).arity

        taken_it : Contains tables.offered f.into → ⊥
        taken_it (n, within, there) =
            let given = offered_are.each n f.into within in
            let g = given.by in
            let into : g.into ≡ bare j.into = given.into ∙ there ∙ f_into in
            none_taken n (source g) (slice_get-get_or tables.offered n f.into within ∙ ap (λ r. Some r) (there ∙ f_into ∙ sym (ap bare is)))
            (number_there predicates (source g) (get_or tables.sources.items n 0) given.is)
            (takes_from g.from_module (ap (λ (r : PredName). r.module) (alike g given.stands into)))

    of_shared : is_shared_name shared j.into ≡ true → ((exporter : Exporter) → IsShared tables p exporter → ⊥) → number_of predicates (source j) ≡ None
    of_shared so none_shared = at (number_of predicates (source o.by)) refl
      where
        same : source o.by ≡ source j
        same m = pred_name (o.from_module m) (o.into m).name (o.into m).arity

        named : (n : ℕ) × (slice_get tables.shared.names n ≡ Some (bare j.into))
        named =
            let by = any_from (λ (i : Imports). is_same (bare j.into) i.into) shared so in
            index_of tables.shared.names (bare j.into)
            (subst (λ ns. Contains ns (bare j.into)) (sym names_are)
            (subst (Contains (map (λ (i : Imports). i.into) shared)) (sym (same_parts (bare j.into) by.0.into by.2)) (map_has (λ (i : Imports). i.into) shared by.0 by.1)))

        at : (r : Option ℕ) → number_of predicates (source o.by) ≡ r → number_of predicates (source j) ≡ None
        at None e = ap (number_of predicates) (sym same) ∙ e
        at (Some n) e =
            let takes = takes_from o.by.from_module o.from_module in
            let exporter : Exporter = record { from = takes.from; source = n } in
            absurd
            (none_shared exporter (record {
              at = named.0;
              user = takes.user;
              named = named.1 ∙ ap (λ q. Some (bare q)) (sym is);
              there = exporters_are.all named.0 o.by exporter o.stands (named.1 ∙ ap (λ q. Some q) (sym o.into)) (record { from = takes.is_from; is = e });
              is_user = takes.is_user;
              is_taken = takes.is_marked;
            }))

  unfound : (p : PredName) → list_any (is_same p) predicates ≡ false → list_any (is_same p) tables.names ≡ false → IsNotOffered predicates tables p
      → ((exporter : Exporter) → IsShared tables p exporter → ⊥) → found_in files predicates p ≡ None
  unfound p not_own not_kept none_taken none_shared =
      ap (λ found. or_found predicates found (first_source files p)) (number_none predicates p not_own) ∙ at (first_of (items_for p (items files))) refl
    where
      at : (r : Option Imports) → first_of (items_for p (items files)) ≡ r → or_found predicates None (first_source files p) ≡ None
      at None e = ap (λ f. or_found predicates None (option_map source f)) e
      at (Some j) e =
          let is = first_is p (items files) j e in
          let has = foreign_name p j not_own is.0 is.1 in
          ap (λ f. or_found predicates None (option_map source f)) e
          ∙ elim (kept_or_paired files [] j has) [
            | inl also ↦ of_kept p j not_kept is.1 has also
            | inr (apart, k, k_has, k_into) ↦
                elim (cases_Bool (is_shared_name shared j.into)) [
                  | inl so ↦ of_shared p j is.1 is.0 k k_has k_into so none_shared
                  | inr alone ↦ of_alone p j is.1 is.0 k k_has k_into alone none_taken
                ]
          ]

  pub targets_found : AreTargets files predicates tables
  targets_found = record {
    as_many = kept_are.as_many;
    sources = offered_are.as_many;
    in_order = in_order;
    shared_in_order = subst (AllPairs (λ p q. pred_cmp p q ≡ Less)) (sym names_are)
        (all_pairs_map (λ p q. pred_cmp p q ≡ Less) (λ (i : Imports). i.into) shared (clashes_rise (offers files) shared are_shared));
    modules_in_order = are_taken.in_order;
    below = λ n within.
        let given = offered_are.each n (pred_name [] [] 0) within in
        slice_get_within predicates (get_or tables.sources.items n 0) (source given.by) (number_there predicates (source given.by) (get_or tables.sources.items n 0) given.is);
    named = kept_found;
    taken = taken_found;
    shared = shared_found;
    unnamed = unfound;
  }
