use Rattle.std.proofs.Common.{◌≡◌, ◌++◌, ◌∙◌, [], All, AllPairs, map, sym, ap, subst, arith}
use Rattle.std.specs.declared.cmp.Ordering.TheVariants.{Less}
use Rattle.module_table.specs.Facts.{see_facts}
use Rattle.file_library.specs.SortedOut.{see_loaded}
use Rattle.import_rules.specs.Clashes.{AreClashes, AreFirsts, Imports, see_item}
use Rattle.import_rules.specs.Findings.{see_findings}
use Rattle.import_rules.specs.Flaws.{clash_flaw}
use Rattle.import_rules.specs.Items.{foreign_items}
use Rattle.import_rules.specs.KnownFiles.{AreKnown, AreRising, see_known}
use Rattle.file_library.specs.Spots.{texts_of}
use Rattle.import_rules.specs.Names.{pred_cmp}
use Rattle.import_rules.specs.Offers.{kept_items, offers}
use Rattle.import_rules.specs.SharedNames.{AreExporters}
use Rattle.import_rules.specs.TakenModules.{AreTaken}
use Rattle.import_rules.specs.PlacedFlaws.{ArePlacedFlaws, AreTexts, StandsIn}
use Rattle.import_rules.proofs.AllFound.{files_rise, texts_are, ready, found_in_all, all_in_texts, are_faults}
use Rattle.import_rules.proofs.CheckedImports.{clashes_of_all}
use Rattle.import_rules.proofs.Offered.{clashes_rise}
use Rattle.import_rules.proofs.check.check_imports.Goals as goal

pub known_files-requires : goal.known_files-requires
known_files-requires c = subst (λ files. AreRising (map see_facts files)) (sym c.deref.ensures.value) (files_rise (see_loaded c.args.loaded.now) c.requires.loaded)

pub all_offers-requires : goal.all_offers-requires
all_offers-requires c =
    ready (see_loaded c.args.loaded.now) c.requires.loaded
    (record { known = c.in_ok-known_files.field-0; absent = c.deref-2.result; predicates = c.args.predicates; shared = c.new.result })
    (subst (λ files. AreKnown (map see_facts files) c.in_ok-known_files.field-0.items) c.deref.ensures.value c.in_ok-known_files.ensures) c.deref-2.ensures.value c.requires.numbered
    (subst (λ is. AllPairs (λ (i j : Imports). pred_cmp i.into j.into ≡ Less) (map see_item is)) (sym c.new.ensures.items) (λ i j d lt within. absurd (omega (arith, within))))

pub gather-requires : goal.gather-requires
gather-requires c =
    ready (see_loaded c.args.loaded.now) c.requires.loaded
    (record { known = c.in_ok-known_files.field-0; absent = c.deref-2.result; predicates = c.args.predicates; shared = c.new.result })
    (subst (λ files. AreKnown (map see_facts files) c.in_ok-known_files.field-0.items) c.deref.ensures.value c.in_ok-known_files.ensures) c.deref-2.ensures.value c.requires.numbered
    (subst (λ is. AllPairs (λ (i j : Imports). pred_cmp i.into j.into ≡ Less) (map see_item is)) (sym c.new.ensures.items) (λ i j d lt within. absurd (omega (arith, within))))

pub all_clashes-requires : goal.all_clashes-requires
all_clashes-requires c =
    ready (see_loaded c.args.loaded.now) c.requires.loaded
    (record { known = c.in_ok-known_files.field-0; absent = c.deref-2.result; predicates = c.args.predicates; shared = c.in_ok-firsts.field-0.clashes })
    (subst (λ files. AreKnown (map see_facts files) c.in_ok-known_files.field-0.items) c.deref.ensures.value c.in_ok-known_files.ensures) c.deref-2.ensures.value c.requires.numbered
    (clashes_rise (map see_item c.in_ok-offers.offers.items) (map see_item c.in_ok-firsts.field-0.clashes.items) c.in_ok-firsts.ensures.clashes)

pub make-requires : goal.make-requires
make-requires c =
    ready (see_loaded c.args.loaded.now) c.requires.loaded
    (record { known = c.in_ok-known_files.field-0; absent = c.deref-2.result; predicates = c.args.predicates; shared = c.in_ok-firsts.field-0.clashes })
    (subst (λ files. AreKnown (map see_facts files) c.in_ok-known_files.field-0.items) c.deref.ensures.value c.in_ok-known_files.ensures) c.deref-2.ensures.value c.requires.numbered
    (clashes_rise (map see_item c.in_ok-offers.offers.items) (map see_item c.in_ok-firsts.field-0.clashes.items) c.in_ok-firsts.ensures.clashes)

pub make-requires-2-clause-ready : goal.make-requires-2-clause-ready
make-requires-2-clause-ready c =
    ready (see_loaded c.args.loaded.now) c.requires.loaded
    (record { known = c.in_ok-known_files.field-0; absent = c.deref-2.result; predicates = c.args.predicates; shared = c.in_ok-firsts.field-0.clashes })
    (subst (λ files. AreKnown (map see_facts files) c.in_ok-known_files.field-0.items) c.deref.ensures.value c.in_ok-known_files.ensures) c.deref-2.ensures.value c.requires.numbered
    (clashes_rise (map see_item c.in_ok-offers.offers.items) (map see_item c.in_ok-firsts.field-0.clashes.items) c.in_ok-firsts.ensures.clashes)

pub make-requires-2-clause-modules : goal.make-requires-2-clause-modules
make-requires-2-clause-modules c = c.in_ok-taken.ensures.in_order

pub faults_with_places-requires-clause-texts : goal.faults_with_places-requires-clause-texts
faults_with_places-requires-clause-texts c = subst (λ texts. AreTexts (texts_of texts)) (sym c.deref-4.ensures.value) (texts_are (see_loaded c.args.loaded.now) c.requires.loaded)

pub faults_with_places-requires-clause-stand : goal.faults_with_places-requires-clause-stand
faults_with_places-requires-clause-stand c =
    let loaded = see_loaded c.args.loaded.now in
    let known = c.in_ok-known_files.field-0 in
    let files : map see_known known.items ≡ loaded.files = c.in_ok-known_files.ensures.are ∙ ap (map see_facts) c.deref.ensures.value in
    let shared = map see_item c.in_ok-firsts.field-0.clashes.items in
    let clashes = map see_item c.in_ok-clashing.clashing.items in
    let are : AreClashes (foreign_items loaded.files) clashes =
    clashes_of_all loaded.files (map see_item c.in_ok-offers.offers.items) shared clashes (c.in_ok-offers.ensures ∙ ap offers files) c.in_ok-firsts.ensures.clashes
    (subst (λ fs. AreClashes (kept_items fs shared) clashes) files c.in_ok-clashing.ensures) in
    let all =
    found_in_all loaded c.requires.loaded (record { known = known; absent = c.deref-2.result; predicates = c.args.predicates; shared = c.new.result }) files c.deref-2.ensures.value
    (see_findings c.in_ok-found.found.flaws.items) (see_findings c.in_ok-flaws.flaws.items) clashes c.in_ok-found.ensures.flaws
    (c.in_ok-flaws.ensures ∙ ap (λ items. see_findings c.in_ok-found.found.flaws.items ++ map clash_flaw (map see_item items)) c.deref-3.ensures.value) in
    subst (λ texts. All (StandsIn (texts_of texts)) (see_findings c.in_ok-flaws.flaws.items)) (sym c.deref-4.ensures.value)
    (all_in_texts loaded c.requires.loaded (see_findings c.in_ok-flaws.flaws.items) clashes all are)

pub returns-clause-faults : goal.returns-clause-faults
returns-clause-faults c =
    let loaded = see_loaded c.args.loaded.now in
    let known = c.in_ok-known_files.field-0 in
    let files : map see_known known.items ≡ loaded.files = c.in_ok-known_files.ensures.are ∙ ap (map see_facts) c.deref.ensures.value in
    let shared = map see_item c.in_ok-firsts.field-0.clashes.items in
    let clashes = map see_item c.in_ok-clashing.clashing.items in
    let are : AreClashes (foreign_items loaded.files) clashes =
    clashes_of_all loaded.files (map see_item c.in_ok-offers.offers.items) shared clashes (c.in_ok-offers.ensures ∙ ap offers files) c.in_ok-firsts.ensures.clashes
    (subst (λ fs. AreClashes (kept_items fs shared) clashes) files c.in_ok-clashing.ensures) in
    let all =
    found_in_all loaded c.requires.loaded (record { known = known; absent = c.deref-2.result; predicates = c.args.predicates; shared = c.new.result }) files c.deref-2.ensures.value
    (see_findings c.in_ok-found.found.flaws.items) (see_findings c.in_ok-flaws.flaws.items) clashes c.in_ok-found.ensures.flaws
    (c.in_ok-flaws.ensures ∙ ap (λ items. see_findings c.in_ok-found.found.flaws.items ++ map clash_flaw (map see_item items)) c.deref-3.ensures.value) in
    are_faults loaded c.requires.loaded (see_findings c.in_ok-flaws.flaws.items) clashes c.in_ok-faults.faults.items all are
    (subst (λ texts. ArePlacedFlaws (texts_of texts) (see_findings c.in_ok-flaws.flaws.items) c.in_ok-faults.faults.items) c.deref-4.ensures.value c.in_ok-faults.ensures)

pub returns-clause-imports : goal.returns-clause-imports
returns-clause-imports c =
    let loaded = see_loaded c.args.loaded.now in
    let known = c.in_ok-known_files.field-0 in
    let files : map see_known known.items ≡ loaded.files = c.in_ok-known_files.ensures.are ∙ ap (map see_facts) c.deref.ensures.value in
    let shared = map see_item c.in_ok-firsts.field-0.clashes.items in
    let offers_are : map see_item c.in_ok-offers.offers.items ≡ offers loaded.files = c.in_ok-offers.ensures ∙ ap offers files in
    let listed : map see_item c.in_ok-found.found.items.items ≡ kept_items loaded.files [] = c.in_ok-found.ensures.items ∙ ap (λ fs. kept_items fs []) files in
    record {
      shared = shared;
      are_shared = subst (λ os. AreClashes os shared) offers_are c.in_ok-firsts.ensures.clashes;
      are_kept = subst (λ is. AreFirsts is (map see_item c.in_ok-listed.listed.firsts.items)) listed c.in_ok-listed.ensures.firsts;
      are_offered = subst (λ os. AreFirsts os (map see_item c.in_ok-firsts.field-0.firsts.items)) offers_are c.in_ok-firsts.ensures.firsts;
      are_taken = subst (λ fs. AreTaken fs c.in_ok-taken.taken) files c.in_ok-taken.ensures;
      names = c.in_ok-shared.ensures.names;
      exporters = subst (λ fs. AreExporters c.in_ok-taken.taken.modules c.args.predicates.now (offers fs) c.in_ok-shared.shared.names c.in_ok-shared.shared.exporters.items) files c.in_ok-shared.ensures.exporters;
    }
