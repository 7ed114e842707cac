use Rattle.std.proofs.Common.{◌≡◌, ◌<◌, All, length, map, sym, subst, ◌∙◌, ap, arith}
use Rattle.std.proofs.lemmas.List.{length-map}
use Rattle.graph_law.specs.Graph.{lists_of}
use Rattle.module_table.specs.Facts.{see_facts}
use Rattle.file_library.specs.Loaded.{LoadedFiles, NamedText}
use Rattle.loop_report.specs.ImportLoops.{AreImportLoops, names_at}
use Rattle.loop_report.specs.ModuleGraph.{AreRising, AreLoadLists, AreRings, file_names, texts_of}
use Rattle.loop_report.proofs.LoopsMade.{loops_made}
use Rattle.loop_report.proofs.ProgramFiles.{named_alike, rising_names}
use Rattle.loop_report.proofs.loops.import_loops.Goals as goal

pub module_graph-requires-clause-rising : goal.module_graph-requires-clause-rising
module_graph-requires-clause-rising c =
    let loaded = c.args.program.now.loaded in
    let files : loaded.files ≡ map see_facts c.as_slice-files.result.now =
    ap (λ (l : LoadedFiles). l.files) c.loaded.ensures ∙ ap (map see_facts) (sym c.as_slice-files.ensures.value) in
    subst (λ fs. AreRising (file_names fs)) files
    (subst AreRising (sym (named_alike loaded.texts loaded.files c.is_known.ensures.read))
    (rising_names (map (λ (text : NamedText). text.0) loaded.texts) c.is_known.ensures.ordered))

pub module_graph-requires-clause-few_files : goal.module_graph-requires-clause-few_files
module_graph-requires-clause-few_files c =
    let loaded = c.args.program.now.loaded in
    omega (
      arith,
      c.is_known.ensures.few_files,
      ap (λ (l : LoadedFiles). length l.files) c.loaded.ensures,
      ap length c.as_slice-files.ensures.value,
      length-map c.loaded.result.now.files.items see_facts,
    )

pub module_graph-requires-clause-few_modules : goal.module_graph-requires-clause-few_modules
module_graph-requires-clause-few_modules c =
    let loaded = c.args.program.now.loaded in
    omega (
      arith,
      c.is_known.ensures.few_files,
      ap (λ (l : LoadedFiles). length l.files) c.loaded.ensures,
      ap length c.as_slice-files.ensures.value,
      length-map c.loaded.result.now.files.items see_facts,
      ap length c.deref.ensures.value,
      c.in_ok-modules.ensures.few,
    )

pub names_of_classes-requires : goal.names_of_classes-requires
names_of_classes-requires c =
    let rings : AreRings (texts_of c.deref-2.result.now) c.in_ok-graph.graph.lists (lists_of c.in_ok-classes.classes.items) = c.in_ok-classes.ensures in
    let same : length (texts_of c.deref-2.result.now) ≡ length c.deref-3.result.now =
    length-map c.deref-2.result.now (λ text. text.now) ∙ ap length (c.deref-2.ensures.value ∙ sym c.deref-3.ensures.value) in
    rw (c.deref-4.ensures.value)
    (subst (λ n. All (All (λ member. member < n)) (lists_of c.in_ok-classes.classes.items)) same (λ k d lt. (rings.each k d lt).within))

pub returns : goal.returns
returns c =
    let loaded = c.args.program.now.loaded in
    let files : loaded.files ≡ map see_facts c.as_slice-files.result.now =
    ap (λ (l : LoadedFiles). l.files) c.loaded.ensures ∙ ap (map see_facts) (sym c.as_slice-files.ensures.value) in
    let facts = map see_facts c.as_slice-files.result.now in
    let modules = texts_of c.in_ok-modules.modules.items in
    let lists = c.in_ok-graph.graph.lists in
    let classes = lists_of c.in_ok-classes.classes.items in
    let loaded_lists : AreLoadLists facts modules lists =
    subst (λ ms. AreLoadLists facts (texts_of ms) lists) c.deref.ensures.value c.in_ok-graph.ensures.lists in
    let rings : AreRings modules lists classes = subst (λ ms. AreRings (texts_of ms) lists classes) c.deref-2.ensures.value c.in_ok-classes.ensures in
    let named : lists_of c.in_ok-loops.loops.items ≡ map (names_at modules) classes =
    c.in_ok-loops.ensures ∙ (λ i. map (names_at (texts_of (c.deref-3.ensures.value i))) (lists_of (c.deref-4.ensures.value i))) in
    subst (λ fs. AreImportLoops fs (lists_of c.in_ok-loops.loops.items)) (sym files)
    (loops_made facts modules lists classes (lists_of c.in_ok-loops.loops.items) c.in_ok-modules.ensures.modules loaded_lists rings named)
