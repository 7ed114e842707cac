use Rattle.std.proofs.Common.{◌≡◌, ◌+◌, ◌<◌, ℕ, Some, length, map, refl, sym, ap, ◌∙◌, arith}
use Rattle.std.specs.Prelude.{slice_get}
use Rattle.std.proofs.lemmas.List.{length-map, get_or-map}
use Rattle.std.proofs.lemmas.Option.{slice_get-get_or}
use Rattle.prolog_names.specs.Names.{name_at}
use Rattle.module_table.specs.Facts.{see_facts}
use Rattle.file_library.specs.Loaded.{LoadedFiles}
use Rattle.import_rules.specs.OwnNames.{kept_in}
use Rattle.import_rules.proofs.Seen.{loaded_is, kept_found}
use Rattle.import_rules.proofs.program_tables.ProgramTables.own_file.Goals as goal

pub index-facts-requires : goal.index-facts-requires
index-facts-requires c =
    let p = c.args.self.now in
    omega (arith, c.requires, ap (λ (l : LoadedFiles). length l.files) (loaded_is p), length-map p.loaded.files.items see_facts, p.loaded.files.ok.0)

pub returns-clause-facts : goal.returns-clause-facts
returns-clause-facts c =
    let p = c.args.self.now in
    let files = p.loaded.files.items in
    let file = c.index-facts.result.now in
    let within : c.args.file < length files =
    omega (arith, c.requires, ap (λ (l : LoadedFiles). length l.files) (loaded_is p), length-map files see_facts) in
    let inside : c.args.file < length (map see_facts files) = omega (arith, within, length-map files see_facts) in
    ap (λ (l : LoadedFiles). slice_get l.files c.args.file) (loaded_is p)
    ∙ slice_get-get_or (map see_facts files) c.args.file (see_facts file) inside
    ∙ ap (λ f. Some f) (get_or-map see_facts files c.args.file file (see_facts file) within ∙ ap see_facts (sym c.index-facts.ensures))

pub returns-clause-kept : goal.returns-clause-kept
returns-clause-kept c = λ number node after.
    let p = c.args.self.now in
    let files = p.loaded.files.items in
    let file = c.index-facts.result.now in
    let kept = c.list.result.now in
    let within : c.args.file < length files =
    omega (arith, c.requires, ap (λ (l : LoadedFiles). length l.files) (loaded_is p), length-map files see_facts) in
    let there : slice_get files c.args.file ≡ Some file =
    slice_get-get_or files c.args.file file within ∙ ap (λ f. Some f) (sym c.index-facts.ensures) in
    kept_found p c.args.file number node (kept_in kept number).arity file file.module (name_at file.names number) there
    (ap (λ own. own.after) (sym (c.list.ensures number)) ∙ after) (ap (λ own. own.arity) (sym (c.list.ensures number))) refl refl
