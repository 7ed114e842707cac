-- What a program and its calls hold may be seen by several threads. Each part is shown by itself: a search that goes down through all of them gives up.
use denote.Param.Send.{IsSync, sendable}
use Rattle.std.proofs.Crossing.{crosses}
use Rattle.prolog_tokens.proofs.text.Text.TheSendSync as text
use Rattle.prolog_names.proofs.names.Names.TheSendSync as text_names
use Rattle.kept_clauses.proofs.kept_list.KeptList.TheSendSync as kept_list
use Rattle.clause_text.specs.contracts.text_clauses.Clause as of_clause
use Rattle.module_table.proofs.indicator.Indicator.TheSendSync as indicator
use Rattle.module_table.proofs.load.Load.TheSendSync as load
use Rattle.module_table.proofs.meta.Meta.TheSendSync as meta
use Rattle.module_table.specs.contracts.defined.Defined as of_defined
use Rattle.module_table.specs.contracts.file_facts.DirectiveGoals as of_goals
use Rattle.module_table.specs.contracts.file_facts.FileFacts as of_facts
use Rattle.file_library.specs.contracts.loaded.Loaded as of_loaded
use Rattle.import_rules.proofs.name_table.NameTable.TheSendSync as names
use Rattle.import_rules.proofs.places.Places.TheSendSync as places
use Rattle.import_rules.specs.contracts.import_tables.ImportTables as of_imports
use Rattle.import_rules.specs.contracts.program.Program as of_program
use Rattle.import_rules.specs.contracts.shared_names.SharedNames as of_exporters
use Rattle.import_rules.specs.contracts.taken_modules.TakenModules as of_taken

clause_shared : IsSync of_clause.the_field.row
clause_shared = search (sendable, crosses, kept_list.the_send, kept_list.the_sync) depth 20

defined_shared : IsSync of_defined.the_field.row
defined_shared = let clause = clause_shared in search (sendable, crosses, text.the_sync) depth 20

goals_shared : IsSync of_goals.the_field.row
goals_shared = search (sendable, crosses, kept_list.the_send, kept_list.the_sync) depth 20

facts_shared : IsSync of_facts.the_field.row
facts_shared =
    let defined = defined_shared in
    let goals = goals_shared in
    search (sendable, crosses, text.the_sync, text_names.the_sync, indicator.the_sync, load.the_sync, meta.the_sync) depth 20 fits 3000

loaded_shared : IsSync of_loaded.the_field.row
loaded_shared = let facts = facts_shared in search (sendable, crosses, text.the_sync) depth 20 fits 3000

exporters_shared : IsSync of_exporters.the_field.row
exporters_shared = search (sendable, crosses, names.the_sync) depth 20

taken_shared : IsSync of_taken.the_field.row
taken_shared = search (sendable, crosses, names.the_sync) depth 20

imports_shared : IsSync of_imports.the_field.row
imports_shared =
    let exporters = exporters_shared in
    let taken = taken_shared in
    search (sendable, crosses, names.the_sync) depth 20

program_field : IsSync of_program.the_field.row
program_field =
    let loaded = loaded_shared in
    let imports = imports_shared in
    search (sendable, crosses, places.the_sync) depth 20 fits 3000

pub program_shared : IsSync of_program.the_row
program_shared = let program = program_field in search sendable depth 20
