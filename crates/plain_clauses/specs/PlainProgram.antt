-- A program with the plain trees of its clauses.
use Rattle.std.specs.Prelude.{map}
use Rattle.file_library.specs.Loaded.{LoadedFiles}
use Rattle.import_rules.specs.Program.{Seen}
use Rattle.plain_clauses.specs.PlainFacts.{plain_facts}

abbrev pub plain_loaded : LoadedFiles → LoadedFiles
plain_loaded loaded = record loaded { files = map plain_facts loaded.files }

abbrev pub plain_seen : Seen → Seen
plain_seen seen = record seen { loaded = plain_loaded seen.loaded }
