-- A source of one text in memory.
use Rattle.std.specs.Prelude.{◌≡◌, ℕ, List, [], Some}
use Rattle.file_library.specs.Notes.{noted}
use Rattle.tool_run.specs.Wanted.{one_file}
use Rattle.component_tool.specs.declared.memory_source.MemorySource.{MemorySource}
use Rattle.component_tool.specs.Source.{SourceSeen, source_seen}

-- what is seen of it as of a source: its one text
abbrev pub memory_seen : MemorySource → SourceSeen
memory_seen s = source_seen (Some (one_file s.name s.text.items)) (noted s.notes.items)

-- it has this text, and nothing was asked yet
pub record IsNewSource (name text : List ℕ) (source : MemorySource) : Type 0 where
  pub named : source.name ≡ name
  pub holds : source.text.items ≡ text
  pub none_answered : source.notes.items ≡ []
