-- What a put does to the bytes that a stream holds, where those are known.
use Rattle.std.specs.Prelude.{ℕ, List, Option, take}
use Rattle.std.specs.Io.KnownBytes.{Appends, Keeps}
use Rattle.tool_run.specs.declared.sink.Put.{Put}
use Rattle.tool_run.specs.declared.sink.Put.TheVariants.{Took, Failed}

-- the stream holds just the bytes that the put says were taken
abbrev pub WroteIs : List ℕ → Option (List ℕ) → Option (List ℕ) → Put → Type 0
WroteIs bytes held held' (Took n) = Appends held held' (take n bytes)
WroteIs bytes held held' Failed = Keeps held held'
