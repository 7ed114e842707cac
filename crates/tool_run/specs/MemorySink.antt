-- Sinks in memory.
use Rattle.std.specs.Prelude.{◌≡◌, ℕ, ◌-◌, ◌<◌, ◌≤◌, Bool, List, [], Some, true, false, length, min}
use Rattle.file_library.specs.Counts.{one_more}
use Rattle.tool_run.specs.Sink.{SinkSeen, sink_seen}
use Rattle.tool_run.specs.declared.memory_sink.MemorySink.{MemorySink}
use Rattle.tool_run.specs.declared.sink.Put.{Put}
use Rattle.tool_run.specs.declared.sink.Put.TheVariants.{Took, Failed}
use Rattle.tool_run.specs.declared.sink.Flushed.{Flushed}
use Rattle.tool_run.specs.declared.sink.Flushed.TheVariants.{Done, Failed as failed_flush}

-- what is seen of it as of a sink: all the bytes that it took
abbrev pub memory_seen : MemorySink → SinkSeen
memory_seen s = sink_seen (Some s.bytes.items) s.faults s.settled

-- it has taken nothing, and has room for so many bytes; its flushes are done, or each fails
pub record IsNewSink (flushes : Bool) (room : ℕ) (sink : MemorySink) : Type 0 where
  pub flushes_is : sink.flushes ≡ flushes
  pub none_taken : sink.bytes.items ≡ []
  pub room_is : sink.room ≡ room
  pub no_faults : sink.faults ≡ 0
  pub is_settled : sink.settled ≡ true

-- a put takes as many of the bytes as there is room for; just where there is none it fails, and that is counted
pub record PutsWithin (bytes : List ℕ) (old new : MemorySink) (answer : Put) : Type 0 where
  pub same_room : new.room ≡ old.room
  pub same_flushes : new.flushes ≡ old.flushes
  pub took : length old.bytes.items < old.room → (answer ≡ Took (min (length bytes) (old.room - length old.bytes.items))) × (new.faults ≡ old.faults)
  pub full : old.room ≤ length old.bytes.items → (answer ≡ Failed) × (new.faults ≡ one_more old.faults)

-- a flush is done, or fails where each does, and that is counted; it leaves the room
pub record IsFlushed (old new : MemorySink) (answer : Flushed) : Type 0 where
  pub same_room : new.room ≡ old.room
  pub same_flushes : new.flushes ≡ old.flushes
  pub done : old.flushes ≡ true → (answer ≡ Done) × (new.faults ≡ old.faults)
  pub fails : old.flushes ≡ false → (answer ≡ failed_flush) × (new.faults ≡ one_more old.faults)
