-- What a sink of bytes answers.
use Rattle.std.specs.Prelude.{◌≡◌, ℕ, ◌≤◌, List, ◌++◌, Option, Bool, true, false, length, take, option_map}
use Rattle.file_library.specs.Counts.{Rose}
use Rattle.tool_run.specs.declared.sink.Put.{Put}
use Rattle.tool_run.specs.declared.sink.Put.TheVariants.{Took, Failed}
use Rattle.tool_run.specs.declared.sink.Flushed.{Flushed}
use Rattle.tool_run.specs.declared.sink.Flushed.TheVariants.{Done, Failed as failed_flush}

-- the bytes that a sink has taken, where it tells them, with more behind them
abbrev pub more_taken : Option (List ℕ) → List ℕ → Option (List ℕ)
more_taken taken bytes = option_map (λ before. before ++ bytes) taken

-- what is seen of a sink: the bytes that it has taken, where it tells them, its count of faults, and whether nothing was put since the last flush that was done
pub record SinkSeen : Type 0 where
  pub taken : Option (List ℕ)
  pub faults : ℕ
  pub settled : Bool

abbrev pub sink_seen : Option (List ℕ) → ℕ → Bool → SinkSeen
sink_seen taken faults settled = record { taken = taken; faults = faults; settled = settled }

-- what stands after each answer to a put of the bytes
abbrev pub PutIs : List ℕ → SinkSeen → SinkSeen → Put → Type 0
PutIs bytes before after (Took n) = (1 ≤ n) × (n ≤ length bytes) × (after.taken ≡ more_taken before.taken (take n bytes)) × (after.settled ≡ false)
PutIs bytes before after Failed = (after.taken ≡ before.taken) × (after.settled ≡ before.settled) × Rose before.faults after.faults

-- and to a flush
abbrev pub FlushIs : SinkSeen → SinkSeen → Flushed → Type 0
FlushIs before after Done = (after.taken ≡ before.taken) × (after.settled ≡ true)
FlushIs before after failed_flush = (after.taken ≡ before.taken) × (after.settled ≡ before.settled) × Rose before.faults after.faults
