-- What a sink has taken after all of some bytes were put, or a part of them.
use Rattle.std.specs.Prelude.{◌≡◌, ℕ, List, Bool, true, false, take, flat_map, Vec}
use Rattle.std.specs.declared.alloc.Global.{Global}
use Rattle.file_library.specs.Counts.{Rose}
use Rattle.tool_run.specs.Sink.{SinkSeen, more_taken}

-- the sink took the first of the bytes, and its count of faults rose
pub record TookPart (bytes : List ℕ) (before after : SinkSeen) : Type 0 where
  pub count : ℕ
  pub is : after.taken ≡ more_taken before.taken (take count bytes)
  pub rose : Rose before.faults after.faults

-- the sink took all of the bytes and was flushed behind them
pub record TookAll (bytes : List ℕ) (before after : SinkSeen) : Type 0 where
  pub is : after.taken ≡ more_taken before.taken bytes
  pub is_settled : after.settled ≡ true

abbrev pub SaidIs : List ℕ → SinkSeen → SinkSeen → Bool → Type 0
SaidIs bytes before after true = TookAll bytes before after
SaidIs bytes before after false = TookPart bytes before after

-- the bytes of texts, one after another
abbrev pub concatenated : List (Vec ℕ Global) → List ℕ
concatenated texts = flat_map (λ (text : Vec ℕ Global). text.items) texts
