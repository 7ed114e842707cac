-- What a run promises.
use Rattle.std.specs.Prelude.{◌≡◌, ◌≢◌, ℕ, ◌⊎◌, Some, None}
use Rattle.file_library.specs.Counts.{Rose}
use Rattle.file_library.specs.Library.{Files}
use Rattle.file_library.specs.Asking.{LoadEnd}
use Rattle.tool_run.specs.Asking.{Asking, EndsReading}
use Rattle.tool_run.specs.Run.{IsRun, Taking, TookNone}
use Rattle.tool_run.specs.Statuses.{AreAskedFor, HasFaults, HasNoRoot, HasPassed, HasTold, HasUnread, HasUsage, IsCutOff, IsSettled, IsStatus}
use Rattle.tool_run.specs.Statuses.{SaysAnswer, SaysHandedOver, SaysNoMemory}
use Rattle.tool_run.specs.Tool.{Tool}
use Rattle.tool_run.specs.Wanted.{AskForNone, IsNothingAsked}

-- a run keeps each of these promises, where this is wanted of the tool: over a library and two sinks, as they are seen before and after
pub record RunKeeps {A : Type 0} (tool : Tool A) (wanted : A → Type 0) (library : Asking) (out err : Taking) (result : ℕ) : Type 0 where
  -- over a library and sinks that tell what they hold, where no count of faults rose, the sinks took the bytes of the right answer, or memory was wanting
  pub answered :
      (files : Files) → library.0.told ≡ Some files → (Rose library.0.faults library.1.faults → ⊥)
      → (Rose out.0.faults out.1.faults → ⊥) → (Rose err.0.faults err.1.faults → ⊥)
      → SaysAnswer tool wanted files out err result ⊎ SaysNoMemory tool.name out err result
  -- over any library and sinks, where no read and no sink failed and memory was ample, they took those of the right answer to just the files that the
  -- library handed over
  pub handed_over : result ≢ 4 → result ≢ 5 → result ≢ 7 → SaysHandedOver tool wanted library out err result
  -- the status is 0, or one from 2 to 7
  pub statuses : IsStatus result
  -- 0: what is wanted is on `out`
  pub told : result ≡ 0 → HasTold tool wanted library out err
  -- 2: nothing is wanted, or the files lack a predicate that is named; and the line on `err` says which
  pub refused : result ≡ 2 → (HasUsage tool wanted err ⊎ HasNoRoot tool wanted library err) × TookNone out
  -- where something is wanted, it is such a predicate
  pub missing : (asked : A) → wanted asked → result ≡ 2 → HasNoRoot tool wanted library err × TookNone out
  -- where nothing is, the status is 2, unless a sink failed or memory was wanting
  pub unlawful : IsNothingAsked wanted → (result ≡ 2) ⊎ ((result ≡ 5) ⊎ (result ≡ 7))
  -- 3: the files have faults, and the lines on `err` say which
  pub faults : result ≡ 3 → HasFaults tool wanted library err × TookNone out
  -- 4: a read of the library failed, and the line on `err` says of which file
  pub unread : result ≡ 4 → HasUnread tool wanted library err × TookNone out
  -- 5: the sink of the run's bytes failed and took a part of them, and the other took nothing
  pub cut_off : result ≡ 5 → IsCutOff tool wanted library out err
  -- 6: the files pass a limit, and the line on `err` says which
  pub limit : result ≡ 6 → HasPassed tool wanted library err × TookNone out
  -- 7: memory was wanting, and the line on `err` says that
  pub no_memory : result ≡ 7 → SaysNoMemory tool.name out err result
  -- at any status but 5 the sink of the run's bytes was flushed behind the last of them
  pub settled : result ≢ 5 → IsSettled result out.1 err.1
  -- how the run ends, why, and what the sinks have taken: the other promises follow from it
  pub run : IsRun tool wanted library out err result
  -- the library is asked for the files that are wanted and those that they lead to, each once, until that ends
  pub asked : (asked : A) → wanted asked → tool.make asked ≡ None → AreAskedFor (tool.files asked) library result
  pub asking : (asked : A) → wanted asked → (load : LoadEnd) × EndsReading (tool.make asked) (tool.files asked) library load
  -- and where a file is made in their place, for none
  pub unasked : AskForNone tool wanted → library.1.asked ≡ library.0.asked

-- what the run's bytes don't go to is left as it was
pub record LeavesOther {O E : Type 0} (out : O × O) (err : E × E) (result : ℕ) : Type 0 where
  -- `err`, where what is wanted is told
  pub err_left : result ≡ 0 → err.1 ≡ err.0
  -- `out`, where lines say why it isn't
  pub out_left : result ≢ 0 → result ≢ 5 → out.1 ≡ out.0
  -- and one of them, where the other failed
  pub one_left : (out.1 ≡ out.0) ⊎ (err.1 ≡ err.0)
