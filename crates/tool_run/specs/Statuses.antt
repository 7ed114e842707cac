-- What each status of a run says.
use Rattle.std.specs.Prelude.{◌≡◌, ◌≢◌, ℕ, ◌⊎◌, List, [], ◌∷◌, ◌++◌, true, AllPairs}
use Rattle.file_library.specs.Counts.{Rose}
use Rattle.file_library.specs.Asking.{AreFirst, AreAll}
use Rattle.file_library.specs.Library.{Files, Answered, map_of}
use Rattle.file_library.specs.declared.fault.Fault.{Fault}
use Rattle.import_rules.specs.declared.names.PredName.{PredName}
use Rattle.tool_run.specs.declared.stop.Limit.{Limit}
use Rattle.tool_run.specs.Answer.{IsAnswer}
use Rattle.tool_run.specs.Asking.{Asking}
use Rattle.tool_run.specs.End.{End, faults, missing, limit, output, status_of, out_of, err_of}
use Rattle.tool_run.specs.Lines.{fault_lines, missing_line, unread_line, limit_line, memory_line}
use Rattle.tool_run.specs.Run.{CutBy, EndIs, IsLawfulEnd, Taking, TookJust, TookNone}
use Rattle.tool_run.specs.Sink.{SinkSeen}
use Rattle.tool_run.specs.Tool.{Tool}
use Rattle.tool_run.specs.Wanted.{IsNothingAsked}

-- a run has one of these
abbrev pub IsStatus : ℕ → Type 0
IsStatus result = (result ≡ 0) ⊎ ((result ≡ 2) ⊎ ((result ≡ 3) ⊎ ((result ≡ 4) ⊎ ((result ≡ 5) ⊎ ((result ≡ 6) ⊎ (result ≡ 7))))))

-- the sinks have taken the bytes of the right answer, and nothing else
pub record SaysAnswer {A : Type 0} (tool : Tool A) (wanted : A → Type 0) (files : Files) (out err : Taking) (result : ℕ) : Type 0 where
  pub answer : End
  pub is_right : IsAnswer tool wanted files answer
  pub status : result ≡ status_of answer
  pub on_out : TookJust (out_of answer) out
  pub on_err : TookJust (err_of tool.name tool.usage answer) err

-- the answer is the right one for just the files that the library handed over, and for none besides
pub record SaysHandedOver {A : Type 0} (tool : Tool A) (wanted : A → Type 0) (library : Asking) (out err : Taking) (result : ℕ) : Type 0 where
  pub answers : List Answered
  pub given : library.1.answers ≡ library.0.answers ++ answers
  pub says : SaysAnswer tool wanted (map_of answers) out err result

-- memory was wanting, and a program of this name says that
pub record SaysNoMemory (name : List ℕ) (out err : Taking) (result : ℕ) : Type 0 where
  pub status : result ≡ 7
  pub on_out : TookNone out
  pub on_err : TookJust (memory_line name) err

-- what is wanted is on `out`, and nothing on `err`
pub record HasTold {A : Type 0} (tool : Tool A) (wanted : A → Type 0) (library : Asking) (out err : Taking) : Type 0 where
  pub bytes : List ℕ
  pub cause : IsLawfulEnd tool wanted library (output bytes)
  pub on_out : TookJust bytes out
  pub on_err : TookNone err

-- nothing is wanted, and the line on `err` says the usage
pub record HasUsage {A : Type 0} (tool : Tool A) (wanted : A → Type 0) (err : Taking) : Type 0 where
  pub none : IsNothingAsked wanted
  pub on_err : TookJust tool.usage err

-- the program of the files lacks a predicate that the words name, and the line on `err` says so
pub record HasNoRoot {A : Type 0} (tool : Tool A) (wanted : A → Type 0) (library : Asking) (err : Taking) : Type 0 where
  pub root : PredName
  pub cause : IsLawfulEnd tool wanted library (missing root)
  pub on_err : TookJust (missing_line tool.name root) err

-- the files have faults, and the lines on `err` say which
pub record HasFaults {A : Type 0} (tool : Tool A) (wanted : A → Type 0) (library : Asking) (err : Taking) : Type 0 where
  pub found : List Fault
  pub cause : IsLawfulEnd tool wanted library (faults found)
  pub on_err : TookJust (fault_lines found) err

-- the files pass a limit, and the line on `err` says which
pub record HasPassed {A : Type 0} (tool : Tool A) (wanted : A → Type 0) (library : Asking) (err : Taking) : Type 0 where
  pub passed : Limit
  pub cause : IsLawfulEnd tool wanted library (limit passed)
  pub on_err : TookJust (limit_line tool.name passed) err

-- a read failed, and it is the last that the library was asked for
pub record IsUnread {A : Type 0} (wanted : A → Type 0) (library : Asking) (name : List ℕ) : Type 0 where
  pub asked : A
  pub lawful : wanted asked
  pub before : List (List ℕ)
  pub last : library.1.asked ≡ before ++ name ∷ []
  pub rose : Rose library.0.faults library.1.faults

-- a read of the library failed, and the line on `err` says of which file
pub record HasUnread {A : Type 0} (tool : Tool A) (wanted : A → Type 0) (library : Asking) (err : Taking) : Type 0 where
  pub name : List ℕ
  pub cause : IsUnread wanted library name
  pub on_err : TookJust (unread_line tool.name name) err

-- the sink to which the run's bytes go took a part of them, and its count of faults rose; the other took nothing
pub record IsCutOff {A : Type 0} (tool : Tool A) (wanted : A → Type 0) (library : Asking) (out err : Taking) : Type 0 where
  pub end : End
  pub cause : EndIs tool wanted library end
  pub cut : CutBy tool.name tool.usage out err end

-- the library was asked for the first of the names that these files lead to over some map, each once; for all of them where what is wanted is told, or
-- a fault, or a name that is missing
pub record AreAskedFor (roots : List (List ℕ)) (library : Asking) (result : ℕ) : Type 0 where
  pub seen : Files
  pub names : List (List ℕ)
  pub put : library.1.asked ≡ library.0.asked ++ names
  pub first : AreFirst seen roots names
  pub once : AllPairs (λ a b. a ≡ b → ⊥) names
  pub whole : (result ≡ 0) ⊎ ((result ≡ 2) ⊎ (result ≡ 3)) → AreAll seen roots names

-- the sink of the run's bytes is settled
abbrev pub IsSettled : ℕ → SinkSeen → SinkSeen → Type 0
IsSettled result out err = ((result ≡ 0) × (out.settled ≡ true)) ⊎ ((result ≢ 0) × (err.settled ≡ true))
