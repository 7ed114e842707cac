-- How a run ends over any library, and what its sinks have taken.
use Rattle.std.specs.Prelude.{◌≡◌, ℕ, ◌⊎◌, List, Some}
use Rattle.file_library.specs.Library.{Files}
use Rattle.file_library.specs.Asking.{LoadEnd, IsDecided}
use Rattle.tool_run.specs.Answer.{IsLawfulAnswer, LoadEndComesTo}
use Rattle.tool_run.specs.Asking.{Asking, EndsAsking, EndsReading, IsLeft}
use Rattle.tool_run.specs.End.{End, usage, output, no_memory, status_of, err_of}
use Rattle.tool_run.specs.Say.{TookAll, TookPart}
use Rattle.tool_run.specs.Sink.{SinkSeen, more_taken}
use Rattle.tool_run.specs.Tool.{Tool}
use Rattle.tool_run.specs.Wanted.{AskForNone, IsNothingAsked}

-- why a run ends so

-- by what the asking for these files comes to, unless memory was wanting behind it
pub record IsReadEnd {A : Type 0} (tool : Tool A) (asked : A) (names : List (List ℕ)) (library : Asking) (end : End) : Type 0 where
  pub load : LoadEnd
  pub asking : EndsAsking library names load
  pub comes : (end ≡ no_memory) ⊎ LoadEndComesTo tool asked load end

-- by what the reading of the wanted files comes to; over the library's map, where it tells that, this is the answer
pub record IsLawfulEnd {A : Type 0} (tool : Tool A) (wanted : A → Type 0) (library : Asking) (end : End) : Type 0 where
  pub asked : A
  pub lawful : wanted asked
  pub load : LoadEnd
  pub reading : EndsReading (tool.make asked) (tool.files asked) library load
  pub comes : LoadEndComesTo tool asked load end
  pub told_too : (files : Files) → library.0.told ≡ Some files → IsDecided load → IsLawfulAnswer tool wanted files end

-- what was asked for where memory was wanting: wanted files as far as the reading went, and else nothing
pub record IsAsked {A : Type 0} (tool : Tool A) (wanted : A → Type 0) (library : Asking) : Type 0 where
  pub lawful : (asked : A) → wanted asked → (load : LoadEnd) × EndsReading (tool.make asked) (tool.files asked) library load
  pub none : AskForNone tool wanted → library.1.asked ≡ library.0.asked

-- nothing is wanted, and no file was asked for; memory was wanting; or what the files come to
abbrev pub EndIs : {A : Type 0} → Tool A → (A → Type 0) → Asking → End → Type 0
EndIs tool wanted library usage = IsNothingAsked wanted × IsLeft library
EndIs tool wanted library no_memory = IsAsked tool wanted library
EndIs tool wanted library end = IsLawfulEnd tool wanted library end

-- what the sinks have taken

-- what is seen of a sink before and after the run
abbrev pub Taking : Type 0
Taking = SinkSeen × SinkSeen

-- it took all of the bytes with the status, or a part of them with status 5
abbrev pub SaidWith : List ℕ → ℕ → ℕ → Taking → Type 0
SaidWith bytes status result sink = ((result ≡ status) × TookAll bytes sink.0 sink.1) ⊎ ((result ≡ 5) × TookPart bytes sink.0 sink.1)

-- it took nothing
abbrev pub TookNone : Taking → Type 0
TookNone sink = sink.1.taken ≡ sink.0.taken

-- it took just these bytes, where it tells what it took
abbrev pub TookJust : List ℕ → Taking → Type 0
TookJust bytes sink = sink.1.taken ≡ more_taken sink.0.taken bytes

-- it took a part of the bytes, and its count of faults rose; the other took nothing
abbrev pub IsCutShort : List ℕ → Taking → Taking → Type 0
IsCutShort bytes sink other = TookPart bytes sink.0 sink.1 × TookNone other

-- one sink took the bytes, the other took nothing
abbrev pub IsWritten : List ℕ → ℕ → ℕ → Taking → Taking → Type 0
IsWritten bytes status result sink other = SaidWith bytes status result sink × TookNone other

-- what is told goes to `out`, all else to `err`, by a program of this name with this line of usage
abbrev pub EndsBy : List ℕ → List ℕ → ℕ → Taking → Taking → End → Type 0
EndsBy name line result out err (output bytes) = IsWritten bytes 0 result out err
EndsBy name line result out err end = IsWritten (err_of name line end) (status_of end) result err out

-- and was cut short
abbrev pub CutBy : List ℕ → List ℕ → Taking → Taking → End → Type 0
CutBy name line out err (output bytes) = IsCutShort bytes out err
CutBy name line out err end = IsCutShort (err_of name line end) err out

-- the bytes of the end are put, or there was no memory for them and that is said
abbrev pub PutsEnd : List ℕ → List ℕ → ℕ → Taking → Taking → End → Type 0
PutsEnd name line result out err end = EndsBy name line result out err end ⊎ EndsBy name line result out err no_memory

-- the run ends so, for this cause, and its bytes are put
pub record IsRun {A : Type 0} (tool : Tool A) (wanted : A → Type 0) (library : Asking) (out err : Taking) (result : ℕ) : Type 0 where
  pub end : End
  pub cause : EndIs tool wanted library end
  pub written : EndsBy tool.name tool.usage result out err end
