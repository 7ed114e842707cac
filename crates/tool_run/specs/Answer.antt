-- The right answer to what is wanted over a map of files, with no machine in it.
use Rattle.std.specs.Prelude.{◌≡◌, ◌⊎◌, ℕ, List}
use Rattle.file_library.specs.Library.{Files}
use Rattle.file_library.specs.Loaded.{LoadedFiles}
use Rattle.file_library.specs.Asking.{LoadEnd, LoadEndIs, IsDecided}
use Rattle.file_library.specs.Asking as of_load
use Rattle.tool_run.specs.declared.stop.Limit.TheVariants.{TooManyFiles, FileTooLarge, TooMuchText}
use Rattle.tool_run.specs.Tool.{Tool}
use Rattle.tool_run.specs.Wanted.{IsNothingAsked, files_read, names_read}
use Rattle.tool_run.specs.LoadedEnd.{LoadedComesTo}
use Rattle.tool_run.specs.End.{End, usage, faults, unread, limit, no_memory}

-- what the end of the asking for files comes to
abbrev pub LoadEndComesTo : {A : Type 0} → Tool A → A → LoadEnd → End → Type 0
LoadEndComesTo tool asked (of_load.loaded found) end = LoadedComesTo tool asked found end
LoadEndComesTo tool asked (of_load.faults found) end = end ≡ faults found
LoadEndComesTo tool asked (of_load.unread name) end = end ≡ unread name
LoadEndComesTo tool asked of_load.too_many end = end ≡ limit TooManyFiles
LoadEndComesTo tool asked (of_load.too_large name) end = end ≡ limit (FileTooLarge name)
LoadEndComesTo tool asked of_load.too_much end = end ≡ limit TooMuchText
LoadEndComesTo tool asked of_load.no_memory end = end ≡ no_memory

-- memory was wanting, or this is what loaded files come to
abbrev pub IsLoadedEnd : {A : Type 0} → Tool A → A → LoadedFiles → End → Type 0
IsLoadedEnd tool asked found end = (end ≡ no_memory) ⊎ LoadedComesTo tool asked found end

-- what is said to what is asked for: what the asking for its files comes to
pub record IsLawfulAnswer {A : Type 0} (tool : Tool A) (wanted : A → Type 0) (files : Files) (end : End) : Type 0 where
  pub asked : A
  pub lawful : wanted asked
  pub names : List (List ℕ)
  pub load : LoadEnd
  pub decided : IsDecided load
  pub ends : LoadEndIs (files_read (tool.make asked) files) (names_read (tool.make asked) (tool.files asked)) names load
  pub comes : LoadEndComesTo tool asked load end

-- the answer to what is wanted over the files
abbrev pub IsAnswer : {A : Type 0} → Tool A → (A → Type 0) → Files → End → Type 0
IsAnswer tool wanted files usage = IsNothingAsked wanted
IsAnswer tool wanted files end = IsLawfulAnswer tool wanted files end
