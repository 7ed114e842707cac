-- The files of a library in memory, and which of its reads fail.
use Rattle.std.specs.Prelude.{◌≡◌, ◌≢◌, ℕ, ◌⊎◌, List, [], Some, Contains, length, option_map, Vec}
use Rattle.std.specs.declared.alloc.Global.{Global}
use Rattle.std.specs.Ordering.{nat_cmp}
use Rattle.std.specs.Cmp.Lexicographic.{slice_cmp}
use Rattle.std.specs.BTreeMap.{BTreeMap, get}
use Rattle.file_library.specs.Library.{Files, LibrarySeen, library_seen}
use Rattle.file_library.specs.Notes.{noted}
use Rattle.file_library.specs.declared.library.Read.{Read}
use Rattle.file_library.specs.declared.library.Read.TheVariants.{Failed, NoMemory}
use Rattle.file_library.specs.declared.memory_library.MemoryLibrary.{MemoryLibrary}

-- the bytes at each name
abbrev pub files_of : BTreeMap (List ℕ) (Vec ℕ Global) → Files
files_of files name = option_map (λ bytes. bytes.items) (get (slice_cmp nat_cmp) files name)

-- what is seen of it as of a library: all its files
abbrev pub memory_seen : MemoryLibrary → LibrarySeen
memory_seen l = library_seen (Some (files_of l.files)) l.asked.items (noted l.notes.items) l.faults l.misses

-- nothing was asked yet
pub record IsNewLibrary (files : Files) (failing : List ℕ) (library : MemoryLibrary) : Type 0 where
  pub files_are : files_of library.files ≡ files
  pub failing_are : library.failing.items ≡ failing
  pub none_asked : library.asked.items ≡ []
  pub none_answered : library.notes.items ≡ []
  pub no_faults : library.faults ≡ 0
  pub no_misses : library.misses ≡ 0

-- a read fails, and raises the count of faults, just where its number was ordered to fail
pub record ReadsByOrder (old new : MemoryLibrary) (answer : Read) : Type 0 where
  pub same_order : new.failing.items ≡ old.failing.items
  pub ordered : answer ≡ Failed → Contains old.failing.items (length new.asked.items)
  pub fails : Contains old.failing.items (length new.asked.items) → (answer ≡ Failed) ⊎ (answer ≡ NoMemory)
  pub others : answer ≢ Failed → new.faults ≡ old.faults
