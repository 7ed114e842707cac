-- What a copy of a file into a room leaves there.
use Rattle.std.specs.Prelude.{◌≡◌, ℕ, List, [], None, Vec}
use Rattle.std.specs.declared.alloc.Global.{Global}
use Rattle.std.specs.BTreeMap.{BTreeMap}
use Rattle.file_library.specs.Library.{IsFound}
use Rattle.file_library.specs.MemoryLibrary.{files_of}
use Rattle.file_library.specs.declared.memory_library.Copied.{Copied}
use Rattle.file_library.specs.declared.memory_library.Copied.TheVariants.{Whole, Missing, NoMemory}

abbrev pub CopiedIs : BTreeMap (List ℕ) (Vec ℕ Global) → List ℕ → ℕ → List ℕ → Copied → Type 0
CopiedIs files name limit room Whole = IsFound (files_of files) name limit room
CopiedIs files name limit room Missing = (room ≡ []) × (files_of files name ≡ None)
CopiedIs files name limit room NoMemory = room ≡ []
