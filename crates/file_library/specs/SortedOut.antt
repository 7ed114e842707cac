-- What files come to: what is loaded, and their faults.
use Rattle.std.specs.Prelude.{◌≡◌, ℕ, Bool, true, false, List, [], Option, Some, None, Result, Ok, Err, Contains, map, filter}
use Rattle.std.specs.List.{filter_map, AllPairs, AllZip}
use Rattle.std.specs.List.Sorted.{IsPermutation}
use Rattle.std.specs.Ordering.{nat_cmp}
use Rattle.std.specs.Cmp.Lexicographic.{slice_cmp}
use Rattle.std.specs.BTreeSet.{BTreeSet, contains}
use Rattle.std.specs.declared.cmp.Ordering.TheVariants.{Less}
use Rattle.prolog_tokens.specs.Places.{IsPlace}
use Rattle.clause_text.specs.declared.cause.Cause.TheVariants.{NoRoot}
use Rattle.module_table.specs.Facts.{Facts, see_facts}
use Rattle.file_library.specs.Asked.{AreInOrder}
use Rattle.file_library.specs.Library.{Files}
use Rattle.file_library.specs.Loaded.{NamedText, LoadedFiles, IsAskedIn, IsLoaded, AreLoadFaults}
use Rattle.file_library.specs.Counts.{Rose}
use Rattle.file_library.specs.Asking.{LoadEnd, loaded, faults, unread, too_many, too_large, too_much, no_memory}
use Rattle.file_library.specs.AskedFile.{Found, absent, sound, faulty, FileFound}
use Rattle.file_library.specs.declared.fault.Fault.{Fault}
use Rattle.file_library.specs.declared.loaded.Loaded.{Loaded}
use Rattle.file_library.specs.declared.loaded.LoadStop.{LoadStop}
use Rattle.file_library.specs.declared.loaded.LoadStop.TheVariants.{Faults, ReadFault, TooManyFiles, FileTooLarge, TooMuchText, NoMemory}
use Rattle.file_library.specs.declared.sorted_out.SortedOut.{SortedOut}

-- the names rise
abbrev pub AreRising : List FileFound → Type 0
AreRising files = AllPairs (λ a b. slice_cmp nat_cmp a.name b.name ≡ Less) files

-- the facts and the text of a file without a fault, and the name of one that isn't there

abbrev pub facts_at : Found → Option Facts
facts_at absent = None
facts_at (sound text facts) = Some facts
facts_at (faulty text fault) = None

abbrev pub text_at : List ℕ → Found → Option NamedText
text_at name absent = None
text_at name (sound text facts) = Some (name, text)
text_at name (faulty text fault) = None

abbrev pub absent_at : List ℕ → Found → Option (List ℕ)
absent_at name absent = Some name
absent_at name (sound text facts) = None
absent_at name (faulty text fault) = None

abbrev pub sound_facts : FileFound → Option Facts
sound_facts file = facts_at file.found

abbrev pub sound_text : FileFound → Option NamedText
sound_text file = text_at file.name file.found

abbrev pub absent_name : FileFound → Option (List ℕ)
absent_name file = absent_at file.name file.found

-- whether a file has a fault: its own, or that it isn't there and is a root
abbrev pub fault_at : BTreeSet (List ℕ) → List ℕ → Found → Bool
fault_at roots name absent = contains (slice_cmp nat_cmp) roots name
fault_at roots name (sound text facts) = false
fault_at roots name (faulty text fault) = true

abbrev pub has_fault : BTreeSet (List ℕ) → FileFound → Bool
has_fault roots file = fault_at roots file.name file.found

-- the fault of a file, with its place
abbrev pub IsFaultAt : List ℕ → Found → Fault → Type 0
IsFaultAt name absent fault = fault ≡ record { file = name; offset = 0; place = record { line = 0; column = 0 }; cause = NoRoot }
IsFaultAt name (sound text facts) fault = ⊥
IsFaultAt name (faulty text refusal) fault =
    (fault.file ≡ name) × (fault.cause ≡ refusal.cause) × (fault.offset ≡ refusal.offset) × IsPlace text refusal.offset fault.place

abbrev pub IsFaultFor : FileFound → Fault → Type 0
IsFaultFor file fault = IsFaultAt file.name file.found fault

abbrev pub see_text : Loaded → List NamedText
see_text found = map (λ text. (text.0, text.1.items)) found.texts.items

abbrev pub see_loaded : Loaded → LoadedFiles
see_loaded found = record {
  files = map see_facts found.files.items;
  absent = found.absent.items;
  roots = found.roots.items;
  texts = see_text found;
}

-- the files one by one, put where they belong
pub record AreSortedOut (roots : BTreeSet (List ℕ)) (files : List FileFound) (out : SortedOut) : Type 0 where
  pub facts : map see_facts out.files.items ≡ filter_map sound_facts files
  pub texts : map (λ text. (text.0, text.1.items)) out.texts.items ≡ filter_map sound_text files
  pub missing : out.absent.items ≡ filter_map absent_name files
  pub faults : AllZip IsFaultFor (filter (has_fault roots) files) out.faults.items

-- the files in order of name
pub record AreOrdered (found files : List FileFound) : Type 0 where
  pub moved : IsPermutation found files
  pub rising : AreRising files

-- the set has just the roots
pub record AreRoots (names : List (List ℕ)) (roots : BTreeSet (List ℕ)) : Type 0 where
  pub ordered : AreInOrder roots.keys
  pub sound : (name : List ℕ) → Contains roots.keys name → Contains names name
  pub all : (name : List ℕ) → Contains names name → Contains roots.keys name

-- just these names are asked for
pub record AreJustAsked (files : Files) (roots names : List (List ℕ)) : Type 0 where
  pub sound : (name : List ℕ) → Contains names name → IsAskedIn files roots name
  pub all : (name : List ℕ) → IsAskedIn files roots name → Contains names name

-- how the asking ends where it stops
abbrev pub end_of_stop : LoadStop → LoadEnd
end_of_stop (Faults list) = faults list.items
end_of_stop (ReadFault name) = unread name
end_of_stop TooManyFiles = too_many
end_of_stop (FileTooLarge name) = too_large name
end_of_stop TooMuchText = too_much
end_of_stop NoMemory = no_memory

-- how it ends
abbrev pub end_of : Result Loaded LoadStop → LoadEnd
end_of (Ok found) = loaded (see_loaded found)
end_of (Err stop) = end_of_stop stop

-- what files that were all asked for come to over the map; want of memory says nothing of it
abbrev pub FinishIs : Files → List (List ℕ) → LoadEnd → Type 0
FinishIs files roots (loaded found) = IsLoaded files roots found
FinishIs files roots (faults found) = AreLoadFaults files roots found × (found ≡ [] → ⊥)
FinishIs files roots no_memory = Unit {0}
FinishIs files roots end = ⊥

-- where a file could not be read, the faults rose
abbrev pub HasFailed : ℕ → ℕ → LoadStop → Type 0
HasFailed before after (ReadFault name) = Rose before after
HasFailed before after stop = Unit {0}
