-- What comes of the files that are asked for: all of them with their facts, or their faults.
use Rattle.std.specs.Prelude.{◌≡◌, ℕ, ◌+◌, ◌≤◌, ◌⊎◌, List, Some, None, All, Contains, length, map, sum_by, option_map, unwrap_or}
use Rattle.std.specs.List.{AllZip}
use Rattle.prolog_tokens.specs.declared.limits.TheConstants.{MOST_BYTES}
use Rattle.prolog_tokens.specs.Places.{IsPlace}
use Rattle.clause_text.specs.declared.cause.Cause.TheVariants.{NoRoot}
use Rattle.module_table.specs.Facts.{Facts}
use Rattle.module_table.specs.FileText.{HasFacts, HasFault}
use Rattle.file_library.specs.declared.fault.Fault.{Fault}
use Rattle.file_library.specs.declared.limits.TheConstants.{MOST_FILES, MOST_TEXT}
use Rattle.file_library.specs.Library.{Files}
use Rattle.file_library.specs.Asked.{IsAsked, AreInOrder}
use Rattle.file_library.specs.FileLoads.{FileLoads}

-- the names of which this holds, in order and each once
pub record AreThose (holds : List ℕ → Type 0) (names : List (List ℕ)) : Type 0 where
  pub ordered : AreInOrder names
  pub sound : (name : List ℕ) → Contains names name → holds name
  pub all : (name : List ℕ) → holds name → Contains names name

abbrev pub IsAskedIn : Files → List (List ℕ) → List ℕ → Type 0
IsAskedIn files roots name = IsAsked (FileLoads files) roots name

-- a file's name and its bytes
abbrev pub NamedText : Type 0
NamedText = List ℕ × List ℕ

-- what was loaded: the facts of the files that are there, the names of those that aren't, the names that were given, and the texts
pub record LoadedFiles : Type 0 where
  pub files : List Facts
  pub absent : List (List ℕ)
  pub roots : List (List ℕ)
  pub texts : List NamedText

-- the bytes of a file that is there
abbrev pub size_of : Files → List ℕ → ℕ
size_of files name = unwrap_or (option_map (λ bytes. length bytes) (files name)) 0

-- none of the files is too large, nor are they together
pub record AreWithin (files : Files) (names : List (List ℕ)) : Type 0 where
  pub each : All (λ name. size_of files name ≤ MOST_BYTES) names
  pub together : sum_by (size_of files) names ≤ MOST_TEXT

-- a text's name and bytes are those of an asked file
pub record IsTextOf (files : Files) (roots : List (List ℕ)) (text : NamedText) : Type 0 where
  pub asked : IsAskedIn files roots text.0
  pub there : files text.0 ≡ Some text.1

-- the asked files, all without fault, each with the facts of its text
pub record IsLoaded (files : Files) (roots : List (List ℕ)) (loaded : LoadedFiles) : Type 0 where
  pub root_names : AreThose (λ name. Contains roots name) loaded.roots
  pub absent_are : AreThose (λ name. IsAskedIn files roots name × (files name ≡ None)) loaded.absent
  pub ordered : AreInOrder (map (λ (text : NamedText). text.0) loaded.texts)
  pub texts : All (IsTextOf files roots) loaded.texts
  pub all : (name bytes : List ℕ) → IsAskedIn files roots name → files name ≡ Some bytes → Contains loaded.texts (name, bytes)
  pub facts : AllZip (λ (text : NamedText) (facts : Facts). HasFacts text.0 text.1 facts) loaded.texts loaded.files
  pub there : (name : List ℕ) → Contains roots name → files name ≡ None → ⊥
  pub few : length loaded.texts + length loaded.absent ≤ MOST_FILES
  pub within : AreWithin files (map (λ (text : NamedText). text.0) loaded.texts)

-- over some map of files and for some roots this is what was loaded
pub record WasLoaded (loaded : LoadedFiles) : Type 0 where
  pub files : Files
  pub roots : List (List ℕ)
  pub is : IsLoaded files roots loaded

-- a root that isn't there
pub record IsNoRoot (files : Files) (roots : List (List ℕ)) (fault : Fault) : Type 0 where
  pub root : Contains roots fault.file
  pub none : files fault.file ≡ None
  pub cause : fault.cause ≡ NoRoot
  pub offset : fault.offset ≡ 0
  pub place : fault.place ≡ record { line = 0; column = 0 }

-- the fault of an asked file, with its place
pub record IsOfFile (files : Files) (roots : List (List ℕ)) (fault : Fault) : Type 0 where
  pub asked : IsAskedIn files roots fault.file
  pub text : List ℕ
  pub there : files fault.file ≡ Some text
  pub has : HasFault fault.file text (record { cause = fault.cause; offset = fault.offset })
  pub stands : IsPlace text fault.offset fault.place

abbrev pub IsLoadFault : Files → List (List ℕ) → Fault → Type 0
IsLoadFault files roots fault = IsNoRoot files roots fault ⊎ IsOfFile files roots fault

-- the load faults in order of file, one for each file
pub record AreLoadFaults (files : Files) (roots : List (List ℕ)) (faults : List Fault) : Type 0 where
  pub ordered : AreInOrder (map (λ (fault : Fault). fault.file) faults)
  pub sound : All (IsLoadFault files roots) faults
  pub all : (fault : Fault) → IsLoadFault files roots fault → Contains faults fault
