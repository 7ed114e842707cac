-- The options that are lawful, and what they are by what each option of the words is given.
use Rattle.std.specs.Prelude.{◌≡◌, ◌≢◌, ℕ, ◌≤◌, ◌<◌, ◌^◌, Bool, true, false, not, List, [], ◌∷◌, Option, Some, None, All, is_some, option_map, map, filter}
use Rattle.std.specs.Prelude.{IfSome}
use Rattle.std.specs.Borrow.{Bor}
use Rattle.std.specs.BTreeSet.{BTreeSet, contains}
use Rattle.std.specs.Cmp.Lexicographic.{slice_cmp}
use Rattle.std.specs.List.{IsDistinct, list_any}
use Rattle.std.specs.Ordering.{nat_cmp}
use Rattle.std.specs.Str.{bytes_eq}
use Rattle.module_table.specs.FileName.{resolved}
use Rattle.import_rules.specs.declared.names.PredName.{PredName}
use Rattle.group_words.specs.declared.options.Options.{Options}
use Rattle.group_words.specs.Words.{Key, Jobs, Searches, Seed, Roots, Path, Order, Unreached, Effects, Loops, Stream, Make, IsReading}
use Rattle.group_words.specs.declared.limits.TheConstants.{MOST_MADE, MOST_WORKERS}
use Rattle.argument_numbers.specs.Numbers.{IsNumberIn}
use Rattle.group_words.specs.RootList.{IsRootList, all_there}

-- the options as a list of words sets them
pub record Settings : Type 0 where
  pub jobs : ℕ
  pub searches : Option (ℕ × ℕ)
  pub roots : Option (List PredName)
  pub order : Bool
  pub unreached : Bool
  pub effects : Bool
  pub loops : Bool
  pub stream : Bool
  pub path : Option (PredName × PredName)
  pub make : Option ℕ
  pub files : List (List ℕ)

-- what is seen of options
abbrev pub see_options : Options → Settings
see_options options = record {
  jobs = options.jobs;
  searches = options.searches;
  roots = option_map (λ roots. roots.items) options.roots;
  order = options.order;
  unreached = options.unreached;
  effects = options.effects;
  loops = options.loops;
  stream = options.stream;
  path = options.path;
  make = options.make;
  files = options.files.items;
}

-- the text that an option was given
abbrev pub text_of : Option (Bor (List ℕ)) → Option (List ℕ)
text_of lent = option_map (λ t. t.now) lent

-- 1, or the number that is given
abbrev pub JobsAre : Option (List ℕ) → ℕ → Type 0
JobsAre None jobs = jobs ≡ 1
JobsAre (Some text) jobs = IsNumberIn 1 MOST_WORKERS text jobs

-- both or none
abbrev pub SearchesAre : Option (List ℕ) → Option (List ℕ) → Option (ℕ × ℕ) → Type 0
SearchesAre None None None = Unit {0}
SearchesAre (Some searches) (Some seed) (Some both) = IsNumberIn 1 MOST_WORKERS searches both.0 × IsNumberIn 0 18446744073709551615 seed both.1
SearchesAre searches seed both = ⊥

abbrev pub RootsAre : Option (List ℕ) → Option (List PredName) → Type 0
RootsAre None None = Unit {0}
RootsAre (Some text) (Some roots) = IsRootList text roots
RootsAre text roots = ⊥

-- the list has just these two
abbrev pub PathIs : Option (List ℕ) → Option (PredName × PredName) → Type 0
PathIs None None = Unit {0}
PathIs (Some text) (Some both) = IsRootList text (both.0 ∷ both.1 ∷ [])
PathIs text both = ⊥

abbrev pub MakeIs : Option (List ℕ) → Option ℕ → Type 0
MakeIs None None = Unit {0}
MakeIs (Some text) (Some count) = IsNumberIn 1 MOST_MADE text count
MakeIs text count = ⊥

-- the texts in order, each once
abbrev pub each_once : List (List ℕ) → List (List ℕ)
each_once [] = []
each_once (x ∷ xs) = x ∷ filter (λ y. not (bytes_eq x y)) (each_once xs)

-- the names that the words for files resolve to, each once
pub record FilesAre (words named : List (List ℕ)) : Type 0 where
  pub names : List (List ℕ)
  pub resolve : all_there (map (resolved []) words) ≡ Some names
  pub each : named ≡ each_once names

-- what excludes what
pub record GoTogether (given : Key → Option (List ℕ)) (files : List (List ℕ)) : Type 0 where
  pub one_way : is_some (given Searches) ≡ true → given Jobs ≡ None
  pub streamed : is_some (given Stream) ≡ true → (is_some (given Order) ≡ true) × (given Searches ≡ None)
  pub made : is_some (given Make) ≡ true
      → (given Roots ≡ None) × (given Path ≡ None) × (given Order ≡ None) × (given Unreached ≡ None) × (given Effects ≡ None)
      × (given Loops ≡ None) × (files ≡ [])
  pub read : given Make ≡ None → files ≢ []

pub record AreSettings (given : Key → Option (List ℕ)) (files : List (List ℕ)) (s : Settings) : Type 0 where
  pub together : GoTogether given files
  pub jobs : JobsAre (given Jobs) s.jobs
  pub searches : SearchesAre (given Searches) (given Seed) s.searches
  pub roots : RootsAre (given Roots) s.roots
  pub order : s.order ≡ is_some (given Order)
  pub unreached : s.unreached ≡ is_some (given Unreached)
  pub effects : s.effects ≡ is_some (given Effects)
  pub loops : s.loops ≡ is_some (given Loops)
  pub stream : s.stream ≡ is_some (given Stream)
  pub path : PathIs (given Path) s.path
  pub make : MakeIs (given Make) s.make
  pub named : FilesAre files s.files

-- the words are lawful, and set these options
pub record AreLawful (words : List (List ℕ)) (s : Settings) : Type 0 where
  pub given : Key → Option (List ℕ)
  pub files : List (List ℕ)
  pub reading : IsReading words given files
  pub sets : AreSettings given files s

-- what all lawful options keep to
pub record AreWithin (s : Settings) : Type 0 where
  pub jobs : (1 ≤ s.jobs) × (s.jobs ≤ MOST_WORKERS)
  pub searches : IfSome s.searches (λ both. (1 ≤ both.0) × (both.0 ≤ MOST_WORKERS) × (both.1 < 2 ^ 64) × (s.jobs ≡ 1))
  pub roots : IfSome s.roots (All (λ root. root.arity < 2 ^ 32))
  pub streamed : s.stream ≡ true → (s.order ≡ true) × (s.searches ≡ None)
  pub path : IfSome s.path (λ both. (both.0.arity < 2 ^ 32) × (both.1.arity < 2 ^ 32))
  pub make : IfSome s.make (λ count. (1 ≤ count) × (count ≤ MOST_MADE))
  pub made : is_some s.make ≡ true
      → (s.roots ≡ None) × (s.path ≡ None) × (s.order ≡ false) × (s.unreached ≡ false) × (s.effects ≡ false) × (s.loops ≡ false)
      × (s.files ≡ [])
  pub read : s.make ≡ None → s.files ≢ []
  pub once : IsDistinct bytes_eq s.files

-- whether the text is among them
abbrev pub is_in : List ℕ → List (List ℕ) → Bool
is_in text texts = list_any (λ x. bytes_eq x text) texts

-- the set has these names, and those that are kept are they, each once
pub record IsKept (names : List (List ℕ)) (seen : BTreeSet (List ℕ)) (kept : List (List ℕ)) : Type 0 where
  pub each : kept ≡ each_once names
  pub has : (name : List ℕ) → contains (slice_cmp nat_cmp) seen name ≡ is_in name names
