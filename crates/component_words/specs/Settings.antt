-- Which words of a command line are lawful, and what they set.
use Rattle.std.specs.Prelude.{◌≡◌, ℕ, ◌⊎◌, List, [], ◌∷◌, ◌++◌, Option, Bool, true, false, All, AllPairs, codes}
use Rattle.std.specs.List.{flat_map}
use Rattle.component_words.specs.declared.flag.Flag.{Flag}
use Rattle.component_words.specs.declared.flag.Flag.TheVariants.{Order, Json, Loops, FromJson}
use Rattle.component_words.specs.declared.settings.Settings.{Settings as SettingsOf}
use Rattle.argument_numbers.specs.Numbers.{IsNumberIn}
use Rattle.component_words.specs.declared.settings.TheConstants.{MOST_JOBS}
use Rattle.component_words.specs.Words.{Part, IsPart, is_filled, is_given, part_files, part_flags, part_jobs, part_roots, part_words}
use Rattle.component_words.specs.Words.{rest_files, rest_words, same_flag}

-- what words set
pub record Settings : Type 0 where
  pub order : Bool
  pub json : Bool
  pub loops : Bool
  pub from_json : Bool
  pub jobs : ℕ
  pub roots : List (List ℕ)
  pub file : List ℕ

abbrev pub see_settings : SettingsOf → Settings
see_settings settings = record {
  order = settings.order;
  json = settings.json;
  loops = settings.loops;
  from_json = settings.from_json;
  jobs = settings.jobs;
  roots = settings.roots.items;
  file = settings.file;
}

-- no operand is standard input, and one operand is the name of a file
abbrev pub AreFile : List (List ℕ) → List ℕ → Type 0
AreFile operands file = ((operands ≡ []) × (file ≡ codes "-")) ⊎ (operands ≡ file ∷ [])

-- no value of `--jobs` is one thread, and one value is a number from 1 to 64
abbrev pub AreJobs : List (List ℕ) → ℕ → Type 0
AreJobs values jobs = ((values ≡ []) × (jobs ≡ 1)) ⊎ ((word : List ℕ) × (values ≡ word ∷ []) × IsNumberIn 1 MOST_JOBS word jobs)

-- each of the flags is another
abbrev pub IsOnce : List Flag → Type 0
IsOnce flags = AllPairs (λ a b. same_flag a b ≡ false) flags

-- what words give: flags, names of roots, values of `--jobs`, operands
pub record Given : Type 0 where
  pub flags : List Flag
  pub roots : List (List ℕ)
  pub jobs : List (List ℕ)
  pub operands : List (List ℕ)

abbrev pub nothing_given : Given
nothing_given = record { flags = []; roots = []; jobs = []; operands = [] }

-- no flag is given twice, `--jobs` once or not at all, and there is one operand or none
pub record AreSettings (given : Given) (settings : Settings) : Type 0 where
  pub once : IsOnce given.flags
  pub order : settings.order ≡ is_given given.flags Order
  pub json : settings.json ≡ is_given given.flags Json
  pub loops : settings.loops ≡ is_given given.flags Loops
  pub from_json : settings.from_json ≡ is_given given.flags FromJson
  pub jobs : AreJobs given.jobs settings.jobs
  pub roots : settings.roots ≡ given.roots
  pub file : AreFile given.operands settings.file

-- the words spell parts, and behind `--` operands
pub record Spelling (words : List (List ℕ)) : Type 0 where
  pub parts : List Part
  pub rest : Option (List (List ℕ))
  pub spell : words ≡ flat_map part_words parts ++ rest_words rest
  pub lawful : All IsPart parts
  pub filled : All (λ word. is_filled word ≡ true) (rest_files rest)

-- what words that are spelled so give, after what was given before
abbrev pub given_by : Given → List Part → Option (List (List ℕ)) → Given
given_by before parts rest = record {
  flags = before.flags ++ flat_map part_flags parts;
  roots = before.roots ++ flat_map part_roots parts;
  jobs = before.jobs ++ flat_map part_jobs parts;
  operands = before.operands ++ flat_map part_files parts ++ rest_files rest;
}

-- the words are lawful, and set this
pub record AreLawful (words : List (List ℕ)) (settings : Settings) : Type 0 where
  pub spelling : Spelling words
  pub set : AreSettings (given_by nothing_given spelling.parts spelling.rest) settings

abbrev pub IsUnlawful : List (List ℕ) → Type 0
IsUnlawful words = (settings : Settings) → AreLawful words settings → ⊥
