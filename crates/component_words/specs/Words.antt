-- The parts that words of a command line spell.
use Rattle.std.specs.Prelude.{◌≡◌, ℕ, ◌==◌, Bool, true, false, not, List, [], ◌∷◌, ◌++◌, Option, Some, None, codes}
use Rattle.std.specs.List.{list_any}
use Rattle.std.specs.Str.{bytes_eq}
use Rattle.component_words.specs.declared.flag.Flag.{Flag}
use Rattle.component_words.specs.declared.flag.Flag.TheVariants.{Order, Json, Loops, FromJson}
use Rattle.component_words.specs.declared.valued.Valued.{Valued}
use Rattle.component_words.specs.declared.valued.Valued.TheVariants.{Roots, Jobs}

abbrev pub flag_word : Flag → List ℕ
flag_word Order = codes "--order"
flag_word Json = codes "--json"
flag_word Loops = codes "--loops"
flag_word FromJson = codes "--from-json"

abbrev pub same_flag : Flag → Flag → Bool
same_flag a b = bytes_eq (flag_word a) (flag_word b)

-- the flag is among these
abbrev pub is_given : List Flag → Flag → Bool
is_given flags flag = list_any (λ other. same_flag other flag) flags

abbrev pub is_filled : List ℕ → Bool
is_filled [] = false
is_filled (b ∷ more) = true

-- not empty, and not with a `-` first
abbrev pub is_plain : List ℕ → Bool
is_plain [] = false
is_plain (b ∷ more) = not (b == 45)

-- a file, or `-` for standard input
abbrev pub is_operand : List ℕ → Bool
is_operand [] = false
is_operand (b ∷ []) = true
is_operand (b ∷ c ∷ more) = not (b == 45)

abbrev pub ends_word : List ℕ
ends_word = codes "--"

abbrev pub valued_word : Valued → List ℕ
valued_word Roots = codes "--roots"
valued_word Jobs = codes "--jobs"

-- the option and its value in one word
abbrev pub joined_word : Valued → List ℕ → List ℕ
joined_word Roots value = codes "--roots=" ++ value
joined_word Jobs value = codes "--jobs=" ++ value

-- the words that belong together: an operand; an option without a value; an option with its value in the next word, or behind `=`
pub data Part : Type 0 where
  operand : List ℕ → Part
  flag : Flag → Part
  apart : Valued → List ℕ → Part
  joined : Valued → List ℕ → Part

abbrev pub part_words : Part → List (List ℕ)
part_words (operand word) = word ∷ []
part_words (flag own) = flag_word own ∷ []
part_words (apart valued value) = valued_word valued ∷ value ∷ []
part_words (joined valued value) = joined_word valued value ∷ []

abbrev pub IsPart : Part → Type 0
IsPart (operand word) = is_operand word ≡ true
IsPart (flag own) = Unit {0}
IsPart (apart valued value) = is_plain value ≡ true
IsPart (joined valued value) = is_filled value ≡ true

-- the `--` with the words behind it, where there is one
abbrev pub rest_words : Option (List (List ℕ)) → List (List ℕ)
rest_words None = []
rest_words (Some words) = ends_word ∷ words

abbrev pub rest_files : Option (List (List ℕ)) → List (List ℕ)
rest_files None = []
rest_files (Some words) = words

abbrev pub part_flags : Part → List Flag
part_flags (flag own) = own ∷ []
part_flags part = []

-- the value, if the option is `--roots`
abbrev pub root_value : Valued → List ℕ → List (List ℕ)
root_value Roots value = value ∷ []
root_value Jobs value = []

-- the value, if the option is `--jobs`
abbrev pub job_value : Valued → List ℕ → List (List ℕ)
job_value Roots value = []
job_value Jobs value = value ∷ []

abbrev pub part_roots : Part → List (List ℕ)
part_roots (operand word) = []
part_roots (flag own) = []
part_roots (apart valued value) = root_value valued value
part_roots (joined valued value) = root_value valued value

abbrev pub part_jobs : Part → List (List ℕ)
part_jobs (operand word) = []
part_jobs (flag own) = []
part_jobs (apart valued value) = job_value valued value
part_jobs (joined valued value) = job_value valued value

abbrev pub part_files : Part → List (List ℕ)
part_files (operand word) = word ∷ []
part_files part = []
