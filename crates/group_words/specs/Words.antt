-- The words of the command line: the parts that they spell, and what these give.
use Rattle.std.specs.Prelude.{◌≡◌, ℕ, ◌==◌, ◌&&◌, Bool, true, false, not, List, [], ◌∷◌, ◌++◌, Option, Some, None, All, if◌then◌else◌, codes, flat_map}
use Rattle.std.specs.Str.{bytes_eq}

-- the options
pub data Key : Type 0 where
  Jobs : Key
  Searches : Key
  Seed : Key
  Roots : Key
  Path : Key
  Order : Key
  Unreached : Key
  Effects : Key
  Loops : Key
  Stream : Key
  Make : Key

abbrev pub key_name : Key → List ℕ
key_name Jobs = codes "jobs"
key_name Searches = codes "searches"
key_name Seed = codes "seed"
key_name Roots = codes "roots"
key_name Path = codes "path"
key_name Order = codes "order"
key_name Unreached = codes "unreached"
key_name Effects = codes "effects"
key_name Loops = codes "loops"
key_name Stream = codes "stream"
key_name Make = codes "make"

abbrev pub takes_value : Key → Bool
takes_value Order = false
takes_value Unreached = false
takes_value Effects = false
takes_value Loops = false
takes_value Stream = false
takes_value _ = true

abbrev pub same_key : Key → Key → Bool
same_key a b = bytes_eq (key_name a) (key_name b)

-- not empty, and not with a `-` first
abbrev pub is_plain : List ℕ → Bool
is_plain [] = false
is_plain (b ∷ more) = not (b == 45)

-- the words that belong together: a file; an option without a value; one whose value is the next word, or stands behind `=`
pub data Part : Type 0 where
  file : List ℕ → Part
  flag : Key → Part
  apart : Key → List ℕ → Part
  joined : Key → List ℕ → Part

abbrev pub option_word : Key → List ℕ
option_word key = codes "--" ++ key_name key

abbrev pub part_words : Part → List (List ℕ)
part_words (file word) = word ∷ []
part_words (flag key) = option_word key ∷ []
part_words (apart key value) = option_word key ∷ value ∷ []
part_words (joined key value) = (option_word key ++ codes "=" ++ value) ∷ []

abbrev pub IsPart : Part → Type 0
IsPart (file word) = is_plain word ≡ true
IsPart (flag key) = takes_value key ≡ false
IsPart (apart key value) = (takes_value key ≡ true) × (is_plain value ≡ true)
IsPart (joined key value) = (takes_value key ≡ true) × (is_plain value ≡ true)

-- behind `--` each word is a file, but for the empty one and `-`
abbrev pub is_file : List ℕ → Bool
is_file word = not (bytes_eq word []) && not (bytes_eq word (codes "-"))

-- the `--` with the words behind it, where there is one
abbrev pub rest_words : Option (List (List ℕ)) → List (List ℕ)
rest_words None = []
rest_words (Some words) = codes "--" ∷ words

abbrev pub rest_files : Option (List (List ℕ)) → List (List ℕ)
rest_files None = []
rest_files (Some words) = words

-- the values that a part gives an option; one without a value gives the empty text
abbrev pub part_values : Key → Part → List (List ℕ)
part_values key (file word) = []
part_values key (flag own) = if same_key own key then [] ∷ [] else []
part_values key (apart own value) = if same_key own key then value ∷ [] else []
part_values key (joined own value) = if same_key own key then value ∷ [] else []

abbrev pub part_files : Part → List (List ℕ)
part_files (file word) = word ∷ []
part_files _ = []

abbrev pub values : Key → List Part → List (List ℕ)
values key parts = flat_map (part_values key) parts

abbrev pub as_list : {A : Type 0} → Option A → List A
as_list None = []
as_list (Some x) = x ∷ []

-- the words spell parts, each option at most once: what each option is given, and the words for files in order
pub record IsReading (words : List (List ℕ)) (given : Key → Option (List ℕ)) (files : List (List ℕ)) : Type 0 where
  pub parts : List Part
  pub rest : Option (List (List ℕ))
  pub spell : words ≡ flat_map part_words parts ++ rest_words rest
  pub lawful : All IsPart parts
  pub lawful_rest : All (λ word. is_file word ≡ true) (rest_files rest)
  pub once : (key : Key) → values key parts ≡ as_list (given key)
  pub are : files ≡ flat_map part_files parts ++ rest_files rest
