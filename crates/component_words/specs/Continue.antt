-- What further words set, after what those before them gave.
use Rattle.std.specs.Prelude.{◌≡◌, ℕ, ◌⊎◌, ◌↔◌, List, ◌∷◌, ◌++◌, [], Bool, true, false, Option, None, Some, All, is_some}
use Rattle.component_words.specs.declared.flag.Flag.{Flag}
use Rattle.component_words.specs.declared.reader.Next.{Next}
use Rattle.component_words.specs.declared.reader.Next.TheVariants as next
use Rattle.component_words.specs.declared.reader.Reader.{Reader}
use Rattle.component_words.specs.Settings.{AreSettings, Given, Settings, Spelling, given_by, nothing_given}
use Rattle.component_words.specs.Words.{is_filled, is_given, is_plain, job_value, root_value}
use Rattle.component_words.specs.declared.valued.Valued.{Valued}
use Rattle.component_words.specs.declared.valued.Valued.TheVariants.{Jobs}

abbrev pub as_list : Option (List ℕ) → List (List ℕ)
as_list None = []
as_list (Some text) = text ∷ []

abbrev pub given_of : Reader → Given
given_of reader = record { flags = reader.flags.items; roots = reader.roots.items; jobs = as_list reader.jobs; operands = as_list reader.file }

-- any words
pub record GoOn (before : Given) (words : List (List ℕ)) (settings : Settings) : Type 0 where
  pub spelling : Spelling words
  pub set : AreSettings (given_by before spelling.parts spelling.rest) settings

abbrev pub with_value : Given → Valued → List ℕ → Given
with_value given valued value = record {
  flags = given.flags;
  roots = given.roots ++ root_value valued value;
  jobs = given.jobs ++ job_value valued value;
  operands = given.operands;
}

abbrev pub with_operands : Given → List (List ℕ) → Given
with_operands given words = record { flags = given.flags; roots = given.roots; jobs = given.jobs; operands = given.operands ++ words }

-- the value of an option, and any words
pub record GoOnByValue (valued : Valued) (before : Given) (words : List (List ℕ)) (settings : Settings) : Type 0 where
  pub value : List ℕ
  pub rest : List (List ℕ)
  pub are : words ≡ value ∷ rest
  pub plain : is_plain value ≡ true
  pub on : GoOn (with_value before valued value) rest settings

-- operands
pub record GoOnByOperands (before : Given) (words : List (List ℕ)) (settings : Settings) : Type 0 where
  pub filled : All (λ word. is_filled word ≡ true) words
  pub set : AreSettings (with_operands before words) settings

abbrev pub GoOnBy : Next → Given → List (List ℕ) → Settings → Type 0
GoOnBy next.Any before words settings = GoOn before words settings
GoOnBy (next.Value valued) before words settings = GoOnByValue valued before words settings
GoOnBy next.Operand before words settings = GoOnByOperands before words settings

abbrev pub Continues : Reader → List (List ℕ) → Settings → Type 0
Continues reader words settings = GoOnBy reader.next (given_of reader) words settings

abbrev pub with_flag : Given → Flag → Given
with_flag given flag = record { flags = given.flags ++ flag ∷ []; roots = given.roots; jobs = given.jobs; operands = given.operands }

-- an operand is kept, or it is empty or one too many
abbrev pub TakesOperand : Reader → List ℕ → Reader → Bool → Type 0
TakesOperand old word new true =
    (is_filled word ≡ true) × (old.file ≡ None) × (new.next ≡ old.next) × (given_of new ≡ with_operands (given_of old) (word ∷ []))
TakesOperand old word new false = (is_filled word ≡ false) ⊎ (is_some old.file ≡ true)

-- a value is kept, or it is one too many: the second one of `--jobs`
abbrev pub TakesValue : Reader → Valued → List ℕ → Reader → Bool → Type 0
TakesValue old valued value new true = (new.next ≡ next.Any) × (given_of new ≡ with_value (given_of old) valued value)
TakesValue old valued value new false = (valued ≡ Jobs) × (is_some old.jobs ≡ true)

-- a flag is kept, or it was given before
abbrev pub TakesFlag : Reader → Flag → Reader → Bool → Type 0
TakesFlag old flag new true =
    (is_given old.flags.items flag ≡ false) × (new.next ≡ old.next) × (given_of new ≡ with_flag (given_of old) flag)
TakesFlag old flag new false = is_given old.flags.items flag ≡ true

-- the word is taken: what the further words set stays the same; or none that begin with it are lawful
abbrev pub Takes : Reader → List ℕ → Reader → Bool → Type 0
Takes old word new true = (rest : List (List ℕ)) (settings : Settings) → Continues old (word ∷ rest) settings ↔ Continues new rest settings
Takes old word new false = (rest : List (List ℕ)) (settings : Settings) → Continues old (word ∷ rest) settings → ⊥

-- no word was taken
pub record IsNewReader (reader : Reader) : Type 0 where
  pub any : reader.next ≡ next.Any
  pub nothing : given_of reader ≡ nothing_given
