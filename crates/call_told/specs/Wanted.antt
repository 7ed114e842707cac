-- What a run is asked for, and which words ask for it.
use Rattle.std.specs.Prelude.{◌≡◌, ℕ, ◌||◌, Bool, true, not, nat_eq, List, ◌++◌, drop, take, filter, count_by, codes}
use Rattle.std.specs.List.{list_all, position_or_len, starts_with}
use Rattle.std.specs.Str.{bytes_eq}
use Rattle.group_words.specs.Settings.{Settings, AreLawful, see_options}
use Rattle.call_told.specs.declared.wanted.Form.{Form}
use Rattle.call_told.specs.declared.wanted.Form.TheVariants.{Lines, Undefined, Dot, Condensed}
use Rattle.call_told.specs.declared.wanted.Wanted.{Wanted}

-- the form of what is written, and settings of `groups`: of these the roots, whether predicates that are not reached are told, and the files
pub record Asked : Type 0 where
  pub form : Form
  pub settings : Settings

abbrev pub see_wanted : Wanted → Asked
see_wanted wanted = record { form = wanted.form; settings = see_options wanted.options }

-- how often each word stands that names a form
pub record FormWords : Type 0 where
  pub undefined : ℕ
  pub dot : ℕ
  pub condensed : ℕ

-- the condensed graph takes two words, in any order
abbrev pub form_words : Form → FormWords
form_words Lines = record { undefined = 0; dot = 0; condensed = 0 }
form_words Undefined = record { undefined = 1; dot = 0; condensed = 0 }
form_words Dot = record { undefined = 0; dot = 1; condensed = 0 }
form_words Condensed = record { undefined = 0; dot = 1; condensed = 1 }

abbrev pub is_undefined : List ℕ → Bool
is_undefined word = bytes_eq word (codes "--undefined")

abbrev pub is_dot : List ℕ → Bool
is_dot word = bytes_eq word (codes "--dot")

abbrev pub is_condensed : List ℕ → Bool
is_condensed word = bytes_eq word (codes "--condensed")

abbrev pub count_forms : List (List ℕ) → FormWords
count_forms words = record { undefined = count_by is_undefined words; dot = count_by is_dot words; condensed = count_by is_condensed words }

abbrev pub is_form : List ℕ → Bool
is_form word = is_undefined word || (is_dot word || is_condensed word)

abbrev pub is_other : List ℕ → Bool
is_other word = not (is_form word)

-- a word that does not begin with `--`, or an option that `groups` takes too
abbrev pub is_shared : List ℕ → Bool
is_shared word =
    not (starts_with nat_eq word (codes "--"))
    || (bytes_eq word (codes "--roots") || (starts_with nat_eq word (codes "--roots=") || bytes_eq word (codes "--unreached")))

abbrev pub is_known : List ℕ → Bool
is_known word = is_form word || is_shared word

abbrev pub is_end : List ℕ → Bool
is_end word = bytes_eq word (codes "--")

-- how many words stand before the first `--`, and these
abbrev pub front_count : List (List ℕ) → ℕ
front_count words = position_or_len is_end words

abbrev pub front_words : List (List ℕ) → List (List ℕ)
front_words words = take (front_count words) words

-- all words but those before `--` that name a form
abbrev pub other_words : List (List ℕ) → List (List ℕ)
other_words words = filter is_other (front_words words) ++ drop (front_count words) words

-- before `--` just the words of the form name one, and no option stands there that is not known; with these settings `groups` takes all others
pub record AreAsked (words : List (List ℕ)) (asked : Asked) : Type 0 where
  pub one_form : count_forms (front_words words) ≡ form_words asked.form
  pub known : list_all is_known (front_words words) ≡ true
  pub lawful : AreLawful (other_words words) asked.settings

-- nothing is asked for: words are not lawful
abbrev pub IsNothingAsked : (Asked → Type 0) → Type 0
IsNothingAsked wanted = (asked : Asked) → wanted asked → ⊥
