-- The command as clap is told of it, and what its parse gives.
use Rattle.std.specs.Prelude.{◌≡◌, ◌&&◌, ℕ, List, [], Option, Some, None, Bool, true, false, if◌then◌else◌, map, option_map, unwrap_or, codes}
use Rattle.std.specs.Str.{bytes_eq}
use Rattle.clap.specs.Words.{App, Row, Rule, Text, all_of, first_of, new_app, new_rule, with_rule}
use Rattle.clap.specs.Simple.{on_top}
use Rattle.clap.specs.declared.builder.action.ArgAction.TheVariants.{Append, SetTrue}
use Rattle.group_words.specs.declared.given.Given.{Given}
use Rattle.group_words.specs.Words.{Key, Jobs, Searches, Seed, Roots, Path, Order, Unreached, Effects, Loops, Stream, Make, is_plain}

-- an option with a value, one without, and the words for files
abbrev pub asked_valued : Text → Rule
asked_valued name = record (new_rule name) { long = Some name }

abbrev pub asked_flag : Text → Rule
asked_flag name = record (new_rule name) { long = Some name; action = Some SetTrue }

abbrev pub asked_files : Rule
asked_files = record (new_rule (codes "file")) { action = Some Append }

-- the command without arguments: the words come without its name, and it has no help
abbrev pub bare_app : App
bare_app = on_top (λ s. record s { no_binary_name = true; disable_help_flag = true }) (new_app (codes "groups"))

abbrev pub with_valued : App → Text → App
with_valued app name = with_rule app (asked_valued name)

abbrev pub with_flag : App → Text → App
with_flag app name = with_rule app (asked_flag name)

abbrev pub words_app : App
words_app =
    let valued = with_valued (with_valued (with_valued (with_valued (with_valued bare_app (codes "jobs")) (codes "searches")) (codes "seed")) (codes "roots"))
    (codes "path") in
    with_rule
    (with_valued (with_flag (with_flag (with_flag (with_flag (with_flag valued (codes "order")) (codes "unreached")) (codes "effects")) (codes "loops"))
    (codes "stream")) (codes "make")) asked_files

-- whether an option is given, as what it is given
abbrev pub set_flag : Bool → Option (List ℕ)
set_flag set = if set then Some [] else None

-- what each option is given
abbrev pub given_of : Given → Key → Option (List ℕ)
given_of given Jobs = option_map (λ text. text.now) given.jobs
given_of given Searches = option_map (λ text. text.now) given.searches
given_of given Seed = option_map (λ text. text.now) given.seed
given_of given Roots = option_map (λ text. text.now) given.roots
given_of given Path = option_map (λ text. text.now) given.path
given_of given Order = set_flag given.order
given_of given Unreached = set_flag given.unreached
given_of given Effects = set_flag given.effects
given_of given Loops = set_flag given.loops
given_of given Stream = set_flag given.stream
given_of given Make = option_map (λ text. text.now) given.make

-- the words for files
abbrev pub file_words : Given → List (List ℕ)
file_words given = map (λ word. word.now) given.files.items

-- an option without a value is set where its value is `true`
abbrev pub is_set : Option (List ℕ) → Bool
is_set None = false
is_set (Some value) = bytes_eq value (codes "true")

-- the matches give these words
pub record IsGiven (rows : List Row) (given : Given) : Type 0 where
  pub jobs : given_of given Jobs ≡ first_of (codes "jobs") rows
  pub searches : given_of given Searches ≡ first_of (codes "searches") rows
  pub seed : given_of given Seed ≡ first_of (codes "seed") rows
  pub roots : given_of given Roots ≡ first_of (codes "roots") rows
  pub path : given_of given Path ≡ first_of (codes "path") rows
  pub order : given.order ≡ is_set (first_of (codes "order") rows)
  pub unreached : given.unreached ≡ is_set (first_of (codes "unreached") rows)
  pub effects : given.effects ≡ is_set (first_of (codes "effects") rows)
  pub loops : given.loops ≡ is_set (first_of (codes "loops") rows)
  pub stream : given.stream ≡ is_set (first_of (codes "stream") rows)
  pub make : given_of given Make ≡ first_of (codes "make") rows
  pub files : file_words given ≡ unwrap_or (all_of (codes "file") rows) []

-- a value that is given is plain
abbrev pub is_plain_value : Option (List ℕ) → Bool
is_plain_value None = true
is_plain_value (Some value) = is_plain value

abbrev pub has_plain_values : Given → Bool
has_plain_values given =
    is_plain_value (given_of given Jobs) && is_plain_value (given_of given Searches) && is_plain_value (given_of given Seed)
    && is_plain_value (given_of given Roots) && is_plain_value (given_of given Path) && is_plain_value (given_of given Make)
