-- The command as clap builds it: what it has under which names.
use Rattle.std.proofs.Common.{if◌then◌else◌, ◌≡◌, ◌||◌, ◌&&◌, ℕ, Bool, true, false, not, List, [], ◌∷◌, ◌++◌, map, Option, Some, None, option_map, is_some, refl, codes}
use Rattle.std.specs.List.{find}
use Rattle.std.specs.Str.{bytes_eq}
use Rattle.clap.specs.declared.builder.action.ArgAction.{ArgAction}
use Rattle.clap.specs.declared.builder.action.ArgAction.TheVariants.{Set, Append, SetTrue}
use Rattle.clap.specs.declared.builder.range.ValueRange.{ValueRange}
use Rattle.clap.specs.declared.builder.value_parser.ValueParser.{ValueParser}
use Rattle.clap.specs.declared.builder.value_parser.ValueParser.TheVariants as vp
use Rattle.clap.specs.Walk.{Rule, Text, arg_by_id, arg_by_index, arg_by_long, arg_by_short, has_long, takes_values}
use Rattle.clap.specs.Simple.{Shape, built}
use Rattle.group_words.specs.Words.{Key, Jobs, Searches, Seed, Roots, Path, Order, Unreached, Effects, Loops, Stream, Make, key_name, takes_value}
use Rattle.group_words.specs.ClapCommand.{words_app}

abbrev pub range_for : Bool → ValueRange
range_for true = record { start_inclusive = 1; end_inclusive = 1 }
range_for false = record { start_inclusive = 0; end_inclusive = 0 }

abbrev pub action_for : Bool → ArgAction
action_for true = Set
action_for false = SetTrue

abbrev pub defaults_for : Bool → List Text
defaults_for true = []
defaults_for false = codes "false" ∷ []

abbrev pub missing_for : Bool → List Text
missing_for true = []
missing_for false = codes "true" ∷ []

abbrev pub value_parser_for : Bool → ValueParser
value_parser_for true = vp.String
value_parser_for false = vp.Bool

-- the rule of an option
abbrev pub rule_at : Key → Rule
rule_at key = record {
  id = key_name key;
  long = Some (key_name key);
  aliases = [];
  short = None;
  short_aliases = [];
  index = None;
  action = Some (action_for (takes_value key));
  range = Some (range_for (takes_value key));
  value_names = 0;
  defaults = defaults_for (takes_value key);
  missing = missing_for (takes_value key);
  trailing_var_arg = false;
  parser = Some (value_parser_for (takes_value key));
  ignore_case = false;
  required = false;
  is_simple = true;
  is_free = true;
}

abbrev pub file_id : Text
file_id = codes "file"

-- the rule of the words for files
abbrev pub file_rule : Rule
file_rule = record {
  id = file_id;
  long = None;
  aliases = [];
  short = None;
  short_aliases = [];
  index = Some 1;
  action = Some Append;
  range = Some (range_for true);
  value_names = 0;
  defaults = [];
  missing = [];
  trailing_var_arg = false;
  parser = Some vp.String;
  ignore_case = false;
  required = false;
  is_simple = true;
  is_free = true;
}

abbrev pub all_keys : List Key
all_keys = Jobs ∷ Searches ∷ Seed ∷ Roots ∷ Path ∷ Order ∷ Unreached ∷ Effects ∷ Loops ∷ Stream ∷ Make ∷ []

-- the option of a name
abbrev pub called : Text → Option Key
called name = find (λ key. bytes_eq (key_name key) name) all_keys

abbrev pub shape : Shape
shape = (built words_app).top

pub rules_are : shape.rules ≡ map rule_at all_keys ++ file_rule ∷ []
rules_are = refl

-- what the steps of a walk ask of a command
pub record HasKeys (s : Shape) : Type 0 where
  pub by_long : (name : Text) → arg_by_long s.rules name ≡ option_map rule_at (called name)
  pub by_short : (x : ℕ) → arg_by_short s.rules x ≡ None
  pub by_index : arg_by_index s.rules 1 ≡ Some file_rule
  pub by_key : (key : Key) → arg_by_id s.rules (key_name key) ≡ Some (rule_at key)
  pub by_file : arg_by_id s.rules file_id ≡ Some file_rule
  pub again : s.args_override_self ≡ false

or_false : (b : Bool) → (b || false) ≡ b
or_false true = refl
or_false false = refl

-- rules in a list are found as their keys are
found_by : (p : Rule → Bool) (q : Key → Bool) → ((key : Key) → p (rule_at key) ≡ q key) → p file_rule ≡ false → (keys : List Key)
    → find p (map rule_at keys ++ file_rule ∷ []) ≡ option_map rule_at (find q keys)
found_by p q same no_file [] = rw no_file refl
found_by p q same no_file (key ∷ keys) = go (q key) (same key) (found_by p q same no_file keys)
  where
    go : (b : Bool) → p (rule_at key) ≡ b → find p (map rule_at keys ++ file_rule ∷ []) ≡ option_map rule_at (find q keys)
        → find p (map rule_at (key ∷ keys) ++ file_rule ∷ []) ≡ option_map rule_at (if b then Some key else find q keys)
    go true e rest = rw e refl
    go false e rest = rw e rest

pub keys : HasKeys shape
keys = record {
  by_long = λ name. found_by (λ a. not (is_some a.index) && has_long a name) (λ key. bytes_eq (key_name key) name) (λ key. or_false (bytes_eq (key_name key) name)) refl all_keys;
  by_short = λ x. refl;
  by_index = refl;
  by_key = by_key;
  by_file = refl;
  again = refl;
}
  where
    by_key : (key : Key) → arg_by_id shape.rules (key_name key) ≡ Some (rule_at key)
    by_key Jobs = refl
    by_key Searches = refl
    by_key Seed = refl
    by_key Roots = refl
    by_key Path = refl
    by_key Order = refl
    by_key Unreached = refl
    by_key Effects = refl
    by_key Loops = refl
    by_key Stream = refl
    by_key Make = refl

-- whether an option takes a value, as clap sees it
pub takes : (key : Key) (b : Bool) → takes_value key ≡ b → takes_values (rule_at key) ≡ b
takes key true e = rw e refl
takes key false e = rw e refl

-- each option has its own name
pub called_own : (key : Key) → called (key_name key) ≡ Some key
called_own Jobs = refl
called_own Searches = refl
called_own Seed = refl
called_own Roots = refl
called_own Path = refl
called_own Order = refl
called_own Unreached = refl
called_own Effects = refl
called_own Loops = refl
called_own Stream = refl
called_own Make = refl

-- no option is named as the words for files are
pub not_file : (key : Key) → bytes_eq (key_name key) file_id ≡ false
not_file Jobs = refl
not_file Searches = refl
not_file Seed = refl
not_file Roots = refl
not_file Path = refl
not_file Order = refl
not_file Unreached = refl
not_file Effects = refl
not_file Loops = refl
not_file Stream = refl
not_file Make = refl

pub file_not : (key : Key) → bytes_eq file_id (key_name key) ≡ false
file_not Jobs = refl
file_not Searches = refl
file_not Seed = refl
file_not Roots = refl
file_not Path = refl
file_not Order = refl
file_not Unreached = refl
file_not Effects = refl
file_not Loops = refl
file_not Stream = refl
file_not Make = refl
