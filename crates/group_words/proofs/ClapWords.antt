-- What clap says of the whole command line: its faults are those of the walk, and its matches the rows of the walk with the defaults of two options.
use Rattle.std.proofs.Common.{if◌then◌else◌, ◌≡◌, ◌||◌, Bool, true, false, List, [], ◌∷◌, ◌++◌, map, Option, Some, None, is_some, unwrap_or, refl, ap, ap₂, sym, ◌∙◌, codes, fold}
use Rattle.std.specs.List.{list_any}
use Rattle.std.specs.Str.{bytes_eq}
use Rattle.clap.specs.declared.parser.matches.ValueSource.TheVariants.{DefaultValue}
use Rattle.clap.specs.Walk.{Row, Rule, Text, all_of, default_rows, has_row, idle, reading_by, with_default}
use Rattle.clap.specs.Simple.{built, entered, matches_of}
use Rattle.clap.specs.Kinds.{Kinds, or_else}
use Rattle.clap.specs.Faults.{default_fault, defaults_fault, entered_fault, fault_of, level_fault, walk_fault}
use Rattle.group_words.specs.Words.{Key, Jobs, Searches, Seed, Roots, Path, Order, Unreached, Effects, Loops, Stream, Make, key_name, same_key, takes_value}
use Rattle.group_words.specs.ClapCommand.{words_app}
use Rattle.group_words.proofs.WordRules.{all_keys, called_own, file_id, file_not, file_rule, not_file, rule_at, shape}
use Rattle.group_words.proofs.WordClasses.{eq_text}
use Rattle.group_words.proofs.WalkSteps.{at}
use Rattle.group_words.proofs.WalkGoes.{or_else_none, total_fault, total_rows}
use Rattle.group_words.proofs.WalkRows.{has_all, values_here, values_there}

-- no subcommand is entered
entered_none : (stop : Option (Text × List Text)) → is_some (entered (built words_app) stop) ≡ false
entered_none None = refl
entered_none (Some p) = refl

entered_fine : (stop : Option (Text × List Text)) → entered_fault (built words_app) stop ≡ []
entered_fine None = refl
entered_fine (Some p) = refl

or_true : (b : Bool) → (b || true) ≡ true
or_true true = refl
or_true false = refl

same_if : {A : Type 0} (b : Bool) (x : A) → (if b then x else x) ≡ x
same_if true x = refl
same_if false x = refl

-- no default is refused
default_fine : (rows : List Row) (key : Key) (b : Bool) → takes_value key ≡ b → default_fault rows (rule_at key) ≡ []
default_fine rows key true e = rw (e, or_true (has_row (key_name key) rows)) refl
default_fine rows key false e = rw e (same_if (has_row (key_name key) rows || false) [])

defaults_fine : (keys : List Key) (rows : List Row) → defaults_fault rows (map rule_at keys ++ file_rule ∷ []) ≡ []
unfolding defaults_fault
defaults_fine [] rows = rw (or_true (has_row file_id rows)) refl
defaults_fine (key ∷ keys) rows = ap₂ or_else (default_fine rows key (takes_value key) refl) (defaults_fine keys (with_default rows (rule_at key)))

pub fault_is : (words : List Text) → fault_of words_app words ≡ total_fault shape (at [] None idle false) words
fault_is words = go _ _ (entered_none _) (entered_fine _)
  where
    go : (has : Bool) (below : Kinds) → has ≡ false → below ≡ []
        → level_fault shape [] Rattle.clap.specs.Walk.nothing_held words has below ≡ total_fault shape (at [] None idle false) words
    go has below none fine = rw (none, fine, defaults_fine all_keys (total_rows shape (at [] None idle false) words)) (ap (or_else (walk_fault shape [] (at [] None idle false) words)) (or_else_none _))

abbrev with_defaults : List Row → List Row
with_defaults rows = fold with_default rows shape.rules

pub matches_are : (words : List Text) → matches_of words_app words ≡ with_defaults (total_rows shape (at [] None idle false) words)
matches_are words = refl

-- a default says nothing of other arguments
default_there : (rows : List Row) (a : Rule) (id : Text) → bytes_eq a.id id ≡ false → all_of id (with_default rows a) ≡ all_of id rows
default_there rows a id differs = go (has_row a.id rows) a.defaults
  where
    go : (b : Bool) (defaults : List Text) → all_of id (if b then rows else default_rows a.id (reading_by a) defaults rows) ≡ all_of id rows
    go true defaults = refl
    go false [] = refl
    go false (v ∷ vs) = values_there a.id (reading_by a) DefaultValue id differs (v ∷ vs) rows

pub key_same : (own key : Key) → same_key own key ≡ true → own ≡ key
key_same own key e =
    let both : Some own ≡ Some key = sym (called_own own) ∙ (ap Rattle.group_words.proofs.WordRules.called (eq_text (key_name own) (key_name key) e) ∙ called_own key) in cc

-- an option that takes a value has no default
default_valued : (rows : List Row) (own key : Key) → takes_value key ≡ true → all_of (key_name key) (with_default rows (rule_at own)) ≡ all_of (key_name key) rows
default_valued rows own key valued = go (same_key own key) refl
  where
    go : (b : Bool) → same_key own key ≡ b → all_of (key_name key) (with_default rows (rule_at own)) ≡ all_of (key_name key) rows
    go false e = default_there rows (rule_at own) (key_name key) e
    go true e =
        let takes : takes_value own ≡ true = ap takes_value (key_same own key e) ∙ valued in
        rw takes (ap (all_of (key_name key)) (same_if (has_row (key_name own) rows) rows))

file_default : (rows : List Row) → with_default rows file_rule ≡ rows
file_default rows = same_if (has_row file_id rows) rows

valued_keys : (key : Key) → takes_value key ≡ true → (keys : List Key) (rows : List Row)
    → all_of (key_name key) (fold with_default rows (map rule_at keys ++ file_rule ∷ [])) ≡ all_of (key_name key) rows
valued_keys key valued [] rows = ap (all_of (key_name key)) (file_default rows)
valued_keys key valued (own ∷ keys) rows = valued_keys key valued keys (with_default rows (rule_at own)) ∙ default_valued rows own key valued

pub valued_kept : (key : Key) → takes_value key ≡ true → (rows : List Row) → all_of (key_name key) (with_defaults rows) ≡ all_of (key_name key) rows
valued_kept key valued rows = valued_keys key valued all_keys rows

file_keys : (keys : List Key) (rows : List Row) → all_of file_id (fold with_default rows (map rule_at keys ++ file_rule ∷ [])) ≡ all_of file_id rows
file_keys [] rows = ap (all_of file_id) (file_default rows)
file_keys (own ∷ keys) rows = file_keys keys (with_default rows (rule_at own)) ∙ default_there rows (rule_at own) file_id (not_file own)

pub files_kept : (rows : List Row) → all_of file_id (with_defaults rows) ≡ all_of file_id rows
files_kept rows = file_keys all_keys rows

-- an option without a value is `false` where it isn't there
abbrev pub or_unset : Option (List Text) → Option (List Text)
or_unset o = Some (unwrap_or o (codes "false" ∷ []))

default_flag : (rows : List Row) (key : Key) → takes_value key ≡ false → all_of (key_name key) (with_default rows (rule_at key)) ≡ or_unset (all_of (key_name key) rows)
default_flag rows key bare = rw bare (go (has_row (key_name key) rows) (all_of (key_name key) rows) refl (has_all (key_name key) rows))
  where
    go : (b : Bool) (o : Option (List Text)) → all_of (key_name key) rows ≡ o → b ≡ is_some o
        → all_of (key_name key) (if b then rows else default_rows (key_name key) (Rattle.clap.specs.Values.reading_of Rattle.clap.specs.declared.builder.value_parser.ValueParser.TheVariants.Bool) (codes "false" ∷ []) rows) ≡ or_unset o
    go true None is e = let both : true ≡ false = e in cc
    go true (Some vs) is e = is
    go false None is e =
        values_here (key_name key) (Rattle.clap.specs.Values.reading_of Rattle.clap.specs.declared.builder.value_parser.ValueParser.TheVariants.Bool) DefaultValue (codes "false") rows
        ∙ ap (λ o. Some (unwrap_or o [] ++ (codes "false" ∷ []))) is
    go false (Some vs) is e = let both : false ≡ true = e in cc

flag_keys : (key : Key) → takes_value key ≡ false → (keys : List Key) (rows : List Row)
    → all_of (key_name key) (fold with_default rows (map rule_at keys ++ file_rule ∷ []))
    ≡ (if list_any (λ own. same_key own key) keys then or_unset (all_of (key_name key) rows) else all_of (key_name key) rows)
flag_keys key bare [] rows = ap (all_of (key_name key)) (file_default rows)
flag_keys key bare (own ∷ keys) rows = flag_keys key bare keys (with_default rows (rule_at own)) ∙ go (same_key own key) refl
  where
    twice : (b : Bool) (o : Option (List Text)) → (if b then or_unset (or_unset o) else or_unset o) ≡ or_unset o
    twice true o = refl
    twice false o = refl

    go : (b : Bool) → same_key own key ≡ b
        → (if list_any (λ k. same_key k key) keys then or_unset (all_of (key_name key) (with_default rows (rule_at own))) else all_of (key_name key) (with_default rows (rule_at own)))
        ≡ (if b || list_any (λ k. same_key k key) keys then or_unset (all_of (key_name key) rows) else all_of (key_name key) rows)
    go false e = ap (λ o. if list_any (λ k. same_key k key) keys then or_unset o else o) (default_there rows (rule_at own) (key_name key) e)
    go true e =
        let is : all_of (key_name key) (with_default rows (rule_at own)) ≡ or_unset (all_of (key_name key) rows) =
        ap (λ k. all_of (key_name key) (with_default rows (rule_at k))) (key_same own key e) ∙ default_flag rows key bare in
        ap (λ o. if list_any (λ k. same_key k key) keys then or_unset o else o) is ∙ twice (list_any (λ k. same_key k key) keys) (all_of (key_name key) rows)

pub flag_kept : (key : Key) → takes_value key ≡ false → (rows : List Row) → all_of (key_name key) (with_defaults rows) ≡ or_unset (all_of (key_name key) rows)
flag_kept Order bare rows = flag_keys Order refl all_keys rows
flag_kept Unreached bare rows = flag_keys Unreached refl all_keys rows
flag_kept Effects bare rows = flag_keys Effects refl all_keys rows
flag_kept Loops bare rows = flag_keys Loops refl all_keys rows
flag_kept Stream bare rows = flag_keys Stream refl all_keys rows
flag_kept Jobs bare rows = let both : true ≡ false = bare in cc
flag_kept Searches bare rows = let both : true ≡ false = bare in cc
flag_kept Seed bare rows = let both : true ≡ false = bare in cc
flag_kept Roots bare rows = let both : true ≡ false = bare in cc
flag_kept Path bare rows = let both : true ≡ false = bare in cc
flag_kept Make bare rows = let both : true ≡ false = bare in cc
