-- One word of the command line, as clap's walk reads it.
use Rattle.std.proofs.Common.{◌≡◌, ◌==◌, ◌&&◌, ℕ, Bool, true, false, suc, List, [], ◌∷◌, length, Option, Some, None, slice_get, refl, sym, ◌∙◌, codes, arith}
use Rattle.std.specs.Str.{bytes_eq, chars}
use Rattle.std.proofs.lemmas.Bool.Decides.{nat_tests}
use Rattle.clap.specs.Lexer.{long_of, short_of}
use Rattle.clap.specs.Walk.{Held, Row, Text, Waiting, Walk, idle, option, positional, is_pending, settled_rows, subcommand_met, used, walked}
use Rattle.clap.specs.Simple.{Shape}
use Rattle.clap.specs.Kinds.{Kinds, or_else}
use Rattle.clap.specs.declared.error.kind.ErrorKind.TheVariants.{UnknownArgument, TooManyValues}
use Rattle.clap.specs.Faults.{flags_fault, settle_fault, turn_fault, use_fault}
use Rattle.group_words.specs.Words.{Key, key_name, takes_value}
use Rattle.group_words.proofs.WordRules.{HasKeys, called, file_id, file_rule, rule_at, takes}

abbrev pub Use : Type 0
Use = Text × List Text

-- the walk between two words
abbrev pub at : List Row → Option Use → Waiting → Bool → Walk
at rows p w t = record { held = record { rows = rows; pending = p; skip = 0 }; waiting = w; position = 1; is_trailing = t; stopped = None }

-- the faults of what is pending
abbrev pub settling : Shape → Option Use → List Row → Kinds
settling s p rows = settle_fault s.rules false (record { rows = rows; pending = p; skip = 0 })

pub record IsLong (word name : Text) (value : Option Text) : Type 0 where
  pub apart : bytes_eq word (codes "--") ≡ false
  pub is : long_of word ≡ Some (name, value)

pub record IsShort (word flags : Text) : Type 0 where
  pub apart : bytes_eq word (codes "--") ≡ false
  pub no_long : long_of word ≡ None
  pub is : short_of word ≡ Some flags

pub record IsBare (word : Text) : Type 0 where
  pub apart : bytes_eq word (codes "--") ≡ false
  pub no_long : long_of word ≡ None
  pub no_short : short_of word ≡ None

pub no_subcommand : (w : Waiting) (word : Text) → subcommand_met [] w word ≡ None
no_subcommand idle word = refl
no_subcommand (option id) word = refl
no_subcommand positional word = refl

and_false : (b : Bool) → (b && false) ≡ false
and_false true = refl
and_false false = refl

pub same_text : (text : Text) → bytes_eq text text ≡ true
same_text [] = refl
same_text (b ∷ bs) = let one : (b == b) ≡ true = grind (arith, nat_tests) in rw one (same_text bs)

module _ (s : Shape) (h : HasKeys s) where
  pub joined_walk : (rows : List Row) (p : Option Use) (w : Waiting) (word name v : Text) (key : Key) → IsLong word name (Some v) → called name ≡ Some key
      → takes_value key ≡ true → walked s.rules [] (at rows p w false) word ≡ at (used (rule_at key) (v ∷ []) (settled_rows s.rules p rows)) None idle false
  unfolding walked
  joined_walk rows p w word name v key l is valued = rw (no_subcommand w word, l.apart, l.is, h.by_long name, is, takes key true valued) refl

  pub joined_fault : (rows : List Row) (p : Option Use) (w : Waiting) (word name v : Text) (key : Key) → IsLong word name (Some v) → called name ≡ Some key
      → takes_value key ≡ true
      → turn_fault s [] (at rows p w false) word ≡ or_else (or_else (settling s p rows) (use_fault false (rule_at key) (v ∷ []) (settled_rows s.rules p rows))) []
  joined_fault rows p w word name v key l is valued = rw (h.again, no_subcommand w word, l.apart, l.is, h.by_long name, is, takes key true valued) refl

  pub apart_walk : (rows : List Row) (p : Option Use) (w : Waiting) (word name : Text) (key : Key) → IsLong word name None → called name ≡ Some key
      → takes_value key ≡ true → walked s.rules [] (at rows p w false) word ≡ at (settled_rows s.rules p rows) (Some (key_name key, [])) (option (key_name key)) false
  unfolding walked
  apart_walk rows p w word name key l is valued = rw (no_subcommand w word, l.apart, l.is, h.by_long name, is, takes key true valued) refl

  pub apart_fault : (rows : List Row) (p : Option Use) (w : Waiting) (word name : Text) (key : Key) → IsLong word name None → called name ≡ Some key
      → takes_value key ≡ true → turn_fault s [] (at rows p w false) word ≡ or_else (settling s p rows) []
  apart_fault rows p w word name key l is valued = rw (h.again, no_subcommand w word, l.apart, l.is, h.by_long name, is, takes key true valued) refl

  pub flag_walk : (rows : List Row) (p : Option Use) (w : Waiting) (word name : Text) (key : Key) → IsLong word name None → called name ≡ Some key
      → takes_value key ≡ false → walked s.rules [] (at rows p w false) word ≡ at (used (rule_at key) [] (settled_rows s.rules p rows)) None idle false
  unfolding walked
  flag_walk rows p w word name key l is bare = rw (no_subcommand w word, l.apart, l.is, h.by_long name, is, takes key false bare) refl

  pub flag_fault : (rows : List Row) (p : Option Use) (w : Waiting) (word name : Text) (key : Key) → IsLong word name None → called name ≡ Some key
      → takes_value key ≡ false
      → turn_fault s [] (at rows p w false) word ≡ or_else (or_else (settling s p rows) (use_fault false (rule_at key) [] (settled_rows s.rules p rows))) []
  flag_fault rows p w word name key l is bare = rw (h.again, no_subcommand w word, l.apart, l.is, h.by_long name, is, takes key false bare) refl

  pub value_walk : (rows : List Row) (word : Text) (key : Key) → IsBare word → takes_value key ≡ true
      → walked s.rules [] (at rows (Some (key_name key, [])) (option (key_name key)) false) word ≡ at rows (Some (key_name key, word ∷ [])) idle false
  unfolding walked
  value_walk rows word key l valued = rw (l.apart, l.no_long, l.no_short, h.by_key key, same_text (key_name key), valued) refl

  pub value_fault : (rows : List Row) (word : Text) (key : Key) → IsBare word → takes_value key ≡ true
      → turn_fault s [] (at rows (Some (key_name key, [])) (option (key_name key)) false) word ≡ []
  value_fault rows word key l valued = rw (l.apart, l.no_long, l.no_short) refl

  pub file_walk : (rows : List Row) (p : Option Use) (w : Waiting) (word : Text) → ((id : Text) → w ≡ option id → ⊥) → IsBare word
      → walked s.rules [] (at rows p w false) word ≡ at (settled_rows s.rules p rows) (Some (file_id, word ∷ [])) positional false
  unfolding walked
  file_walk rows p (option id) word none l = absurd (none id refl)
  file_walk rows p idle word none l = rw (l.apart, l.no_long, l.no_short, h.by_index, and_false (is_pending file_rule p)) refl
  file_walk rows p positional word none l = rw (l.apart, l.no_long, l.no_short, h.by_index, and_false (is_pending file_rule p)) refl

  pub file_fault : (rows : List Row) (p : Option Use) (w : Waiting) (word : Text) → ((id : Text) → w ≡ option id → ⊥) → IsBare word
      → turn_fault s [] (at rows p w false) word ≡ settling s p rows
  file_fault rows p (option id) word none l = absurd (none id refl)
  file_fault rows p idle word none l = rw (h.again, l.apart, l.no_long, l.no_short, h.by_index, and_false (is_pending file_rule p)) refl
  file_fault rows p positional word none l = rw (h.again, l.apart, l.no_long, l.no_short, h.by_index, and_false (is_pending file_rule p)) refl

  pub trailing_walk : (rows : List Row) (p : Option Use) (w : Waiting) (word : Text)
      → walked s.rules [] (at rows p w true) word ≡ at (settled_rows s.rules p rows) (Some (file_id, word ∷ [])) positional true
  unfolding walked
  trailing_walk rows p w word = rw (h.by_index, and_false (is_pending file_rule p)) refl

  pub trailing_fault : (rows : List Row) (p : Option Use) (w : Waiting) (word : Text) → turn_fault s [] (at rows p w true) word ≡ settling s p rows
  trailing_fault rows p w word = rw (h.again, h.by_index, and_false (is_pending file_rule p)) refl

  pub dashes_walk : (rows : List Row) (p : Option Use) (w : Waiting) → walked s.rules [] (at rows p w false) (codes "--") ≡ at rows p w true
  unfolding walked
  dashes_walk rows p w = rw (no_subcommand w (codes "--")) refl

  pub dashes_fault : (rows : List Row) (p : Option Use) (w : Waiting) → turn_fault s [] (at rows p w false) (codes "--") ≡ []
  dashes_fault rows p w = rw (no_subcommand w (codes "--")) refl

  -- the words that are refused
  pub unknown_fault : (rows : List Row) (p : Option Use) (w : Waiting) (word name : Text) (v : Option Text) → IsLong word name v → called name ≡ None
      → (turn_fault s [] (at rows p w false) word ≡ []) → ⊥
  unknown_fault rows p w word name v l is none =
      let some : turn_fault s [] (at rows p w false) word ≡ UnknownArgument ∷ [] = rw (h.again, no_subcommand w word, l.apart, l.is, h.by_long name, is) refl in
      let both : UnknownArgument ∷ [] ≡ [] = sym some ∙ none in cc

  pub overfull_fault : (rows : List Row) (p : Option Use) (w : Waiting) (word name v : Text) (key : Key) → IsLong word name (Some v) → called name ≡ Some key
      → takes_value key ≡ false → (turn_fault s [] (at rows p w false) word ≡ []) → ⊥
  overfull_fault rows p w word name v key l is bare none =
      let some : turn_fault s [] (at rows p w false) word ≡ TooManyValues ∷ [] =
      rw (h.again, no_subcommand w word, l.apart, l.is, h.by_long name, is, takes key false bare) refl in
      let both : TooManyValues ∷ [] ≡ [] = sym some ∙ none in cc

  -- a character of a short word is no option
  bundle_none : (k : ℕ) (flags : Text) (held : Held) (x : ℕ) → slice_get (chars flags) 0 ≡ Some x → flags_fault s.rules false (suc k) flags 0 held ≡ UnknownArgument ∷ []
  unfolding flags_fault
  bundle_none k flags held x first = rw (first, h.by_short x) refl

  pub short_fault : (rows : List Row) (p : Option Use) (w : Waiting) (word : Text) (b : ℕ) (bs : Text) (x : ℕ) → IsShort word (b ∷ bs)
      → slice_get (chars (b ∷ bs)) 0 ≡ Some x → (turn_fault s [] (at rows p w false) word ≡ []) → ⊥
  short_fault rows p w word b bs x l first none =
      let some : turn_fault s [] (at rows p w false) word ≡ UnknownArgument ∷ [] =
      rw (h.again, no_subcommand w word, l.apart, l.no_long, l.is, bundle_none (length bs) (b ∷ bs) (record { rows = rows; pending = p; skip = 0 }) x first) refl in
      let both : UnknownArgument ∷ [] ≡ [] = sym some ∙ none in cc
