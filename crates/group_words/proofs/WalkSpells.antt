-- Words that clap takes spell parts.
use Rattle.std.proofs.Common.{◌≡◌, Bool, true, false, List, [], ◌∷◌, ◌++◌, map, flat_map, Option, Some, None, refl, ap, ap₂, sym, ◌∙◌, codes}
use Rattle.clap.specs.Walk.{Row, Text, Waiting, idle, option, positional, settled_rows, used, walked}
use Rattle.clap.specs.Simple.{Shape}
use Rattle.clap.specs.Faults.{turn_fault, use_fault}
use Rattle.clap.specs.declared.error.kind.ErrorKind.TheVariants.{InvalidValue}
use Rattle.group_words.specs.Words.{Key, Part, file, flag, apart, joined, key_name, part_words, rest_words, takes_value}
use Rattle.group_words.proofs.WordRules.{HasKeys, called, rule_at}
use Rattle.group_words.proofs.WalkSteps.{IsBare, IsLong, IsShort, Use, at, settling, joined_walk, joined_fault, apart_walk, apart_fault, flag_walk, flag_fault, value_walk, file_walk, dashes_walk, unknown_fault, overfull_fault, short_fault}
use Rattle.group_words.proofs.WalkGoes.{AreClapParts, NoOption, file_use, file_waits, first_none, idle_waits, second_none, step_fault, total_fault, trails}
use Rattle.group_words.proofs.WordClasses.{Class, HasChar, bare, classify, dashes, flags_some, long, short, word_alone, word_joined}

pub record Spell (words : List Text) : Type 0 where
  pub parts : List Part
  pub rest : Option (List Text)
  pub spell : words ≡ flat_map part_words parts ++ rest_words rest
  pub are : AreClapParts parts

-- a value stands first
pub record SpellBehind (words : List Text) : Type 0 where
  pub value : Text
  pub more : List Text
  pub front : words ≡ value ∷ more
  pub bare_value : IsBare value
  pub behind : Spell more

module _ (s : Shape) (h : HasKeys s) where
  record Spells (words : List Text) : Type 0 where
    open_ : (rows : List Row) (p : Option Use) (w : Waiting) → NoOption w → total_fault s (at rows p w false) words ≡ [] → Spell words
    waiting : (rows : List Row) (key : Key) → takes_value key ≡ true → total_fault s (at rows (Some (key_name key, [])) (option (key_name key)) false) words ≡ []
        → SpellBehind words

  -- an option that takes a value is refused without one
  unfed : (rows : List Row) (key : Key) → takes_value key ≡ true → settling s (Some (key_name key, [])) rows ≡ [] → ⊥
  unfed rows key valued none =
      let some : settling s (Some (key_name key, [])) rows ≡ InvalidValue ∷ [] = rw (h.by_key key, valued) refl in
      let both : InvalidValue ∷ [] ≡ [] = sym some ∙ none in cc

  -- the faults of the word, and of those behind it
  module _ (rows : List Row) (p : Option Use) (w : Waiting) (word : Text) (words : List Text) (fine : total_fault s (at rows p w false) (word ∷ words) ≡ []) where
    turn_none : turn_fault s [] (at rows p w false) word ≡ []
    turn_none = first_none (turn_fault s [] (at rows p w false) word) _ (sym (step_fault s (at rows p w false) _ word _ words refl refl) ∙ fine)

    later_none : (next : Rattle.clap.specs.Walk.Walk) → walked s.rules [] (at rows p w false) word ≡ next → total_fault s next words ≡ []
    later_none next goes =
        second_none (turn_fault s [] (at rows p w false) word) (total_fault s next words)
        (sym (step_fault s (at rows p w false) next word (turn_fault s [] (at rows p w false) word) words goes refl) ∙ fine)

  spell_long : (word : Text) (words : List Text) (name : Text) (value : Option Text) (key : Key) (b : Bool) → takes_value key ≡ b → IsLong word name value
      → called name ≡ Some key → Spells words → (rows : List Row) (p : Option Use) (w : Waiting) → NoOption w → total_fault s (at rows p w false) (word ∷ words) ≡ []
      → Spell (word ∷ words)
  spell_long word words name (Some v) key true takes l is later rows p w free fine =
      let rest = later.open_ (used (rule_at key) (v ∷ []) (settled_rows s.rules p rows)) None idle idle_waits
      (later_none rows p w word words fine _ (joined_walk s h rows p w word name v key l is takes)) in
      record {
        parts = joined key v ∷ rest.parts;
        rest = rest.rest;
        spell = ap₂ (λ x xs. x ∷ xs) (word_joined word name v key l is) rest.spell;
        are = (takes, rest.are);
      }
  spell_long word words name None key true takes l is later rows p w free fine =
      let behind = later.waiting (settled_rows s.rules p rows) key takes (later_none rows p w word words fine _ (apart_walk s h rows p w word name key l is takes)) in
      record {
        parts = apart key behind.value ∷ behind.behind.parts;
        rest = behind.behind.rest;
        spell = ap₂ (λ x xs. x ∷ xs) (word_alone word name key l is) (behind.front ∙ ap (λ xs. behind.value ∷ xs) behind.behind.spell);
        are = ((takes, behind.bare_value), behind.behind.are);
      }
  spell_long word words name (Some v) key false takes l is later rows p w free fine =
      absurd (overfull_fault s h rows p w word name v key l is takes (turn_none rows p w word words fine))
  spell_long word words name None key false takes l is later rows p w free fine =
      let rest = later.open_ (used (rule_at key) [] (settled_rows s.rules p rows)) None idle idle_waits
      (later_none rows p w word words fine _ (flag_walk s h rows p w word name key l is takes)) in
      record {
        parts = flag key ∷ rest.parts;
        rest = rest.rest;
        spell = ap₂ (λ x xs. x ∷ xs) (word_alone word name key l is) rest.spell;
        are = (takes, rest.are);
      }

  spell_named : (word : Text) (words : List Text) (name : Text) (value : Option Text) (found : Option Key) → called name ≡ found → IsLong word name value → Spells words
      → (rows : List Row) (p : Option Use) (w : Waiting) → NoOption w → total_fault s (at rows p w false) (word ∷ words) ≡ [] → Spell (word ∷ words)
  spell_named word words name value None is l later rows p w free fine = absurd (unknown_fault s h rows p w word name value l is (turn_none rows p w word words fine))
  spell_named word words name value (Some key) is l later rows p w free fine =
      spell_long word words name value key (takes_value key) refl l is later rows p w free fine

  refused_short : (word flags : Text) → IsShort word flags → HasChar word → (rows : List Row) (p : Option Use) (w : Waiting)
      → turn_fault s [] (at rows p w false) word ≡ [] → ⊥
  refused_short word flags l char rows p w fine =
      let some = flags_some word flags l.is in
      let own = Rattle.std.proofs.Common.subst (λ f. IsShort word f) some.1.1 l in
      let first = char some.0 some.1.0 own.is in
      short_fault s h rows p w word some.0 some.1.0 first.0 own first.1 fine

  spells_open : (word : Text) (words : List Text) → Class word → HasChar word → Spells words → (rows : List Row) (p : Option Use) (w : Waiting) → NoOption w
      → total_fault s (at rows p w false) (word ∷ words) ≡ [] → Spell (word ∷ words)
  spells_open word words (dashes is) char later rows p w free fine = record { parts = []; rest = Some words; spell = ap (λ x. x ∷ words) is; are = tt }
  spells_open word words (long name value l) char later rows p w free fine = spell_named word words name value (called name) refl l later rows p w free fine
  spells_open word words (short flags l) char later rows p w free fine = absurd (refused_short word flags l char rows p w (turn_none rows p w word words fine))
  spells_open word words (bare l) char later rows p w free fine =
      let rest = later.open_ (settled_rows s.rules p rows) (Some (file_use word)) positional file_waits
      (later_none rows p w word words fine _ (file_walk s h rows p w word free l)) in
      record {
        parts = file word ∷ rest.parts;
        rest = rest.rest;
        spell = ap (λ xs. word ∷ xs) rest.spell;
        are = (l, rest.are);
      }

  -- behind an option that takes a value only a value is taken
  waits_long : (word name : Text) (value : Option Text) (key : Key) (b : Bool) → takes_value key ≡ b → IsLong word name value → called name ≡ Some key
      → (rows : List Row) (own : Key) → takes_value own ≡ true → turn_fault s [] (at rows (Some (key_name own, [])) (option (key_name own)) false) word ≡ [] → ⊥
  waits_long word name (Some v) key true takes l is rows own valued fine =
      unfed rows own valued (first_none _ _ (first_none _ _ (sym (joined_fault s h rows (Some (key_name own, [])) (option (key_name own)) word name v key l is takes) ∙ fine)))
  waits_long word name None key true takes l is rows own valued fine =
      unfed rows own valued (first_none _ _ (sym (apart_fault s h rows (Some (key_name own, [])) (option (key_name own)) word name key l is takes) ∙ fine))
  waits_long word name (Some v) key false takes l is rows own valued fine =
      overfull_fault s h rows (Some (key_name own, [])) (option (key_name own)) word name v key l is takes fine
  waits_long word name None key false takes l is rows own valued fine =
      unfed rows own valued (first_none _ _ (first_none _ _ (sym (flag_fault s h rows (Some (key_name own, [])) (option (key_name own)) word name key l is takes) ∙ fine)))

  waits_named : (word name : Text) (value : Option Text) (found : Option Key) → called name ≡ found → IsLong word name value
      → (rows : List Row) (own : Key) → takes_value own ≡ true → turn_fault s [] (at rows (Some (key_name own, [])) (option (key_name own)) false) word ≡ [] → ⊥
  waits_named word name value None is l rows own valued fine = unknown_fault s h rows (Some (key_name own, [])) (option (key_name own)) word name value l is fine
  waits_named word name value (Some key) is l rows own valued fine = waits_long word name value key (takes_value key) refl l is rows own valued fine

  spells_waiting : (word : Text) (words : List Text) → Class word → HasChar word → Spells words → (rows : List Row) (key : Key) → takes_value key ≡ true
      → total_fault s (at rows (Some (key_name key, [])) (option (key_name key)) false) (word ∷ words) ≡ [] → SpellBehind (word ∷ words)
  spells_waiting word words (dashes is) char later rows key valued fine =
      let p = Some (key_name key, []) in
      let w = option (key_name key) in
      let goes = ap (walked s.rules [] (at rows p w false)) is ∙ dashes_walk s h rows p w in
      let none = sym (trails s h words rows p w).fault ∙ later_none rows p w word words fine (at rows p w true) goes in
      absurd (unfed rows key valued (first_none _ _ none))
  spells_waiting word words (long name value l) char later rows key valued fine =
      absurd (waits_named word name value (called name) refl l rows key valued (turn_none rows (Some (key_name key, [])) (option (key_name key)) word words fine))
  spells_waiting word words (short flags l) char later rows key valued fine =
      absurd (refused_short word flags l char rows (Some (key_name key, [])) (option (key_name key)) (turn_none rows (Some (key_name key, [])) (option (key_name key)) word words fine))
  spells_waiting word words (bare l) char later rows key valued fine = record {
    value = word;
    more = words;
    front = refl;
    bare_value = l;
    behind = later.open_ rows (Some (key_name key, word ∷ [])) idle idle_waits
        (later_none rows (Some (key_name key, [])) (option (key_name key)) word words fine _ (value_walk s h rows word key l valued));
  }

  abbrev pub HaveChars : List Text → Type 0
  HaveChars [] = Unit {0}
  HaveChars (word ∷ words) = HasChar word × HaveChars words

  spells : (words : List Text) → HaveChars words → Spells words
  unfolding Rattle.clap.specs.Faults.walk_fault
  spells [] chars = record {
    open_ = λ rows p w free fine. record { parts = []; rest = None; spell = refl; are = tt };
    waiting = λ rows key valued fine. absurd (unfed rows key valued fine);
  }
  spells (word ∷ words) chars =
      let later = spells words chars.1 in
      record {
        open_ = λ rows p w free fine. spells_open word words (classify word) chars.0 later rows p w free fine;
        waiting = λ rows key valued fine. spells_waiting word words (classify word) chars.0 later rows key valued fine;
      }

  -- words without faults spell parts
  pub spelled_by : (words : List Text) → HaveChars words → total_fault s (at [] None idle false) words ≡ [] → Spell words
  spelled_by words chars fine = (spells words chars).open_ [] None idle idle_waits fine
