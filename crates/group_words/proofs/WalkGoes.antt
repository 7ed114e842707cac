-- What is left of a walk goes as a list of uses of arguments, of which the pending one is the first.
use Rattle.std.proofs.Common.{◌≡◌, ℕ, true, false, List, [], ◌∷◌, ◌++◌, map, flat_map, Option, Some, None, refl, ap, ap₂, sym, ◌∙◌, codes, fold}
use Rattle.clap.specs.Walk.{Held, Row, Text, Waiting, Walk, idle, option, positional, settled_rows, used, walked}
use Rattle.clap.specs.Simple.{Shape}
use Rattle.clap.specs.Kinds.{Kinds, or_else}
use Rattle.clap.specs.Faults.{settle_fault, turn_fault, use_fault, walk_fault}
use Rattle.group_words.specs.Words.{Key, Part, file, flag, apart, joined, key_name, option_word, part_words, rest_files, rest_words, takes_value}
use Rattle.group_words.proofs.WordRules.{HasKeys, called_own, file_id, rule_at}
use Rattle.group_words.proofs.WalkSteps.{IsBare, Use, at, settling, joined_walk, joined_fault, apart_walk, apart_fault, flag_walk, flag_fault, value_walk, value_fault, file_walk, file_fault, trailing_walk, trailing_fault, dashes_walk, dashes_fault}
use Rattle.group_words.proofs.WordClasses.{option_long, joined_long}

-- the words that clap takes for a part
abbrev pub ClapPart : Part → Type 0
ClapPart (file word) = IsBare word
ClapPart (flag key) = takes_value key ≡ false
ClapPart (apart key value) = (takes_value key ≡ true) × IsBare value
ClapPart (joined key value) = takes_value key ≡ true

abbrev pub AreClapParts : List Part → Type 0
AreClapParts [] = Unit {0}
AreClapParts (part ∷ parts) = ClapPart part × AreClapParts parts

abbrev pub use_of : Part → Use
use_of (file word) = (file_id, word ∷ [])
use_of (flag key) = (key_name key, [])
use_of (apart key value) = (key_name key, value ∷ [])
use_of (joined key value) = (key_name key, value ∷ [])

abbrev pub file_use : Text → Use
file_use word = (file_id, word ∷ [])

abbrev pub uses_of : List Part → Option (List Text) → List Use
uses_of parts rest = map use_of parts ++ map file_use (rest_files rest)

abbrev pub pending_first : Option Use → List Use → List Use
pending_first None us = us
pending_first (Some u) us = u ∷ us

abbrev pub uses_fault : Shape → List Row → List Use → Kinds
uses_fault s rows [] = []
uses_fault s rows (u ∷ us) = or_else (settling s (Some u) rows) (uses_fault s (settled_rows s.rules (Some u) rows) us)

abbrev pub rows_with : Shape → List Row → List Use → List Row
rows_with s rows [] = rows
rows_with s rows (u ∷ us) = rows_with s (settled_rows s.rules (Some u) rows) us

abbrev pub end_of : Shape → Walk → List Text → Held
end_of s w words = (fold (walked s.rules []) w words).held

abbrev pub total_fault : Shape → Walk → List Text → Kinds
total_fault s w words = or_else (walk_fault s [] w words) (settle_fault s.rules false (end_of s w words))

abbrev pub total_rows : Shape → Walk → List Text → List Row
total_rows s w words = settled_rows s.rules (end_of s w words).pending (end_of s w words).rows

pub record GoesAs (s : Shape) (w : Walk) (words : List Text) (rows : List Row) (us : List Use) : Type 0 where
  pub fault : total_fault s w words ≡ uses_fault s rows us
  pub rows_are : total_rows s w words ≡ rows_with s rows us

pub or_else_assoc : (a b c : Kinds) → or_else (or_else a b) c ≡ or_else a (or_else b c)
or_else_assoc [] b c = refl
or_else_assoc (k ∷ ks) b c = refl

pub or_else_none : (a : Kinds) → or_else a [] ≡ a
or_else_none [] = refl
or_else_none (k ∷ ks) = refl

pub first_none : (a b : Kinds) → or_else a b ≡ [] → a ≡ []
first_none [] b e = refl
first_none (k ∷ ks) b e = let both : k ∷ ks ≡ [] = e in cc

pub second_none : (a b : Kinds) → or_else a b ≡ [] → b ≡ []
second_none [] b e = e
second_none (k ∷ ks) b e = let both : k ∷ ks ≡ [] = e in cc

-- one more word
pub step_fault : (s : Shape) (w next : Walk) (word : Text) (fault : Kinds) (words : List Text) → walked s.rules [] w word ≡ next → turn_fault s [] w word ≡ fault
    → total_fault s w (word ∷ words) ≡ or_else fault (total_fault s next words)
unfolding walk_fault
step_fault s w next word fault words goes is =
    or_else_assoc (turn_fault s [] w word) (walk_fault s [] (walked s.rules [] w word) words) (settle_fault s.rules false (end_of s (walked s.rules [] w word) words))
    ∙ (ap (λ v. or_else (turn_fault s [] w word) (total_fault s v words)) goes ∙ ap (λ k. or_else k (total_fault s next words)) is)

pub step_rows : (s : Shape) (w next : Walk) (word : Text) (words : List Text) → walked s.rules [] w word ≡ next → total_rows s w (word ∷ words) ≡ total_rows s next words
step_rows s w next word words goes = ap (λ v. total_rows s v words) goes

-- what is pending is settled first
fault_first : (s : Shape) (rows : List Row) (p : Option Use) (us : List Use) → or_else (settling s p rows) (uses_fault s (settled_rows s.rules p rows) us) ≡ uses_fault s rows (pending_first p us)
fault_first s rows None us = refl
fault_first s rows (Some u) us = refl

rows_first : (s : Shape) (rows : List Row) (p : Option Use) (us : List Use) → rows_with s (settled_rows s.rules p rows) us ≡ rows_with s rows (pending_first p us)
rows_first s rows None us = refl
rows_first s rows (Some u) us = refl

-- no word is left
none_left : (s : Shape) (rows : List Row) (p : Option Use) (w : Waiting) (t : Rattle.std.proofs.Common.Bool) → GoesAs s (at rows p w t) [] rows (pending_first p [])
unfolding walk_fault
none_left s rows None w t = record { fault = refl; rows_are = refl }
none_left s rows (Some u) w t = record { fault = sym (or_else_none (settling s (Some u) rows)); rows_are = refl }

-- nothing or a file waits
abbrev pub NoOption : Waiting → Type 0
NoOption w = (id : Text) → w ≡ option id → ⊥

pub idle_waits : NoOption idle
idle_waits id e = cc

pub file_waits : NoOption positional
file_waits id e = cc

module _ (s : Shape) (h : HasKeys s) where
  -- one use of an option
  pub settling_key : (rows : List Row) (key : Key) (vs : List Text) → settling s (Some (key_name key, vs)) rows ≡ use_fault false (rule_at key) vs rows
  settling_key rows key vs = rw (h.by_key key) refl

  pub settled_key : (rows : List Row) (key : Key) (vs : List Text) → settled_rows s.rules (Some (key_name key, vs)) rows ≡ used (rule_at key) vs rows
  settled_key rows key vs = rw (h.by_key key) refl

  -- a use that is settled at once
  key_fault : (rows : List Row) (p : Option Use) (key : Key) (vs : List Text) (us : List Use) (later : Kinds)
      → later ≡ uses_fault s (used (rule_at key) vs (settled_rows s.rules p rows)) us
      → or_else (or_else (or_else (settling s p rows) (use_fault false (rule_at key) vs (settled_rows s.rules p rows))) []) later
      ≡ uses_fault s rows (pending_first p ((key_name key, vs) ∷ us))
  key_fault rows p key vs us later is =
      let mid = settled_rows s.rules p rows in
      let one = use_fault false (rule_at key) vs mid in
      let later_is = is ∙ ap (λ r. uses_fault s r us) (sym (settled_key mid key vs)) in
      ap (λ k. or_else k later) (or_else_none (or_else (settling s p rows) one))
      ∙ (or_else_assoc (settling s p rows) one later
      ∙ (ap₂ (λ a b. or_else (settling s p rows) (or_else a b)) (sym (settling_key mid key vs)) later_is ∙ fault_first s rows p ((key_name key, vs) ∷ us)))

  key_rows : (rows : List Row) (p : Option Use) (key : Key) (vs : List Text) (us : List Use) (all : List Row)
      → all ≡ rows_with s (used (rule_at key) vs (settled_rows s.rules p rows)) us → all ≡ rows_with s rows (pending_first p ((key_name key, vs) ∷ us))
  key_rows rows p key vs us all is =
      let mid = settled_rows s.rules p rows in
      is ∙ (ap (λ r. rows_with s r us) (sym (settled_key mid key vs)) ∙ rows_first s rows p ((key_name key, vs) ∷ us))

  -- behind `--`
  pub trails : (files : List Text) (rows : List Row) (p : Option Use) (w : Waiting) → GoesAs s (at rows p w true) files rows (pending_first p (map file_use files))
  trails [] rows p w = none_left s rows p w true
  trails (word ∷ files) rows p w =
      let mid = settled_rows s.rules p rows in
      let next = at mid (Some (file_use word)) positional true in
      let goes = trailing_walk s h rows p w word in
      let later = trails files mid (Some (file_use word)) positional in
      record {
        fault = step_fault s (at rows p w true) next word (settling s p rows) files goes (trailing_fault s h rows p w word)
            ∙ (ap (or_else (settling s p rows)) later.fault ∙ fault_first s rows p (file_use word ∷ map file_use files));
        rows_are = step_rows s (at rows p w true) next word files goes ∙ (later.rows_are ∙ rows_first s rows p (file_use word ∷ map file_use files));
      }

  -- the words of parts
  pub goes_as : (parts : List Part) (rest : Option (List Text)) → AreClapParts parts → (rows : List Row) (p : Option Use) (w : Waiting) → NoOption w
      → GoesAs s (at rows p w false) (flat_map part_words parts ++ rest_words rest) rows (pending_first p (uses_of parts rest))
  goes_as [] None are rows p w free = none_left s rows p w false
  goes_as [] (Some files) are rows p w free =
      let goes = dashes_walk s h rows p w in
      let later = trails files rows p w in
      record {
        fault = step_fault s (at rows p w false) (at rows p w true) (codes "--") [] files goes (dashes_fault s h rows p w) ∙ later.fault;
        rows_are = step_rows s (at rows p w false) (at rows p w true) (codes "--") files goes ∙ later.rows_are;
      }
  goes_as (file word ∷ parts) rest are rows p w free =
      let words = flat_map part_words parts ++ rest_words rest in
      let mid = settled_rows s.rules p rows in
      let next = at mid (Some (file_use word)) positional false in
      let goes = file_walk s h rows p w word free are.0 in
      let later = goes_as parts rest are.1 mid (Some (file_use word)) positional file_waits in
      record {
        fault = step_fault s (at rows p w false) next word (settling s p rows) words goes (file_fault s h rows p w word free are.0)
            ∙ (ap (or_else (settling s p rows)) later.fault ∙ fault_first s rows p (file_use word ∷ uses_of parts rest));
        rows_are = step_rows s (at rows p w false) next word words goes ∙ (later.rows_are ∙ rows_first s rows p (file_use word ∷ uses_of parts rest));
      }
  goes_as (flag key ∷ parts) rest are rows p w free =
      let words = flat_map part_words parts ++ rest_words rest in
      let next = at (used (rule_at key) [] (settled_rows s.rules p rows)) None idle false in
      let goes = flag_walk s h rows p w (option_word key) (key_name key) key (option_long key) (called_own key) are.0 in
      let fault = flag_fault s h rows p w (option_word key) (key_name key) key (option_long key) (called_own key) are.0 in
      let later = goes_as parts rest are.1 (used (rule_at key) [] (settled_rows s.rules p rows)) None idle idle_waits in
      record {
        fault = step_fault s (at rows p w false) next (option_word key) _ words goes fault ∙ key_fault rows p key [] (uses_of parts rest) (total_fault s next words) later.fault;
        rows_are = step_rows s (at rows p w false) next (option_word key) words goes ∙ key_rows rows p key [] (uses_of parts rest) (total_rows s next words) later.rows_are;
      }
  goes_as (joined key value ∷ parts) rest are rows p w free =
      let words = flat_map part_words parts ++ rest_words rest in
      let word = option_word key ++ codes "=" ++ value in
      let next = at (used (rule_at key) (value ∷ []) (settled_rows s.rules p rows)) None idle false in
      let goes = joined_walk s h rows p w word (key_name key) value key (joined_long key value) (called_own key) are.0 in
      let fault = joined_fault s h rows p w word (key_name key) value key (joined_long key value) (called_own key) are.0 in
      let later = goes_as parts rest are.1 (used (rule_at key) (value ∷ []) (settled_rows s.rules p rows)) None idle idle_waits in
      record {
        fault = step_fault s (at rows p w false) next word _ words goes fault ∙ key_fault rows p key (value ∷ []) (uses_of parts rest) (total_fault s next words) later.fault;
        rows_are = step_rows s (at rows p w false) next word words goes ∙ key_rows rows p key (value ∷ []) (uses_of parts rest) (total_rows s next words) later.rows_are;
      }
  goes_as (apart key value ∷ parts) rest are rows p w free =
      let words = flat_map part_words parts ++ rest_words rest in
      let mid = settled_rows s.rules p rows in
      let next = at mid (Some (key_name key, [])) (option (key_name key)) false in
      let after = at mid (Some (key_name key, value ∷ [])) idle false in
      let goes = apart_walk s h rows p w (option_word key) (key_name key) key (option_long key) (called_own key) are.0.0 in
      let fault = apart_fault s h rows p w (option_word key) (key_name key) key (option_long key) (called_own key) are.0.0 ∙ or_else_none (settling s p rows) in
      let valued = value_walk s h mid value key are.0.1 are.0.0 in
      let later = goes_as parts rest are.1 mid (Some (key_name key, value ∷ [])) idle idle_waits in
      let then_fault : total_fault s next (value ∷ words) ≡ uses_fault s mid ((key_name key, value ∷ []) ∷ uses_of parts rest) =
      step_fault s next after value [] words valued (value_fault s h mid value key are.0.1 are.0.0) ∙ later.fault in
      record {
        fault = step_fault s (at rows p w false) next (option_word key) (settling s p rows) (value ∷ words) goes fault
            ∙ (ap (or_else (settling s p rows)) then_fault ∙ fault_first s rows p ((key_name key, value ∷ []) ∷ uses_of parts rest));
        rows_are = step_rows s (at rows p w false) next (option_word key) (value ∷ words) goes
            ∙ (step_rows s next after value words valued ∙ (later.rows_are ∙ rows_first s rows p ((key_name key, value ∷ []) ∷ uses_of parts rest)));
      }
