-- What uses of arguments leave in the matches, and when they are taken.
use Rattle.std.proofs.Common.{if◌then◌else◌, ◌≡◌, ◌≤◌, ◌&&◌, Bool, true, false, not, List, [], ◌∷◌, ◌++◌, length, map, flat_map, Option, Some, is_some, unwrap_or, refl, ap, ap₂, sym, ◌∙◌, subst, arith, append_assoc, codes}
use Rattle.std.specs.Str.{bytes_eq}
use Rattle.clap.specs.declared.builder.value_parser.Reading.{Reading}
use Rattle.clap.specs.declared.error.kind.ErrorKind.TheVariants.{ArgumentConflict}
use Rattle.clap.specs.declared.parser.matches.ValueSource.{ValueSource}
use Rattle.clap.specs.declared.parser.matches.ValueSource.TheVariants.{CommandLine}
use Rattle.clap.specs.Walk.{Row, Text, all_of, has_row, reading_by, settled_rows, with_values, without}
use Rattle.clap.specs.Simple.{Shape}
use Rattle.clap.specs.Kinds.{Kinds, or_else}
use Rattle.group_words.specs.Words.{Key, Part, file, flag, apart, joined, key_name, takes_value}
use Rattle.group_words.proofs.WordRules.{HasKeys, file_id, file_rule, not_file, rule_at}
use Rattle.group_words.proofs.WordClasses.{eq_text}
use Rattle.group_words.proofs.WalkSteps.{Use, same_text, settling}
use Rattle.group_words.proofs.WalkGoes.{AreClapParts, file_use, first_none, rows_with, second_none, settled_key, settling_key, uses_fault, uses_of}

-- values behind those that are there
abbrev pub plus : Option (List Text) → List Text → Option (List Text)
plus o [] = o
plus o (v ∷ vs) = Some (unwrap_or o [] ++ (v ∷ vs))

module _ (id : Text) (how : Reading) (source : ValueSource) where
  pub values_here : (v : Text) (rows : List Row) → all_of id (with_values id how source (v ∷ []) rows) ≡ Some (unwrap_or (all_of id rows) [] ++ (v ∷ []))
  values_here v [] = rw (same_text id) refl
  values_here v (r ∷ rs) = go (bytes_eq r.id id) refl (values_here v rs)
    where
      go : (t : Bool) → bytes_eq r.id id ≡ t → all_of id (with_values id how source (v ∷ []) rs) ≡ Some (unwrap_or (all_of id rs) [] ++ (v ∷ []))
          → all_of id (with_values id how source (v ∷ []) (r ∷ rs)) ≡ Some (unwrap_or (all_of id (r ∷ rs)) [] ++ (v ∷ []))
      go true e rest = rw (e, e) refl
      go false e rest = rw (e, e) rest

  pub values_there : (other : Text) → bytes_eq id other ≡ false → (vs : List Text) (rows : List Row) → all_of other (with_values id how source vs rows) ≡ all_of other rows
  values_there other differs vs [] = rw differs refl
  values_there other differs vs (r ∷ rs) = go (bytes_eq r.id id) refl (values_there other differs vs rs)
    where
      left : (t : Bool) → bytes_eq r.id other ≡ t → all_of other (with_values id how source vs rs) ≡ all_of other rs
          → all_of other (r ∷ with_values id how source vs rs) ≡ all_of other (r ∷ rs)
      left true e rest = rw e refl
      left false e rest = rw e rest

      go : (t : Bool) → bytes_eq r.id id ≡ t → all_of other (with_values id how source vs rs) ≡ all_of other rs
          → all_of other (with_values id how source vs (r ∷ rs)) ≡ all_of other (r ∷ rs)
      go true e rest =
          let apart : bytes_eq r.id other ≡ false = ap (λ x. bytes_eq x other) (eq_text r.id id e) ∙ differs in
          rw (e, apart) refl
      go false e rest = rw e (left (bytes_eq r.id other) refl rest)

pub has_all : (id : Text) (rows : List Row) → has_row id rows ≡ is_some (all_of id rows)
has_all id [] = refl
has_all id (r ∷ rs) = go (bytes_eq r.id id) refl (has_all id rs)
  where
    go : (t : Bool) → bytes_eq r.id id ≡ t → has_row id rs ≡ is_some (all_of id rs) → has_row id (r ∷ rs) ≡ is_some (all_of id (r ∷ rs))
    go true e rest = rw e refl
    go false e rest = rw e rest

without_none : (id : Text) (rows : List Row) → has_row id rows ≡ false → without id rows ≡ rows
without_none id [] none = refl
without_none id (r ∷ rs) none = go (bytes_eq r.id id) refl (without_none id rs)
  where
    go : (t : Bool) → bytes_eq r.id id ≡ t → (has_row id rs ≡ false → without id rs ≡ rs) → without id (r ∷ rs) ≡ r ∷ rs
    go true e rest = let both : true ≡ false = (rw e at none) in cc
    go false e rest = rw e (ap (λ xs. r ∷ xs) (rest (rw e at none)))

-- what a use shows: an option without a value the text `true`
abbrev pub shown : List Text → List Text
shown [] = codes "true" ∷ []
shown (v ∷ vs) = v ∷ vs

abbrev pub given_values : Text → List Use → List Text
given_values id us = flat_map (λ u. if bytes_eq u.0 id then shown u.1 else []) us

abbrev conflict : Bool → Kinds
conflict b = if b then ArgumentConflict ∷ [] else []

-- a use of one value; an option may come once only
pub record IsUse (s : Shape) (u : Use) : Type 0 where
  pub value : Text
  pub how : Reading
  pub single : Bool
  pub is_single : not (bytes_eq u.0 file_id) ≡ single
  pub shows : shown u.1 ≡ value ∷ []
  pub faults : (rows : List Row) → settling s (Some u) rows ≡ conflict (single && has_row u.0 rows)
  pub leaves : (rows : List Row) → settled_rows s.rules (Some u) rows ≡ with_values u.0 how CommandLine (value ∷ []) (if single then without u.0 rows else rows)

abbrev pub AreUses : Shape → List Use → Type 0
AreUses s [] = Unit {0}
AreUses s (u ∷ us) = IsUse s u × AreUses s us

conflict_none : (b : Bool) → conflict b ≡ [] → b ≡ false
conflict_none true e = let both : ArgumentConflict ∷ [] ≡ [] = e in cc
conflict_none false e = refl

-- a use that is taken adds its value
taken_leaves : (s : Shape) (u : Use) (i : IsUse s u) (rows : List Row) → settling s (Some u) rows ≡ []
    → settled_rows s.rules (Some u) rows ≡ with_values u.0 i.how CommandLine (i.value ∷ []) rows
taken_leaves s u i rows fine = i.leaves rows ∙ go i.single (sym (i.faults rows) ∙ fine)
  where
    go : (t : Bool) → conflict (t && has_row u.0 rows) ≡ []
        → with_values u.0 i.how CommandLine (i.value ∷ []) (if t then without u.0 rows else rows) ≡ with_values u.0 i.how CommandLine (i.value ∷ []) rows
    go true none = ap (with_values u.0 i.how CommandLine (i.value ∷ [])) (without_none u.0 rows (conflict_none (has_row u.0 rows) none))
    go false none = refl

plus_more : (o : Option (List Text)) (v : Text) (vs : List Text) → plus (Some (unwrap_or o [] ++ (v ∷ []))) vs ≡ Some (unwrap_or o [] ++ (v ∷ vs))
plus_more o v [] = refl
plus_more o v (x ∷ xs) = ap Some (append_assoc (unwrap_or o []) (v ∷ []) (x ∷ xs))

pub rows_hold : (s : Shape) (us : List Use) → AreUses s us → (rows : List Row) → uses_fault s rows us ≡ [] → (id : Text)
    → all_of id (rows_with s rows us) ≡ plus (all_of id rows) (given_values id us)
rows_hold s [] are rows fine id = refl
rows_hold s (u ∷ us) are rows fine id =
    go (bytes_eq u.0 id) refl (rows_hold s us are.1 (settled_rows s.rules (Some u) rows) (second_none (settling s (Some u) rows) _ fine) id)
  where
    i : IsUse s u
    i = are.0

    leaves : settled_rows s.rules (Some u) rows ≡ with_values u.0 i.how CommandLine (i.value ∷ []) rows
    leaves = taken_leaves s u i rows (first_none (settling s (Some u) rows) _ fine)

    go : (t : Bool) → bytes_eq u.0 id ≡ t
        → all_of id (rows_with s (settled_rows s.rules (Some u) rows) us) ≡ plus (all_of id (settled_rows s.rules (Some u) rows)) (given_values id us)
        → all_of id (rows_with s rows (u ∷ us)) ≡ plus (all_of id rows) ((if t then shown u.1 else []) ++ given_values id us)
    go true e rest =
        let here : all_of id (settled_rows s.rules (Some u) rows) ≡ Some (unwrap_or (all_of id rows) [] ++ (i.value ∷ [])) =
        ap (all_of id) leaves ∙ subst (λ x. all_of x (with_values u.0 i.how CommandLine (i.value ∷ []) rows) ≡ Some (unwrap_or (all_of x rows) [] ++ (i.value ∷ [])))
        (eq_text u.0 id e) (values_here u.0 i.how CommandLine i.value rows) in
        rest ∙ (ap (λ o. plus o (given_values id us)) here
        ∙ (plus_more (all_of id rows) i.value (given_values id us) ∙ ap (λ xs. plus (all_of id rows) (xs ++ given_values id us)) (sym i.shows)))
    go false e rest =
        rest ∙ ap (λ o. plus o (given_values id us)) (ap (all_of id) leaves ∙ values_there u.0 i.how CommandLine id e (i.value ∷ []) rows)

-- not where one is there already, and one at most
pub record IsOnce (there : Bool) (vs : List Text) : Type 0 where
  pub fresh : there ≡ true → vs ≡ []
  pub one : length vs ≤ 1

module _ (s : Shape) (u : Use) (i : IsUse s u) (rows : List Row) (fine : settling s (Some u) rows ≡ []) (id : Text) where
  has_here : bytes_eq u.0 id ≡ true → has_row id (settled_rows s.rules (Some u) rows) ≡ true
  has_here e =
      has_all id (settled_rows s.rules (Some u) rows)
      ∙ ap is_some (ap (all_of id) (taken_leaves s u i rows fine) ∙ subst (λ x. all_of x (with_values u.0 i.how CommandLine (i.value ∷ []) rows) ≡ Some (unwrap_or (all_of x rows) [] ++ (i.value ∷ [])))
      (eq_text u.0 id e) (values_here u.0 i.how CommandLine i.value rows))

  has_there : bytes_eq u.0 id ≡ false → has_row id (settled_rows s.rules (Some u) rows) ≡ has_row id rows
  has_there e =
      has_all id (settled_rows s.rules (Some u) rows)
      ∙ (ap is_some (ap (all_of id) (taken_leaves s u i rows fine) ∙ values_there u.0 i.how CommandLine id e (i.value ∷ []) rows) ∙ sym (has_all id rows))

-- uses that are taken come once
pub used_once : (s : Shape) (us : List Use) → AreUses s us → (rows : List Row) → uses_fault s rows us ≡ [] → (id : Text) → not (bytes_eq id file_id) ≡ true
    → IsOnce (has_row id rows) (given_values id us)
used_once s [] are rows fine id own = record { fresh = λ e. refl; one = omega arith }
used_once s (u ∷ us) are rows fine id own =
    go (bytes_eq u.0 id) refl (used_once s us are.1 (settled_rows s.rules (Some u) rows) (second_none (settling s (Some u) rows) _ fine) id own)
  where
    i : IsUse s u
    i = are.0

    first : settling s (Some u) rows ≡ []
    first = first_none (settling s (Some u) rows) _ fine

    go : (t : Bool) → bytes_eq u.0 id ≡ t → IsOnce (has_row id (settled_rows s.rules (Some u) rows)) (given_values id us)
        → IsOnce (has_row id rows) ((if t then shown u.1 else []) ++ given_values id us)
    go true e later =
        let single : i.single ≡ true = sym i.is_single ∙ (ap (λ x. not (bytes_eq x file_id)) (eq_text u.0 id e) ∙ own) in
        let none : has_row u.0 rows ≡ false = conflict_none (has_row u.0 rows) (subst (λ t. conflict (t && has_row u.0 rows) ≡ []) single (sym (i.faults rows) ∙ first)) in
        let absent : has_row id rows ≡ false = ap (λ x. has_row x rows) (sym (eq_text u.0 id e)) ∙ none in
        let all : shown u.1 ++ given_values id us ≡ i.value ∷ [] = ap₂ (λ xs ys. xs ++ ys) i.shows (later.fresh (has_here s u i rows first id e)) in
        record {
          fresh = λ there. absurd (let both : true ≡ false = sym there ∙ absent in cc);
          one = subst (λ xs. length xs ≤ 1) (sym all) (omega arith);
        }
    go false e later = subst (λ b. IsOnce b (given_values id us)) (has_there s u i rows first id e) later

-- and uses that come once are taken
pub once_used : (s : Shape) (us : List Use) → AreUses s us → (rows : List Row)
    → ((id : Text) → not (bytes_eq id file_id) ≡ true → IsOnce (has_row id rows) (given_values id us)) → uses_fault s rows us ≡ []
once_used s [] are rows once = refl
once_used s (u ∷ us) are rows once =
    ap₂ or_else first (once_used s us are.1 (settled_rows s.rules (Some u) rows) (λ id own. go id (bytes_eq u.0 id) refl own (once id own)))
  where
    i : IsUse s u
    i = are.0

    fault : (t : Bool) → not (bytes_eq u.0 file_id) ≡ t → conflict (t && has_row u.0 rows) ≡ []
    fault true own = test (has_row u.0 rows) refl
      where
        test : (b : Bool) → has_row u.0 rows ≡ b → conflict b ≡ []
        test true e =
            let none = (once u.0 own).fresh e in
            let same = rw (same_text u.0) at none in
            let some : i.value ∷ ([] ++ given_values u.0 us) ≡ [] = ap (λ xs. xs ++ given_values u.0 us) (sym i.shows) ∙ same in cc
        test false e = refl
    fault false own = refl

    first : settling s (Some u) rows ≡ []
    first = i.faults rows ∙ fault i.single i.is_single

    go : (id : Text) (t : Bool) → bytes_eq u.0 id ≡ t → not (bytes_eq id file_id) ≡ true → IsOnce (has_row id rows) ((if t then shown u.1 else []) ++ given_values id us)
        → IsOnce (has_row id (settled_rows s.rules (Some u) rows)) (given_values id us)
    go id true e own all =
        let count : length (i.value ∷ ([] ++ given_values id us)) ≤ 1 = subst (λ xs. length (xs ++ given_values id us) ≤ 1) i.shows all.one in
        record { fresh = λ there. none_in (given_values id us) count; one = omega (arith, count) }
      where
        none_in : (xs : List Text) → length (i.value ∷ ([] ++ xs)) ≤ 1 → xs ≡ []
        none_in [] short = refl
        none_in (x ∷ xs) short = absurd (omega (arith, short))
    go id false e own all = subst (λ b. IsOnce b (given_values id us)) (sym (has_there s u i rows first id e)) all

or_none : (b : Bool) → or_else (if b && true then ArgumentConflict ∷ [] else []) [] ≡ conflict b
or_none true = refl
or_none false = refl

-- the parts that clap takes are uses
module _ (s : Shape) (h : HasKeys s) where
  valued_use : (key : Key) (v : Text) → takes_value key ≡ true → IsUse s (key_name key, v ∷ [])
  valued_use key v valued = record {
    value = v;
    how = reading_by (rule_at key);
    single = true;
    is_single = rw (not_file key) refl;
    shows = refl;
    faults = λ rows. settling_key s h rows key (v ∷ []) ∙ rw valued (or_none (has_row (key_name key) rows));
    leaves = λ rows. settled_key s h rows key (v ∷ []) ∙ rw valued refl;
  }

  flag_use : (key : Key) → takes_value key ≡ false → IsUse s (key_name key, [])
  flag_use key bare = record {
    value = codes "true";
    how = reading_by (rule_at key);
    single = true;
    is_single = rw (not_file key) refl;
    shows = refl;
    faults = λ rows. settling_key s h rows key [] ∙ rw bare (or_none (has_row (key_name key) rows));
    leaves = λ rows. settled_key s h rows key [] ∙ rw bare refl;
  }

  file_is_use : (word : Text) → IsUse s (file_use word)
  file_is_use word = record {
    value = word;
    how = reading_by file_rule;
    single = false;
    is_single = refl;
    shows = refl;
    faults = λ rows. rw h.by_file refl;
    leaves = λ rows. rw h.by_file refl;
  }

  files_are_uses : (files : List Text) → AreUses s (map file_use files)
  files_are_uses [] = tt
  files_are_uses (word ∷ files) = (file_is_use word, files_are_uses files)

  pub are_uses : (parts : List Part) (rest : Option (List Text)) → AreClapParts parts → AreUses s (uses_of parts rest)
  are_uses [] rest are = files_are_uses (Rattle.group_words.specs.Words.rest_files rest)
  are_uses (file word ∷ parts) rest are = (file_is_use word, are_uses parts rest are.1)
  are_uses (flag key ∷ parts) rest are = (flag_use key are.0, are_uses parts rest are.1)
  are_uses (apart key v ∷ parts) rest are = (valued_use key v are.0.0, are_uses parts rest are.1)
  are_uses (joined key v ∷ parts) rest are = (valued_use key v are.0, are_uses parts rest are.1)
