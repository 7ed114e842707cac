-- Readings of words, and what clap makes of them.
use Rattle.std.proofs.Common.{if◌then◌else◌, ◌≡◌, ◌==◌, ◌&&◌, ◌≤◌, Bool, true, false, not, List, [], ◌∷◌, ◌++◌, length, flat_map, slice_get, Option, Some, None, option_map, unwrap_or, All, refl, ap, sym, ◌∙◌, subst, arith, codes}
use Rattle.std.specs.List.{find, list_all}
use Rattle.std.specs.Prelude.{option_and_then}
use Rattle.std.specs.Str.{bytes_eq}
use Rattle.std.proofs.lemmas.List.Elements.{All-cons, All-head, All-nil, All-tail}
use Rattle.clap.specs.Walk.{Row, Text, all_of, first_of}
use Rattle.clap.specs.Simple.{matches_of}
use Rattle.clap.specs.Faults.{fault_of}
use Rattle.std.proofs.lemmas.Bool.{and_parts}
use Rattle.group_words.specs.declared.given.Given.{Given}
use Rattle.group_words.specs.Words.{Key, Jobs, Searches, Seed, Roots, Path, Order, Unreached, Effects, Loops, Stream, Make, Part, file, flag, apart, joined, IsPart, IsReading, as_list, is_file, is_plain, key_name, part_files, rest_files, same_key, takes_value, values}
use Rattle.group_words.specs.ClapCommand.{IsGiven, file_words, given_of, has_plain_values, is_plain_value, is_set, set_flag, words_app}
use Rattle.group_words.proofs.WalkSteps.{IsBare, same_text}
use Rattle.group_words.proofs.WordClasses.{plain_bare}
use Rattle.group_words.proofs.WalkGoes.{AreClapParts, ClapPart}
use Rattle.group_words.proofs.WalkRows.{plus}
use Rattle.group_words.proofs.ClapWords.{or_unset}
use Rattle.group_words.proofs.GivenValues.{flag_empty, trues}
use Rattle.group_words.proofs.Views.{ComeOnce, Parsed, Views, parts_taken, parts_views}

-- the parts of a reading are ones that clap takes
clap_part : (part : Part) → IsPart part → ClapPart part
clap_part (file word) is = plain_bare word is
clap_part (flag key) is = is
clap_part (apart key value) is = (is.0, plain_bare value is.1)
clap_part (joined key value) is = is.0

pub clap_parts : (parts : List Part) → All IsPart parts → AreClapParts parts
clap_parts [] all = tt
clap_parts (part ∷ parts) all = (clap_part part (All-head IsPart part parts all), clap_parts parts (All-tail IsPart part parts all))

pub one_at_most : (o : Option Text) → length (as_list o) ≤ 1
one_at_most None = omega arith
one_at_most (Some v) = omega arith

module _ (words : List Text) (given : Key → Option Text) (files : List Text) (r : IsReading words given files) where
  reading_parts : AreClapParts r.parts
  reading_parts = clap_parts r.parts r.lawful

  reading_once : ComeOnce r.parts
  reading_once key = subst (λ xs. length xs ≤ 1) (sym (r.once key)) (one_at_most (given key))

  reading_views : Views (matches_of words_app words) r.parts r.rest
  reading_views = parts_views words r.parts r.rest r.spell reading_parts reading_once

  -- clap takes the words of a reading
  pub reading_taken : fault_of words_app words ≡ []
  reading_taken = parts_taken words r.parts r.rest r.spell reading_parts reading_once

-- two readings are one

pub plus_same : (xs ys : List Text) → plus None xs ≡ plus None ys → xs ≡ ys
plus_same [] [] e = refl
plus_same [] (y ∷ ys) e = let both : None ≡ Some (y ∷ ys) = e in cc
plus_same (x ∷ xs) [] e = let both : Some (x ∷ xs) ≡ None = e in cc
plus_same (x ∷ xs) (y ∷ ys) e = let both : Some (x ∷ xs) ≡ Some (y ∷ ys) = e in cc

list_same : (a b : Option Text) → as_list a ≡ as_list b → a ≡ b
list_same None None e = refl
list_same None (Some y) e = let both : [] ≡ y ∷ [] = e in cc
list_same (Some x) None e = let both : x ∷ [] ≡ [] = e in cc
list_same (Some x) (Some y) e = let both : x ∷ [] ≡ y ∷ [] = e in cc

abbrev first_set : Option (List Text) → Bool
first_set None = false
first_set (Some []) = false
first_set (Some (v ∷ vs)) = bytes_eq v (codes "true")

flags_same : (a b : Option Text) → ((v : Text) → a ≡ Some v → v ≡ []) → ((v : Text) → b ≡ Some v → v ≡ [])
    → or_unset (plus None (trues (as_list a))) ≡ or_unset (plus None (trues (as_list b))) → a ≡ b
flags_same None None x y e = refl
flags_same None (Some v) x y e = let both : false ≡ true = ap first_set e in cc
flags_same (Some v) None x y e = let both : true ≡ false = ap first_set e in cc
flags_same (Some v) (Some w) x y e = ap Some (x v refl ∙ sym (y w refl))

module _ (words : List Text) (given other : Key → Option Text) (files more : List Text) (r : IsReading words given files) (q : IsReading words other more) where
  views : Views (matches_of words_app words) r.parts r.rest
  views = reading_views words given files r

  others : Views (matches_of words_app words) q.parts q.rest
  others = reading_views words other more q

  same_valued : (key : Key) → takes_value key ≡ true → given key ≡ other key
  same_valued key valued =
      list_same (given key) (other key)
      (sym (r.once key) ∙ (plus_same (values key r.parts) (values key q.parts) (sym (views.valued key valued) ∙ others.valued key valued) ∙ q.once key))

  empty : (key : Key) → takes_value key ≡ false → (v : Text) → given key ≡ Some v → v ≡ []
  empty key bare v is = flag_empty key bare r.parts (clap_parts r.parts r.lawful) v [] (r.once key ∙ ap as_list is)

  empty_other : (key : Key) → takes_value key ≡ false → (v : Text) → other key ≡ Some v → v ≡ []
  empty_other key bare v is = flag_empty key bare q.parts (clap_parts q.parts q.lawful) v [] (q.once key ∙ ap as_list is)

  same_flag : (key : Key) → takes_value key ≡ false → or_unset (plus None (trues (values key r.parts))) ≡ or_unset (plus None (trues (values key q.parts))) → given key ≡ other key
  same_flag key bare e =
      flags_same (given key) (other key) (empty key bare) (empty_other key bare)
      (ap (λ xs. or_unset (plus None (trues xs))) (sym (r.once key)) ∙ (e ∙ ap (λ xs. or_unset (plus None (trues xs))) (q.once key)))

  pub one_given : (key : Key) → given key ≡ other key
  one_given Jobs = same_valued Jobs refl
  one_given Searches = same_valued Searches refl
  one_given Seed = same_valued Seed refl
  one_given Roots = same_valued Roots refl
  one_given Path = same_valued Path refl
  one_given Order = same_flag Order refl (sym (views.flags Order refl) ∙ others.flags Order refl)
  one_given Unreached = same_flag Unreached refl (sym (views.flags Unreached refl) ∙ others.flags Unreached refl)
  one_given Effects = same_flag Effects refl (sym (views.flags Effects refl) ∙ others.flags Effects refl)
  one_given Loops = same_flag Loops refl (sym (views.flags Loops refl) ∙ others.flags Loops refl)
  one_given Stream = same_flag Stream refl (sym (views.flags Stream refl) ∙ others.flags Stream refl)
  one_given Make = same_valued Make refl

  pub one_files : files ≡ more
  one_files =
      r.are ∙ (plus_same (flat_map part_files r.parts ++ rest_files r.rest) (flat_map part_files q.parts ++ rest_files q.rest) (sym views.files ∙ others.files) ∙ sym q.are)

-- what the matches give

first_all : (id : Text) (rows : List Row) → first_of id rows ≡ option_and_then (λ vs. slice_get vs 0) (all_of id rows)
first_all id rows = go (find (λ r. bytes_eq r.id id) rows)
  where
    go : (found : Option Row) → option_and_then (λ (r : Row). slice_get r.values 0) found ≡ option_and_then (λ vs. slice_get vs 0) (option_map (λ (r : Row). r.values) found)
    go None = refl
    go (Some r) = refl

head_list : (xs : List Text) → length xs ≤ 1 → xs ≡ as_list (option_and_then (λ vs. slice_get vs 0) (plus None xs))
head_list [] short = refl
head_list (x ∷ []) short = refl
head_list (x ∷ y ∷ ys) short = absurd (omega (arith, short))

set_list : (xs : List Text) → length xs ≤ 1 → ((v : Text) (vs : List Text) → xs ≡ v ∷ vs → v ≡ [])
    → xs ≡ as_list (set_flag (is_set (option_and_then (λ vs. slice_get vs 0) (or_unset (plus None (trues xs))))))
set_list [] short empty = refl
set_list (x ∷ []) short empty = ap (λ v. v ∷ []) (empty x [] refl)
set_list (x ∷ y ∷ ys) short empty = absurd (omega (arith, short))

unwrap_plus : (xs : List Text) → unwrap_or (plus None xs) [] ≡ xs
unwrap_plus [] = refl
unwrap_plus (x ∷ xs) = refl

module _ (rows : List Row) (g : Given) (is : IsGiven rows g) (parts : List Part) (rest : Option (List Text)) (v : Views rows parts rest) (are : AreClapParts parts) (once : ComeOnce parts) where
  valued_held : (key : Key) → takes_value key ≡ true → given_of g key ≡ first_of (key_name key) rows → values key parts ≡ as_list (given_of g key)
  valued_held key valued given =
      head_list (values key parts) (once key)
      ∙ ap as_list (ap (option_and_then (λ vs. slice_get vs 0)) (sym (v.valued key valued)) ∙ (sym (first_all (key_name key) rows) ∙ sym given))

  flag_held : (key : Key) → takes_value key ≡ false → all_of (key_name key) rows ≡ or_unset (plus None (trues (values key parts))) → (set : Bool)
      → set ≡ is_set (first_of (key_name key) rows) → values key parts ≡ as_list (set_flag set)
  flag_held key bare view set given =
      set_list (values key parts) (once key) (flag_empty key bare parts are)
      ∙ ap (λ b. as_list (set_flag b))
      (ap is_set (ap (option_and_then (λ vs. slice_get vs 0)) (sym view) ∙ sym (first_all (key_name key) rows)) ∙ sym given)

  pub held : (key : Key) → values key parts ≡ as_list (given_of g key)
  held Jobs = valued_held Jobs refl is.jobs
  held Searches = valued_held Searches refl is.searches
  held Seed = valued_held Seed refl is.seed
  held Roots = valued_held Roots refl is.roots
  held Path = valued_held Path refl is.path
  held Order = flag_held Order refl (v.flags Order refl) g.order is.order
  held Unreached = flag_held Unreached refl (v.flags Unreached refl) g.unreached is.unreached
  held Effects = flag_held Effects refl (v.flags Effects refl) g.effects is.effects
  held Loops = flag_held Loops refl (v.flags Loops refl) g.loops is.loops
  held Stream = flag_held Stream refl (v.flags Stream refl) g.stream is.stream
  held Make = valued_held Make refl is.make

  pub files_held : file_words g ≡ flat_map part_files parts ++ rest_files rest
  files_held = is.files ∙ (ap (λ o. unwrap_or o []) v.files ∙ unwrap_plus (flat_map part_files parts ++ rest_files rest))

-- values and files that are lawful

abbrev pub ArePlain : List Text → Type 0
ArePlain [] = Unit {0}
ArePlain (v ∷ vs) = (is_plain v ≡ true) × ArePlain vs

plain_behind : (xs ys : List Text) → ArePlain (xs ++ ys) → ArePlain ys
plain_behind [] ys all = all
plain_behind (x ∷ xs) ys all = plain_behind xs ys all.1

plain_both : (xs ys : List Text) → ArePlain xs → ArePlain ys → ArePlain (xs ++ ys)
plain_both [] ys front all = all
plain_both (x ∷ xs) ys front all = (front.0, plain_both xs ys front.1 all)

plain_if : (b : Bool) (v : Text) → is_plain v ≡ true → ArePlain (if b then v ∷ [] else [])
plain_if true v is = (is, tt)
plain_if false v is = tt

empty_if : (own key : Key) → takes_value own ≡ false → takes_value key ≡ true → ArePlain (if same_key own key then [] ∷ [] else [])
empty_if own key bare valued = go (same_key own key) refl
  where
    go : (b : Bool) → same_key own key ≡ b → ArePlain (if b then [] ∷ [] else [])
    go true e = let both : false ≡ true = sym bare ∙ (ap takes_value (Rattle.group_words.proofs.ClapWords.key_same own key e) ∙ valued) in cc
    go false e = tt

-- the values of lawful parts are plain
pub plain_values : (key : Key) → takes_value key ≡ true → (parts : List Part) → All IsPart parts → ArePlain (values key parts)
plain_values key valued [] all = tt
plain_values key valued (file word ∷ parts) all = plain_values key valued parts (All-tail IsPart (file word) parts all)
plain_values key valued (flag own ∷ parts) all =
    plain_both (if same_key own key then [] ∷ [] else []) (values key parts) (empty_if own key (All-head IsPart (flag own) parts all) valued)
    (plain_values key valued parts (All-tail IsPart (flag own) parts all))
plain_values key valued (apart own v ∷ parts) all =
    plain_both (if same_key own key then v ∷ [] else []) (values key parts) (plain_if (same_key own key) v (All-head IsPart (apart own v) parts all).1)
    (plain_values key valued parts (All-tail IsPart (apart own v) parts all))
plain_values key valued (joined own v ∷ parts) all =
    plain_both (if same_key own key then v ∷ [] else []) (values key parts) (plain_if (same_key own key) v (All-head IsPart (joined own v) parts all).1)
    (plain_values key valued parts (All-tail IsPart (joined own v) parts all))

plain_file : (word : Text) → is_plain word ≡ true → is_file word ≡ true
plain_file [] plain = let both : false ≡ true = plain in cc
plain_file (b ∷ more) plain = go (b == 45) refl plain
  where
    go : (t : Bool) → (b == 45) ≡ t → not t ≡ true → is_file (b ∷ more) ≡ true
    go true e plain = let both : false ≡ true = plain in cc
    go false e plain = rw e refl

-- a file that is no option is plain
bare_file : (word : Text) → IsBare word → is_file word ≡ true → is_plain word ≡ true
bare_file [] l is = let both : false ≡ true = is in cc
bare_file (b ∷ []) l is = go (b == 45) refl is
  where
    go : (t : Bool) → (b == 45) ≡ t → not (t && true) ≡ true → is_plain (b ∷ []) ≡ true
    go true e is = let both : false ≡ true = is in cc
    go false e is = rw e refl
bare_file (b ∷ c ∷ []) l is = go (b == 45) (c == 45) refl refl l
  where
    go : (t u : Bool) → (b == 45) ≡ t → (c == 45) ≡ u → IsBare (b ∷ c ∷ []) → is_plain (b ∷ c ∷ []) ≡ true
    go true true e f l = let both : true ≡ false = (rw (e, f) at l.apart) in cc
    go true false e f l = let both : Some (c ∷ []) ≡ None = (rw (e, f) at l.no_short) in cc
    go false u e f l = rw e refl
bare_file (b ∷ c ∷ x ∷ xs) l is = go (b == 45) (c == 45) refl refl l
  where
    go : (t u : Bool) → (b == 45) ≡ t → (c == 45) ≡ u → IsBare (b ∷ c ∷ x ∷ xs) → is_plain (b ∷ c ∷ x ∷ xs) ≡ true
    go true true e f l = let both : Some (Rattle.clap.specs.Lexer.name_and_value (x ∷ xs)) ≡ None = (rw (e, f) at l.no_long) in cc
    go true false e f l = let both : Some (c ∷ x ∷ xs) ≡ None = (rw (e, f) at l.no_short) in cc
    go false u e f l = rw e refl

abbrev pub AreFiles : List Text → Type 0
AreFiles [] = Unit {0}
AreFiles (w ∷ ws) = (is_file w ≡ true) × AreFiles ws

pub files_front : (xs ys : List Text) → AreFiles (xs ++ ys) → AreFiles xs
files_front [] ys all = tt
files_front (x ∷ xs) ys all = (all.0, files_front xs ys all.1)

pub files_behind : (xs ys : List Text) → AreFiles (xs ++ ys) → AreFiles ys
files_behind [] ys all = all
files_behind (x ∷ xs) ys all = files_behind xs ys all.1

pub files_both : (xs ys : List Text) → AreFiles xs → AreFiles ys → AreFiles (xs ++ ys)
files_both [] ys front all = all
files_both (x ∷ xs) ys front all = (front.0, files_both xs ys front.1 all)

files_tested : (xs : List Text) → list_all is_file xs ≡ true → AreFiles xs
files_tested [] e = tt
files_tested (x ∷ xs) e = let parts = and_parts (is_file x) (list_all is_file xs) e in (parts.0, files_tested xs parts.1)

files_test : (xs : List Text) → AreFiles xs → list_all is_file xs ≡ true
files_test [] all = refl
files_test (x ∷ xs) all = rw all.0 (files_test xs all.1)

pub files_all : (xs : List Text) → AreFiles xs → All (λ word. is_file word ≡ true) xs
files_all [] all = All-nil (λ word. is_file word ≡ true)
files_all (x ∷ xs) all = All-cons (λ word. is_file word ≡ true) x xs all.0 (files_all xs all.1)

pub all_files : (xs : List Text) → All (λ word. is_file word ≡ true) xs → AreFiles xs
all_files [] all = tt
all_files (x ∷ xs) all = (All-head (λ word. is_file word ≡ true) x xs all, all_files xs (All-tail (λ word. is_file word ≡ true) x xs all))

pub part_are_files : (parts : List Part) → All IsPart parts → AreFiles (flat_map part_files parts)
part_are_files [] all = tt
part_are_files (file word ∷ parts) all = (plain_file word (All-head IsPart (file word) parts all), part_are_files parts (All-tail IsPart (file word) parts all))
part_are_files (flag own ∷ parts) all = part_are_files parts (All-tail IsPart (flag own) parts all)
part_are_files (apart own v ∷ parts) all = part_are_files parts (All-tail IsPart (apart own v) parts all)
part_are_files (joined own v ∷ parts) all = part_are_files parts (All-tail IsPart (joined own v) parts all)

-- parts with plain values and lawful files are lawful
own_plain : (key : Key) (v : Text) (vs : List Text) → ArePlain ((if same_key key key then v ∷ [] else []) ++ vs) → is_plain v ≡ true
own_plain key v vs all = (subst (λ b. ArePlain ((if b then v ∷ [] else []) ++ vs)) (same_text (key_name key)) all).0

pub lawful_parts : (parts : List Part) → AreClapParts parts → ((key : Key) → takes_value key ≡ true → ArePlain (values key parts)) → AreFiles (flat_map part_files parts) → All IsPart parts
lawful_parts [] are plain files = All-nil IsPart
lawful_parts (file word ∷ parts) are plain files = All-cons IsPart (file word) parts (bare_file word are.0 files.0) (lawful_parts parts are.1 plain files.1)
lawful_parts (flag own ∷ parts) are plain files =
    All-cons IsPart (flag own) parts are.0
    (lawful_parts parts are.1 (λ key valued. plain_behind (if same_key own key then [] ∷ [] else []) (values key parts) (plain key valued)) files)
lawful_parts (apart own v ∷ parts) are plain files =
    All-cons IsPart (apart own v) parts (are.0.0, own_plain own v (values own parts) (plain own are.0.0))
    (lawful_parts parts are.1 (λ key valued. plain_behind (if same_key own key then v ∷ [] else []) (values key parts) (plain key valued)) files)
lawful_parts (joined own v ∷ parts) are plain files =
    All-cons IsPart (joined own v) parts (are.0, own_plain own v (values own parts) (plain own are.0))
    (lawful_parts parts are.1 (λ key valued. plain_behind (if same_key own key then v ∷ [] else []) (values key parts) (plain key valued)) files)

plain_list : (o : Option Text) → is_plain_value o ≡ true → ArePlain (as_list o)
plain_list None e = tt
plain_list (Some v) e = (e, tt)

list_plain : (o : Option Text) → ArePlain (as_list o) → is_plain_value o ≡ true
list_plain None all = refl
list_plain (Some v) all = all.0

six : (a b c d e f : Bool) → (a && b && c && d && e && f) ≡ true → (a ≡ true) × (b ≡ true) × (c ≡ true) × (d ≡ true) × (e ≡ true) × (f ≡ true)
six a b c d e f all =
    let one = and_parts (a && b && c && d && e) f all in
    let two = and_parts (a && b && c && d) e one.0 in
    let three = and_parts (a && b && c) d two.0 in
    let four = and_parts (a && b) c three.0 in
    let five = and_parts a b four.0 in
    (five.0, five.1, four.1, three.1, two.1, one.1)

module _ (words : List Text) (g : Given) (is : IsGiven (matches_of words_app words) g) where
  -- the matches are a reading, where values and files are lawful
  pub reads : Parsed words → has_plain_values g ≡ true → list_all is_file (file_words g) ≡ true → IsReading words (given_of g) (file_words g)
  reads p plain files = record {
    parts = p.parts;
    rest = p.rest;
    spell = p.spell;
    lawful = lawful_parts p.parts p.are (λ key valued. subst ArePlain (sym (held rows g is p.parts p.rest p.views p.are p.once key)) (plain_given key valued))
        (files_front (flat_map part_files p.parts) (rest_files p.rest) all);
    lawful_rest = files_all (rest_files p.rest) (files_behind (flat_map part_files p.parts) (rest_files p.rest) all);
    once = held rows g is p.parts p.rest p.views p.are p.once;
    are = files_held rows g is p.parts p.rest p.views p.are p.once;
  }
    where
      rows : List Row
      rows = matches_of words_app words

      all : AreFiles (flat_map part_files p.parts ++ rest_files p.rest)
      all = files_tested (flat_map part_files p.parts ++ rest_files p.rest) (ap (list_all is_file) (sym (files_held rows g is p.parts p.rest p.views p.are p.once)) ∙ files)

      tests : (is_plain_value (given_of g Jobs) ≡ true) × (is_plain_value (given_of g Searches) ≡ true) × (is_plain_value (given_of g Seed) ≡ true)
          × (is_plain_value (given_of g Roots) ≡ true) × (is_plain_value (given_of g Path) ≡ true) × (is_plain_value (given_of g Make) ≡ true)
      tests = six (is_plain_value (given_of g Jobs)) (is_plain_value (given_of g Searches)) (is_plain_value (given_of g Seed)) (is_plain_value (given_of g Roots))
          (is_plain_value (given_of g Path)) (is_plain_value (given_of g Make)) plain

      plain_given : (key : Key) → takes_value key ≡ true → ArePlain (as_list (given_of g key))
      plain_given Jobs valued = plain_list (given_of g Jobs) tests.0
      plain_given Searches valued = plain_list (given_of g Searches) tests.1
      plain_given Seed valued = plain_list (given_of g Seed) tests.2
      plain_given Roots valued = plain_list (given_of g Roots) tests.3
      plain_given Path valued = plain_list (given_of g Path) tests.4
      plain_given Order valued = let both : false ≡ true = valued in cc
      plain_given Unreached valued = let both : false ≡ true = valued in cc
      plain_given Effects valued = let both : false ≡ true = valued in cc
      plain_given Loops valued = let both : false ≡ true = valued in cc
      plain_given Stream valued = let both : false ≡ true = valued in cc
      plain_given Make valued = plain_list (given_of g Make) tests.5

  -- where there is a reading, values and files are lawful
  module _ (given : Key → Option Text) (files : List Text) (r : IsReading words given files) where
    held_plain : (key : Key) → takes_value key ≡ true → is_plain_value (given_of g key) ≡ true
    held_plain key valued =
        list_plain (given_of g key) (subst ArePlain (held (matches_of words_app words) g is r.parts r.rest (reading_views words given files r) (reading_parts words given files r) (reading_once words given files r) key) (plain_values key valued r.parts r.lawful))

    pub reading_plain : has_plain_values g ≡ true
    reading_plain = rw (held_plain Jobs refl, held_plain Searches refl, held_plain Seed refl, held_plain Roots refl, held_plain Path refl, held_plain Make refl) refl

    pub reading_files : list_all is_file (file_words g) ≡ true
    reading_files =
        ap (list_all is_file) (files_held (matches_of words_app words) g is r.parts r.rest (reading_views words given files r) (reading_parts words given files r) (reading_once words given files r))
        ∙ files_test (flat_map part_files r.parts ++ rest_files r.rest)
        (files_both (flat_map part_files r.parts) (rest_files r.rest) (part_are_files r.parts r.lawful) (all_files (rest_files r.rest) r.lawful_rest))
