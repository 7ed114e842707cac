-- What a word looks like: `--`, an option with its name, short options, or a word that is no option.
use Rattle.std.proofs.Common.{if◌then◌else◌, ◌≡◌, ◌==◌, ◌+◌, ℕ, Bool, true, false, not, suc, List, [], ◌∷◌, ◌++◌, Option, Some, None, refl, ap, ap₂, sym, ◌∙◌, arith, codes, slice_get}
use Rattle.std.specs.List.{before_first, after_first, list_any, position_or_len, find}
use Rattle.std.specs.Str.{IsUtf8, bytes_eq, chars}
use Rattle.std.specs.Cmp.Lexicographic.{same_text}
use Rattle.std.proofs.lemmas.Bool.Decides.{nat_tests}
use Rattle.clap.specs.Lexer.{long_of, long_of_rest, name_and_value, short_of, short_of_rest, strip_byte}
use Rattle.clap.specs.Walk.{Text}
use Rattle.prolog_terms.proofs.ViewLemmas.{some_once}
use Rattle.group_words.specs.Words.{Key, Jobs, Searches, Seed, Roots, Path, Order, Unreached, Effects, Loops, Stream, Make, key_name, option_word, is_plain}
use Rattle.group_words.proofs.WordRules.{all_keys, called}
use Rattle.group_words.proofs.WalkSteps.{IsBare, IsLong, IsShort}

pub eq_text : (a b : Text) → bytes_eq a b ≡ true → a ≡ b
eq_text a b e = same_text a b (sym e)

-- a name with the value behind it
abbrev pub spelled : Text → Option Text → Text
spelled name None = name
spelled name (Some v) = name ++ codes "=" ++ v

spelled_more : (x : ℕ) (name : Text) (v : Option Text) → x ∷ spelled name v ≡ spelled (x ∷ name) v
spelled_more x name None = refl
spelled_more x name (Some v) = refl

-- a text is its name and its value
split_back : (text : Text) → text ≡ spelled (name_and_value text).0 (name_and_value text).1
split_back [] = refl
split_back (x ∷ xs) = go (x == 61) refl (split_back xs)
  where
    go : (t : Bool) → (x == 61) ≡ t → xs ≡ spelled (name_and_value xs).0 (name_and_value xs).1 → x ∷ xs ≡ spelled (name_and_value (x ∷ xs)).0 (name_and_value (x ∷ xs)).1
    go true e rest = let is : x ≡ 61 = grind (arith, nat_tests) in rw e (ap (λ y. y ∷ xs) is)
    go false e rest =
        let n = position_or_len (λ y. y == 61) xs in
        let whole : 1 + n + 1 ≡ suc (n + 1) = omega arith in
        let front : 1 + n ≡ suc n = omega arith in
        rw (e, whole, front) (ap (λ ys. x ∷ ys) rest ∙ spelled_more x (name_and_value xs).0 (name_and_value xs).1)

pub no_option : {A : Type 0} (x : A) → None ≡ Some x → ⊥
no_option x e = let none : None ≡ Some x = e in cc

pair_back : (text name : Text) (value : Option Text) → name_and_value text ≡ (name, value) → text ≡ spelled name value
pair_back text name value e = split_back text ∙ ap₂ spelled (ap (λ p. p.0) e) (ap (λ p. p.1) e)

-- an option is spelled by its name and its value
pub long_back : (word name : Text) (value : Option Text) → long_of word ≡ Some (name, value) → word ≡ codes "--" ++ spelled name value
long_back [] name value e = absurd (no_option (name, value) e)
long_back (a ∷ more) name value e = first (a == 45) refl more e
  where
    third : (more : Text) → a ≡ 45 → (b : ℕ) → b ≡ 45 → long_of_rest more ≡ Some (name, value) → a ∷ b ∷ more ≡ codes "--" ++ spelled name value
    third [] is b also e = absurd (no_option (name, value) e)
    third (x ∷ xs) is b also e =
        let text = pair_back (x ∷ xs) name value (some_once e) in
        ap (λ y. y ∷ b ∷ x ∷ xs) is ∙ (ap (λ y. 45 ∷ y ∷ x ∷ xs) also ∙ ap (λ ys. 45 ∷ 45 ∷ ys) text)

    second : (more : Text) → a ≡ 45 → (t : Bool) → (b : ℕ) → (b == 45) ≡ t
        → Rattle.std.specs.Prelude.option_and_then long_of_rest (if t then Some more else None) ≡ Some (name, value) → a ∷ b ∷ more ≡ codes "--" ++ spelled name value
    second more is true b t e = let also : b ≡ 45 = grind (arith, nat_tests) in third more is b also e
    second more is false b t e = absurd (no_option (name, value) e)

    first : (t : Bool) → (a == 45) ≡ t → (more : Text)
        → Rattle.std.specs.Prelude.option_and_then long_of_rest (Rattle.std.specs.Prelude.option_and_then (strip_byte 45) (if t then Some more else None)) ≡ Some (name, value)
        → a ∷ more ≡ codes "--" ++ spelled name value
    first true t [] e = absurd (no_option (name, value) e)
    first true t (b ∷ more) e = let is : a ≡ 45 = grind (arith, nat_tests) in second more is (b == 45) b refl e
    first false t more e = absurd (no_option (name, value) e)

-- what is found passes
found_passes : (p : Key → Bool) (keys : List Key) (key : Key) → find p keys ≡ Some key → p key ≡ true
found_passes p [] key e = absurd (no_option key e)
found_passes p (k ∷ ks) key e = go (p k) refl e (found_passes p ks key)
  where
    go : (t : Bool) → p k ≡ t → (if t then Some k else find p ks) ≡ Some key → (find p ks ≡ Some key → p key ≡ true) → p key ≡ true
    go true is e rest = ap p (sym (some_once e)) ∙ is
    go false is e rest = rest e

pub called_back : (name : Text) (key : Key) → called name ≡ Some key → name ≡ key_name key
called_back name key e = sym (eq_text (key_name key) name (found_passes (λ k. bytes_eq (key_name k) name) all_keys key e))

-- an option without a value
pub word_alone : (word name : Text) (key : Key) → IsLong word name None → called name ≡ Some key → word ≡ option_word key
word_alone word name key l is = long_back word name None l.is ∙ ap (λ n. codes "--" ++ n) (called_back name key is)

-- an option with its value
pub word_joined : (word name v : Text) (key : Key) → IsLong word name (Some v) → called name ≡ Some key → word ≡ option_word key ++ codes "=" ++ v
word_joined word name v key l is =
    long_back word name (Some v) l.is ∙ ap (λ n. codes "--" ++ (n ++ codes "=" ++ v)) (called_back name key is)

pub option_long : (key : Key) → IsLong (option_word key) (key_name key) None
option_long Jobs = record { apart = refl; is = refl }
option_long Searches = record { apart = refl; is = refl }
option_long Seed = record { apart = refl; is = refl }
option_long Roots = record { apart = refl; is = refl }
option_long Path = record { apart = refl; is = refl }
option_long Order = record { apart = refl; is = refl }
option_long Unreached = record { apart = refl; is = refl }
option_long Effects = record { apart = refl; is = refl }
option_long Loops = record { apart = refl; is = refl }
option_long Stream = record { apart = refl; is = refl }
option_long Make = record { apart = refl; is = refl }

pub joined_long : (key : Key) (v : Text) → IsLong (option_word key ++ codes "=" ++ v) (key_name key) (Some v)
joined_long Jobs v = record { apart = refl; is = refl }
joined_long Searches v = record { apart = refl; is = refl }
joined_long Seed v = record { apart = refl; is = refl }
joined_long Roots v = record { apart = refl; is = refl }
joined_long Path v = record { apart = refl; is = refl }
joined_long Order v = record { apart = refl; is = refl }
joined_long Unreached v = record { apart = refl; is = refl }
joined_long Effects v = record { apart = refl; is = refl }
joined_long Loops v = record { apart = refl; is = refl }
joined_long Stream v = record { apart = refl; is = refl }
joined_long Make v = record { apart = refl; is = refl }

-- a plain word is no option
pub plain_bare : (word : Text) → is_plain word ≡ true → IsBare word
plain_bare [] plain = let both : false ≡ true = plain in cc
plain_bare (b ∷ more) plain = go (b == 45) refl plain
  where
    go : (t : Bool) → (b == 45) ≡ t → not t ≡ true → IsBare (b ∷ more)
    go true e plain = let both : false ≡ true = plain in cc
    go false e plain = record { apart = rw e refl; no_long = rw e refl; no_short = rw e refl }

-- what a word looks like
pub data Class (word : Text) : Type 0 where
  dashes : word ≡ codes "--" → Class word
  long : (name : Text) → (value : Option Text) → IsLong word name value → Class word
  short : (flags : Text) → IsShort word flags → Class word
  bare : IsBare word → Class word

pub classify : (word : Text) → Class word
classify word = first (bytes_eq word (codes "--")) refl
  where
    third : bytes_eq word (codes "--") ≡ false → long_of word ≡ None → (flags : Option Text) → short_of word ≡ flags → Class word
    third apart no_long None is = bare (record { apart = apart; no_long = no_long; no_short = is })
    third apart no_long (Some flags) is = short flags (record { apart = apart; no_long = no_long; is = is })

    second : bytes_eq word (codes "--") ≡ false → (found : Option (Text × Option Text)) → long_of word ≡ found → Class word
    second apart None is = third apart is (short_of word) refl
    second apart (Some p) is = long p.0 p.1 (record { apart = apart; is = is })

    first : (t : Bool) → bytes_eq word (codes "--") ≡ t → Class word
    first true is = dashes (eq_text word (codes "--") is)
    first false is = second is (long_of word) refl

-- short options begin with a character
abbrev pub HasChar : Text → Type 0
HasChar word = (b : ℕ) (bs : Text) → short_of word ≡ Some (b ∷ bs) → (x : ℕ) × (slice_get (chars (b ∷ bs)) 0 ≡ Some x)

short_some : (word : Text) → short_of word ≡ Some [] → ⊥
short_some [] e = no_option [] e
short_some (a ∷ more) e = go (a == 45) more e
  where
    second : (b : ℕ) (bs : Text) (t : Bool) → (if t then None else Some (b ∷ bs)) ≡ Some [] → ⊥
    second b bs true e = no_option [] e
    second b bs false e = let both : Some (b ∷ bs) ≡ Some [] = e in cc

    go : (t : Bool) (more : Text) → Rattle.std.specs.Prelude.option_and_then short_of_rest (if t then Some more else None) ≡ Some [] → ⊥
    go true [] e = no_option [] e
    go true (b ∷ bs) e = second b bs (b == 45) e
    go false more e = no_option [] e

-- the flags of short options are some
pub flags_some : (word flags : Text) → short_of word ≡ Some flags → (b : ℕ) × ((bs : Text) × (flags ≡ b ∷ bs))
flags_some word [] e = absurd (short_some word e)
flags_some word (b ∷ bs) e = (b, (bs, refl))
