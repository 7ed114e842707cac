-- What further words set once a word is taken.
use Rattle.std.proofs.Common.{◌≡◌, ◌≢◌, ℕ, ◌↔◌, inl, inr, List, [], ◌∷◌, ◌++◌, Bool, true, false, Option, Some, None, All, refl, ap, sym, subst, ◌∙◌, append_assoc, append-nil}
use Rattle.std.specs.List.{flat_map}
use Rattle.std.specs.Str.Parse.{digits_value}
use Rattle.std.proofs.lemmas.List.Elements.{All-cons, All-head, All-nil, All-tail}
use Rattle.component_words.specs.declared.flag.Flag.{Flag}
use Rattle.component_words.specs.Words.{IsPart, Part, apart, ends_word, flag, flag_word, is_filled, is_operand, joined, joined_word, operand, part_files, part_flags, part_jobs, part_roots, part_words, rest_files, rest_words, valued_word}
use Rattle.component_words.specs.declared.valued.Valued.{Valued}
use Rattle.component_words.specs.declared.valued.Valued.TheVariants.{Roots, Jobs}
use Rattle.component_words.specs.Settings.{AreFile, AreJobs, AreLawful, AreSettings, Given, Settings, given_by, nothing_given}
use Rattle.component_words.specs.Continue.{GoOn, GoOnByOperands, GoOnByValue, with_flag, with_operands, with_value}
use Rattle.component_words.proofs.FirstParts.{FirstIs, before_value, ends, ends_is, first_is, flag_is, joined_is, kind_of, one_spelling, operand_kind, spelled, valued_is, whole}

-- what a part gives, after what was given before
abbrev pub with_part : Given → Part → Given
with_part before part = record {
  flags = before.flags ++ part_flags part;
  roots = before.roots ++ part_roots part;
  jobs = before.jobs ++ part_jobs part;
  operands = before.operands ++ part_files part;
}

abbrev given_of : List Flag → List (List ℕ) → List (List ℕ) → List (List ℕ) → Given
given_of flags roots jobs operands = record { flags = flags; roots = roots; jobs = jobs; operands = operands }

pub same_given : (a b : Given) → a.flags ≡ b.flags → a.roots ≡ b.roots → a.jobs ≡ b.jobs → a.operands ≡ b.operands → a ≡ b
same_given a b flags roots jobs operands =
    ap (λ fs. given_of fs a.roots a.jobs a.operands) flags
    ∙ ap (λ rs. given_of b.flags rs a.jobs a.operands) roots
    ∙ ap (λ js. given_of b.flags b.roots js a.operands) jobs
    ∙ ap (given_of b.flags b.roots b.jobs) operands

pub by_part : (before : Given) (part : Part) (parts : List Part) (rest : Option (List (List ℕ)))
    → given_by before (part ∷ parts) rest ≡ given_by (with_part before part) parts rest
by_part before part parts rest =
    same_given (given_by before (part ∷ parts) rest) (given_by (with_part before part) parts rest)
    (sym (append_assoc before.flags (part_flags part) (flat_map part_flags parts)))
    (sym (append_assoc before.roots (part_roots part) (flat_map part_roots parts)))
    (sym (append_assoc before.jobs (part_jobs part) (flat_map part_jobs parts)))
    (ap (λ os. os ++ rest_files rest) (sym (append_assoc before.operands (part_files part) (flat_map part_files parts))))

spelled_more : (part : Part) (parts : List Part) (rest : Option (List (List ℕ))) → spelled (part ∷ parts) rest ≡ part_words part ++ spelled parts rest
spelled_more part parts rest = append_assoc (part_words part) (flat_map part_words parts) (rest_words rest)

-- a part is put before
pub put_part : (before : Given) (part : Part) (words rest : List (List ℕ)) (settings : Settings) → words ≡ part_words part ++ rest → IsPart part
    → GoOn (with_part before part) rest settings → GoOn before words settings
put_part before part words rest settings is lawful on = record {
  spelling = record {
    parts = part ∷ on.spelling.parts;
    rest = on.spelling.rest;
    spell = is ∙ ap (λ ws. part_words part ++ ws) on.spelling.spell ∙ sym (spelled_more part on.spelling.parts on.spelling.rest);
    lawful = All-cons IsPart part on.spelling.parts lawful on.spelling.lawful;
    filled = on.spelling.filled;
  };
  set = subst (λ given. AreSettings given settings) (sym (by_part before part on.spelling.parts on.spelling.rest)) on.set;
}

-- and taken away
pub take_part : (before : Given) (part : Part) (words rest : List (List ℕ)) (settings : Settings) (others : List Part) (on : GoOn before words settings)
    → on.spelling.parts ≡ part ∷ others → rest ≡ spelled others on.spelling.rest → GoOn (with_part before part) rest settings
take_part before part words rest settings others on is spell = record {
  spelling = record {
    parts = others;
    rest = on.spelling.rest;
    spell = spell;
    lawful = All-tail IsPart part others (subst (All IsPart) is on.spelling.lawful);
    filled = on.spelling.filled;
  };
  set =
      subst (λ given. AreSettings given settings)
      (ap (λ parts. given_by before parts on.spelling.rest) is ∙ by_part before part others on.spelling.rest) on.set;
}

first_of : (before : Given) (word : List ℕ) (rest : List (List ℕ)) (settings : Settings) (on : GoOn before (word ∷ rest) settings)
    → FirstIs (kind_of word) rest on.spelling.parts on.spelling.rest
first_of before word rest settings on = first_is word rest on.spelling.parts on.spelling.rest on.spelling.spell on.spelling.lawful

-- a word that is a whole part
pub by_whole : (before : Given) (part : Part) (word : List ℕ) (rest : List (List ℕ)) (settings : Settings) → part_words part ≡ word ∷ [] → IsPart part
    → kind_of word ≡ whole part → GoOn before (word ∷ rest) settings ↔ GoOn (with_part before part) rest settings
by_whole before part word rest settings words lawful kind = (
  λ on.
      let is : FirstIs (whole part) rest on.spelling.parts on.spelling.rest =
      subst (λ k. FirstIs k rest on.spelling.parts on.spelling.rest) kind (first_of before word rest settings on) in
      take_part before part (word ∷ rest) rest settings is.0 on is.1 is.2,
  λ on. put_part before part (word ∷ rest) rest settings (ap (λ ws. ws ++ rest) (sym words)) lawful on,
)

pub operand_given : (before : Given) (word : List ℕ) → with_part before (operand word) ≡ with_operands before (word ∷ [])
operand_given before word =
    same_given (with_part before (operand word)) (with_operands before (word ∷ [])) (append-nil before.flags) (append-nil before.roots) (append-nil before.jobs) refl

pub flag_given : (before : Given) (own : Flag) → with_part before (flag own) ≡ with_flag before own
flag_given before own =
    same_given (with_part before (flag own)) (with_flag before own) refl (append-nil before.roots) (append-nil before.jobs) (append-nil before.operands)

pub apart_given : (before : Given) (valued : Valued) (value : List ℕ) → with_part before (apart valued value) ≡ with_value before valued value
apart_given before valued value =
    same_given (with_part before (apart valued value)) (with_value before valued value) (append-nil before.flags) refl refl (append-nil before.operands)

pub joined_given : (before : Given) (valued : Valued) (value : List ℕ) → with_part before (joined valued value) ≡ with_value before valued value
joined_given before valued value =
    same_given (with_part before (joined valued value)) (with_value before valued value) (append-nil before.flags) refl refl (append-nil before.operands)

pub by_operand : (before : Given) (word : List ℕ) (rest : List (List ℕ)) (settings : Settings) → is_operand word ≡ true
    → GoOn before (word ∷ rest) settings ↔ GoOn (with_operands before (word ∷ [])) rest settings
by_operand before word rest settings is =
    subst (λ given. GoOn before (word ∷ rest) settings ↔ GoOn given rest settings) (operand_given before word)
    (by_whole before (operand word) word rest settings refl is (operand_kind word is))

pub by_flag : (before : Given) (own : Flag) (word : List ℕ) (rest : List (List ℕ)) (settings : Settings) → word ≡ flag_word own
    → GoOn before (word ∷ rest) settings ↔ GoOn (with_flag before own) rest settings
by_flag before own word rest settings is =
    subst (λ given. GoOn before (word ∷ rest) settings ↔ GoOn given rest settings) (flag_given before own)
    (by_whole before (flag own) word rest settings (ap (λ w. w ∷ []) (sym is)) tt (ap kind_of is ∙ flag_is own))

pub by_joined : (before : Given) (valued : Valued) (value word : List ℕ) (rest : List (List ℕ)) (settings : Settings) → word ≡ joined_word valued value
    → is_filled value ≡ true → GoOn before (word ∷ rest) settings ↔ GoOn (with_value before valued value) rest settings
by_joined before valued value word rest settings is filled =
    subst (λ given. GoOn before (word ∷ rest) settings ↔ GoOn given rest settings) (joined_given before valued value)
    (by_whole before (joined valued value) word rest settings (ap (λ w. w ∷ []) (sym is)) filled (ap kind_of is ∙ joined_is valued value))

-- an empty value
pub no_joined : (before : Given) (valued : Valued) (value word : List ℕ) (rest : List (List ℕ)) (settings : Settings) → word ≡ joined_word valued value
    → is_filled value ≡ false → GoOn before (word ∷ rest) settings → ⊥
no_joined before valued value word rest settings is empty on =
    let first : FirstIs (whole (joined valued value)) rest on.spelling.parts on.spelling.rest =
    subst (λ k. FirstIs k rest on.spelling.parts on.spelling.rest) (ap kind_of is ∙ joined_is valued value) (first_of before word rest settings on) in
    let filled : is_filled value ≡ true = All-head IsPart (joined valued value) first.0 (subst (All IsPart) first.1 on.spelling.lawful) in
    let both : true ≡ false = sym filled ∙ empty in cc

-- an option whose value follows
pub by_valued : (before : Given) (valued : Valued) (word : List ℕ) (rest : List (List ℕ)) (settings : Settings) → word ≡ valued_word valued
    → GoOn before (word ∷ rest) settings ↔ GoOnByValue valued before rest settings
by_valued before valued word rest settings is = (
  λ on.
      let first : FirstIs (before_value valued) rest on.spelling.parts on.spelling.rest =
      subst (λ k. FirstIs k rest on.spelling.parts on.spelling.rest) (ap kind_of is ∙ valued_is valued) (first_of before word rest settings on) in
      record {
        value = first.0;
        rest = spelled first.1.0 on.spelling.rest;
        are = first.1.2;
        plain = All-head IsPart (apart valued first.0) first.1.0 (subst (All IsPart) first.1.1 on.spelling.lawful);
        on =
            subst (λ given. GoOn given (spelled first.1.0 on.spelling.rest) settings) (apart_given before valued first.0)
            (take_part before (apart valued first.0) (word ∷ rest) (spelled first.1.0 on.spelling.rest) settings first.1.0 on first.1.1 refl);
      },
  λ by.
      put_part before (apart valued by.value) (word ∷ rest) by.rest settings (ap (λ w. w ∷ rest) is ∙ ap (λ ws. valued_word valued ∷ ws) by.are) by.plain
      (subst (λ given. GoOn given by.rest settings) (sym (apart_given before valued by.value)) by.on),
)

end_given : (before : Given) (rest : List (List ℕ)) → given_by before [] (Some rest) ≡ with_operands before rest
end_given before rest =
    same_given (given_by before [] (Some rest)) (with_operands before rest) (append-nil before.flags) (append-nil before.roots) (append-nil before.jobs)
    (ap (λ os. os ++ rest) (append-nil before.operands))

-- `--`
pub by_end : (before : Given) (word : List ℕ) (rest : List (List ℕ)) (settings : Settings) → word ≡ ends_word
    → GoOn before (word ∷ rest) settings ↔ GoOnByOperands before rest settings
by_end before word rest settings is = (
  λ on.
      let first : FirstIs ends rest on.spelling.parts on.spelling.rest =
      subst (λ k. FirstIs k rest on.spelling.parts on.spelling.rest) (ap kind_of is ∙ ends_is) (first_of before word rest settings on) in
      record {
        filled = subst (λ r. All (λ w. is_filled w ≡ true) (rest_files r)) first.1 on.spelling.filled;
        set =
            subst (λ given. AreSettings given settings)
            (ap (λ parts. given_by before parts on.spelling.rest) first.0 ∙ ap (λ r. given_by before [] r) first.1 ∙ end_given before rest) on.set;
      },
  λ by. record {
    spelling = record { parts = []; rest = Some rest; spell = ap (λ w. w ∷ rest) is; lawful = All-nil IsPart; filled = by.filled };
    set = subst (λ given. AreSettings given settings) (sym (end_given before rest)) by.set;
  },
)

-- other words
pub no_word : (before : Given) (word : List ℕ) (rest : List (List ℕ)) (settings : Settings) → is_operand word ≡ false → word ≢ ends_word
    → ((valued : Valued) → word ≢ valued_word valued) → ((valued : Valued) (value : List ℕ) → word ≢ joined_word valued value)
    → ((own : Flag) → word ≢ flag_word own) → GoOn before (word ∷ rest) settings → ⊥
no_word before word rest settings no_operand no_end not_valued not_joined no_flag on = go on.spelling.parts on.spelling.rest on.spelling.spell on.spelling.lawful where
  go : (parts : List Part) (more : Option (List (List ℕ))) → word ∷ rest ≡ spelled parts more → All IsPart parts → ⊥
  go [] None e lawful = cc
  go [] (Some words) e lawful = let is : word ≡ ends_word = cc in no_end is
  go (operand name ∷ others) more e lawful =
      let both : word ∷ rest ≡ name ∷ spelled others more = e in
      let is : word ≡ name = cc in
      let yes : is_operand name ≡ true = All-head IsPart (operand name) others lawful in
      let wrong : true ≡ false = sym yes ∙ ap is_operand (sym is) ∙ no_operand in cc
  go (flag own ∷ others) more e lawful =
      let both : word ∷ rest ≡ flag_word own ∷ spelled others more = e in let is : word ≡ flag_word own = cc in no_flag own is
  go (apart valued value ∷ others) more e lawful =
      let both : word ∷ rest ≡ valued_word valued ∷ (value ∷ spelled others more) = e in
      let is : word ≡ valued_word valued = cc in not_valued valued is
  go (joined valued value ∷ others) more e lawful =
      let both : word ∷ rest ≡ joined_word valued value ∷ spelled others more = e in
      let is : word ≡ joined_word valued value = cc in not_joined valued value is

-- one setting

abbrev setting_of : Bool → Bool → Bool → Bool → ℕ → List (List ℕ) → List ℕ → Settings
setting_of order json loops from_json jobs roots file =
    record { order = order; json = json; loops = loops; from_json = from_json; jobs = jobs; roots = roots; file = file }

one_jobs : (values : List (List ℕ)) (a b : ℕ) → AreJobs values a → AreJobs values b → a ≡ b
one_jobs values a b (inl none) (inl also) = none.1 ∙ sym also.1
one_jobs values a b (inl none) (inr one) = let both : [] ≡ one.0 ∷ [] = sym none.0 ∙ one.1 in let wrong : ⊥ = cc in absurd wrong
one_jobs values a b (inr one) (inl none) = let both : [] ≡ one.0 ∷ [] = sym none.0 ∙ one.1 in let wrong : ⊥ = cc in absurd wrong
one_jobs values a b (inr one) (inr also) =
    let both : one.0 ∷ [] ≡ also.0 ∷ [] = sym one.1 ∙ also.1 in
    let same : one.0 ≡ also.0 = cc in one.2.is ∙ ap (digits_value 10) same ∙ sym also.2.is

one_file : (operands : List (List ℕ)) (a b : List ℕ) → AreFile operands a → AreFile operands b → a ≡ b
one_file operands a b (inl none) (inl also) = none.1 ∙ sym also.1
one_file operands a b (inl none) (inr one) = let both : [] ≡ b ∷ [] = sym none.0 ∙ one in let wrong : ⊥ = cc in absurd wrong
one_file operands a b (inr one) (inl none) = let both : [] ≡ a ∷ [] = sym none.0 ∙ one in let wrong : ⊥ = cc in absurd wrong
one_file operands a b (inr one) (inr also) = let both : a ∷ [] ≡ b ∷ [] = sym one ∙ also in cc

pub one_set : (given : Given) (a b : Settings) → AreSettings given a → AreSettings given b → a ≡ b
one_set given a b is also =
    ap (λ o. setting_of o a.json a.loops a.from_json a.jobs a.roots a.file) (is.order ∙ sym also.order)
    ∙ ap (λ j. setting_of b.order j a.loops a.from_json a.jobs a.roots a.file) (is.json ∙ sym also.json)
    ∙ ap (λ l. setting_of b.order b.json l a.from_json a.jobs a.roots a.file) (is.loops ∙ sym also.loops)
    ∙ ap (λ f. setting_of b.order b.json b.loops f a.jobs a.roots a.file) (is.from_json ∙ sym also.from_json)
    ∙ ap (λ n. setting_of b.order b.json b.loops b.from_json n a.roots a.file) (one_jobs given.jobs a.jobs b.jobs is.jobs also.jobs)
    ∙ ap (λ rs. setting_of b.order b.json b.loops b.from_json b.jobs rs a.file) (is.roots ∙ sym also.roots)
    ∙ ap (setting_of b.order b.json b.loops b.from_json b.jobs b.roots) (one_file given.operands a.file b.file is.file also.file)

pub one_lawful : (words : List (List ℕ)) (a b : Settings) → AreLawful words a → AreLawful words b → a ≡ b
one_lawful words a b is also =
    let one =
    one_spelling is.spelling.parts is.spelling.rest also.spelling.parts also.spelling.rest (sym is.spelling.spell ∙ also.spelling.spell)
    is.spelling.lawful also.spelling.lawful in
    one_set (given_by nothing_given is.spelling.parts is.spelling.rest) a b is.set
    (subst (λ given. AreSettings given b)
    (ap (λ parts. given_by nothing_given parts also.spelling.rest) (sym one.0) ∙ ap (given_by nothing_given is.spelling.parts) (sym one.1))
    also.set)
