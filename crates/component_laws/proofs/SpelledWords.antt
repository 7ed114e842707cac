-- Words spell settings, or none.
use Rattle.std.proofs.Common.{◌≡◌, ◌≢◌, ◌⊎◌, ◌↔◌, inl, inr, ℕ, List, [], ◌∷◌, true, false, None, All, refl, ap, sym, subst, ◌∙◌}
use Rattle.std.proofs.lemmas.Bool.{cases_Bool}
use Rattle.std.proofs.lemmas.List.Elements.{All-nil}
use Rattle.component_words.specs.declared.flag.Flag.{Flag}
use Rattle.component_words.specs.declared.flag.Flag.TheVariants.{Order, Json, Loops, FromJson}
use Rattle.component_words.specs.declared.valued.Valued.{Valued}
use Rattle.component_words.specs.declared.valued.Valued.TheVariants.{Roots, Jobs}
use Rattle.component_words.specs.Words.{IsPart, ends_word, flag_word, is_filled, is_operand, is_plain, joined_word, valued_word}
use Rattle.component_words.specs.Settings.{AreLawful, AreSettings, Given, IsUnlawful, Settings, given_by, nothing_given}
use Rattle.component_words.specs.Continue.{GoOn, GoOnByOperands, GoOnByValue, with_flag, with_operands, with_value}
use Rattle.component_words.proofs.FirstParts.{none_spelled}
use Rattle.component_words.proofs.GoesOn.{by_end, by_flag, by_joined, by_operand, by_valued, no_joined, no_word}
use Rattle.component_laws.proofs.Known.{IsFound, IsKnown, known_all, known_bool}
use Rattle.component_laws.proofs.SameLists.{rest_or_none, same_or_not}
use Rattle.component_laws.proofs.GivenSettings.{settings_found}

-- what one thing makes, another makes too
found_as : {A B : Settings → Type 0} → ((settings : Settings) → A settings ↔ B settings) → IsFound B → IsFound A
found_as same (inl found) = inl (found.0, (same found.0).1 found.1)
found_as same (inr none) = inr (λ settings is. none settings ((same settings).0 is))

-- no words
at_end : (before : Given) → IsFound (GoOn before [])
at_end before = go (settings_found (given_by before [] None))
  where
    go : IsFound (AreSettings (given_by before [] None)) → IsFound (GoOn before [])
    go (inl found) = inl (
      found.0,
      record {
        spelling = record { parts = []; rest = None; spell = refl; lawful = All-nil IsPart; filled = All-nil (λ word. is_filled word ≡ true) };
        set = found.1;
      },
    )
    go (inr none) = inr (λ settings on.
        let empty = none_spelled on.spelling.parts on.spelling.rest on.spelling.spell in
        none settings
        (subst (λ given. AreSettings given settings)
        (ap (λ parts. given_by before parts on.spelling.rest) empty.0 ∙ ap (given_by before []) empty.1) on.set))

-- operands after `--`
by_operands : (before : Given) (words : List (List ℕ)) → IsFound (GoOnByOperands before words)
by_operands before words =
    go (known_all (λ word. is_filled word ≡ true) (λ word. known_bool (is_filled word) true) words) (settings_found (with_operands before words))
  where
    go : IsKnown (All (λ word. is_filled word ≡ true) words) → IsFound (AreSettings (with_operands before words)) → IsFound (GoOnByOperands before words)
    go (inr empty) found = inr (λ settings on. empty on.filled)
    go (inl filled) (inr none) = inr (λ settings on. none settings on.set)
    go (inl filled) (inl found) = inl (found.0, record { filled = filled; set = found.1 })

-- the value of an option, where there is none
no_value : (valued : Valued) (before : Given) → IsFound (GoOnByValue valued before [])
no_value valued before = inr (λ settings by. let both : [] ≡ by.value ∷ by.rest = by.are in cc)

-- and where a word follows
by_value : (valued : Valued) (before : Given) (value : List ℕ) (rest : List (List ℕ)) → IsFound (GoOn (with_value before valued value) rest)
    → IsFound (GoOnByValue valued before (value ∷ rest))
by_value valued before value rest found = go (cases_Bool (is_plain value)) found
  where
    same_value : (settings : Settings) (by : GoOnByValue valued before (value ∷ rest) settings) → by.value ≡ value
    same_value settings by = let both : value ∷ rest ≡ by.value ∷ by.rest = by.are in cc

    same_rest : (settings : Settings) (by : GoOnByValue valued before (value ∷ rest) settings) → by.rest ≡ rest
    same_rest settings by = let both : value ∷ rest ≡ by.value ∷ by.rest = by.are in cc

    again : (settings : Settings) → GoOnByValue valued before (value ∷ rest) settings → GoOn (with_value before valued value) rest settings
    again settings by =
        subst (λ more. GoOn (with_value before valued value) more settings) (same_rest settings by)
        (subst (λ word. GoOn (with_value before valued word) by.rest settings) (same_value settings by) by.on)

    go : (is_plain value ≡ true) ⊎ (is_plain value ≡ false) → IsFound (GoOn (with_value before valued value) rest) → IsFound (GoOnByValue valued before (value ∷ rest))
    go (inr dashed) found =
        inr (λ settings by. let both : true ≡ false = sym by.plain ∙ (ap is_plain (same_value settings by) ∙ dashed) in cc)
    go (inl plain) (inr none) = inr (λ settings by. none settings (again settings by))
    go (inl plain) (inl found) = inl (found.0, record { value = value; rest = rest; are = refl; plain = plain; on = found.1 })

-- one word, and what follows it

module _ (before : Given) (word : List ℕ) (rest : List (List ℕ)) (further : (given : Given) → IsFound (GoOn given rest))
    (valued_on : (valued : Valued) → IsFound (GoOnByValue valued before rest)) where
  abbrev Found : Type 0
  Found = IsFound (GoOn before (word ∷ rest))

  -- a value behind `=`
  by_join : (valued : Valued) (value : List ℕ) → word ≡ joined_word valued value → Found
  by_join valued value is = elim (cases_Bool (is_filled value)) [
    | inl filled ↦ found_as (λ settings. by_joined before valued value word rest settings is filled) (further (with_value before valued value))
    | inr empty ↦ inr (λ settings. no_joined before valued value word rest settings is empty)
  ]

  flag_or : (own : Flag) → (word ≢ flag_word own → Found) → Found
  flag_or own other = elim (same_or_not word (flag_word own)) [
    | inl is ↦ found_as (λ settings. by_flag before own word rest settings is) (further (with_flag before own))
    | inr apart ↦ other apart
  ]

  valued_or : (valued : Valued) → (word ≢ valued_word valued → Found) → Found
  valued_or valued other = elim (same_or_not word (valued_word valued)) [
    | inl is ↦ found_as (λ settings. by_valued before valued word rest settings is) (valued_on valued)
    | inr apart ↦ other apart
  ]

  joined_or : (valued : Valued) → (((value : List ℕ) → word ≢ joined_word valued value) → Found) → Found
  joined_or Roots other = elim (rest_or_none (joined_word Roots []) word) [
    | inl found ↦ by_join Roots found.0 found.1
    | inr apart ↦ other apart
  ]
  joined_or Jobs other = elim (rest_or_none (joined_word Jobs []) word) [
    | inl found ↦ by_join Jobs found.0 found.1
    | inr apart ↦ other apart
  ]

  ends_or : (word ≢ ends_word → Found) → Found
  ends_or other = elim (same_or_not word ends_word) [
    | inl is ↦ found_as (λ settings. by_end before word rest settings is) (by_operands before rest)
    | inr apart ↦ other apart
  ]

  by_option : is_operand word ≡ false → Found
  by_option option =
      ends_or (λ no_end.
      valued_or Roots (λ no_roots. valued_or Jobs (λ no_jobs.
      joined_or Roots (λ no_joined_roots. joined_or Jobs (λ no_joined_jobs.
      flag_or Order (λ no_order. flag_or Json (λ no_json. flag_or Loops (λ no_loops. flag_or FromJson (λ no_from_json.
      inr (λ settings.
      no_word before word rest settings option no_end (no_valued no_roots no_jobs) (no_join no_joined_roots no_joined_jobs)
      (no_flag no_order no_json no_loops no_from_json)))))))))))
    where
      no_valued : word ≢ valued_word Roots → word ≢ valued_word Jobs → (valued : Valued) → word ≢ valued_word valued
      no_valued roots jobs Roots = roots
      no_valued roots jobs Jobs = jobs

      no_join : ((value : List ℕ) → word ≢ joined_word Roots value) → ((value : List ℕ) → word ≢ joined_word Jobs value)
          → (valued : Valued) (value : List ℕ) → word ≢ joined_word valued value
      no_join roots jobs Roots = roots
      no_join roots jobs Jobs = jobs

      no_flag : word ≢ flag_word Order → word ≢ flag_word Json → word ≢ flag_word Loops → word ≢ flag_word FromJson → (own : Flag) → word ≢ flag_word own
      no_flag order json loops from_json Order = order
      no_flag order json loops from_json Json = json
      no_flag order json loops from_json Loops = loops
      no_flag order json loops from_json FromJson = from_json

  by_word : Found
  by_word = elim (cases_Bool (is_operand word)) [
    | inl operand ↦ found_as (λ settings. by_operand before word rest settings operand) (further (with_operands before (word ∷ [])))
    | inr option ↦ by_option option
  ]

go_on : (before : Given) (words : List (List ℕ)) → IsFound (GoOn before words)
go_on before [] = at_end before
go_on before (word ∷ []) = by_word before word [] (λ given. at_end given) (λ valued. no_value valued before)
go_on before (word ∷ (value ∷ rest)) =
    by_word before word (value ∷ rest) (λ given. go_on given (value ∷ rest))
    (λ valued. by_value valued before value rest (go_on (with_value before valued value) rest))

pub settings_or_none : (words : List (List ℕ)) → ((settings : Settings) × AreLawful words settings) ⊎ IsUnlawful words
settings_or_none words = go (go_on nothing_given words)
  where
    go : IsFound (GoOn nothing_given words) → ((settings : Settings) × AreLawful words settings) ⊎ IsUnlawful words
    go (inl found) = inl (found.0, record { spelling = found.1.spelling; set = found.1.set })
    go (inr none) = inr (λ settings lawful. none settings (record { spelling = lawful.spelling; set = lawful.set }))
