-- What a reader keeps when it takes a word.
use Rattle.std.proofs.Common.{◌≡◌, ◌≢◌, ℕ, ◌↔◌, inl, inr, List, [], ◌∷◌, ◌++◌, Bool, true, false, Option, Some, None, Result, Ok, Err, IfOk, MatchOption, is_some, drop, get_or, length, ◌<◌, ◌+◌, suc, arith, refl, ap, sym, subst, ◌∙◌, append_assoc, append-nil}
use Rattle.std.specs.List.{flat_map}
use Rattle.std.proofs.lemmas.Slice.Eq.{bytes_eq-Decides}
use Rattle.std.specs.Str.{bytes_eq}
use Rattle.std.proofs.lemmas.List.Elements.{All-cons, All-head, All-nil, All-tail}
use Rattle.component_words.specs.declared.flag.Flag.{Flag}
use Rattle.component_words.specs.declared.reader.Next.{Next}
use Rattle.component_words.specs.declared.reader.Next.TheVariants as next
use Rattle.component_words.specs.declared.reader.Reader.{Reader}
use Rattle.component_words.specs.Words.{flag_word, is_filled, is_operand, is_plain, joined_word, part_files, part_flags, part_jobs, rest_files}
use Rattle.component_words.specs.Settings.{AreFile, AreJobs, AreLawful, AreSettings, Given, IsOnce, IsUnlawful, Settings, given_by, see_settings, nothing_given}
use Rattle.component_words.specs.declared.settings.Settings.{Settings as SettingsOf}
use Rattle.std.proofs.Math.Seq.{drop-cons}
use Rattle.component_words.specs.Continue.{Continues, GoOn, GoOnBy, GoOnByOperands, GoOnByValue, Takes, TakesFlag, TakesOperand, TakesValue, as_list, given_of, with_flag, with_operands, with_value}
use Rattle.component_words.specs.declared.valued.Valued.{Valued}
use Rattle.component_words.specs.declared.valued.Valued.TheVariants.{Roots, Jobs}
use Rattle.component_words.proofs.GoesOn.{by_flag, by_joined, by_operand, same_given}
use Rattle.component_words.proofs.FirstParts.{none_spelled}
use Rattle.component_words.proofs.Once.{given_twice}

pub same_text : (word other : List ℕ) → bytes_eq word other ≡ true → word ≡ other
same_text word other is = (bytes_eq-Decides word other).0 is

pub other_text : (word other : List ℕ) → bytes_eq word other ≡ false → word ≢ other
other_text word other apart is = let both : true ≡ false = sym ((bytes_eq-Decides word other).1 is) ∙ apart in cc

-- the reader goes on so, whatever it was at
pub turned : (old new : Reader) (to : Next) (given : Given) (words rest : List (List ℕ)) (settings : Settings) → old.next ≡ next.Any → new.next ≡ to
    → given_of new ≡ given → GoOn (given_of old) words settings ↔ GoOnBy to given rest settings → Continues old words settings ↔ Continues new rest settings
turned old new to given words rest settings any is same on =
    subst (λ o. GoOnBy o (given_of old) words settings ↔ Continues new rest settings) (sym any)
    (subst (λ n. GoOn (given_of old) words settings ↔ GoOnBy n (given_of new) rest settings) (sym is)
    (subst (λ g. GoOn (given_of old) words settings ↔ GoOnBy to g rest settings) (sym same) on))

pub refused : (old : Reader) (words : List (List ℕ)) (settings : Settings) → old.next ≡ next.Any → (GoOn (given_of old) words settings → ⊥)
    → Continues old words settings → ⊥
refused old words settings any never on = never (subst (λ o. GoOnBy o (given_of old) words settings) any on)

-- two operands are too many
two_files : (file : Option (List ℕ)) (word : List ℕ) (more : List (List ℕ)) (one : List ℕ) → is_some file ≡ true → AreFile (as_list file ++ word ∷ more) one → ⊥
two_files None word more one some are = let none : ⊥ = cc in none
two_files (Some file) word more one some (inl none) = let both : file ∷ word ∷ more ≡ [] = none.0 in cc
two_files (Some file) word more one some (inr is) =
    let both : file ∷ word ∷ more ≡ one ∷ [] = is in let same : word ∷ more ≡ [] = cc in cc

filled_operand : (word : List ℕ) → is_operand word ≡ true → is_filled word ≡ false → ⊥
filled_operand [] is empty = let none : ⊥ = cc in none
filled_operand (b ∷ bs) is empty = let none : ⊥ = cc in none

pub operand_taken : (old new : Reader) (word : List ℕ) (fits : Bool) → old.next ≡ next.Any → is_operand word ≡ true → TakesOperand old word new fits
    → Takes old word new fits
operand_taken old new word true any is takes =
    λ rest settings.
    turned old new next.Any (with_operands (given_of old) (word ∷ [])) (word ∷ rest) rest settings any (takes.2 ∙ any) takes.3
    (by_operand (given_of old) word rest settings is)
operand_taken old new word false any is (inl empty) = absurd (filled_operand word is empty)
operand_taken old new word false any is (inr some) =
    λ rest settings.
    refused old (word ∷ rest) settings any
    (λ on.
    let one = (by_operand (given_of old) word rest settings is).0 on in
    two_files old.file word (flat_map part_files one.spelling.parts ++ rest_files one.spelling.rest) settings.file some
    (subst (λ os. AreFile os settings.file) (behind (as_list old.file) word (flat_map part_files one.spelling.parts) (rest_files one.spelling.rest)) one.set.file))
  where
    behind : (xs : List (List ℕ)) (x : List ℕ) (ys zs : List (List ℕ)) → ((xs ++ x ∷ []) ++ ys) ++ zs ≡ xs ++ x ∷ (ys ++ zs)
    behind xs x ys zs = ap (λ l. l ++ zs) (append_assoc xs (x ∷ []) ys) ∙ append_assoc xs (x ∷ ys) zs

pub last_taken : (old new : Reader) (word : List ℕ) (fits : Bool) → old.next ≡ next.Operand → TakesOperand old word new fits → Takes old word new fits
last_taken old new word true last takes =
    λ rest settings.
    subst (λ o. GoOnBy o (given_of old) (word ∷ rest) settings ↔ Continues new rest settings) (sym last)
    (subst (λ n. GoOnByOperands (given_of old) (word ∷ rest) settings ↔ GoOnBy n (given_of new) rest settings) (sym (takes.2 ∙ last))
    (subst (λ g. GoOnByOperands (given_of old) (word ∷ rest) settings ↔ GoOnByOperands g rest settings) (sym takes.3)
    (more_operands (given_of old) word rest settings takes.0)))
  where
    one_more : (before : Given) (word : List ℕ) (rest : List (List ℕ)) → with_operands (with_operands before (word ∷ [])) rest ≡ with_operands before (word ∷ rest)
    one_more before word rest =
        same_given (with_operands (with_operands before (word ∷ [])) rest) (with_operands before (word ∷ rest)) refl refl refl
        (append_assoc before.operands (word ∷ []) rest)

    more_operands : (before : Given) (word : List ℕ) (rest : List (List ℕ)) (settings : Settings) → is_filled word ≡ true
        → GoOnByOperands before (word ∷ rest) settings ↔ GoOnByOperands (with_operands before (word ∷ [])) rest settings
    more_operands before word rest settings filled = (
      λ by. record {
        filled = All-tail (λ w. is_filled w ≡ true) word rest by.filled;
        set = subst (λ g. AreSettings g settings) (sym (one_more before word rest)) by.set;
      },
      λ by. record {
        filled = All-cons (λ w. is_filled w ≡ true) word rest filled by.filled;
        set = subst (λ g. AreSettings g settings) (one_more before word rest) by.set;
      },
    )
last_taken old new word false last (inl empty) =
    λ rest settings on.
    let by : GoOnByOperands (given_of old) (word ∷ rest) settings = subst (λ o. GoOnBy o (given_of old) (word ∷ rest) settings) last on in
    let both : true ≡ false = sym (All-head (λ w. is_filled w ≡ true) word rest by.filled) ∙ empty in cc
last_taken old new word false last (inr some) =
    λ rest settings on.
    let by : GoOnByOperands (given_of old) (word ∷ rest) settings = subst (λ o. GoOnBy o (given_of old) (word ∷ rest) settings) last on in
    two_files old.file word rest settings.file some by.set.file

pub flag_taken : (old new : Reader) (own : Flag) (word : List ℕ) (fits : Bool) → old.next ≡ next.Any → word ≡ flag_word own → TakesFlag old own new fits
    → Takes old word new fits
flag_taken old new own word true any is takes =
    λ rest settings.
    turned old new next.Any (with_flag (given_of old) own) (word ∷ rest) rest settings any (takes.1 ∙ any) takes.2
    (by_flag (given_of old) own word rest settings is)
flag_taken old new own word false any is given =
    λ rest settings.
    refused old (word ∷ rest) settings any
    (λ on.
    let one = (by_flag (given_of old) own word rest settings is).0 on in
    given_twice old.flags.items own (flat_map part_flags one.spelling.parts) given
    (subst IsOnce (append_assoc old.flags.items (own ∷ []) (flat_map part_flags one.spelling.parts)) one.set.once))

-- two values of `--jobs` are too many
two_jobs : (jobs : Option (List ℕ)) (value : List ℕ) (more : List (List ℕ)) (n : ℕ) → is_some jobs ≡ true → AreJobs ((as_list jobs ++ value ∷ []) ++ more) n → ⊥
two_jobs None value more n some are = let none : ⊥ = cc in none
two_jobs (Some one) value more n some (inl none) = let both : one ∷ (value ∷ more) ≡ [] = none.0 in cc
two_jobs (Some one) value more n some (inr is) =
    let both : one ∷ (value ∷ more) ≡ is.0 ∷ [] = is.1 in let same : value ∷ more ≡ [] = cc in cc

-- a value behind `=`
pub joined_taken : (old new : Reader) (valued : Valued) (value word : List ℕ) (fits : Bool) → old.next ≡ next.Any → word ≡ joined_word valued value
    → is_filled value ≡ true → TakesValue old valued value new fits → Takes old word new fits
joined_taken old new valued value word true any is filled takes =
    λ rest settings.
    turned old new next.Any (with_value (given_of old) valued value) (word ∷ rest) rest settings any takes.0 takes.1
    (by_joined (given_of old) valued value word rest settings is filled)
joined_taken old new Roots value word false any is filled takes = let both : Roots ≡ Jobs = takes.0 in let wrong : ⊥ = cc in absurd wrong
joined_taken old new Jobs value word false any is filled takes =
    λ rest settings.
    refused old (word ∷ rest) settings any
    (λ on.
    let one = (by_joined (given_of old) Jobs value word rest settings is filled).0 on in
    two_jobs old.jobs value (flat_map part_jobs one.spelling.parts) settings.jobs takes.1 one.set.jobs)

-- the same of results

pub operand_result : {E : Type 0} (r : Result Bool E) (old new : Reader) (word : List ℕ) → old.next ≡ next.Any → is_operand word ≡ true
    → IfOk r (TakesOperand old word new) → IfOk r (Takes old word new)
operand_result {E} (Ok fits) old new word any is takes = operand_taken old new word fits any is takes
operand_result {E} (Err error) old new word any is takes = takes

pub last_result : {E : Type 0} (r : Result Bool E) (old new : Reader) (word : List ℕ) → old.next ≡ next.Operand → IfOk r (TakesOperand old word new)
    → IfOk r (Takes old word new)
last_result {E} (Ok fits) old new word last takes = last_taken old new word fits last takes
last_result {E} (Err error) old new word last takes = takes

pub flag_result : {E : Type 0} (r : Result Bool E) (old new : Reader) (own : Flag) (word : List ℕ) → old.next ≡ next.Any → word ≡ flag_word own
    → IfOk r (TakesFlag old own new) → IfOk r (Takes old word new)
flag_result {E} (Ok fits) old new own word any is takes = flag_taken old new own word fits any is takes
flag_result {E} (Err error) old new own word any is takes = takes

pub joined_result : {E : Type 0} (r : Result Bool E) (old new : Reader) (valued : Valued) (value word : List ℕ) → old.next ≡ next.Any
    → word ≡ joined_word valued value → is_filled value ≡ true → IfOk r (TakesValue old valued value new) → IfOk r (Takes old word new)
joined_result {E} (Ok fits) old new valued value word any is filled takes = joined_taken old new valued value word fits any is filled takes
joined_result {E} (Err error) old new valued value word any is filled takes = takes

-- at the end

same_whole : (reader : Reader) → given_of reader ≡ given_by (given_of reader) [] None
same_whole reader =
    same_given (given_of reader) (given_by (given_of reader) [] None) (sym (append-nil reader.flags.items)) (sym (append-nil (given_of reader).roots))
    (sym (append-nil (as_list reader.jobs))) (sym (append-nil (as_list reader.file ++ []) ∙ append-nil (as_list reader.file)))

pub whole_set : (reader : Reader) (settings : Settings) → reader.next ≡ next.Any → AreSettings (given_of reader) settings → Continues reader [] settings
whole_set reader settings any set =
    let on : GoOn (given_of reader) [] settings = record {
      spelling = record { parts = []; rest = None; spell = refl; lawful = All-nil _; filled = All-nil (λ w. is_filled w ≡ true) };
      set = subst (λ g. AreSettings g settings) (same_whole reader) set;
    } in
    subst (λ o. GoOnBy o (given_of reader) [] settings) (sym any) on

-- no words spell no part
set_at_end : (reader : Reader) (settings : Settings) → reader.next ≡ next.Any → Continues reader [] settings → AreSettings (given_of reader) settings
set_at_end reader settings any on =
    let go : GoOn (given_of reader) [] settings = subst (λ o. GoOnBy o (given_of reader) [] settings) any on in
    let none = none_spelled go.spelling.parts go.spelling.rest go.spelling.spell in
    subst (λ g. AreSettings g settings)
    (ap (λ parts. given_by (given_of reader) parts go.spelling.rest) none.0 ∙ ap (given_by (given_of reader) []) none.1 ∙ sym (same_whole reader)) go.set

same_end : (reader : Reader) → given_of reader ≡ with_operands (given_of reader) []
same_end reader = same_given (given_of reader) (with_operands (given_of reader) []) refl refl refl (sym (append-nil (as_list reader.file)))

pub last_set : (reader : Reader) (settings : Settings) → reader.next ≡ next.Operand → AreSettings (given_of reader) settings → Continues reader [] settings
last_set reader settings last set =
    let on : GoOnByOperands (given_of reader) [] settings = record {
      filled = All-nil (λ w. is_filled w ≡ true);
      set = subst (λ g. AreSettings g settings) (same_end reader) set;
    } in
    subst (λ o. GoOnBy o (given_of reader) [] settings) (sym last) on

abbrev EndsSo : Reader → Option SettingsOf → Type 0
EndsSo reader found =
    MatchOption found ((settings : Settings) → Continues reader [] settings → ⊥) (λ settings. Continues reader [] (see_settings settings))

-- what is made at the end, if there is a number of threads
abbrev IsMade : Given → Option SettingsOf → Type 0
IsMade given found = MatchOption found ((settings : Settings) → AreSettings given settings → ⊥) (λ settings. AreSettings given (see_settings settings))

pub whole_end : {E : Type 0} (r : Result (Option SettingsOf) E) (reader : Reader) → reader.next ≡ next.Any → IfOk r (IsMade (given_of reader))
    → IfOk r (EndsSo reader)
whole_end {E} (Ok None) reader any made = λ settings on. made settings (set_at_end reader settings any on)
whole_end {E} (Ok (Some found)) reader any made = whole_set reader (see_settings found) any made
whole_end {E} (Err error) reader any made = made

pub last_end : {E : Type 0} (r : Result (Option SettingsOf) E) (reader : Reader) → reader.next ≡ next.Operand → IfOk r (IsMade (given_of reader))
    → IfOk r (EndsSo reader)
last_end {E} (Ok None) reader last made =
    λ settings on.
    let by : GoOnByOperands (given_of reader) [] settings = subst (λ o. GoOnBy o (given_of reader) [] settings) last on in
    made settings (subst (λ g. AreSettings g settings) (sym (same_end reader)) by.set)
last_end {E} (Ok (Some found)) reader last made = last_set reader (see_settings found) last made
last_end {E} (Err error) reader last made = made

-- and at the start
pub from_start : (reader : Reader) (words : List (List ℕ)) (settings : Settings) → reader.next ≡ next.Any → given_of reader ≡ nothing_given
    → AreLawful words settings ↔ Continues reader words settings
from_start reader words settings any nothing = (
  λ lawful.
      let on : GoOn nothing_given words settings = record { spelling = lawful.spelling; set = lawful.set } in
      subst (λ o. GoOnBy o (given_of reader) words settings) (sym any) (subst (λ g. GoOn g words settings) (sym nothing) on),
  λ on.
      let go : GoOn nothing_given words settings =
      subst (λ g. GoOn g words settings) nothing (subst (λ o. GoOnBy o (given_of reader) words settings) any on) in
      record { spelling = go.spelling; set = go.set },
)

-- one word more of all words

pub next_word : (words : List (List ℕ)) (at : ℕ) (word other : List ℕ) → at < length words → word ≡ get_or words at word → other ≡ word
    → drop at words ≡ other ∷ drop (at + 1) words
next_word words at word other within is same =
    let next : suc at ≡ at + 1 = omega arith in
    drop-cons words at word within ∙ ap (λ w. w ∷ drop (suc at) words) (sym is ∙ sym same) ∙ ap (λ n. other ∷ drop n words) next

pub one_taken : (start : List (List ℕ)) (old new : Reader) (word : List ℕ) (words rest : List (List ℕ)) (settings : Settings)
    → AreLawful start settings ↔ Continues old words settings → words ≡ word ∷ rest → Takes old word new true
    → AreLawful start settings ↔ Continues new rest settings
one_taken start old new word words rest settings so_far is takes = (
  λ lawful. (takes rest settings).0 (subst (λ ws. Continues old ws settings) is (so_far.0 lawful)),
  λ on. so_far.1 (subst (λ ws. Continues old ws settings) (sym is) ((takes rest settings).1 on)),
)

pub none_taken : (start : List (List ℕ)) (old new : Reader) (word : List ℕ) (words rest : List (List ℕ)) (settings : Settings)
    → AreLawful start settings ↔ Continues old words settings → words ≡ word ∷ rest → Takes old word new false → AreLawful start settings → ⊥
none_taken start old new word words rest settings so_far is takes lawful =
    takes rest settings (subst (λ ws. Continues old ws settings) is (so_far.0 lawful))

pub all_taken : {E : Type 0} (r : Result (Option SettingsOf) E) (start : List (List ℕ)) (reader : Reader) (words : List (List ℕ)) → words ≡ []
    → ((settings : Settings) → AreLawful start settings ↔ Continues reader words settings) → IfOk r (EndsSo reader)
    → IfOk r (λ found. MatchOption found (IsUnlawful start) (λ settings. AreLawful start (see_settings settings)))
all_taken {E} (Ok None) start reader words is so_far ends =
    λ settings lawful. ends settings (subst (λ ws. Continues reader ws settings) is ((so_far settings).0 lawful))
all_taken {E} (Ok (Some found)) start reader words is so_far ends =
    (so_far (see_settings found)).1 (subst (λ ws. Continues reader ws (see_settings found)) (sym is) ends)
all_taken {E} (Err error) start reader words is so_far ends = ends
