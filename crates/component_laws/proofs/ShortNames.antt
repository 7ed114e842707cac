-- A text without faults says no long name.
use Rattle.std.proofs.Common.{◌≡◌, ◌↔◌, inl, inr, ℕ, ◌-◌, ◌+◌, ◌<◌, ◌≤◌, Bool, true, false, List, [], Option, Some, None, All, Contains, length, map, get_or, drop, refl, sym, ap, subst, ◌∙◌, length-take, arith}
use Rattle.std.specs.Prelude.{if◌then◌else◌, option_and_then, slice_range}
use Rattle.std.specs.List.{list_any}
use Rattle.std.proofs.lemmas.Bool.{cases_Bool, cases_lt, ltb-false}
use Rattle.std.proofs.lemmas.List.{get_or-map, length-map}
use Rattle.std.proofs.lemmas.List.Elements.{All-contains}
use Rattle.list_laws.proofs.Members.{all_by, any_there}
use Rattle.list_laws.proofs.OneOrder.{nothing_in}
use Rattle.edge_text.specs.declared.limits.TheConstants.{MOST_NAME}
use Rattle.edge_text.specs.EdgeGraph.{AreNames}
use Rattle.edge_text.specs.Faults.{line_at}
use Rattle.edge_text.specs.Lines.{is_comment, lines_of, said_by, words_of}
use Rattle.edge_text.specs.Words.{IsWordAt}
use Rattle.edge_json.specs.declared.cause.Cause.TheVariants.{LongName, NotEdge}
use Rattle.edge_json.specs.Meaning.{Meaning, bad, is_long, is_solid, line_value, meaning_with, says, value_names}
use Rattle.edge_json.specs.Said.{heard, heard_in}
use Rattle.component_answer.specs.Inputs.{IsFaultless, said_by as said_by_form}
use Rattle.component_laws.proofs.Distinct.{comes_from}

abbrev pub IsShort : List ℕ → Type 0
IsShort name = length name ≤ MOST_NAME

-- where words are, as the law says it
abbrev pub WordsHavePlaces : Type 0
WordsHavePlaces = (line word : List ℕ)
    → Contains (words_of line) word ↔ ((start : ℕ) × (end : ℕ) × IsWordAt line start end × (slice_range line start end ≡ word))

-- a text of words

module _ (places : WordsHavePlaces) (text : List ℕ) (none : IsFaultless false text) where
  word_short : (number : ℕ) (word : List ℕ) → is_comment (line_at text number) ≡ false → Contains (words_of (line_at text number)) word → IsShort word
  word_short number word said has =
      let line = line_at text number in
      let found : (start : ℕ) × (end : ℕ) × IsWordAt line start end × (slice_range line start end ≡ word) = (places line word).0 has in
      let start = found.0 in
      let end = found.1 in
      let upto : length word ≤ end - start = omega (arith, ap length found.3, length-take (end - start) (drop start line)) in
      elim (cases_lt MOST_NAME (end - start)) [
        | inl long ↦
            absurd (none (record { line = number + 1; column = start + 1 }) (record {
              number = number;
              start = start;
              line_is = refl;
              column_is = refl;
              long = record { said = said; end = end; word = found.2; long = long };
            }))
        | inr short ↦ omega (arith, upto, short)
      ]

  line_short : (number : ℕ) (word : List ℕ) → Contains (said_by (line_at text number)) word → IsShort word
  line_short number word has = go (is_comment (line_at text number)) refl has
    where
      go : (comment : Bool) → is_comment (line_at text number) ≡ comment → Contains (if comment then [] else words_of (line_at text number)) word → IsShort word
      go true is there = absurd (nothing_in word there)
      go false is there = word_short number word is there

  words_short : (word : List ℕ) → Contains (said_by_form false text).names word → IsShort word
  words_short word has = let from = comes_from said_by [] (lines_of text) word has in line_short from.place word from.has

-- a text of JSON Lines

all_short : (names : List (List ℕ)) → list_any is_long names ≡ false → (name : List ℕ) → Contains names name → IsShort name
all_short names none name has = elim (cases_Bool (is_long name)) [
  | inl long ↦ let both : true ≡ false = sym (any_there is_long names name has long) ∙ none in absurd (let wrong : ⊥ = cc in wrong)
  | inr short ↦ ltb-false MOST_NAME (length name) short
]

with_short : (found : Option (List (List ℕ))) (name : List ℕ) → ((meaning : Meaning) → meaning_with found ≡ meaning → Contains (heard meaning) name → IsShort name)
with_short None name meaning is has =
    let empty : Contains (heard (bad NotEdge)) name = subst (λ m. Contains (heard m) name) (sym is) has in absurd (nothing_in name empty)
with_short (Some names) name meaning is has = go (list_any is_long names) refl (subst (λ m. Contains (heard m) name) (sym is) has)
  where
    go : (long : Bool) → list_any is_long names ≡ long → Contains (heard (if long then bad LongName else says names)) name → IsShort name
    go true test there = absurd (nothing_in name there)
    go false test there = all_short names test name there

heard_short : (line name : List ℕ) → Contains (heard_in line) name → IsShort name
heard_short line name has = go (list_any is_solid line) has
  where
    go : (solid : Bool) → Contains (heard (if solid then meaning_with (option_and_then value_names (line_value line)) else says [])) name → IsShort name
    go true there = with_short (option_and_then value_names (line_value line)) name (meaning_with (option_and_then value_names (line_value line))) refl there
    go false there = absurd (nothing_in name there)

json_short : (text name : List ℕ) → Contains (said_by_form true text).names name → IsShort name
json_short text name has =
    let lines = lines_of text in
    let from = comes_from (λ line. line) [] (map heard_in lines) name has in
    let within : from.place < length lines = (let lt = from.within in omega (arith, lt, length-map lines heard_in)) in
    heard_short (get_or lines from.place []) name
    (subst (λ names. Contains names name) (get_or-map heard_in lines from.place [] [] within) from.has)

-- in its form

said_short : WordsHavePlaces → (from_json : Bool) (text : List ℕ) → IsFaultless from_json text → (name : List ℕ)
    → Contains (said_by_form from_json text).names name → IsShort name
said_short places true text none name has = json_short text name has
said_short places false text none name has = words_short places text none name has

pub names_short : WordsHavePlaces → (from_json : Bool) (text : List ℕ) (names : List (List ℕ)) → IsFaultless from_json text
    → AreNames (said_by_form from_json text) names → All IsShort names
names_short places from_json text names none are =
    all_by IsShort names
    (λ name has. said_short places from_json text none name (All-contains (Contains (said_by_form from_json text).names) names name are.only has))
