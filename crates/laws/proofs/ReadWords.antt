-- Words have a reading, or none.
use Rattle.std.proofs.Common.{◌≡◌, ◌⊎◌, inl, inr, ℕ, ◌≤◌, true, false, List, [], ◌∷◌, ◌++◌, flat_map, length, Option, Some, None, All, refl, sym, ◌∙◌, subst, arith}
use Rattle.std.specs.Str.{IsUtf8}
use Rattle.group_words.specs.Words.{Key, Part, file, flag, apart, joined, IsPart, IsReading, as_list, is_file, is_plain, part_files, rest_files, takes_value, values}
use Rattle.group_words.proofs.HaveChars.{texts_have_chars}
use Rattle.group_words.proofs.Readings.{reading_taken}
use Rattle.group_words.proofs.Views.{ComeOnce, Parsed, parsed, parts_views}
use Rattle.laws.proofs.Known.{IsKnown, known_all, known_bool, known_both, empty_or_not}
use Rattle.group_words.proofs.Readings.{AreFiles, ArePlain, all_files, clap_parts, files_all, files_behind, files_both, files_front, lawful_parts, one_at_most, part_are_files, plain_values, plus_same}

-- a word or a value
abbrev pub Text : Type 0
Text = List ℕ

-- a reading of the words
pub record HasReading (words : List Text) : Type 0 where
  pub given : Key → Option Text
  pub files : List Text
  pub reading : IsReading words given files

abbrev pub HasNone : List Text → Type 0
HasNone words = (given : Key → Option Text) (files : List Text) → IsReading words given files → ⊥

known_part : (part : Part) → IsKnown (IsPart part)
known_part (file word) = known_bool (is_plain word) true
known_part (flag key) = known_bool (takes_value key) false
known_part (apart key value) = known_both (known_bool (takes_value key) true) (known_bool (is_plain value) true)
known_part (joined key value) = known_both (known_bool (takes_value key) true) (known_bool (is_plain value) true)

-- the value, where there is one
abbrev only : List Text → Option Text
only [] = None
only (x ∷ xs) = Some x

only_list : (xs : List Text) → length xs ≤ 1 → xs ≡ as_list (only xs)
only_list [] short = refl
only_list (x ∷ []) short = refl
only_list (x ∷ y ∷ ys) short = absurd (omega (arith, short))

module _ (words : List Text) (p : Parsed words) where
  -- lawful parts that clap takes are a reading
  reads : All IsPart p.parts → All (λ word. is_file word ≡ true) (rest_files p.rest) → HasReading words
  reads lawful rest = record {
    given = λ key. only (values key p.parts);
    files = flat_map part_files p.parts ++ rest_files p.rest;
    reading = record {
      parts = p.parts;
      rest = p.rest;
      spell = p.spell;
      lawful = lawful;
      lawful_rest = rest;
      once = λ key. only_list (values key p.parts) (p.once key);
      are = refl;
    };
  }

  -- and where there is a reading, they are lawful
  module _ (given : Key → Option Text) (files : List Text) (r : IsReading words given files) where
    once : ComeOnce r.parts
    once key = subst (λ xs. length xs ≤ 1) (sym (r.once key)) (one_at_most (given key))

    plain : (key : Key) → takes_value key ≡ true → ArePlain (values key p.parts)
    plain key valued =
        let views = parts_views words r.parts r.rest r.spell (clap_parts r.parts r.lawful) once in
        subst ArePlain (plus_same (values key r.parts) (values key p.parts) (sym (views.valued key valued) ∙ p.views.valued key valued))
        (plain_values key valued r.parts r.lawful)

    all : AreFiles (flat_map part_files p.parts ++ rest_files p.rest)
    all =
        let views = parts_views words r.parts r.rest r.spell (clap_parts r.parts r.lawful) once in
        subst AreFiles
        (plus_same (flat_map part_files r.parts ++ rest_files r.rest) (flat_map part_files p.parts ++ rest_files p.rest) (sym views.files ∙ p.views.files))
        (files_both (flat_map part_files r.parts) (rest_files r.rest) (part_are_files r.parts r.lawful) (all_files (rest_files r.rest) r.lawful_rest))

    lawful : All IsPart p.parts
    lawful = lawful_parts p.parts p.are plain (files_front (flat_map part_files p.parts) (rest_files p.rest) all)

    lawful_rest : All (λ word. is_file word ≡ true) (rest_files p.rest)
    lawful_rest = files_all (rest_files p.rest) (files_behind (flat_map part_files p.parts) (rest_files p.rest) all)

  parts_read : HasReading words ⊎ HasNone words
  parts_read = go (known_all IsPart known_part p.parts) (known_all (λ word. is_file word ≡ true) (λ word. known_bool (is_file word) true) (rest_files p.rest))
    where
      go : IsKnown (All IsPart p.parts) → IsKnown (All (λ word. is_file word ≡ true) (rest_files p.rest)) → HasReading words ⊎ HasNone words
      go (inr never) rest = inr (λ given files r. never (lawful given files r))
      go (inl parts) (inr never) = inr (λ given files r. never (lawful_rest given files r))
      go (inl parts) (inl rest) = inl (reads parts rest)

pub words_read : (words : List Text) → All IsUtf8 words → HasReading words ⊎ HasNone words
words_read words utf8 =
    let read : Parsed words ⊎ HasNone words =
    empty_or_not _ (parsed words (texts_have_chars words utf8)) (λ fault given files r. fault (reading_taken words given files r)) in
    elim read [ inl p ↦ parts_read words p | inr none ↦ inr none ]
