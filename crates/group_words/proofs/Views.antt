-- What clap makes of words that spell parts.
use Rattle.std.proofs.Common.{◌≡◌, ◌≤◌, true, false, not, List, [], ◌++◌, length, flat_map, Option, Some, None, refl, ap, sym, ◌∙◌, subst, arith}
use Rattle.std.specs.Str.{bytes_eq}
use Rattle.clap.specs.Walk.{Row, Text, all_of, idle}
use Rattle.clap.specs.Simple.{matches_of}
use Rattle.clap.specs.Faults.{fault_of}
use Rattle.group_words.specs.Words.{Key, Part, key_name, part_files, part_words, rest_files, rest_words, takes_value, values}
use Rattle.group_words.specs.ClapCommand.{words_app}
use Rattle.group_words.proofs.WordRules.{called, file_id, keys, not_file, shape}
use Rattle.group_words.proofs.WordClasses.{called_back}
use Rattle.group_words.proofs.WalkSteps.{at}
use Rattle.group_words.proofs.WalkGoes.{AreClapParts, goes_as, idle_waits, total_rows, uses_fault, uses_of}
use Rattle.group_words.proofs.WalkSpells.{HaveChars, spelled_by}
use Rattle.group_words.proofs.WalkRows.{IsOnce, are_uses, given_values, once_used, plus, rows_hold, used_once}
use Rattle.group_words.proofs.ClapWords.{fault_is, files_kept, flag_kept, matches_are, or_unset, valued_kept}
use Rattle.group_words.proofs.GivenValues.{count_uses, file_uses, flag_uses, other_uses, trues, valued_uses}

-- the words that parts spell
abbrev pub words_of : List Part → Option (List Text) → List Text
words_of parts rest = flat_map part_words parts ++ rest_words rest

-- what the matches have of each argument
pub record Views (rows : List Row) (parts : List Part) (rest : Option (List Text)) : Type 0 where
  pub valued : (key : Key) → takes_value key ≡ true → all_of (key_name key) rows ≡ plus None (values key parts)
  pub flags : (key : Key) → takes_value key ≡ false → all_of (key_name key) rows ≡ or_unset (plus None (trues (values key parts)))
  pub files : all_of file_id rows ≡ plus None (flat_map part_files parts ++ rest_files rest)

-- each option comes once at most
abbrev pub ComeOnce : List Part → Type 0
ComeOnce parts = (key : Key) → length (values key parts) ≤ 1

module _ (parts : List Part) (rest : Option (List Text)) (are : AreClapParts parts) where
  fault_goes : fault_of words_app (words_of parts rest) ≡ uses_fault shape [] (uses_of parts rest)
  fault_goes = fault_is (words_of parts rest) ∙ (goes_as shape keys parts rest are [] None idle idle_waits).fault

  pub comes_once : fault_of words_app (words_of parts rest) ≡ [] → ComeOnce parts
  comes_once fine key =
      let once = used_once shape (uses_of parts rest) (are_uses shape keys parts rest are) [] (sym fault_goes ∙ fine) (key_name key) (rw (not_file key) refl) in
      subst (λ n. n ≤ 1) (count_uses key (takes_value key) refl parts rest are) once.one

  pub taken : ComeOnce parts → fault_of words_app (words_of parts rest) ≡ []
  taken once = fault_goes ∙ once_used shape (uses_of parts rest) (are_uses shape keys parts rest are) [] (λ id own. go id own (called id) refl)
    where
      go : (id : Text) → not (bytes_eq id file_id) ≡ true → (found : Option Key) → called id ≡ found → IsOnce false (given_values id (uses_of parts rest))
      go id own None is = record { fresh = λ e. let both : false ≡ true = e in cc; one = subst (λ xs. length xs ≤ 1) (sym (other_uses id is own parts rest)) (omega arith) }
      go id own (Some key) is = record {
        fresh = λ e. let both : false ≡ true = e in cc;
        one = subst (λ x. length (given_values x (uses_of parts rest)) ≤ 1) (sym (called_back id key is))
            (subst (λ n. n ≤ 1) (sym (count_uses key (takes_value key) refl parts rest are)) (once key));
      }

  module _ (fine : fault_of words_app (words_of parts rest) ≡ []) where
    rows_are : (id : Text) → all_of id (total_rows shape (at [] None idle false) (words_of parts rest)) ≡ plus None (given_values id (uses_of parts rest))
    rows_are id =
        ap (all_of id) (goes_as shape keys parts rest are [] None idle idle_waits).rows_are
        ∙ rows_hold shape (uses_of parts rest) (are_uses shape keys parts rest are) [] (sym fault_goes ∙ fine) id

    pub views_of : Views (matches_of words_app (words_of parts rest)) parts rest
    views_of = let rows = total_rows shape (at [] None idle false) (words_of parts rest) in record {
      valued = λ key valued.
          ap (all_of (key_name key)) (matches_are (words_of parts rest))
          ∙ (valued_kept key valued rows ∙ (rows_are (key_name key) ∙ ap (plus None) (valued_uses key valued parts rest are)));
      flags = λ key bare.
          ap (all_of (key_name key)) (matches_are (words_of parts rest))
          ∙ (flag_kept key bare rows ∙ ap or_unset (rows_are (key_name key) ∙ ap (plus None) (flag_uses key bare parts rest are)));
      files = ap (all_of file_id) (matches_are (words_of parts rest)) ∙ (files_kept rows ∙ (rows_are file_id ∙ ap (plus None) (file_uses parts rest)));
    }

-- words that clap takes spell parts
pub record Parsed (words : List Text) : Type 0 where
  pub parts : List Part
  pub rest : Option (List Text)
  pub spell : words ≡ words_of parts rest
  pub are : AreClapParts parts
  pub once : ComeOnce parts
  pub views : Views (matches_of words_app words) parts rest

-- what clap makes of the words of parts that come once
pub parts_views : (words : List Text) (parts : List Part) (rest : Option (List Text)) → words ≡ words_of parts rest → AreClapParts parts → ComeOnce parts
    → Views (matches_of words_app words) parts rest
parts_views words parts rest spell are once = subst (λ ws. Views (matches_of words_app ws) parts rest) (sym spell) (views_of parts rest are (taken parts rest are once))

-- and their words aren't refused
pub parts_taken : (words : List Text) (parts : List Part) (rest : Option (List Text)) → words ≡ words_of parts rest → AreClapParts parts → ComeOnce parts
    → fault_of words_app words ≡ []
parts_taken words parts rest spell are once = subst (λ ws. fault_of words_app ws ≡ []) (sym spell) (taken parts rest are once)

pub parsed : (words : List Text) → HaveChars shape keys words → fault_of words_app words ≡ [] → Parsed words
parsed words chars fine =
    let found = spelled_by shape keys words chars (sym (fault_is words) ∙ fine) in
    let once = comes_once found.parts found.rest found.are (subst (λ ws. fault_of words_app ws ≡ []) found.spell fine) in
    record {
      parts = found.parts;
      rest = found.rest;
      spell = found.spell;
      are = found.are;
      once = once;
      views = parts_views words found.parts found.rest found.spell found.are once;
    }
