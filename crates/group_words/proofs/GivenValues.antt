-- The values that parts give, and what clap's uses show of them.
use Rattle.std.proofs.Common.{if◌then◌else◌, ◌≡◌, ◌≤◌, Bool, true, false, not, List, [], ◌∷◌, ◌++◌, length, map, flat_map, Option, Some, None, refl, ap, ap₂, sym, ◌∙◌, subst, arith, append_assoc, length-append, codes}
use Rattle.std.specs.Str.{bytes_eq}
use Rattle.std.proofs.lemmas.Grind.{flat_map-append}
use Rattle.clap.specs.Walk.{Text}
use Rattle.group_words.specs.Words.{Key, Part, file, flag, apart, joined, key_name, part_files, rest_files, same_key, takes_value, values}
use Rattle.group_words.proofs.WordRules.{called, called_own, file_id, file_not, not_file}
use Rattle.group_words.proofs.WordClasses.{eq_text}
use Rattle.group_words.proofs.WalkSteps.{Use}
use Rattle.group_words.proofs.WalkGoes.{AreClapParts, file_use, use_of, uses_of}
use Rattle.group_words.proofs.WalkRows.{given_values, shown}
use Rattle.group_words.proofs.ClapWords.{key_same}

-- options with a value and those without are not the same
kinds_differ : (own key : Key) → takes_value own ≡ false → takes_value key ≡ true → same_key own key ≡ true → ⊥
kinds_differ own key bare valued same = let both : false ≡ true = sym bare ∙ (ap takes_value (key_same own key same) ∙ valued) in cc

-- both lists have the same, where a test isn't passed
unless : {A : Type 0} (b : Bool) (xs ys : List A) → (b ≡ true → ⊥) → (if b then xs else []) ≡ (if b then ys else [])
unless true xs ys never = absurd (never refl)
unless false xs ys never = refl

from_files : (key : Key) (files : List Text) → given_values (key_name key) (map file_use files) ≡ []
from_files key [] = refl
from_files key (word ∷ files) = rw (file_not key) (from_files key files)

split_uses : (id : Text) (parts : List Part) (rest : Option (List Text))
    → given_values id (uses_of parts rest) ≡ given_values id (map use_of parts) ++ given_values id (map file_use (rest_files rest))
split_uses id parts rest = flat_map-append (λ (u : Use). if bytes_eq u.0 id then shown u.1 else []) (map use_of parts) (map file_use (rest_files rest))

-- the values of an option with a value are what its uses show
valued_parts : (key : Key) → takes_value key ≡ true → (parts : List Part) → AreClapParts parts → given_values (key_name key) (map use_of parts) ≡ values key parts
valued_parts key valued [] are = refl
valued_parts key valued (file word ∷ parts) are = rw (file_not key) (valued_parts key valued parts are.1)
valued_parts key valued (flag own ∷ parts) are =
    ap₂ (λ xs ys. xs ++ ys) (unless (same_key own key) (codes "true" ∷ []) ([] ∷ []) (kinds_differ own key are.0 valued)) (valued_parts key valued parts are.1)
valued_parts key valued (apart own v ∷ parts) are = ap (λ xs. (if same_key own key then v ∷ [] else []) ++ xs) (valued_parts key valued parts are.1)
valued_parts key valued (joined own v ∷ parts) are = ap (λ xs. (if same_key own key then v ∷ [] else []) ++ xs) (valued_parts key valued parts are.1)

pub valued_uses : (key : Key) → takes_value key ≡ true → (parts : List Part) (rest : Option (List Text)) → AreClapParts parts
    → given_values (key_name key) (uses_of parts rest) ≡ values key parts
valued_uses key valued parts rest are =
    split_uses (key_name key) parts rest
    ∙ (ap₂ (λ xs ys. xs ++ ys) (valued_parts key valued parts are) (from_files key (rest_files rest)) ∙ Rattle.std.proofs.Common.append-nil (values key parts))

-- an option without a value shows `true` as often as it is given
abbrev pub trues : List Text → List Text
trues xs = map (λ x. codes "true") xs

trues_append : (xs ys : List Text) → trues (xs ++ ys) ≡ trues xs ++ trues ys
trues_append [] ys = refl
trues_append (x ∷ xs) ys = ap (λ zs. codes "true" ∷ zs) (trues_append xs ys)

trues_if : (b : Bool) → (if b then codes "true" ∷ [] else []) ≡ trues (if b then [] ∷ [] else [])
trues_if true = refl
trues_if false = refl

no_true : (b : Bool) (xs ys : List Text) → (b ≡ true → ⊥) → (if b then xs else []) ≡ trues (if b then ys else [])
no_true true xs ys never = absurd (never refl)
no_true false xs ys never = refl

flag_parts : (key : Key) → takes_value key ≡ false → (parts : List Part) → AreClapParts parts → given_values (key_name key) (map use_of parts) ≡ trues (values key parts)
flag_parts key bare [] are = refl
flag_parts key bare (file word ∷ parts) are = rw (file_not key) (flag_parts key bare parts are.1)
flag_parts key bare (flag own ∷ parts) are =
    ap₂ (λ xs ys. xs ++ ys) (trues_if (same_key own key)) (flag_parts key bare parts are.1) ∙ sym (trues_append (if same_key own key then [] ∷ [] else []) (values key parts))
flag_parts key bare (apart own v ∷ parts) are =
    ap₂ (λ xs ys. xs ++ ys)
    (no_true (same_key own key) (v ∷ []) (v ∷ []) (λ same. let both : true ≡ false = sym are.0.0 ∙ (ap takes_value (key_same own key same) ∙ bare) in cc)) (flag_parts key bare parts are.1)
    ∙ sym (trues_append (if same_key own key then v ∷ [] else []) (values key parts))
flag_parts key bare (joined own v ∷ parts) are =
    ap₂ (λ xs ys. xs ++ ys)
    (no_true (same_key own key) (v ∷ []) (v ∷ []) (λ same. let both : true ≡ false = sym are.0 ∙ (ap takes_value (key_same own key same) ∙ bare) in cc)) (flag_parts key bare parts are.1)
    ∙ sym (trues_append (if same_key own key then v ∷ [] else []) (values key parts))

pub flag_uses : (key : Key) → takes_value key ≡ false → (parts : List Part) (rest : Option (List Text)) → AreClapParts parts
    → given_values (key_name key) (uses_of parts rest) ≡ trues (values key parts)
flag_uses key bare parts rest are =
    split_uses (key_name key) parts rest
    ∙ (ap₂ (λ xs ys. xs ++ ys) (flag_parts key bare parts are) (from_files key (rest_files rest)) ∙ Rattle.std.proofs.Common.append-nil (trues (values key parts)))

length_trues : (xs : List Text) → length (trues xs) ≡ length xs
length_trues [] = refl
length_trues (x ∷ xs) = ap Rattle.std.proofs.Common.suc (length_trues xs)

-- there are as many of them
pub count_uses : (key : Key) (b : Bool) → takes_value key ≡ b → (parts : List Part) (rest : Option (List Text)) → AreClapParts parts
    → length (given_values (key_name key) (uses_of parts rest)) ≡ length (values key parts)
count_uses key true e parts rest are = ap length (valued_uses key e parts rest are)
count_uses key false e parts rest are = ap length (flag_uses key e parts rest are) ∙ length_trues (values key parts)

-- the value of an option without one is empty
pub flag_empty : (key : Key) → takes_value key ≡ false → (parts : List Part) → AreClapParts parts → (v : Text) (vs : List Text) → values key parts ≡ v ∷ vs → v ≡ []
flag_empty key bare [] are v vs is = let both : [] ≡ v ∷ vs = is in cc
flag_empty key bare (file word ∷ parts) are v vs is = flag_empty key bare parts are.1 v vs is
flag_empty key bare (flag own ∷ parts) are v vs is = go (same_key own key) is (flag_empty key bare parts are.1 v vs)
  where
    go : (b : Bool) → (if b then [] ∷ [] else []) ++ values key parts ≡ v ∷ vs → (values key parts ≡ v ∷ vs → v ≡ []) → v ≡ []
    go true e later = let same : [] ∷ values key parts ≡ v ∷ vs = e in cc
    go false e later = later e
flag_empty key bare (apart own w ∷ parts) are v vs is = go (same_key own key) refl is (flag_empty key bare parts are.1 v vs)
  where
    go : (b : Bool) → same_key own key ≡ b → (if b then w ∷ [] else []) ++ values key parts ≡ v ∷ vs → (values key parts ≡ v ∷ vs → v ≡ []) → v ≡ []
    go true same e later = let both : true ≡ false = sym are.0.0 ∙ (ap takes_value (key_same own key same) ∙ bare) in cc
    go false same e later = later e
flag_empty key bare (joined own w ∷ parts) are v vs is = go (same_key own key) refl is (flag_empty key bare parts are.1 v vs)
  where
    go : (b : Bool) → same_key own key ≡ b → (if b then w ∷ [] else []) ++ values key parts ≡ v ∷ vs → (values key parts ≡ v ∷ vs → v ≡ []) → v ≡ []
    go true same e later = let both : true ≡ false = sym are.0 ∙ (ap takes_value (key_same own key same) ∙ bare) in cc
    go false same e later = later e

-- the words for files
files_shown : (files : List Text) → given_values file_id (map file_use files) ≡ files
files_shown [] = refl
files_shown (word ∷ files) = ap (λ xs. word ∷ xs) (files_shown files)

file_parts : (parts : List Part) → given_values file_id (map use_of parts) ≡ flat_map part_files parts
file_parts [] = refl
file_parts (file word ∷ parts) = ap (λ xs. word ∷ xs) (file_parts parts)
file_parts (flag own ∷ parts) = rw (not_file own) (file_parts parts)
file_parts (apart own v ∷ parts) = rw (not_file own) (file_parts parts)
file_parts (joined own v ∷ parts) = rw (not_file own) (file_parts parts)

pub file_uses : (parts : List Part) (rest : Option (List Text)) → given_values file_id (uses_of parts rest) ≡ flat_map part_files parts ++ rest_files rest
file_uses parts rest = split_uses file_id parts rest ∙ ap₂ (λ xs ys. xs ++ ys) (file_parts parts) (files_shown (rest_files rest))

-- what is no name of an argument is given nothing
module _ (id : Text) (no_key : called id ≡ None) (no_file : not (bytes_eq id file_id) ≡ true) where
  other_key : (own : Key) (xs : List Text) → (if bytes_eq (key_name own) id then xs else []) ≡ []
  other_key own xs = go (bytes_eq (key_name own) id) refl
    where
      go : (b : Bool) → bytes_eq (key_name own) id ≡ b → (if b then xs else []) ≡ []
      go true e = let both : Some own ≡ None = sym (called_own own) ∙ (ap called (eq_text (key_name own) id e) ∙ no_key) in cc
      go false e = refl

  other_file : (xs : List Text) → (if bytes_eq file_id id then xs else []) ≡ []
  other_file xs = go (bytes_eq file_id id) refl
    where
      go : (b : Bool) → bytes_eq file_id id ≡ b → (if b then xs else []) ≡ []
      go true e = let both : false ≡ true = ap (λ x. not (bytes_eq x file_id)) (eq_text file_id id e) ∙ no_file in cc
      go false e = refl

  other_files : (files : List Text) → given_values id (map file_use files) ≡ []
  other_files [] = refl
  other_files (word ∷ files) = ap₂ (λ xs ys. xs ++ ys) (other_file (word ∷ [])) (other_files files)

  other_parts : (parts : List Part) → given_values id (map use_of parts) ≡ []
  other_parts [] = refl
  other_parts (file word ∷ parts) = ap₂ (λ xs ys. xs ++ ys) (other_file (word ∷ [])) (other_parts parts)
  other_parts (flag own ∷ parts) = ap₂ (λ xs ys. xs ++ ys) (other_key own (codes "true" ∷ [])) (other_parts parts)
  other_parts (apart own v ∷ parts) = ap₂ (λ xs ys. xs ++ ys) (other_key own (v ∷ [])) (other_parts parts)
  other_parts (joined own v ∷ parts) = ap₂ (λ xs ys. xs ++ ys) (other_key own (v ∷ [])) (other_parts parts)

  pub other_uses : (parts : List Part) (rest : Option (List Text)) → given_values id (uses_of parts rest) ≡ []
  other_uses parts rest = split_uses id parts rest ∙ ap₂ (λ xs ys. xs ++ ys) (other_parts parts) (other_files (rest_files rest))
