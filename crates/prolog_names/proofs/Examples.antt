-- What some tables of names, hashes and numbers are, and what they aren't.
use Rattle.std.proofs.Common.{◌≡◌, ◌≤◌, ℕ, Some, None, List, [], ◌∷◌, true, false, length, codes, refl, sym, ap, ◌∙◌, arith, lit<, lit≤}
use Rattle.prolog_tokens.specs.declared.token.Kind.TheVariants.{Name, Quoted, Variable, Comma}
use Rattle.prolog_names.specs.declared.table.Entry.{Entry}
use Rattle.prolog_names.specs.Names.{name_at, known_names, opening_names, AreDistinct, IsOpened}
use Rattle.prolog_names.specs.Numbers.{has_name}
use Rattle.prolog_names.specs.Table.{text_hash, bucket_in, chain_of, chains_of, bucket_at, bytes_of, name_in, names_of, next_of, IsLast, IsHashed, IsSpan, with_name}

abbrev two : List (List ℕ)
two = codes "b" ∷ codes "foo" ∷ []

-- a name's number is its place

first_name : name_at two 0 ≡ codes "b"
first_name = refl

second_name : name_at two 1 ≡ codes "foo"
second_name = refl

no_name : name_at two 2 ≡ []
no_name = refl

-- a name that stands there already is put in no second time

one_more : with_name two (codes "fo") ≡ codes "b" ∷ codes "foo" ∷ codes "fo" ∷ []
one_more = refl

not_twice : with_name two (codes "b") ≡ two
not_twice = refl

first_of_all : with_name [] [] ≡ [] ∷ []
first_of_all = refl

-- hashes are kept below 2 ^ 32; neighbours have neighbouring buckets

hash_of_none : text_hash [] ≡ 0
hash_of_none = refl

hash_of_one : text_hash (codes "a") ≡ 97
hash_of_one = refl

hash_of_two : text_hash (codes "ab") ≡ 1627429141
hash_of_two = refl

hash_of_three : text_hash (codes "foo") ≡ 2482861314
hash_of_three = refl

bucket : bucket_in 10 97 ≡ 7
bucket = refl

last_bucket : bucket_in 10 99 ≡ 9
last_bucket = refl

only_bucket : bucket_in 1 97 ≡ 0
only_bucket = refl

side_by_side : chains_of (λ _. None) 10 (codes "a1" ∷ codes "a2" ∷ []) ≡ 2 ∷ 3 ∷ []
side_by_side = refl

-- a far name stands in the chain behind the buckets, wherever its hash points

far_away : chain_of (λ _. Some 5) 10 (codes "a1") ≡ 10
far_away = refl

-- names one behind the other in one text: each stands where its entry says, as whole characters

abbrev two_texts : List ℕ
two_texts = codes "bfoo"

abbrev first_entry : Entry
first_entry = record { start = 0; end = 1; hash = text_hash (codes "b"); next = 0 }

abbrev second_entry : Entry
second_entry = record { start = 1; end = 4; hash = text_hash (codes "foo"); next = 1 }

name_there : name_in two_texts second_entry ≡ codes "foo"
name_there = refl

names_there : names_of two_texts (first_entry ∷ second_entry ∷ []) ≡ two
names_there = refl

nexts_there : next_of (first_entry ∷ second_entry ∷ []) ≡ 0 ∷ 1 ∷ []
nexts_there = refl

bytes_there : bytes_of two ≡ 4
bytes_there = refl

hashed_there : IsHashed two_texts second_entry
hashed_there = refl

span_there : IsSpan two_texts second_entry
span_there = record { order = lit≤ tt; starts = (lit≤ tt, λ _ high. absurd (omega (arith, high))); ends = (lit≤ tt, λ under _. absurd (omega (arith, under))) }

-- no name ends within a character: 195 and 169 are the bytes of one

within_character : IsSpan (195 ∷ 169 ∷ []) (record { start = 0; end = 1; hash = 0; next = 0 }) → ⊥
within_character span = let lead : 192 ≤ 169 = span.ends.1 (lit< tt) (lit≤ tt) in omega (arith, lead)

-- the last place in a bucket, of the places before one

abbrev in_two : List ℕ
in_two = 2 ∷ 3 ∷ 2 ∷ []

last_of_three : IsLast in_two 3 2 3
last_of_three = record { within = lit≤ tt; none_behind = λ m from under. absurd (omega (arith, from, under)); is = λ _. refl }

last_of_two : IsLast in_two 2 2 1
last_of_two = record {
  within = lit≤ tt;
  none_behind = λ m from under there.
      let second : m ≡ 1 = omega (arith, from, under) in
      let both : 3 ≡ 2 = sym (ap (bucket_at in_two) second) ∙ there in omega (arith, both);
  is = λ _. refl;
}

none_in_four : IsLast in_two 1 4 0
none_in_four = record {
  within = lit≤ tt;
  none_behind = λ m from under there.
      let first : m ≡ 0 = omega (arith, under) in
      let both : 2 ≡ 4 = sym (ap (bucket_at in_two) first) ∙ there in omega (arith, both);
  is = λ some. absurd (omega (arith, some));
}

not_the_last : IsLast in_two 3 2 1 → ⊥
not_the_last last = last.none_behind 2 (lit≤ tt) (lit< tt) refl

-- the opening names: those that the reader asks for, and behind them the operators' and that of a module

many : length opening_names ≡ 52
many = refl

minus : name_at opening_names 5 ≡ codes "-"
minus = refl

first_prefix : name_at opening_names 6 ≡ codes "?-"
first_prefix = refl

first_infix : name_at opening_names 17 ≡ codes ":-"
first_infix = refl

last_infix : name_at opening_names 50 ≡ codes ":"
last_infix = refl

user : name_at opening_names 51 ≡ codes "user"
user = refl

behind_the_last : name_at opening_names 52 ≡ []
behind_the_last = refl

-- the known names: behind those, the names of predicates that take goals

many_known : length known_names ≡ 64
many_known = refl

user_known : name_at known_names 51 ≡ codes "user"
user_known = refl

first_goal : name_at known_names 52 ≡ codes "call"
first_goal = refl

cut : name_at known_names 63 ≡ codes "!"
cut = refl

behind_the_cut : name_at known_names 64 ≡ []
behind_the_cut = refl

-- a table is opened where it begins with them

opened : IsOpened known_names
opened = ([], refl)

opened_with_more : IsOpened (with_name known_names (codes "foo"))
opened_with_more = (codes "foo" ∷ [], refl)

too_few : IsOpened two → ⊥
too_few table = let same : codes "b" ≡ [] = ap (λ names. name_at names 0) table.1 in cc

-- no name stands at two places

twice : AreDistinct (codes "b" ∷ codes "b" ∷ []) → ⊥
twice distinct = omega (arith, distinct 0 1 (lit< tt) (lit< tt) refl)

-- Names and Quoted tokens have a name

name_named : has_name Name ≡ true
name_named = refl

quoted_named : has_name Quoted ≡ true
quoted_named = refl

variable_unnamed : has_name Variable ≡ false
variable_unnamed = refl

comma_unnamed : has_name Comma ≡ false
comma_unnamed = refl
