-- What an option is given is UTF-8, where the words are.
use Rattle.std.proofs.Common.{if◌then◌else◌, ◌≡◌, ◌<◌, ℕ, Bool, true, false, nat_lt, List, [], ◌∷◌, ◌++◌, flat_map, Option, Some, All, codes, refl, ap, ◌∙◌, subst, arith}
use Rattle.std.specs.List.{list_all}
use Rattle.std.specs.Str.{IsUtf8}
use Rattle.std.proofs.lemmas.Bool.{and_parts}
use Rattle.std.proofs.lemmas.Bool.Decides.{nat_tests}
use Rattle.std.proofs.lemmas.List.Elements.{All-head, All-tail}
use Rattle.std.proofs.lemmas.Str.{IsCharBoundary-after_ascii, IsUtf8-drop, IsUtf8-nil}
use Rattle.group_words.specs.Words.{Key, Jobs, Searches, Seed, Roots, Path, Order, Unreached, Effects, Loops, Stream, Make, Part, file, flag, apart, joined, IsReading, as_list, option_word, part_words, rest_words, same_key, values}

abbrev AreUtf8 : List (List ℕ) → Type 0
AreUtf8 [] = Unit {0}
AreUtf8 (x ∷ xs) = IsUtf8 x × AreUtf8 xs

are_utf8 : (xs : List (List ℕ)) → All IsUtf8 xs → AreUtf8 xs
are_utf8 [] all = tt
are_utf8 (x ∷ xs) all = (All-head IsUtf8 x xs all, are_utf8 xs (All-tail IsUtf8 x xs all))

utf8_front : (xs ys : List (List ℕ)) → AreUtf8 (xs ++ ys) → AreUtf8 xs
utf8_front [] ys all = tt
utf8_front (x ∷ xs) ys all = (all.0, utf8_front xs ys all.1)

utf8_both : (xs ys : List (List ℕ)) → AreUtf8 xs → AreUtf8 ys → AreUtf8 (xs ++ ys)
utf8_both [] ys front all = all
utf8_both (x ∷ xs) ys front all = (front.0, utf8_both xs ys front.1 all)

utf8_if : (b : Bool) (v : List ℕ) → IsUtf8 v → AreUtf8 (if b then v ∷ [] else [])
utf8_if true v is = (is, tt)
utf8_if false v is = tt

-- what stands behind ASCII

abbrev is_ascii : ℕ → Bool
is_ascii b = nat_lt b 128

behind_one : (b : ℕ) (bs : List ℕ) → is_ascii b ≡ true → IsUtf8 (b ∷ bs) → IsUtf8 bs
behind_one b bs low utf8 =
    let small : b < 128 = grind (arith, nat_tests) in
    IsUtf8-drop (b ∷ bs) 1 utf8 (IsCharBoundary-after_ascii (b ∷ bs) 0 utf8 (omega arith) (omega (arith, small)))

behind_ascii : (front back : List ℕ) → list_all is_ascii front ≡ true → IsUtf8 (front ++ back) → IsUtf8 back
behind_ascii [] back low utf8 = utf8
behind_ascii (b ∷ front) back low utf8 =
    let each = and_parts (is_ascii b) (list_all is_ascii front) low in
    behind_ascii front back each.1 (behind_one b (front ++ back) each.0 utf8)

word_ascii : (key : Key) → list_all is_ascii (option_word key ++ codes "=") ≡ true
word_ascii Jobs = refl
word_ascii Searches = refl
word_ascii Seed = refl
word_ascii Roots = refl
word_ascii Path = refl
word_ascii Order = refl
word_ascii Unreached = refl
word_ascii Effects = refl
word_ascii Loops = refl
word_ascii Stream = refl
word_ascii Make = refl

values_utf8 : (key : Key) (parts : List Part) → AreUtf8 (flat_map part_words parts) → AreUtf8 (values key parts)
values_utf8 key [] are = tt
values_utf8 key (file word ∷ parts) are = values_utf8 key parts are.1
values_utf8 key (flag own ∷ parts) are =
    utf8_both (if same_key own key then [] ∷ [] else []) (values key parts) (utf8_if (same_key own key) [] IsUtf8-nil) (values_utf8 key parts are.1)
values_utf8 key (apart own v ∷ parts) are =
    utf8_both (if same_key own key then v ∷ [] else []) (values key parts) (utf8_if (same_key own key) v are.1.0) (values_utf8 key parts are.1.1)
values_utf8 key (joined own v ∷ parts) are =
    utf8_both (if same_key own key then v ∷ [] else []) (values key parts)
    (utf8_if (same_key own key) v (behind_ascii (option_word own ++ codes "=") v (word_ascii own) are.0)) (values_utf8 key parts are.1)

pub given_utf8 : (words : List (List ℕ)) → All IsUtf8 words → (given : Key → Option (List ℕ)) (files : List (List ℕ)) → IsReading words given files
    → (key : Key) (text : List ℕ) → given key ≡ Some text → IsUtf8 text
given_utf8 words utf8 given files r key text is =
    let all = subst AreUtf8 r.spell (are_utf8 words utf8) in
    let own = values_utf8 key r.parts (utf8_front (flat_map part_words r.parts) (rest_words r.rest) all) in
    (subst AreUtf8 (r.once key ∙ ap as_list is) own).0
