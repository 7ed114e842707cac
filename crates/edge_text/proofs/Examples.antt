-- What small texts say, and what they don't.
use Rattle.std.proofs.Common.{◌≡◌, ℕ, zero, suc, ◌<◌, ◌≤◌, true, false, ◌++◌, List, [], ◌∷◌, Contains, get_or, codes, refl, ap, inl, inr, arith}
use Rattle.std.specs.Prelude.{slice_index}
use Rattle.std.specs.Ordering.{nat_cmp}
use Rattle.std.specs.Cmp.Lexicographic.{slice_cmp}
use Rattle.std.specs.declared.cmp.Ordering.TheVariants.{Less}
use Rattle.std.proofs.lemmas.List.Elements.{All-cons, All-nil}
use Rattle.std.proofs.lemmas.List.Kept.{AllPairs-cons}
use Rattle.byte_names.specs.Names.{AreInOrder}
use Rattle.edge_text.specs.EdgeGraph.{call_of, calls_of, calls_said, names_said, said_in, AreNames}
use Rattle.edge_text.specs.Lines.{is_separator, lines_of, said_by, words_of}
use Rattle.edge_text.specs.Words.{IsWordAt}

abbrev two_lines : List ℕ
two_lines = codes "b a" ++ 10 ∷ codes "# no"

-- a newline ends a line; what comes after the last one is a line too, which may be empty

lines : lines_of two_lines ≡ codes "b a" ∷ codes "# no" ∷ []
lines = refl

last_newline : lines_of (codes "b" ++ 10 ∷ []) ≡ codes "b" ∷ [] ∷ []
last_newline = refl

empty_text : lines_of [] ≡ [] ∷ []
empty_text = refl

-- words are what is between separators, however many there are

words : words_of (codes "  b  a ") ≡ codes "b" ∷ codes "a" ∷ []
words = refl

tabs : words_of (codes "b" ++ 9 ∷ codes "a") ≡ codes "b" ∷ codes "a" ∷ []
tabs = refl

carriage_return : words_of (codes "b" ++ 13 ∷ []) ≡ codes "b" ∷ []
carriage_return = refl

no_words : words_of (codes "   ") ≡ []
no_words = refl

-- a NUL byte and a byte that is no ASCII are in names

any_bytes : words_of (0 ∷ 255 ∷ 32 ∷ 0 ∷ []) ≡ (0 ∷ 255 ∷ []) ∷ (0 ∷ []) ∷ []
any_bytes = refl

-- a comment says nothing; a number sign elsewhere is in a word

comment : said_by (codes "# a") ≡ []
comment = refl

no_comment : said_by (codes " # a") ≡ codes "#" ∷ codes "a" ∷ []
no_comment = refl

in_a_word : said_by (codes "a#b") ≡ codes "a#b" ∷ []
in_a_word = refl

-- the first word calls each of the others; one that is there twice is called twice, and one word alone calls nothing

calls : calls_said two_lines ≡ call_of (codes "b") (codes "a") ∷ []
calls = refl

two_calls : calls_of (codes "a" ∷ codes "b" ∷ codes "b" ∷ []) ≡ call_of (codes "a") (codes "b") ∷ call_of (codes "a") (codes "b") ∷ []
two_calls = refl

own_call : calls_said (codes "a a") ≡ call_of (codes "a") (codes "a") ∷ []
own_call = refl

no_call : calls_said (codes "a" ++ 10 ∷ codes "b") ≡ []
no_call = refl

names : names_said two_lines ≡ codes "b" ∷ codes "a" ∷ []
names = refl

nothing : names_said [] ≡ []
nothing = refl

-- a word is whole

whole_word : IsWordAt (codes " ab ") 1 3
whole_word = record {
  ordered = omega arith;
  within = omega arith;
  inside = inside;
  opens = inr refl;
  closes = inr refl;
}
  where
    inside : (k : ℕ) → 1 ≤ k → k < 3 → is_separator (slice_index (codes " ab ") k) ≡ false
    inside zero low lt = absurd (omega (arith, low))
    inside (suc zero) low lt = refl
    inside (suc (suc zero)) low lt = refl
    inside (suc (suc (suc k))) low lt = absurd (omega (arith, lt))

not_a_part : IsWordAt (codes " ab ") 1 2 → ⊥
not_a_part is = elim is.closes [ inl end ↦ omega (arith, end) | inr separates ↦ let clash : false ≡ true = separates in cc ]

-- the graph of a text: its names in order, and what each calls

abbrev graph_names : List (List ℕ)
graph_names = codes "a" ∷ codes "b" ∷ []

abbrev graph_lists : List (List ℕ)
graph_lists = [] ∷ (0 ∷ []) ∷ []

none_in_order : AreInOrder []
none_in_order i j d lt within = absurd (let no : j < 0 = within in omega (arith, no))

graph_nodes : AreNames (said_in two_lines) graph_names
graph_nodes = record {
  in_order =
      AllPairs-cons (λ a b. slice_cmp nat_cmp a b ≡ Less) (codes "a") (codes "b" ∷ [])
      (All-cons (λ b. slice_cmp nat_cmp (codes "a") b ≡ Less) (codes "b") [] refl (All-nil (λ b. slice_cmp nat_cmp (codes "a") b ≡ Less)))
      (AllPairs-cons (λ a b. slice_cmp nat_cmp a b ≡ Less) (codes "b") [] (All-nil (λ b. slice_cmp nat_cmp (codes "b") b ≡ Less)) none_in_order);
  only =
      All-cons (Contains (names_said two_lines)) (codes "a") (codes "b" ∷ []) (1, omega arith, refl)
      (All-cons (Contains (names_said two_lines)) (codes "b") [] (0, omega arith, refl) (All-nil (Contains (names_said two_lines))));
  all =
      All-cons (Contains graph_names) (codes "b") (codes "a" ∷ []) (1, omega arith, refl)
      (All-cons (Contains graph_names) (codes "a") [] (0, omega arith, refl) (All-nil (Contains graph_names)));
}

different_letters : codes "a" ≡ codes "b" → ⊥
different_letters same = let heads : 97 ≡ 98 = ap (λ xs. slice_index xs 0) same in omega (arith, heads)

no_other_names : AreNames (said_in two_lines) (codes "a" ∷ []) → ⊥
no_other_names are = let (k, lt, is) = are.all 0 [] (omega arith) in only_a k lt is
  where
    only_a : (k : ℕ) → k < 1 → get_or (codes "a" ∷ []) k (codes "b") ≡ codes "b" → ⊥
    only_a zero lt is = different_letters is
    only_a (suc k) lt is = omega (arith, lt)
