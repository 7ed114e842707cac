-- What holds of a term and is handed down to the terms within it, and what so holds of where they start.
use Rattle.std.proofs.Common.{◌≡◌, ℕ, Bool, true, false, List, [], ◌∷◌, ◌++◌, Option, Some, None, codes, length, refl, sym, ◌∙◌, subst, arith, if◌then◌else◌}
use Rattle.std.specs.Prelude.{All}
use Rattle.std.specs.Str.{bytes_eq}
use Rattle.std.proofs.lemmas.List.Elements.{All-nil, All-cons, All-append}
use Rattle.prolog_terms.specs.declared.term.Span.{Span}
use Rattle.prolog_terms.specs.declared.term.Form.{Form}
use Rattle.prolog_terms.specs.Tree.{Tree, Trees, compound, listed, paren, more as with_more, none, span_of}
use Rattle.prolog_terms.specs.Views.{inside, start_of, trees_in, Binary, binary_at, binary, sides_named, joined, atom_name}
use Rattle.prolog_terms.proofs.ViewLemmas.{some_once}
use Rattle.clause_text.specs.Lists.{written_at, written_items}
use Rattle.module_table.specs.Heads.{is_pushback, before_pushback, grammar_head}
use Rattle.module_table.specs.Indicators.{list_of}

-- what is handed down, and what so holds of where a term starts and of how many arguments it has
pub record HandsDown : Type 1 where
  pub Good : Tree → Type 0
  pub At : ℕ → Type 0
  pub Many : ℕ → Type 0
  pub start : (tree : Tree) → Good tree → At (span_of tree).from
  pub inner : (inner : Tree) (span : Span) → Good (paren inner span) → Good inner
  pub args : (name : List ℕ) (args : Trees) (form : Form) (span : Span) → Good (compound name args form span) → All Good (trees_in args)
  pub many : (name : List ℕ) (args : Trees) (form : Form) (span : Span) → Good (compound name args form span) → Many (length (trees_in args))
  pub items : (items : Trees) (span : Span) → Good (listed items span) → All Good (trees_in items)

module _ (k : HandsDown) where
  pub inside_good : (tree : Tree) → k.Good tree → k.Good (inside tree)
  inside_good (paren inner span) good = inside_good inner (k.inner inner span good)
  inside_good tree good = good

  pub start_good : (tree : Tree) → k.Good tree → k.At (start_of tree)
  start_good tree good = k.start (inside tree) (inside_good tree good)

  -- arguments

  pub first_good : (name : List ℕ) (first : Tree) (others : Trees) (form : Form) (span : Span) → k.Good (compound name (with_more first others) form span) → k.Good first
  first_good name first others form span good = k.args name (with_more first others) form span good 0 first (omega arith)

  pub second_good : (name : List ℕ) (first second : Tree) (others : Trees) (form : Form) (span : Span)
      → k.Good (compound name (with_more first (with_more second others)) form span) → k.Good second
  second_good name first second others form span good = k.args name (with_more first (with_more second others)) form span good 1 second (omega arith)

  pub record AreGood (pair : Binary) : Type 0 where
    pub left : k.Good pair.left
    pub right : k.Good pair.right

  same_pair : (own pair : Binary) → Some own ≡ Some pair → own ≡ pair
  same_pair own pair is = cc

  pair_at : (tree : Tree) (pair : Binary) → binary_at tree ≡ Some pair → k.Good tree → AreGood pair
  pair_at (compound name (with_more left (with_more right none)) form span) pair is good =
      subst AreGood (same_pair (record { name = name; left = left; right = right }) pair is)
      (record { left = first_good name left (with_more right none) form span good; right = second_good name left right none form span good })
  pair_at tree pair is good = let both : None ≡ Some pair = is in absurd (cc)

  pub pair_good : (tree : Tree) (pair : Binary) → binary tree ≡ Some pair → k.Good tree → AreGood pair
  pair_good tree pair is good = pair_at (inside tree) pair is (inside_good tree good)

  pub grammar_good : (tree : Tree) → k.Good tree → k.Good (grammar_head tree)
  grammar_good tree good = by_pair (binary tree) refl
    where
      chosen : (pushback : Bool) (left : Tree) → k.Good left → k.Good (if pushback then left else tree)
      chosen true left one = one
      chosen false left one = good

      of_test : (test : Bool) (pair : Binary) → AreGood pair → k.Good (before_pushback tree (if test then Some (pair.left, pair.right) else None))
      of_test true pair are = chosen (is_pushback pair.right) pair.left are.left
      of_test false pair are = good

      by_pair : (found : Option Binary) → binary tree ≡ found → k.Good (before_pushback tree (sides_named (codes ",") found))
      by_pair (Some pair) is = of_test (bytes_eq pair.name (codes ",")) pair (pair_good tree pair is good)
      by_pair None is = good

  -- items

  written_at_good : (tree : Tree) (items : List Tree) → written_at tree ≡ Some items → k.Good tree → All k.Good items
  written_at_good (listed own span) items is good = subst (All k.Good) (some_once is) (k.items own span good)
  written_at_good tree items is good = let both : None ≡ Some items = is in absurd (cc)

  pub written_good : (tree : Tree) (items : List Tree) → written_items tree ≡ Some items → k.Good tree → All k.Good items
  written_good tree items is good = written_at_good (inside tree) items is (inside_good tree good)

  pub list_good : (tree : Tree) (items : List Tree) → list_of tree ≡ Some items → k.Good tree → All k.Good items
  list_good tree items is good = by_name (atom_name tree) refl is
    where
      of_test : (test : Bool) → (if test then Some [] else None) ≡ Some items → All k.Good items
      of_test true same = subst (All k.Good) (some_once same) (All-nil k.Good)
      of_test false same = let both : None ≡ Some items = same in absurd (cc)

      by_name : (found : Option (List ℕ)) → atom_name tree ≡ found → list_of tree ≡ Some items → All k.Good items
      by_name (Some name) found same = of_test (bytes_eq name (codes "[]")) (sym (rw (found, list_of) refl) ∙ same)
      by_name None found same = written_good tree items (sym (rw (found, list_of) refl) ∙ same) good

  -- terms that commas join

  alone : (tree : Tree) → k.Good tree → All k.Good (tree ∷ [])
  alone tree good = All-cons k.Good tree [] good (All-nil k.Good)

  joined_if : (test : Bool) (left right own : Tree) → All k.Good (joined left) → All k.Good (joined right) → k.Good own
      → All k.Good (if test then joined left ++ joined right else own ∷ [])
  joined_if true left right own one other good = All-append k.Good (joined left) (joined right) one other
  joined_if false left right own one other good = alone own good

  pub joined_good : (tree : Tree) → k.Good tree → All k.Good (joined tree)
  joined_good (compound name (with_more left (with_more right none)) form span) good =
      joined_if (bytes_eq name (codes ",")) left right (compound name (with_more left (with_more right none)) form span)
      (joined_good left (first_good name left (with_more right none) form span good)) (joined_good right (second_good name left right none form span good)) good
  joined_good (paren inner span) good = joined_good inner (k.inner inner span good)
  joined_good tree good = alone tree good
