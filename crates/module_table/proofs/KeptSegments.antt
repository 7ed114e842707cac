-- The segments that a path keeps, the last one first.
use Rattle.std.proofs.Common.{◌≡◌, ◌⊎◌, inl, inr, ℕ, Bool, true, false, List, [], ◌∷◌, ◌++◌, Some, None, codes, fold, reverse, drop, refl, sym, ap, ◌∙◌, append_assoc, if◌then◌else◌}
use Rattle.std.specs.List.{AllByRecursion}
use Rattle.std.proofs.lemmas.Bool.{false≢true}
use Rattle.std.proofs.lemmas.List.{append-nil}
use Rattle.std.proofs.lemmas.List.Sums.{fold-append}
use Rattle.module_table.specs.FileName.{begins_with_slash, segments, with_slashes, gone_up, kept_with, kept_segments, with_ending, name_of}
use Rattle.module_table.specs.Paths.{led_on}
use Rattle.module_table.proofs.Segments.{join, reverse-more, turned, HasNoSlash, no_slash, says_nothing, is_up, IsWord, IsPart, part_of_word, root}

-- words, and behind them some levels up, but none in a path from the root

abbrev pub Ups : List (List ℕ) → Type 0
Ups kept = AllByRecursion (λ segment. segment ≡ codes "..") kept

pub record IsUpKept (absolute : Bool) (segment : List ℕ) (before : List (List ℕ)) : Type 0 where
  pub is : segment ≡ codes ".."
  pub relative : absolute ≡ false
  pub ups : Ups before

abbrev pub AreKept : Bool → List (List ℕ) → Type 0
AreKept absolute [] = Unit {0}
AreKept absolute (segment ∷ before) = (IsWord segment × AreKept absolute before) ⊎ IsUpKept absolute segment before

pub up_by : (absolute : Bool) (last : List ℕ) (before : List (List ℕ)) (test : Bool) → is_up last ≡ test → AreKept absolute (last ∷ before)
    → AreKept absolute (if test then (if absolute then last ∷ before else codes ".." ∷ last ∷ before) else before)
up_by true last before true e all = all
up_by false last before true e (inl word) = absurd (false≢true (sym word.0.up ∙ e))
up_by false last before true e (inr up) = inr (record { is = refl; relative = refl; ups = (up.is, up.ups) })
up_by absolute last before false e (inl word) = word.1
up_by absolute last before false e (inr up) = absurd (false≢true (sym e ∙ ap is_up up.is))

pub kept_up : (absolute : Bool) (kept : List (List ℕ)) → AreKept absolute kept → AreKept absolute (gone_up absolute kept)
kept_up true [] all = tt
kept_up false [] all = inr (record { is = refl; relative = refl; ups = tt })
kept_up absolute (last ∷ before) all = up_by absolute last before (is_up last) refl all

pub keep_by : (absolute : Bool) (kept : List (List ℕ)) (segment : List ℕ) (nothing up : Bool) → says_nothing segment ≡ nothing → is_up segment ≡ up → AreKept absolute kept
    → AreKept absolute (if nothing then kept else if up then gone_up absolute kept else segment ∷ kept)
keep_by absolute kept segment true up n u all = all
keep_by absolute kept segment false true n u all = kept_up absolute kept all
keep_by absolute kept segment false false n u all = inl (record { says = n; up = u }, all)

pub keep : (absolute : Bool) (kept : List (List ℕ)) (segment : List ℕ) → AreKept absolute kept → AreKept absolute (kept_with absolute kept segment)
keep absolute kept segment all = keep_by absolute kept segment (says_nothing segment) (is_up segment) refl refl all

pub keep_all : (absolute : Bool) (kept more : List (List ℕ)) → AreKept absolute kept → AreKept absolute (fold (kept_with absolute) kept more)
keep_all absolute kept [] all = all
keep_all absolute kept (segment ∷ more) all = keep_all absolute (kept_with absolute kept segment) more (keep absolute kept segment all)

pub kept_of : (path : List ℕ) → AreKept (begins_with_slash path) (kept_segments path)
kept_of path = keep_all (begins_with_slash path) [] (segments path) tt

-- none of them holds a slash

pub up_slashless : (absolute : Bool) (kept : List (List ℕ)) → AllByRecursion HasNoSlash kept → AllByRecursion HasNoSlash (gone_up absolute kept)
up_slashless true [] all = tt
up_slashless false [] all = ((refl, (refl, tt)), tt)
up_slashless absolute (last ∷ before) all = by_test absolute (is_up last)
  where
    by_test : (root test : Bool) → AllByRecursion HasNoSlash (if test then (if root then last ∷ before else codes ".." ∷ last ∷ before) else before)
    by_test true true = all
    by_test false true = ((refl, (refl, tt)), all)
    by_test root false = all.1

pub keep_slashless : (absolute : Bool) (kept : List (List ℕ)) (segment : List ℕ) → AllByRecursion HasNoSlash kept → HasNoSlash segment
    → AllByRecursion HasNoSlash (kept_with absolute kept segment)
keep_slashless absolute kept segment all none = by_tests (says_nothing segment) (is_up segment)
  where
    by_tests : (nothing up : Bool) → AllByRecursion HasNoSlash (if nothing then kept else if up then gone_up absolute kept else segment ∷ kept)
    by_tests true up = all
    by_tests false true = up_slashless absolute kept all
    by_tests false false = (none, all)

pub all_slashless : (absolute : Bool) (kept more : List (List ℕ)) → AllByRecursion HasNoSlash kept → AllByRecursion HasNoSlash more
    → AllByRecursion HasNoSlash (fold (kept_with absolute) kept more)
all_slashless absolute kept [] all none = all
all_slashless absolute kept (segment ∷ more) all none =
    all_slashless absolute (kept_with absolute kept segment) more (keep_slashless absolute kept segment all none.0) none.1

pub slashless_kept : (path : List ℕ) → AllByRecursion HasNoSlash (kept_segments path)
slashless_kept path = all_slashless (begins_with_slash path) [] (segments path) tt (no_slash path)

pub parts_kept : (absolute : Bool) (kept : List (List ℕ)) → AreKept absolute kept → AllByRecursion HasNoSlash kept → AllByRecursion IsPart kept
parts_kept absolute [] all none = tt
parts_kept absolute (segment ∷ before) (inl word) none = (part_of_word segment word.0 none.0, parts_kept absolute before word.1 none.1)
parts_kept absolute (segment ∷ before) (inr up) none = (record { some = ap says_nothing up.is; slashless = none.0 }, ups_parts before up.ups none.1)
  where
    ups_parts : (xs : List (List ℕ)) → Ups xs → AllByRecursion HasNoSlash xs → AllByRecursion IsPart xs
    ups_parts [] all none = tt
    ups_parts (x ∷ xs) all none = (record { some = ap says_nothing all.0; slashless = none.0 }, ups_parts xs all.1 none.1)

-- where they lead

abbrev pub stand : List (List ℕ) → List (List ℕ) → List (List ℕ)
stand place [] = place
stand place (segment ∷ before) = led_on (stand place before) segment

pub led_word : (place : List (List ℕ)) (segment : List ℕ) → IsWord segment → led_on place segment ≡ segment ∷ place
led_word place segment word =
    ap (λ t. if t then place else if is_up segment then drop 1 place else segment ∷ place) word.says
    ∙ ap (λ t. if t then drop 1 place else segment ∷ place) word.up

pub led_up : (place : List (List ℕ)) (segment : List ℕ) → segment ≡ codes ".." → led_on place segment ≡ drop 1 place
led_up place segment e = ap (led_on place) e

pub stand_up_by : (absolute : Bool) (place : List (List ℕ)) (last : List ℕ) (before : List (List ℕ)) (test : Bool) → is_up last ≡ test → AreKept absolute (last ∷ before)
    → stand place (if test then (if absolute then last ∷ before else codes ".." ∷ last ∷ before) else before) ≡ drop 1 (stand place (last ∷ before))
stand_up_by true place last before true e (inl word) = absurd (false≢true (sym word.0.up ∙ e))
stand_up_by true place last before true e (inr up) = absurd (false≢true (sym up.relative))
stand_up_by false place last before true e all = refl
stand_up_by absolute place last before false e (inl word) = ap (drop 1) (sym (led_word (stand place before) last word.0))
stand_up_by absolute place last before false e (inr up) = absurd (false≢true (sym e ∙ ap is_up up.is))

pub stand_up : (absolute : Bool) (place kept : List (List ℕ)) → AreKept absolute kept → (absolute ≡ true → place ≡ []) → stand place (gone_up absolute kept) ≡ drop 1 (stand place kept)
stand_up true place [] all root = root refl ∙ ap (drop 1) (sym (root refl))
stand_up false place [] all root = refl
stand_up absolute place (last ∷ before) all root = stand_up_by absolute place last before (is_up last) refl all

pub stand_by : (absolute : Bool) (place kept : List (List ℕ)) (segment : List ℕ) (nothing up : Bool) → says_nothing segment ≡ nothing → is_up segment ≡ up
    → AreKept absolute kept → (absolute ≡ true → place ≡ [])
    → stand place (if nothing then kept else if up then gone_up absolute kept else segment ∷ kept)
    ≡ (if nothing then stand place kept else if up then drop 1 (stand place kept) else segment ∷ stand place kept)
stand_by absolute place kept segment true up n u all root = refl
stand_by absolute place kept segment false true n u all root = stand_up absolute place kept all root
stand_by absolute place kept segment false false n u all root = led_word (stand place kept) segment (record { says = n; up = u })

pub stand_all : (absolute : Bool) (place kept more : List (List ℕ)) → AreKept absolute kept → (absolute ≡ true → place ≡ [])
    → stand place (fold (kept_with absolute) kept more) ≡ fold led_on (stand place kept) more
stand_all absolute place kept [] all root = refl
stand_all absolute place kept (segment ∷ more) all root =
    stand_all absolute place (kept_with absolute kept segment) more (keep absolute kept segment all) root
    ∙ ap (λ there. fold led_on there more) (stand_by absolute place kept segment (says_nothing segment) (is_up segment) refl refl all root)

pub stand_in_turn : (place kept : List (List ℕ)) → fold led_on place (reverse kept) ≡ stand place kept
stand_in_turn place [] = refl
stand_in_turn place (segment ∷ before) =
    ap (fold led_on place) (reverse-more segment before)
    ∙ fold-append led_on place (reverse before) (segment ∷ [])
    ∙ ap (λ there. led_on there segment) (stand_in_turn place before)

pub ups_stand : (kept : List (List ℕ)) → Ups kept → stand [] kept ≡ []
ups_stand [] all = refl
ups_stand (segment ∷ before) all = led_up (stand [] before) segment all.0 ∙ ap (drop 1) (ups_stand before all.1)

-- in order: some levels up, and then words

pub record Parts (absolute : Bool) (kept : List (List ℕ)) : Type 0 where
  pub ups : List (List ℕ)
  pub folders : List (List ℕ)
  pub is : reverse kept ≡ ups ++ folders
  pub up : Ups ups
  pub rooted : absolute ≡ true → ups ≡ []
  pub words : AllByRecursion IsWord folders

pub parts : (absolute : Bool) (kept : List (List ℕ)) → AreKept absolute kept → Parts absolute kept
parts absolute [] all = record { ups = []; folders = []; is = refl; up = tt; rooted = λ e. refl; words = tt }
parts absolute (segment ∷ before) (inl word) =
    let so = parts absolute before word.1 in
    record {
      ups = so.ups;
      folders = so.folders ++ segment ∷ [];
      is = reverse-more segment before ∙ ap (λ x. x ++ segment ∷ []) so.is ∙ append_assoc so.ups so.folders (segment ∷ []);
      up = so.up;
      rooted = so.rooted;
      words = join IsWord so.folders (segment ∷ []) so.words (word.0, tt);
    }
parts absolute (segment ∷ before) (inr up) = record {
  ups = reverse (segment ∷ before);
  folders = [];
  is = sym (append-nil (reverse (segment ∷ before)));
  up = turned (λ s. s ≡ codes "..") (segment ∷ before) (up.is, up.ups);
  rooted = λ e. absurd (false≢true (sym up.relative ∙ e));
  words = tt;
}

-- the name that they make

pub name_of_word : (absolute : Bool) (last : List ℕ) (before : List (List ℕ)) → IsWord last
    → name_of absolute (last ∷ before) ≡ Some ((root absolute ++ with_slashes (reverse before)) ++ with_ending last)
name_of_word absolute last before word = ap (λ t. if t then None else Some ((root absolute ++ with_slashes (reverse before)) ++ with_ending last)) word.up

pub name_of_up : (absolute : Bool) (last : List ℕ) (before : List (List ℕ)) → last ≡ codes ".." → name_of absolute (last ∷ before) ≡ None
name_of_up absolute last before e = ap (λ t. if t then None else Some ((root absolute ++ with_slashes (reverse before)) ++ with_ending last)) (ap is_up e)

pub record Found (absolute : Bool) (kept : List (List ℕ)) (name : List ℕ) : Type 0 where
  pub last : List ℕ
  pub before : List (List ℕ)
  pub is : kept ≡ last ∷ before
  pub word : IsWord last
  pub all : AreKept absolute before
  pub name_is : (root absolute ++ with_slashes (reverse before)) ++ with_ending last ≡ name

pub found : (absolute : Bool) (kept : List (List ℕ)) (name : List ℕ) → AreKept absolute kept → name_of absolute kept ≡ Some name → Found absolute kept name
found absolute [] name all e = absurd (let none : ⊥ = cc in none)
found absolute (last ∷ before) name (inl word) e =
    let both : Some ((root absolute ++ with_slashes (reverse before)) ++ with_ending last) ≡ Some name = sym (name_of_word absolute last before word.0) ∙ e in
    record { last = last; before = before; is = refl; word = word.0; all = word.1; name_is = cc }
found absolute (last ∷ before) name (inr up) e = let none : None ≡ Some name = sym (name_of_up absolute last before up.is) ∙ e in absurd (let no : ⊥ = cc in no)

pub not_found : (absolute : Bool) (kept : List (List ℕ)) → AreKept absolute kept → name_of absolute kept ≡ None → stand [] kept ≡ []
not_found absolute [] all e = refl
not_found absolute (last ∷ before) (inl word) e =
    let none : Some ((root absolute ++ with_slashes (reverse before)) ++ with_ending last) ≡ None = sym (name_of_word absolute last before word.0) ∙ e in absurd (let no : ⊥ = cc in no)
not_found absolute (last ∷ before) (inr up) e = ups_stand (last ∷ before) (up.is, up.ups)

pub nowhere : (absolute : Bool) (kept : List (List ℕ)) → AreKept absolute kept → stand [] kept ≡ [] → name_of absolute kept ≡ None
nowhere absolute [] all e = refl
nowhere absolute (last ∷ before) (inl word) e =
    let none : last ∷ stand [] before ≡ [] = sym (led_word (stand [] before) last word.0) ∙ e in absurd (let no : ⊥ = cc in no)
nowhere absolute (last ∷ before) (inr up) e = name_of_up absolute last before up.is
