-- Names in order, each once.
use Rattle.std.proofs.Common.{if◌then◌else◌, ◌≡◌, ◌||◌, ◌+◌, ◌<◌, ℕ, Bool, true, false, not, cond, List, [], ◌∷◌, ◌++◌, Bor, Option, Some, None, map, filter, take, drop, get_or, length, refl, ap, sym, ◌∙◌}
use Rattle.std.specs.BTreeSet.{BTreeSet, contains}
use Rattle.std.specs.BTreeMap.{is_at}
use Rattle.std.specs.Cmp.Lexicographic.{slice_cmp}
use Rattle.std.specs.Ordering.{nat_cmp}
use Rattle.std.specs.Str.{bytes_eq}
use Rattle.std.proofs.lemmas.Map.Text.{is_eq-slice_cmp}
use Rattle.std.proofs.lemmas.List.{map-append, take_more, take-append-drop}
use Rattle.module_table.specs.FileName.{resolved}
use Rattle.group_words.specs.RootList.{all_there}
use Rattle.group_words.specs.Settings.{FilesAre, IsKept, each_once, is_in}
use Rattle.group_words.proofs.Roots.{first_absent, first_there, put_before}

filter_push : (p : List ℕ → Bool) (xs : List (List ℕ)) (y : List ℕ) → filter p (xs ++ y ∷ []) ≡ filter p xs ++ (if p y then y ∷ [] else [])
filter_push p [] y = go (p y)
  where
    go : (b : Bool) → (if b then y ∷ [] else []) ≡ (if b then y ∷ [] else [])
    go b = refl
filter_push p (x ∷ xs) y = go (p x) (filter_push p xs y)
  where
    go : (b : Bool) → filter p (xs ++ y ∷ []) ≡ filter p xs ++ (if p y then y ∷ [] else [])
        → (if b then x ∷ filter p (xs ++ y ∷ []) else filter p (xs ++ y ∷ [])) ≡ (if b then x ∷ filter p xs else filter p xs) ++ (if p y then y ∷ [] else [])
    go true e = ap (λ zs. x ∷ zs) e
    go false e = e

append_none : (xs : List (List ℕ)) → xs ++ [] ≡ xs
append_none [] = refl
append_none (x ∷ xs) = ap (λ ys. x ∷ ys) (append_none xs)

-- one more name is kept where it isn't there yet
pub each_more : (names : List (List ℕ)) (name : List ℕ)
    → each_once (names ++ name ∷ []) ≡ (if is_in name names then each_once names else each_once names ++ name ∷ [])
each_more [] name = refl
each_more (x ∷ xs) name = go (bytes_eq x name) refl (is_in name xs) (each_more xs name)
  where
    go : (b : Bool) → bytes_eq x name ≡ b → (there : Bool) → each_once (xs ++ name ∷ []) ≡ (if there then each_once xs else each_once xs ++ name ∷ [])
        → x ∷ filter (λ y. not (bytes_eq x y)) (each_once (xs ++ name ∷ []))
        ≡ (if b || there then x ∷ filter (λ y. not (bytes_eq x y)) (each_once xs) else (x ∷ filter (λ y. not (bytes_eq x y)) (each_once xs)) ++ name ∷ [])
    go true e true rest = ap (λ ys. x ∷ filter (λ y. not (bytes_eq x y)) ys) rest
    go false e true rest = ap (λ ys. x ∷ filter (λ y. not (bytes_eq x y)) ys) rest
    go true e false rest =
        ap (λ ys. x ∷ filter (λ y. not (bytes_eq x y)) ys) rest
        ∙ ap (λ ys. x ∷ ys)
        (filter_push (λ y. not (bytes_eq x y)) (each_once xs) name
        ∙ (ap (λ b. filter (λ y. not (bytes_eq x y)) (each_once xs) ++ (if not b then name ∷ [] else [])) e ∙ append_none (filter (λ y. not (bytes_eq x y)) (each_once xs))))
    go false e false rest =
        ap (λ ys. x ∷ filter (λ y. not (bytes_eq x y)) ys) rest
        ∙ ap (λ ys. x ∷ ys)
        (filter_push (λ y. not (bytes_eq x y)) (each_once xs) name ∙ ap (λ b. filter (λ y. not (bytes_eq x y)) (each_once xs) ++ (if not b then name ∷ [] else [])) e)

is_in_more : (q : List ℕ) (names : List (List ℕ)) (name : List ℕ) → is_in q (names ++ name ∷ []) ≡ cond (bytes_eq name q) true (is_in q names)
is_in_more q [] name = go (bytes_eq name q)
  where
    go : (b : Bool) → (b || false) ≡ cond b true false
    go true = refl
    go false = refl
is_in_more q (x ∷ xs) name = go (bytes_eq x q) (bytes_eq name q) (is_in_more q xs name)
  where
    go : (a b : Bool) → is_in q (xs ++ name ∷ []) ≡ cond b true (is_in q xs) → (a || is_in q (xs ++ name ∷ [])) ≡ cond b true (a || is_in q xs)
    go true true e = refl
    go true false e = refl
    go false b e = e

-- a name is kept, or was
pub keeps : (names : List (List ℕ)) (old new : BTreeSet (List ℕ)) (kept more : List (List ℕ)) (name key : List ℕ) (added : Bool) → key ≡ name
    → added ≡ not (contains (slice_cmp nat_cmp) old key)
    → ((q : List ℕ) → contains (slice_cmp nat_cmp) new q ≡ cond (is_at (slice_cmp nat_cmp key) q) true (contains (slice_cmp nat_cmp) old q))
    → more ≡ (if added then kept ++ name ∷ [] else kept) → IsKept names old kept → IsKept (names ++ name ∷ []) new more
keeps names old new kept more name key added same was updates is before = record {
  each = is ∙ (all added (was ∙ ap not (before.has key ∙ ap (λ k. is_in k names) same)) ∙ sym (each_more names name));
  has = λ q. updates q ∙ (has q ∙ sym (is_in_more q names name));
}
  where
    all : (b : Bool) → b ≡ not (is_in name names) → (if b then kept ++ name ∷ [] else kept) ≡ (if is_in name names then each_once names else each_once names ++ name ∷ [])
    all b e = go b (is_in name names) e
      where
        go : (b there : Bool) → b ≡ not there → (if b then kept ++ name ∷ [] else kept) ≡ (if there then each_once names else each_once names ++ name ∷ [])
        go true true e = let both : true ≡ false = e in cc
        go true false e = ap (λ xs. xs ++ name ∷ []) before.each
        go false true e = before.each
        go false false e = let both : false ≡ true = e in cc

    has : (q : List ℕ) → cond (is_at (slice_cmp nat_cmp key) q) true (contains (slice_cmp nat_cmp) old q) ≡ cond (bytes_eq name q) true (is_in q names)
    has q = ap (λ b. cond b true (contains (slice_cmp nat_cmp) old q)) (is_eq-slice_cmp key q ∙ ap (λ k. bytes_eq k q) same) ∙ ap (λ b. cond (bytes_eq name q) true b) (before.has q)

-- the names that words for files resolve to

abbrev pub resolved_words : List (Bor (List ℕ)) → List (Option (List ℕ))
resolved_words files = map (λ (word : Bor (List ℕ)). resolved [] word.now) files

pub words_lent : (files : List (Bor (List ℕ))) → map (resolved []) (map (λ (word : Bor (List ℕ)). word.now) files) ≡ resolved_words files
words_lent [] = refl
words_lent (word ∷ files) = ap (λ xs. resolved [] word.now ∷ xs) (words_lent files)

pub resolved_more : (files : List (Bor (List ℕ))) (i : ℕ) (d : Bor (List ℕ)) (names : List (List ℕ)) (name : List ℕ) → i < length files
    → all_there (resolved_words (take i files)) ≡ Some names → resolved [] (get_or files i d).now ≡ Some name → all_there (resolved_words (take (i + 1) files)) ≡ Some (names ++ name ∷ [])
resolved_more files i d names name lt before one =
    ap (λ xs. all_there (resolved_words xs)) (take_more files i d lt)
    ∙ (ap all_there (map-append (λ (word : Bor (List ℕ)). resolved [] word.now) (take i files) (get_or files i d ∷ []))
    ∙ (first_there (resolved_words (take i files)) (resolved [] (get_or files i d).now ∷ []) names before ∙ ap (λ o. put_before names (all_there (o ∷ []))) one))

pub resolved_none : (files : List (Bor (List ℕ))) (i : ℕ) (d : Bor (List ℕ)) (names : List (List ℕ)) → i < length files
    → all_there (resolved_words (take i files)) ≡ Some names → resolved [] (get_or files i d).now ≡ None → (named : List (List ℕ)) → FilesAre (map (λ (word : Bor (List ℕ)). word.now) files) named → ⊥
resolved_none files i d names lt before one named are =
    let front : all_there (resolved_words (take (i + 1) files)) ≡ None =
    ap (λ xs. all_there (resolved_words xs)) (take_more files i d lt)
    ∙ (ap all_there (map-append (λ (word : Bor (List ℕ)). resolved [] word.now) (take i files) (get_or files i d ∷ []))
    ∙ (first_there (resolved_words (take i files)) (resolved [] (get_or files i d).now ∷ []) names before ∙ ap (λ o. put_before names (all_there (o ∷ []))) one)) in
    let whole : all_there (resolved_words files) ≡ None =
    ap (λ xs. all_there (resolved_words xs)) (sym (take-append-drop (i + 1) files))
    ∙ (ap all_there (map-append (λ (word : Bor (List ℕ)). resolved [] word.now) (take (i + 1) files) (drop (i + 1) files))
    ∙ first_absent (resolved_words (take (i + 1) files)) (resolved_words (drop (i + 1) files)) front) in
    let both : None ≡ Some are.names = sym whole ∙ (ap all_there (sym (words_lent files)) ∙ are.resolve) in cc
