-- The options of lawful words keep to their limits.
use Rattle.std.proofs.Common.{◌≡◌, ◌≢◌, ◌∷◌, [], ◌^◌, ◌<◌, ◌≤◌, ◌∙◌, ℕ, Bool, true, false, not, List, All, Option, Some, None, is_some, if◌then◌else◌, map, filter, refl, sym, subst, ap, arith}
use Rattle.std.specs.Option.{IfSome}
use Rattle.std.specs.List.{AllByRecursion, IsDistinct}
use Rattle.std.specs.Str.{bytes_eq}
use Rattle.group_words.specs.declared.limits.TheConstants.{MOST_MADE}
use Rattle.module_table.specs.FileName.{resolved}
use Rattle.import_rules.specs.declared.names.PredName.{PredName}
use Rattle.group_words.specs.Words.{Key, Jobs, Searches, Seed, Roots, Path, Make}
use Rattle.group_words.specs.RootList.{all_there}
use Rattle.group_words.specs.Settings.{AreLawful, AreSettings, AreWithin, FilesAre, JobsAre, MakeIs, PathIs, RootsAre, SearchesAre, Settings, each_once}
use Rattle.group_words.proofs.RootArities.{arities_fit}

jobs_within : (given : Option (List ℕ)) (n : ℕ) → JobsAre given n → (1 ≤ n) × (n ≤ 64)
jobs_within None n is = (omega (arith, is), omega (arith, is))
jobs_within (Some text) n is = (is.least, is.most)

one_job : (given : Option (List ℕ)) (n : ℕ) → JobsAre given n → given ≡ None → n ≡ 1
one_job None n is none = is
one_job (Some text) n is none = let both : Some text ≡ None = none in cc

searches_within : (searches seed jobs : Option (List ℕ)) (n : ℕ) (both : Option (ℕ × ℕ)) → SearchesAre searches seed both → JobsAre jobs n → (is_some searches ≡ true → jobs ≡ None)
    → IfSome both (λ both. (1 ≤ both.0) × (both.0 ≤ 64) × (both.1 < 2 ^ 64) × (n ≡ 1))
searches_within searches seed jobs n None are is alone = tt
searches_within None None jobs n (Some both) are is alone = absurd are
searches_within None (Some seed) jobs n (Some both) are is alone = absurd are
searches_within (Some searches) None jobs n (Some both) are is alone = absurd are
searches_within (Some searches) (Some seed) jobs n (Some both) are is alone = (are.0.least, are.0.most, omega (arith, are.1.most), one_job jobs n is (alone refl))

roots_within : (given : Option (List ℕ)) (roots : Option (List PredName)) → RootsAre given roots → IfSome roots (All (λ root. root.arity < 2 ^ 32))
roots_within given None are = tt
roots_within None (Some roots) are = absurd are
roots_within (Some text) (Some roots) are = arities_fit text roots are

path_within : (given : Option (List ℕ)) (path : Option (PredName × PredName)) → PathIs given path
    → IfSome path (λ both. (both.0.arity < 2 ^ 32) × (both.1.arity < 2 ^ 32))
path_within given None is = tt
path_within None (Some both) is = absurd is
path_within (Some text) (Some both) is =
    let fit = arities_fit text (both.0 ∷ both.1 ∷ []) is in (fit 0 both.0 (omega arith), fit 1 both.0 (omega arith))

make_within : (given : Option (List ℕ)) (make : Option ℕ) → MakeIs given make → IfSome make (λ count. (1 ≤ count) × (count ≤ MOST_MADE))
make_within given None is = tt
make_within None (Some count) is = absurd is
make_within (Some text) (Some count) is = (is.least, is.most)

-- it is given where it is set
make_given : (given : Option (List ℕ)) (make : Option ℕ) → MakeIs given make → is_some make ≡ is_some given
make_given None None is = refl
make_given None (Some count) is = absurd is
make_given (Some text) None is = absurd is
make_given (Some text) (Some count) is = refl

no_make : (given : Option (List ℕ)) (make : Option ℕ) → MakeIs given make → make ≡ None → given ≡ None
no_make None make is none = refl
no_make (Some text) None is none = absurd is
no_make (Some text) (Some count) is none = let both : Some count ≡ None = none in cc

no_roots : (given : Option (List ℕ)) (roots : Option (List PredName)) → RootsAre given roots → given ≡ None → roots ≡ None
no_roots None None are none = refl
no_roots None (Some roots) are none = absurd are
no_roots (Some text) roots are none = let both : Some text ≡ None = none in cc

no_searches : (searches seed : Option (List ℕ)) (both : Option (ℕ × ℕ)) → SearchesAre searches seed both → searches ≡ None → both ≡ None
no_searches searches seed None are none = refl
no_searches None None (Some both) are none = absurd are
no_searches None (Some seed) (Some both) are none = absurd are
no_searches (Some text) seed (Some both) are none = let both : Some text ≡ None = none in cc

no_path : (given : Option (List ℕ)) (path : Option (PredName × PredName)) → PathIs given path → given ≡ None → path ≡ None
no_path None None are none = refl
no_path None (Some both) are none = absurd are
no_path (Some text) both are none = let both : Some text ≡ None = none in cc

-- files

no_files : (named : List (List ℕ)) → FilesAre [] named → named ≡ []
no_files named are = let none : [] ≡ are.names = let same : Some [] ≡ Some are.names = are.resolve in cc in are.each ∙ ap each_once (sym none)

none_empty : (x : List ℕ) (others : Option (List (List ℕ))) (names : List (List ℕ))
    → elim others [ Some xs ↦ Some (x ∷ xs) | None ↦ None ] ≡ Some names → each_once names ≡ [] → ⊥
none_empty x None names e empty = let both : None ≡ Some names = e in cc
none_empty x (Some xs) [] e empty = let both : Some (x ∷ xs) ≡ Some [] = e in cc
none_empty x (Some xs) (name ∷ names) e empty = let both : name ∷ filter (λ y. not (bytes_eq name y)) (each_once names) ≡ [] = empty in cc

some_files : (words named : List (List ℕ)) → FilesAre words named → words ≢ [] → named ≢ []
some_files [] named are some none = some refl
some_files (word ∷ words) named are some none = go (resolved [] word) are.resolve
  where
    go : (first : Option (List ℕ)) → all_there (first ∷ map (resolved []) words) ≡ Some are.names → ⊥
    go None e = let both : None ≡ Some are.names = e in cc
    go (Some x) e = none_empty x (all_there (map (resolved []) words)) are.names e (sym are.each ∙ none)

filter_differs : (x : List ℕ) (names : List (List ℕ)) → AllByRecursion (λ y. bytes_eq x y ≡ false) (filter (λ y. not (bytes_eq x y)) names)
filter_differs x [] = tt
filter_differs x (name ∷ names) = go (bytes_eq x name) refl (filter_differs x names)
  where
    go : (same : Bool) → bytes_eq x name ≡ same → AllByRecursion (λ y. bytes_eq x y ≡ false) (filter (λ y. not (bytes_eq x y)) names)
        → AllByRecursion (λ y. bytes_eq x y ≡ false)
        (if not same then name ∷ filter (λ y. not (bytes_eq x y)) names else filter (λ y. not (bytes_eq x y)) names)
    go true e later = later
    go false e later = (e, later)

filter_keeps : (P : List ℕ → Type 0) (p : List ℕ → Bool) (names : List (List ℕ)) → AllByRecursion P names → AllByRecursion P (filter p names)
filter_keeps P p [] all = tt
filter_keeps P p (name ∷ names) all = go (p name) (filter_keeps P p names all.1)
  where
    go : (kept : Bool) → AllByRecursion P (filter p names) → AllByRecursion P (if kept then name ∷ filter p names else filter p names)
    go true later = (all.0, later)
    go false later = later

filter_distinct : (p : List ℕ → Bool) (names : List (List ℕ)) → IsDistinct bytes_eq names → IsDistinct bytes_eq (filter p names)
unfolding IsDistinct
filter_distinct p [] distinct = tt
filter_distinct p (name ∷ names) distinct = go (p name) (filter_distinct p names distinct.1)
  where
    go : (kept : Bool) → IsDistinct bytes_eq (filter p names) → IsDistinct bytes_eq (if kept then name ∷ filter p names else filter p names)
    go true later = (filter_keeps (λ y. bytes_eq name y ≡ false) p names distinct.0, later)
    go false later = later

once_distinct : (names : List (List ℕ)) → IsDistinct bytes_eq (each_once names)
unfolding IsDistinct
once_distinct [] = tt
once_distinct (name ∷ names) = (filter_differs name (each_once names), filter_distinct (λ y. not (bytes_eq name y)) (each_once names) (once_distinct names))

settings_within : (given : Key → Option (List ℕ)) (files : List (List ℕ)) (s : Settings) → AreSettings given files s → AreWithin s
settings_within given files s sets = record {
  jobs = jobs_within (given Jobs) s.jobs sets.jobs;
  searches = searches_within (given Searches) (given Seed) (given Jobs) s.jobs s.searches sets.searches sets.jobs sets.together.one_way;
  roots = roots_within (given Roots) s.roots sets.roots;
  path = path_within (given Path) s.path sets.path;
  streamed = λ is.
      let asked = sets.together.streamed (sym sets.stream ∙ is) in
      (sets.order ∙ asked.0, no_searches (given Searches) (given Seed) s.searches sets.searches asked.1);
  make = make_within (given Make) s.make sets.make;
  made = λ is.
      let none = sets.together.made (sym (make_given (given Make) s.make sets.make) ∙ is) in (
        no_roots (given Roots) s.roots sets.roots none.0,
        no_path (given Path) s.path sets.path none.1,
        sets.order ∙ ap is_some none.2,
        sets.unreached ∙ ap is_some none.3,
        sets.effects ∙ ap is_some none.4,
        sets.loops ∙ ap is_some none.5,
        no_files s.files (subst (λ words. FilesAre words s.files) none.6 sets.named),
      );
  read = λ none. some_files files s.files sets.named (sets.together.read (no_make (given Make) s.make sets.make none));
  once = subst (IsDistinct bytes_eq) (sym sets.named.each) (once_distinct sets.named.names);
}

pub lawful_within : (words : List (List ℕ)) (s : Settings) → AreLawful words s → AreWithin s
lawful_within words s lawful = settings_within lawful.given lawful.files s lawful.sets
