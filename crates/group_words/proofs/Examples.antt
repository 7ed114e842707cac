-- What the definitions say of single values.
use Rattle.std.proofs.Common.{◌≡◌, ℕ, List, [], ◌∷◌, Option, Some, None, true, false, IsTrue, refl, subst, arith, codes}
use Rattle.std.specs.Fmt.{digits}
use Rattle.std.proofs.lemmas.List.Elements.{All-cons, All-nil}
use Rattle.prolog_terms.specs.declared.term.Span.{Span}
use Rattle.prolog_terms.specs.declared.term.ConstKind.TheVariants.{Integer}
use Rattle.prolog_terms.specs.declared.term.Form.TheVariants.{Infix}
use Rattle.prolog_terms.specs.Tree.{Tree, atom, compound, constant, more, none, variable}
use Rattle.import_rules.specs.Names.{pred_name}
use Rattle.group_words.specs.Made.{line}
use Rattle.argument_numbers.specs.Numbers.{IsNumber, is_digit}
use Rattle.group_words.specs.RootList.{named_predicate}
use Rattle.group_words.specs.Words.{Key, Jobs, Searches, Seed, Roots, Path, Order, Unreached, Effects, Loops, Stream, Make, file, apart, joined, IsPart, IsReading, as_list, is_file, is_plain, values}
use Rattle.group_words.specs.Settings.{AreLawful, JobsAre, Settings, each_once}
use Rattle.group_words.proofs.Readings.{one_given}

-- the last line of eleven
last_of_eleven : line 11 10 ≡ codes "p10 :- p0.\n"
unfolding digits
last_of_eleven = refl

-- the first of a block that isn't the first one has two calls
of_two_calls : line 12 10 ≡ codes "p10 :- p11, p0.\n"
unfolding digits
of_two_calls = refl

-- the last one has none
of_no_call : line 13 12 ≡ codes "p12.\n"
unfolding digits
of_no_call = refl

-- names are kept once, at their first place
kept_once : each_once (codes "b" ∷ codes "a" ∷ codes "b" ∷ []) ≡ codes "b" ∷ codes "a" ∷ []
kept_once = refl

dash_is_not_plain : is_plain (codes "-5") ≡ false
dash_is_not_plain = refl

dash_names_a_file : is_file (codes "-5") ≡ true
dash_names_a_file = refl

-- roots

abbrev here : Span
here = record { from = 0; to = 1 }

abbrev slashed : Tree → Tree → Tree
slashed name arity = compound (codes "/") (more name (more arity none)) Infix here

abbrev word : List ℕ → Tree
word name = atom name here

abbrev number : ℕ → Tree
number n = constant Integer false (Some n) here

of_user : named_predicate (slashed (word (codes "p")) (number 2)) ≡ Some (pred_name (codes "user") (codes "p") 2)
of_user = refl

of_a_module : named_predicate (slashed (compound (codes ":") (more (word (codes "m")) (more (word (codes "p")) none)) Infix here) (number 0)) ≡ Some (pred_name (codes "m") (codes "p") 0)
of_a_module = refl

no_variable : named_predicate (slashed (variable here) (number 2)) ≡ None
no_variable = refl

no_negative_arity : named_predicate (slashed (word (codes "p")) (constant Integer true (Some 2) here)) ≡ None
no_negative_arity = refl

no_large_arity : named_predicate (slashed (word (codes "p")) (constant Integer false None here)) ≡ None
no_large_arity = refl

-- `--jobs=2 -- f.pl` is lawful

abbrev two_jobs : Key → Option (List ℕ)
two_jobs Jobs = Some (codes "2")
two_jobs _ = None

abbrev two_words : List (List ℕ)
two_words = codes "--jobs=2" ∷ codes "--" ∷ codes "f.pl" ∷ []

two_once : (key : Key) → values key (joined Jobs (codes "2") ∷ []) ≡ as_list (two_jobs key)
two_once Jobs = refl
two_once Searches = refl
two_once Seed = refl
two_once Roots = refl
two_once Path = refl
two_once Order = refl
two_once Unreached = refl
two_once Effects = refl
two_once Loops = refl
two_once Stream = refl
two_once Make = refl

reads_two : IsReading two_words two_jobs (codes "f.pl" ∷ [])
reads_two = record {
  parts = joined Jobs (codes "2") ∷ [];
  rest = Some (codes "f.pl" ∷ []);
  spell = refl;
  lawful = All-cons IsPart (joined Jobs (codes "2")) [] (refl, refl) (All-nil IsPart);
  lawful_rest = All-cons (λ text. is_file text ≡ true) (codes "f.pl") [] refl (All-nil (λ text. is_file text ≡ true));
  once = two_once;
  are = refl;
}

one_digit : (b : ℕ) → IsTrue (is_digit b) → IsNumber (b ∷ [])
one_digit b is = record {
  some = omega arith;
  few = omega arith;
  digits = All-cons (λ x. IsTrue (is_digit x)) b [] is (All-nil (λ x. IsTrue (is_digit x)));
}

abbrev two_settings : Settings
two_settings = record { jobs = 2; searches = None; roots = None; order = false; unreached = false; effects = false; loops = false; stream = false; path = None; make = None; files = codes "f.pl" ∷ [] }

lawful_two : AreLawful two_words two_settings
lawful_two = record {
  given = two_jobs;
  files = codes "f.pl" ∷ [];
  reading = reads_two;
  sets = record {
    together = record {
      one_way = λ e. absurd (let both : false ≡ true = e in cc);
      streamed = λ e. absurd (let both : false ≡ true = e in cc);
      made = λ e. absurd (let both : false ≡ true = e in cc);
      read = λ e is. let both : codes "f.pl" ∷ [] ≡ [] = is in cc;
    };
    jobs = record { number = one_digit 50 refl; is = refl; least = omega arith; most = omega arith };
    searches = tt;
    roots = tt;
    order = refl;
    unreached = refl;
    effects = refl;
    loops = refl;
    stream = refl;
    path = tt;
    make = tt;
    named = record { names = codes "f.pl" ∷ []; resolve = refl; each = refl };
  };
}

-- `--jobs 65 f` isn't

abbrev many_jobs : Key → Option (List ℕ)
many_jobs Jobs = Some (codes "65")
many_jobs _ = None

abbrev many_words : List (List ℕ)
many_words = codes "--jobs" ∷ codes "65" ∷ codes "f" ∷ []

many_once : (key : Key) → values key (apart Jobs (codes "65") ∷ file (codes "f") ∷ []) ≡ as_list (many_jobs key)
many_once Jobs = refl
many_once Searches = refl
many_once Seed = refl
many_once Roots = refl
many_once Path = refl
many_once Order = refl
many_once Unreached = refl
many_once Effects = refl
many_once Loops = refl
many_once Stream = refl
many_once Make = refl

reads_many : IsReading many_words many_jobs (codes "f" ∷ [])
reads_many = record {
  parts = apart Jobs (codes "65") ∷ file (codes "f") ∷ [];
  rest = None;
  spell = refl;
  lawful = All-cons IsPart (apart Jobs (codes "65")) (file (codes "f") ∷ []) (refl, refl) (All-cons IsPart (file (codes "f")) [] refl (All-nil IsPart));
  lawful_rest = All-nil (λ text. is_file text ≡ true);
  once = many_once;
  are = refl;
}

unlawful_many : (s : Settings) → AreLawful many_words s → ⊥
unlawful_many s lawful =
    let same = one_given many_words lawful.given many_jobs lawful.files (codes "f" ∷ []) lawful.reading reads_many Jobs in
    let jobs : JobsAre (Some (codes "65")) s.jobs = subst (λ given. JobsAre given s.jobs) same lawful.sets.jobs in
    let is : s.jobs ≡ 65 = jobs.is in
    omega (arith, is, jobs.most)
