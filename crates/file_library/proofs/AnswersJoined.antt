-- Answers one after another.
use Rattle.std.proofs.Common.{◌≡◌, ℕ, ◌+◌, ◌<◌, ◌≤◌, ◌⊎◌, List, [], ◌∷◌, ◌++◌, Option, All, length, take, drop, sum_by, get_or, refl, sym, subst, ◌∙◌, ap, inl, inr, arith, append-nil, append_assoc}
use Rattle.std.proofs.lemmas.Bool.{cases_lt}
use Rattle.std.proofs.lemmas.List.{map-append, take-append-drop, take_more, drop_more}
use Rattle.std.proofs.lemmas.List.Elements.{All-append, All-nil}
use Rattle.std.proofs.lemmas.List.Sums.{sum_by-append, sum_by-cons}
use Rattle.std.proofs.Math.Seq.{take-length}
use Rattle.file_library.specs.declared.limits.TheConstants.{MOST_TEXT}
use Rattle.file_library.specs.Counts.{Rose}
use Rattle.file_library.specs.Library.{Files, Answered, names_of, LibrarySeen, IsLater}
use Rattle.prolog_tokens.specs.declared.limits.TheConstants.{MOST_BYTES}
use Rattle.file_library.specs.Answers.{bytes_of, IsTrueAnswer, AreAnswers, GivesText, HasGiven, StopsAt, IsPut, StopsWave}
use Rattle.file_library.specs.declared.loaded.LoadStop.{LoadStop}
use Rattle.file_library.specs.declared.loaded.LoadStop.TheVariants.{Faults, ReadFault, TooManyFiles, FileTooLarge, TooMuchText, NoMemory}

-- a count that rose in a part of the time rose in the whole
pub rose_within : (a b c d : ℕ) → a ≤ b → b ≤ c → c ≤ d → Rose b c → Rose a d
rose_within a b c d before kept after (inl rose) = inl (omega (arith, before, after, rose))
rose_within a b c d before kept after (inr full) = at (cases_lt a b)
  where
    at : (a < b) ⊎ (b ≤ a) → Rose a d
    at (inl less) = inl (omega (arith, less, kept, after))
    at (inr over) = inr (omega (arith, full, over))

-- a library later on is one still later on
pub later_on : (a b c : LibrarySeen) → IsLater a b → IsLater b c → IsLater a c
later_on a b c first second = record {
  same_files = second.same_files ∙ first.same_files;
  faults_kept = omega (arith, first.faults_kept, second.faults_kept);
  misses_kept = omega (arith, first.misses_kept, second.misses_kept);
}

pub not_later : (a : LibrarySeen) → IsLater a a
not_later a = record { same_files = refl; faults_kept = omega arith; misses_kept = omega arith }

pub none_given : (a : LibrarySeen) → HasGiven a a [] []
none_given a = record { put = sym (append-nil a.asked); given = sym (append-nil a.answers) }

pub given_joined : (a b c : LibrarySeen) (names more : List (List ℕ)) (answers then : List Answered) → HasGiven a b names answers → HasGiven b c more then
    → HasGiven a c (names ++ more) (answers ++ then)
given_joined a b c names more answers then first second = record {
  put = second.put ∙ (ap (λ n. n ++ more) first.put ∙ append_assoc a.asked names more);
  given = second.given ∙ (ap (λ n. n ++ then) first.given ∙ append_assoc a.answers answers then);
}

-- answers are true for a longer time too

true_within : (a b c d : LibrarySeen) → IsLater a b → IsLater b c → IsLater c d → (answer : Answered) → IsTrueAnswer b c answer → IsTrueAnswer a d answer
true_within a b c d before kept after answer is = record {
  seen = λ files told. is.seen files (before.same_files ∙ told);
  missed = λ none. rose_within a.misses b.misses c.misses d.misses before.misses_kept kept.misses_kept after.misses_kept (is.missed none);
}

all_true : (a b c d : LibrarySeen) → IsLater a b → IsLater b c → IsLater c d → (answers : List Answered) → All (IsTrueAnswer b c) answers → All (IsTrueAnswer a d) answers
all_true a b c d before kept after answers are k answer less = true_within a b c d before kept after (get_or answers k answer) (are k answer less)

pub no_answers : (a : LibrarySeen) (total : ℕ) → total ≤ MOST_TEXT → AreAnswers a a total []
no_answers a total fits = record {
  are_true = All-nil (IsTrueAnswer a a);
  small = All-nil (λ answer. bytes_of answer ≤ MOST_BYTES);
  together = omega (arith, fits);
}

-- answers that stay true for longer, and more behind them
pub answers_joined : (a b c : LibrarySeen) (total : ℕ) (answers more : List Answered) → IsLater a b → IsLater b c → AreAnswers a b total answers
    → AreAnswers b c (total + sum_by bytes_of answers) more → AreAnswers a c total (answers ++ more)
answers_joined a b c total answers more first second are then = record {
  are_true =
      All-append (IsTrueAnswer a c) answers more
      (all_true a a b c (not_later a) first second answers are.are_true)
      (all_true a b c c first second (not_later c) more then.are_true);
  small = All-append (λ answer. bytes_of answer ≤ MOST_BYTES) answers more are.small then.small;
  together = omega (arith, then.together, sum_by-append bytes_of answers more);
}

pub answers_later : (a b c : LibrarySeen) (total : ℕ) (answers : List Answered) → IsLater a b → IsLater b c → AreAnswers a b total answers → AreAnswers a c total answers
answers_later a b c total answers first second are = record {
  are_true = all_true a a b c (not_later a) first second answers are.are_true;
  small = are.small;
  together = are.together;
}

text_given : (a b c : LibrarySeen) (given : List Answered) (name text : List ℕ) → IsLater a b → GivesText b c given name text → GivesText a c given name text
text_given a b c given name text before is = record { given_last = is.given_last; seen = λ files told. is.seen files (before.same_files ∙ told) }

-- why a name stops is why it does for a library that was seen before
pub stops_within : (a b c : LibrarySeen) (given : List Answered) (name : List ℕ) (total : ℕ) (stop : LoadStop) → IsLater a b → IsLater b c → StopsAt b c given name total stop
    → StopsAt a c given name total stop
stops_within a b c given name total (ReadFault file) before kept why =
    (why.0, rose_within a.faults b.faults c.faults c.faults before.faults_kept kept.faults_kept (omega arith) why.1, why.2)
stops_within a b c given name total (FileTooLarge file) before kept why = (why.0, (why.1.0, why.1.1, text_given a b c given name why.1.0 before why.1.2))
stops_within a b c given name total TooMuchText before kept why = (why.0, why.1, why.2, text_given a b c given name why.0 before why.3)
stops_within a b c given name total NoMemory before kept why = why
stops_within a b c given name total (Faults list) before kept why = why
stops_within a b c given name total TooManyFiles before kept why = why

-- what was read of a wave so far
pub record ReadSoFar (before after : LibrarySeen) (wave : List (List ℕ)) (total count : ℕ) (answers : List Answered) (index : ℕ) : Type 0 where
  pub names : names_of answers ≡ take index wave
  pub are : AreAnswers before after total answers
  pub gained : HasGiven before after (names_of answers) answers
  pub counted : count ≡ total + sum_by bytes_of answers

module _ (before : LibrarySeen) (wave : List (List ℕ)) (total : ℕ) where
  pub read_starts : total ≤ MOST_TEXT → ReadSoFar before before wave total total [] 0
  read_starts fits = record {
    names = refl;
    are = no_answers before total fits;
    gained = none_given before;
    counted = omega arith;
  }

  pub read_more : (mid after : LibrarySeen) (count index : ℕ) (answers : List Answered) (answer : Answered) (name : List ℕ)
      → ReadSoFar before mid wave total count answers index → index < length wave → name ≡ get_or wave index name
      → IsLater before mid → IsLater mid after → answer.name ≡ name → HasGiven mid after (name ∷ []) (answer ∷ []) → AreAnswers mid after count (answer ∷ [])
      → ReadSoFar before after wave total (count + bytes_of answer) (answers ++ answer ∷ []) (index + 1)
  read_more mid after count index answers answer name so_far less at first second named given is =
      let gained : names_of (answers ++ answer ∷ []) ≡ names_of answers ++ name ∷ [] =
      map-append (λ (a : Answered). a.name) answers (answer ∷ []) ∙ ap (λ n. names_of answers ++ n ∷ []) named in
      record {
        names =
            gained
            ∙ (ap (λ names. names ++ name ∷ []) so_far.names
            ∙ (ap (λ n. take index wave ++ n ∷ []) at ∙ sym (take_more wave index name less)));
        are =
            answers_joined before mid after total answers (answer ∷ []) first second so_far.are
            (subst (λ n. AreAnswers mid after n (answer ∷ [])) so_far.counted is);
        gained =
            subst (λ names. HasGiven before after names (answers ++ answer ∷ [])) (sym gained)
            (given_joined before mid after (names_of answers) (name ∷ []) answers (answer ∷ []) so_far.gained given);
        counted = omega (arith, so_far.counted, sum_by-append bytes_of answers (answer ∷ []), sum_by-cons bytes_of answer []);
      }

  pub read_stops : (mid after : LibrarySeen) (count index : ℕ) (answers : List Answered) (name : List ℕ) (stop : LoadStop)
      → ReadSoFar before mid wave total count answers index → index < length wave → name ≡ get_or wave index name
      → IsLater before mid → IsLater mid after → IsPut mid.asked after.asked name stop → StopsAt mid after mid.answers name count stop
      → StopsWave before after wave total stop
  read_stops mid after count index answers name stop so_far less at first second put why = record {
    answers = answers;
    are = answers_later before mid after total answers first second so_far.are;
    next = name;
    rest = drop (index + 1) wave;
    is =
        sym (take-append-drop index wave)
        ∙ (ap (λ rest. take index wave ++ rest) (drop_more wave index name less ∙ ap (λ n. n ∷ drop (index + 1) wave) (sym at))
        ∙ ap (λ names. names ++ name ∷ drop (index + 1) wave) (sym so_far.names));
    put = subst (λ names. IsPut names after.asked name stop) so_far.gained.put put;
    why =
        subst (λ given. StopsAt before after given name (total + sum_by bytes_of answers) stop) so_far.gained.given
        (subst (λ n. StopsAt before after mid.answers name n stop) so_far.counted (stops_within before mid after mid.answers name count stop first second why));
  }

  pub read_all : (after : LibrarySeen) (count : ℕ) (answers : List Answered) → ReadSoFar before after wave total count answers (length wave)
      → (names_of answers ≡ wave) × HasGiven before after wave answers
  read_all after count answers so_far =
      let whole : names_of answers ≡ wave = so_far.names ∙ take-length wave in (whole, subst (λ names. HasGiven before after names answers) whole so_far.gained)
