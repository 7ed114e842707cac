-- What words give makes settings, or none.
use Rattle.std.proofs.Common.{◌≡◌, ◌⊎◌, inl, inr, ℕ, ◌<◌, ◌≤◌, true, false, List, [], ◌∷◌, IsTrue, All, length, refl, subst, arith}
use Rattle.std.specs.Prelude.{codes}
use Rattle.std.specs.Str.Parse.{digits_value}
use Rattle.std.proofs.lemmas.Bool.{cases_lt}
use Rattle.argument_numbers.specs.Numbers.{IsNumber, IsNumberIn, is_digit}
use Rattle.component_words.specs.declared.flag.Flag.TheVariants.{Order, Json, Loops, FromJson}
use Rattle.component_words.specs.declared.settings.TheConstants.{MOST_JOBS}
use Rattle.component_words.specs.Words.{is_given, same_flag}
use Rattle.component_words.specs.Settings.{AreFile, AreJobs, AreSettings, Given, IsOnce}
use Rattle.component_laws.proofs.Known.{IsFound, IsKnown, known_all, known_bool, known_pairs}

-- a number of threads

known_number : (text : List ℕ) → IsKnown (IsNumber text)
known_number text = go (cases_lt 0 (length text)) (cases_lt 20 (length text)) (known_all (λ b. IsTrue (is_digit b)) (λ b. known_bool (is_digit b) true) text)
  where
    go : (0 < length text) ⊎ (length text ≤ 0) → (20 < length text) ⊎ (length text ≤ 20) → IsKnown (All (λ b. IsTrue (is_digit b)) text) → IsKnown (IsNumber text)
    go (inr none) few digits = inr (λ is. omega (arith, none, is.some))
    go (inl some) (inl many) digits = inr (λ is. omega (arith, many, is.few))
    go (inl some) (inr few) (inr never) = inr (λ is. never is.digits)
    go (inl some) (inr few) (inl digits) = inl (record { some = omega (arith, some); few = few; digits = digits })

number_found : (low high : ℕ) (text : List ℕ) → IsFound (IsNumberIn low high text)
number_found low high text = go (known_number text) (cases_lt (digits_value 10 text) low) (cases_lt high (digits_value 10 text))
  where
    go : IsKnown (IsNumber text) → (digits_value 10 text < low) ⊎ (low ≤ digits_value 10 text) → (high < digits_value 10 text) ⊎ (digits_value 10 text ≤ high)
        → IsFound (IsNumberIn low high text)
    go (inr never) below above = inr (λ n is. never is.number)
    go (inl number) (inl below) above = inr (λ n is. omega (arith, below, is.is, is.least))
    go (inl number) (inr least) (inl above) = inr (λ n is. omega (arith, above, is.is, is.most))
    go (inl number) (inr least) (inr most) = inl (digits_value 10 text, record { number = number; is = refl; least = least; most = most })

jobs_found : (values : List (List ℕ)) → IsFound (AreJobs values)
jobs_found [] = inl (1, inl (refl, refl))
jobs_found (word ∷ []) = go (number_found 1 MOST_JOBS word)
  where
    none : ((n : ℕ) → IsNumberIn 1 MOST_JOBS word n → ⊥) → (n : ℕ) → AreJobs (word ∷ []) n → ⊥
    none never n (inl empty) = let both : word ∷ [] ≡ [] = empty.0 in cc
    none never n (inr one) =
        let both : word ∷ [] ≡ one.0 ∷ [] = one.1 in
        let same : one.0 ≡ word = cc in
        never n (subst (λ w. IsNumberIn 1 MOST_JOBS w n) same one.2)

    go : IsFound (IsNumberIn 1 MOST_JOBS word) → IsFound (AreJobs (word ∷ []))
    go (inl found) = inl (found.0, inr (word, refl, found.1))
    go (inr never) = inr (none never)
jobs_found (word ∷ (other ∷ more)) = inr two_values
  where
    two_values : (n : ℕ) → AreJobs (word ∷ (other ∷ more)) n → ⊥
    two_values n (inl empty) = let both : word ∷ (other ∷ more) ≡ [] = empty.0 in cc
    two_values n (inr one) = let both : word ∷ (other ∷ more) ≡ one.0 ∷ [] = one.1 in let same : other ∷ more ≡ [] = cc in cc

file_found : (operands : List (List ℕ)) → IsFound (AreFile operands)
file_found [] = inl (codes "-", inl (refl, refl))
file_found (file ∷ []) = inl (file, inr refl)
file_found (file ∷ (other ∷ more)) = inr two_files
  where
    two_files : (one : List ℕ) → AreFile (file ∷ (other ∷ more)) one → ⊥
    two_files one (inl empty) = let both : file ∷ (other ∷ more) ≡ [] = empty.0 in cc
    two_files one (inr is) = let both : file ∷ (other ∷ more) ≡ one ∷ [] = is in let same : other ∷ more ≡ [] = cc in cc

pub settings_found : (given : Given) → IsFound (AreSettings given)
settings_found given = go (known_pairs (λ a b. same_flag a b ≡ false) (λ a b. known_bool (same_flag a b) false) given.flags) (jobs_found given.jobs) (file_found given.operands)
  where
    go : IsKnown (IsOnce given.flags) → IsFound (AreJobs given.jobs) → IsFound (AreFile given.operands) → IsFound (AreSettings given)
    go (inr twice) jobs file = inr (λ settings set. twice set.once)
    go (inl once) (inr none) file = inr (λ settings set. none settings.jobs set.jobs)
    go (inl once) (inl jobs) (inr none) = inr (λ settings set. none settings.file set.file)
    go (inl once) (inl jobs) (inl file) = inl (
      record {
        order = is_given given.flags Order;
        json = is_given given.flags Json;
        loops = is_given given.flags Loops;
        from_json = is_given given.flags FromJson;
        jobs = jobs.0;
        roots = given.roots;
        file = file.0;
      },
      record { once = once; order = refl; json = refl; loops = refl; from_json = refl; jobs = jobs.1; roots = refl; file = file.1 },
    )
