-- Where the sizes of a list of names pass a limit.
use Rattle.std.proofs.Common.{◌≡◌, ℕ, ◌+◌, ◌<◌, ◌≤◌, ◌⊎◌, List, [], ◌∷◌, ◌++◌, All, sum_by, refl, ap, inl, inr, arith}
use Rattle.std.proofs.lemmas.Bool.{cases_lt}
use Rattle.std.proofs.lemmas.List.Elements.{All-nil, All-cons}
use Rattle.std.proofs.lemmas.List.Sums.{sum_by-cons}
use Rattle.prolog_tokens.specs.declared.limits.TheConstants.{MOST_BYTES}
use Rattle.file_library.specs.declared.limits.TheConstants.{MOST_TEXT}
use Rattle.file_library.proofs.WaveLaws.{Names}

-- none is too large, nor are they together with what was read before
pub record AreUnder (size : List ℕ → ℕ) (total : ℕ) (names : Names) : Type 0 where
  pub each : All (λ name. size name ≤ MOST_BYTES) names
  pub together : total + sum_by size names ≤ MOST_TEXT

-- the first with which they are
pub record IsOver (size : List ℕ → ℕ) (total : ℕ) (names : Names) : Type 0 where
  pub before : Names
  pub next : List ℕ
  pub rest : Names
  pub is : names ≡ before ++ next ∷ rest
  pub under : AreUnder size total before
  pub over : (MOST_BYTES < size next) ⊎ ((size next ≤ MOST_BYTES) × (MOST_TEXT < total + sum_by size before + size next))

none_under : (size : List ℕ → ℕ) (total : ℕ) → total ≤ MOST_TEXT → AreUnder size total []
none_under size total fits = record { each = All-nil (λ name. size name ≤ MOST_BYTES); together = omega (arith, fits) }

more_under : (size : List ℕ → ℕ) (total : ℕ) (name : List ℕ) (names : Names) → size name ≤ MOST_BYTES → AreUnder size (total + size name) names → AreUnder size total (name ∷ names)
more_under size total name names small under = record {
  each = All-cons (λ n. size n ≤ MOST_BYTES) name names small under.each;
  together = omega (arith, under.together, sum_by-cons size name names);
}

more_over : (size : List ℕ → ℕ) (total : ℕ) (name : List ℕ) (names : Names) → size name ≤ MOST_BYTES → IsOver size (total + size name) names → IsOver size total (name ∷ names)
more_over size total name names small over = record {
  before = name ∷ over.before;
  next = over.next;
  rest = over.rest;
  is = ap (λ all. name ∷ all) over.is;
  under = more_under size total name over.before small over.under;
  over = elim over.over [
    | inl large ↦ inl large
    | inr much ↦ inr (much.0, omega (arith, much.1, sum_by-cons size name over.before))
  ];
}

pub under_or_over : (size : List ℕ → ℕ) (total : ℕ) (names : Names) → total ≤ MOST_TEXT → AreUnder size total names ⊎ IsOver size total names
under_or_over size total [] fits = inl (none_under size total fits)
under_or_over size total (name ∷ names) fits = elim (cases_lt MOST_BYTES (size name)) [
  | inl large ↦ inr (record { before = []; next = name; rest = names; is = refl; under = none_under size total fits; over = inl large })
  | inr small ↦ elim (cases_lt MOST_TEXT (total + size name)) [
    | inl much ↦ inr (record { before = []; next = name; rest = names; is = refl; under = none_under size total fits; over = inr (small, omega (arith, much)) })
    | inr less ↦ elim (under_or_over size (total + size name) names less) [
      | inl under ↦ inl (more_under size total name names small under)
      | inr over ↦ inr (more_over size total name names small over)
    ]
  ]
]
