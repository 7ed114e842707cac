-- Names put in order, each once, without those that are known.
use Rattle.std.proofs.Common.{◌≡◌, ℕ, ◌+◌, ◌≤◌, ◌⊎◌, List, [], ◌∷◌, length, sum_by, Contains, refl, subst, ap, ◌∙◌, inl, inr, arith}
use Rattle.std.specs.List.{AllByRecursion}
use Rattle.std.specs.List.Sorted.{IsStrictlySortedBy}
use Rattle.std.specs.Ordering.{nat_cmp, match_ordering, ordering_reverse}
use Rattle.std.specs.Cmp.Lexicographic.{slice_cmp}
use Rattle.std.specs.declared.cmp.Ordering.{Ordering}
use Rattle.std.specs.declared.cmp.Ordering.TheVariants.{Less, Equal, Greater}
use Rattle.std.specs.BTreeSet.{insert_key}
use Rattle.std.proofs.lemmas.Cmp.{nat_list_cmp_total}
use Rattle.std.proofs.lemmas.List.Sums.{sum_by-cons}
use Rattle.list_laws.proofs.OneOrder.{nothing_in, first_or_rest, in_rest, in_first}
use Rattle.file_library.specs.Asked.{AreInOrder}
use Rattle.file_library.proofs.NextWaveLemmas.{one_added}
use Rattle.file_library.proofs.WaveLaws.{Names, has_name}

abbrev put : Names → List ℕ → Names
put names name = insert_key (slice_cmp nat_cmp) names name

-- a name that is put among others

put_there : (names : Names) (name : List ℕ) → Contains (put names name) name
put_there names name = elim ((one_added [] (length (put names name)) names (put names name) name (nothing_in name) refl).all name (in_first name [])) [
  | inl none ↦ absurd (nothing_in name none)
  | inr rest ↦ elim rest [ inl there ↦ there | inr over ↦ let no : ⊥ = omega (arith, over) in absurd no ]
]

put_kept : (names : Names) (name other : List ℕ) → Contains names other → Contains (put names name) other
put_kept names name other has = (one_added [] 0 names (put names name) name (nothing_in name) refl).kept other has

put_only : (names : Names) (name other : List ℕ) → Contains (put names name) other → Contains names other ⊎ (name ≡ other)
put_only names name other has = elim ((one_added [] 0 names (put names name) name (nothing_in name) refl).sound other has) [
  | inl before ↦ inl before
  | inr added ↦ elim (first_or_rest name other [] added.0) [ inl is ↦ inr is | inr none ↦ absurd (nothing_in other none) ]
]

all_put : (P : List ℕ → Type 0) (names : Names) (name : List ℕ) → AllByRecursion P names → P name → AllByRecursion P (put names name)
all_put P [] name all one = (one, tt)
all_put P (x ∷ xs) name all one = at (slice_cmp nat_cmp name x) (all_put P xs name all.1 one)
  where
    at : (order : Ordering) → AllByRecursion P (put xs name) → AllByRecursion P (match_ordering order (name ∷ x ∷ xs) (x ∷ xs) (x ∷ put xs name))
    at Less rest = (one, all)
    at Equal rest = all
    at Greater rest = (all.0, rest)

all_less : (names : Names) (name x : List ℕ) → slice_cmp nat_cmp name x ≡ Less → AllByRecursion (λ n. slice_cmp nat_cmp x n ≡ Less) names
    → AllByRecursion (λ n. slice_cmp nat_cmp name n ≡ Less) names
all_less [] name x less all = tt
all_less (y ∷ names) name x less all = (nat_list_cmp_total.trans name x y less all.0, all_less names name x less all.1)

put_up : (names : Names) (name : List ℕ) → AreInOrder names → AreInOrder (put names name)
unfolding IsStrictlySortedBy
put_up [] name up = (tt, tt)
put_up (x ∷ xs) name up = at (slice_cmp nat_cmp name x) refl (put_up xs name up.1)
  where
    at : (order : Ordering) → slice_cmp nat_cmp name x ≡ order → AreInOrder (put xs name) → AreInOrder (match_ordering order (name ∷ x ∷ xs) (x ∷ xs) (x ∷ put xs name))
    at Less is rest = ((is, all_less xs name x is up.0), up)
    at Equal is rest = up
    at Greater is rest = (all_put (λ n. slice_cmp nat_cmp x n ≡ Less) xs name up.0 (nat_list_cmp_total.antisymm x name ∙ ap ordering_reverse is), rest)

put_sum : (size : List ℕ → ℕ) (names : Names) (name : List ℕ) → sum_by size (put names name) ≤ size name + sum_by size names
put_sum size [] name = omega (arith, sum_by-cons size name [])
put_sum size (x ∷ xs) name = at (slice_cmp nat_cmp name x) (put_sum size xs name)
  where
    at : (order : Ordering) → sum_by size (put xs name) ≤ size name + sum_by size xs
        → sum_by size (match_ordering order (name ∷ x ∷ xs) (x ∷ xs) (x ∷ put xs name)) ≤ size name + sum_by size (x ∷ xs)
    at Less rest = omega (arith, sum_by-cons size name (x ∷ xs))
    at Equal rest = omega arith
    at Greater rest = omega (arith, rest, sum_by-cons size x xs, sum_by-cons size x (put xs name))

-- the new names are the old ones and those of the list that aren't known
pub record IsNextOf (known old names new : Names) : Type 0 where
  pub ordered : AreInOrder new
  pub kept : (name : List ℕ) → Contains old name → Contains new name
  pub sound : (name : List ℕ) → Contains new name → Contains old name ⊎ (Contains names name × (Contains known name → ⊥))
  pub all : (name : List ℕ) → Contains names name → Contains known name ⊎ Contains new name
  pub sums : (size : List ℕ → ℕ) → sum_by size new ≤ sum_by size old + sum_by size names

passed : (known old names new : Names) (name : List ℕ) → Contains known name → IsNextOf known old names new → IsNextOf known old (name ∷ names) new
passed known old names new name there on = record {
  ordered = on.ordered;
  kept = on.kept;
  sound = λ other has. elim (on.sound other has) [ inl before ↦ inl before | inr added ↦ inr (in_rest name other names added.0, added.1) ];
  all = λ other has. elim (first_or_rest name other names has) [ inl is ↦ inl (subst (Contains known) is there) | inr later ↦ on.all other later ];
  sums = λ size. omega (arith, on.sums size, sum_by-cons size name names);
}

added : (known old names new : Names) (name : List ℕ) → (Contains known name → ⊥) → IsNextOf known (put old name) names new → IsNextOf known old (name ∷ names) new
added known old names new name fresh on = record {
  ordered = on.ordered;
  kept = λ other has. on.kept other (put_kept old name other has);
  sound = λ other has.
      elim (on.sound other has) [
        | inl before ↦
            elim (put_only old name other before) [
              | inl was ↦ inl was
              | inr is ↦ inr (subst (λ n. Contains (name ∷ names) n × (Contains known n → ⊥)) is (in_first name names, fresh))
            ]
        | inr more ↦ inr (in_rest name other names more.0, more.1)
      ];
  all = λ other has.
      elim (first_or_rest name other names has) [
        | inl is ↦ inr (subst (Contains new) is (on.kept name (put_there old name)))
        | inr later ↦ on.all other later
      ];
  sums = λ size. omega (arith, on.sums size, put_sum size old name, sum_by-cons size name names);
}

next_from : (known old names : Names) → AreInOrder old → (new : Names) × IsNextOf known old names new
next_from known old [] up = (
  old,
  record {
    ordered = up;
    kept = λ name has. has;
    sound = λ name has. inl has;
    all = λ name has. absurd (nothing_in name has);
    sums = λ size. omega arith;
  },
)
next_from known old (name ∷ names) up = elim (has_name known name) [
  | inl there ↦ let on = next_from known old names up in (on.0, passed known old names on.0 name there on.1)
  | inr fresh ↦ let on = next_from known (put old name) names (put_up old name up) in (on.0, added known old names on.0 name fresh on.1)
]

none_up : AreInOrder []
unfolding IsStrictlySortedBy
none_up = tt

-- the names of the list that aren't known, in order
pub next_of : (known names : Names) → (new : Names) × IsNextOf known [] names new
next_of known names = next_from known [] names none_up

-- all names of the list, in order
pub record AreOrderedOf (names ordered : Names) : Type 0 where
  pub up : AreInOrder ordered
  pub sound : (name : List ℕ) → Contains ordered name → Contains names name
  pub all : (name : List ℕ) → Contains names name → Contains ordered name
  pub sums : (size : List ℕ → ℕ) → sum_by size ordered ≤ sum_by size names

pub ordered_of : (names : Names) → (ordered : Names) × AreOrderedOf names ordered
ordered_of names = let on = next_of [] names in (
  on.0,
  record {
    up = on.1.ordered;
    sound = λ name has. elim (on.1.sound name has) [ inl none ↦ absurd (nothing_in name none) | inr new ↦ new.0 ];
    all = λ name has. elim (on.1.all name has) [ inl none ↦ absurd (nothing_in name none) | inr there ↦ there ];
    sums = λ size. omega (arith, on.1.sums size);
  },
)
