-- What follows of waves, for any relation of files that load files.
use Rattle.std.proofs.Common.{◌≡◌, ℕ, zero, suc, ◌<◌, ◌≤◌, ◌⊎◌, Bool, true, false, List, [], ◌∷◌, ◌++◌, length, Contains, refl, sym, subst, inl, inr, arith}
use Rattle.std.proofs.lemmas.Bool.{cases_lt}
use Rattle.std.specs.Bool.{Decides}
use Rattle.std.specs.Str.{bytes_eq}
use Rattle.std.proofs.lemmas.List.{length-append, get_or_append_left}
use Rattle.std.proofs.lemmas.List.Concat.{flat_map-cons}
use Rattle.std.proofs.lemmas.List.Elements.{Contains-append_left, Contains-append_right, Contains-append_cases}
use Rattle.std.proofs.lemmas.Slice.Eq.{bytes_eq-Decides}
use Rattle.std.proofs.Math.ListN.{get_or-eq_default}
use Rattle.std.proofs.Math.Seq.{get_or-append_seam}
use Rattle.list_laws.proofs.OneOrder.{nothing_in, first_or_rest, in_rest, in_first}
use Rattle.file_library.specs.Asked.{LeadsIn, IsAsked, IsInWave, wave_at, AreInOrder, IsWave, AreFirstWaves, AreWaves, names_in}

abbrev pub Names : Type 0
Names = List (List ℕ)

-- a list has a name or hasn't
pub has_name : (names : Names) (name : List ℕ) → Contains names name ⊎ (Contains names name → ⊥)
has_name [] name = inr (nothing_in name)
has_name (x ∷ xs) name = with_first (bytes_eq x name) (bytes_eq-Decides x name) (has_name xs name)
  where
    with_first : (same : Bool) → Decides same (x ≡ name) → Contains xs name ⊎ (Contains xs name → ⊥) → Contains (x ∷ xs) name ⊎ (Contains (x ∷ xs) name → ⊥)
    with_first true decides rest = inl (subst (Contains (x ∷ xs)) (decides.0 refl) (in_first x xs))
    with_first false decides (inl has) = inl (in_rest x name xs has)
    with_first false decides (inr none) =
        inr (λ has. elim (first_or_rest x name xs has) [ inl is ↦ let both : false ≡ true = decides.1 is in cc | inr rest ↦ none rest ])

-- one of the first k waves has a name, or none of them
pub earlier : (waves : List Names) (name : List ℕ) (k : ℕ)
    → ((j : ℕ) × (j < k) × Contains (wave_at waves j) name) ⊎ ((j : ℕ) → j < k → Contains (wave_at waves j) name → ⊥)
earlier waves name zero = inr (λ j less has. let none : ⊥ = omega (arith, less) in none)
earlier waves name (suc k) = join (earlier waves name k) (has_name (wave_at waves k) name)
  where
    join : ((j : ℕ) × (j < k) × Contains (wave_at waves j) name) ⊎ ((j : ℕ) → j < k → Contains (wave_at waves j) name → ⊥)
        → Contains (wave_at waves k) name ⊎ (Contains (wave_at waves k) name → ⊥)
        → ((j : ℕ) × (j < suc k) × Contains (wave_at waves j) name) ⊎ ((j : ℕ) → j < suc k → Contains (wave_at waves j) name → ⊥)
    join (inl found) last = let less : found.0 < suc k = omega (arith, found.1) in inl (found.0, less, found.2)
    join (inr none) (inl has) = let less : k < suc k = omega arith in inl (k, less, has)
    join (inr none) (inr missing) =
        inr (λ j less has. elim (cases_lt j k) [
          | inl below ↦ none j below has
          | inr over ↦ let is : j ≡ k = omega (arith, less, over) in missing (subst (λ i. Contains (wave_at waves i) name) is has)
        ])

-- a name of the waves is one of some wave, and the other way round

pub in_some_wave : (waves : List Names) (name : List ℕ) → Contains (names_in waves) name → (j : ℕ) × (j < length waves) × Contains (wave_at waves j) name
in_some_wave [] name has = absurd (nothing_in name has)
in_some_wave (wave ∷ waves) name has =
    elim (Contains-append_cases wave (names_in waves) name (subst (λ names. Contains names name) (flat_map-cons (λ w. w) wave waves) has)) [
      | inl first ↦ let less : 0 < suc (length waves) = omega arith in (0, less, first)
      | inr rest ↦
          let found = in_some_wave waves name rest in
          let less : suc found.0 < suc (length waves) = omega (arith, found.1) in (suc found.0, less, found.2)
    ]

pub in_names : (waves : List Names) (j : ℕ) (name : List ℕ) → j < length waves → Contains (wave_at waves j) name → Contains (names_in waves) name
in_names [] j name less has = let none : ⊥ = omega (arith, less) in absurd none
in_names (wave ∷ waves) zero name less has =
    subst (λ names. Contains names name) (sym (flat_map-cons (λ w. w) wave waves)) (Contains-append_left wave (names_in waves) name has)
in_names (wave ∷ waves) (suc j) name less has =
    let below : j < length waves = omega (arith, less) in
    subst (λ names. Contains names name) (sym (flat_map-cons (λ w. w) wave waves)) (Contains-append_right wave (names_in waves) name (in_names waves j name below has))

module _ (loads : List ℕ → List ℕ → Type 0) (roots : Names) where
  leads_within : (P : List ℕ → Type 0) → ((name : List ℕ) → Contains roots name → P name) → ((user name : List ℕ) → P user → loads user name → P name)
      → (n : ℕ) (name : List ℕ) → LeadsIn loads roots n name → P name
  leads_within P base step zero name there = base name there
  leads_within P base step (suc n) name there = step there.0 name (leads_within P base step n there.0 there.1) there.2

  -- what holds of the roots and of all that such a file loads holds of what is asked
  pub asked_least : (P : List ℕ → Type 0) → ((name : List ℕ) → Contains roots name → P name) → ((user name : List ℕ) → P user → loads user name → P name)
      → (name : List ℕ) → IsAsked loads roots name → P name
  asked_least P base step name asked = leads_within P base step asked.0 name asked.1

  pub wave_before : (n : ℕ) (name : List ℕ) → IsInWave loads roots (suc n) name → (user : List ℕ) × IsInWave loads roots n user × loads user name
  wave_before n name in_wave =
      let there = in_wave.there in (
        there.0,
        record { there = there.1; first = λ k below leads. in_wave.first (suc k) (omega (arith, below)) (there.0, leads, there.2) },
        there.2,
      )

  pub one_wave : (j k : ℕ) (name : List ℕ) → j < k → IsInWave loads roots j name → IsInWave loads roots k name → ⊥
  one_wave j k name below early late = late.first j below early.there

  -- what so many loads lead to stands in the wave of that number or in an earlier one
  known_below : (waves : List Names) (count : ℕ) → ((n : ℕ) → n < count → IsWave loads roots n (wave_at waves n))
      → (bound k : ℕ) → k < bound → k < count → (name : List ℕ) → LeadsIn loads roots k name
      → (j : ℕ) × (j ≤ k) × Contains (wave_at waves j) name
  known_below waves count are zero k less within name there = let none : ⊥ = omega (arith, less) in absurd none
  known_below waves count are (suc b) k less within name there = join (earlier waves name k) (known_below waves count are b)
    where
      join : ((j : ℕ) × (j < k) × Contains (wave_at waves j) name) ⊎ ((j : ℕ) → j < k → Contains (wave_at waves j) name → ⊥)
          → ((i : ℕ) → i < b → i < count → (n : List ℕ) → LeadsIn loads roots i n → (j : ℕ) × (j ≤ i) × Contains (wave_at waves j) n)
          → (j : ℕ) × (j ≤ k) × Contains (wave_at waves j) name
      join (inl early) on = (early.0, omega (arith, early.1), early.2)
      join (inr none) on = (
        k,
        omega arith,
        (are k within).all name (record {
          there = there;
          first = λ j below early. let f = on j (omega (arith, below, less)) (omega (arith, below, within)) name early in none f.0 (omega (arith, f.1, below)) f.2;
        }),
      )

  pub known : (waves : List Names) → AreFirstWaves loads roots waves → (n : ℕ) → n < length waves → (name : List ℕ) → LeadsIn loads roots n name
      → (j : ℕ) × (j ≤ n) × Contains (wave_at waves j) name
  known waves are n less name there = known_below waves (length waves) are (suc n) n (omega arith) less name there

  -- the roots in order are the first wave
  pub first_wave : (wave : Names) → AreInOrder wave → ((name : List ℕ) → Contains wave name → Contains roots name)
      → ((name : List ℕ) → Contains roots name → Contains wave name) → IsWave loads roots 0 wave
  first_wave wave ordered sound all = record {
    ordered = ordered;
    sound = λ name has. record { there = sound name has; first = λ k below leads. let none : ⊥ = omega (arith, below) in none };
    all = λ name in_wave. all name in_wave.there;
  }

  -- what the last wave loads and no wave has is in the next wave, and nothing else is

  pub next_sound : (waves : List Names) (n : ℕ) → AreFirstWaves loads roots waves → length waves ≡ suc n → (user name : List ℕ) → Contains (wave_at waves n) user → loads user name
      → (Contains (names_in waves) name → ⊥) → IsInWave loads roots (suc n) name
  next_sound waves n are count user name has loaded new = record {
    there = (user, ((are n (omega (arith, count))).sound user has).there, loaded);
    first = λ k below leads.
        let early = known waves are k (omega (arith, below, count)) name leads in
        new (in_names waves early.0 name (omega (arith, early.1, below, count)) early.2);
  }

  pub next_all : (waves : List Names) (n : ℕ) → AreFirstWaves loads roots waves → length waves ≡ suc n → (name : List ℕ) → IsInWave loads roots (suc n) name
      → (user : List ℕ) × Contains (wave_at waves n) user × loads user name × (Contains (names_in waves) name → ⊥)
  next_all waves n are count name in_wave =
      let from = wave_before n name in_wave in (
        from.0,
        (are n (omega (arith, count))).all from.0 from.1,
        from.2,
        λ has. let early = in_some_wave waves name has in one_wave early.0 (suc n) name (omega (arith, early.1, count)) ((are early.0 early.1).sound name early.2) in_wave,
      )

  pub more_waves : (waves : List Names) (next : Names) → AreFirstWaves loads roots waves → IsWave loads roots (length waves) next
      → AreFirstWaves loads roots (waves ++ next ∷ [])
  more_waves waves next are is n less =
      elim (cases_lt n (length waves)) [
        | inl below ↦ subst (IsWave loads roots n) (sym (get_or_append_left waves (next ∷ []) [] n below)) (are n below)
        | inr over ↦
            let here : length waves ≡ n = omega (arith, over, less, length-append waves (next ∷ [])) in
            subst (λ m. IsWave loads roots m (wave_at (waves ++ next ∷ []) m)) here (subst (IsWave loads roots (length waves)) (sym (get_or-append_seam waves next [] [])) is)
      ]

  -- where a wave is empty nothing comes behind it

  none_behind : (m : ℕ) → IsWave loads roots m [] → (n : ℕ) → m ≤ n → (name : List ℕ) → IsInWave loads roots n name → ⊥
  none_behind m none zero within name in_wave =
      let at : 0 ≡ m = omega (arith, within) in nothing_in name (none.all name (subst (λ k. IsInWave loads roots k name) at in_wave))
  none_behind m none (suc n) within name in_wave =
      elim (cases_lt n m) [
        | inl below ↦ let at : suc n ≡ m = omega (arith, below, within) in nothing_in name (none.all name (subst (λ k. IsInWave loads roots k name) at in_wave))
        | inr over ↦ let from = wave_before n name in_wave in none_behind m none n over from.0 from.1
      ]

  pub all_waves : (waves : List Names) → AreFirstWaves loads roots waves → IsWave loads roots (length waves) [] → AreWaves loads roots waves
  all_waves waves are none n =
      elim (cases_lt n (length waves)) [
        | inl below ↦ are n below
        | inr over ↦
            subst (IsWave loads roots n) (sym (get_or-eq_default waves [] over)) (record {
              ordered = none.ordered;
              sound = λ name has. absurd (nothing_in name has);
              all = λ name in_wave. absurd (none_behind (length waves) none n over name in_wave);
            })
      ]

  -- the names of the waves are asked, and what is asked stands in the waves

  pub waves_asked : (waves : List Names) → AreFirstWaves loads roots waves → (name : List ℕ) → Contains (names_in waves) name → IsAsked loads roots name
  waves_asked waves are name has =
      let found = in_some_wave waves name has in (found.0, ((are found.0 found.1).sound name found.2).there)

  pub asked_waves : (waves : List Names) → AreWaves loads roots waves → (name : List ℕ) → IsAsked loads roots name → Contains (names_in waves) name
  asked_waves waves are name asked =
      let found = known_below waves (suc asked.0) (λ n less. are n) (suc asked.0) asked.0 (omega arith) (omega arith) name asked.1 in
      elim (cases_lt found.0 (length waves)) [
        | inl below ↦ in_names waves found.0 name below found.2
        | inr over ↦ absurd (nothing_in name (subst (λ wave. Contains wave name) (get_or-eq_default waves [] over) found.2))
      ]

  -- no name of a wave stands in an earlier one
  pub waves_apart : (waves : List Names) (next : Names) → AreFirstWaves loads roots waves → IsWave loads roots (length waves) next
      → (name : List ℕ) → Contains next name → Contains (names_in waves) name → ⊥
  waves_apart waves next are is name has before =
      let found = in_some_wave waves name before in
      one_wave found.0 (length waves) name found.1 ((are found.0 found.1).sound name found.2) (is.sound name has)
