-- Waves over two relations of files that load files, which say the same of the files of the first waves.
use Rattle.std.proofs.Common.{◌≡◌, ℕ, zero, suc, ◌+◌, ◌<◌, ◌≤◌, ◌⊎◌, List, [], ◌∷◌, ◌++◌, length, Contains, refl, sym, subst, ap, ◌∙◌, inl, inr, arith, AllPairs}
use Rattle.std.proofs.lemmas.Grind.{flat_map-append}
use Rattle.std.proofs.lemmas.List.{length-append, get_or_past, append_assoc, append-nil}
use Rattle.std.proofs.lemmas.List.Concat.{flat_map-cons}
use Rattle.file_library.specs.Asked.{LeadsIn, IsInWave, wave_at, IsWave, AreFirstWaves, AreWaves, names_in}
use Rattle.file_library.proofs.Lookups.{all_pairs_append, order_once}
use Rattle.file_library.proofs.WaveLaws.{Names, known, all_waves, in_some_wave, one_wave}

-- both say the same of the files of the first k waves
pub record AgreeBelow (loads also : List ℕ → List ℕ → Type 0) (waves : List Names) (k : ℕ) : Type 0 where
  pub to : (j : ℕ) → j < k → (user name : List ℕ) → Contains (wave_at waves j) user → loads user name → also user name
  pub from : (j : ℕ) → j < k → (user name : List ℕ) → Contains (wave_at waves j) user → also user name → loads user name

module _ (loads also : List ℕ → List ℕ → Type 0) (roots : Names) (waves : List Names) (are : AreFirstWaves loads roots waves) (k : ℕ) (within : k ≤ length waves) (agree : AgreeBelow loads also waves k) where
  leads_same : (n : ℕ) → n ≤ k → (name : List ℕ) → (LeadsIn loads roots n name → LeadsIn also roots n name) × (LeadsIn also roots n name → LeadsIn loads roots n name)
  leads_same zero low name = (λ is. is, λ is. is)
  leads_same (suc n) low name = (
    λ there.
        let stands = known loads roots waves are n (omega (arith, low, within)) there.0 there.1 in
        (there.0, (leads_same n (omega (arith, low)) there.0).0 there.1, agree.to stands.0 (omega (arith, stands.1, low)) there.0 name stands.2 there.2),
    λ there.
        let leads = (leads_same n (omega (arith, low)) there.0).1 there.1 in
        let stands = known loads roots waves are n (omega (arith, low, within)) there.0 leads in
        (there.0, leads, agree.from stands.0 (omega (arith, stands.1, low)) there.0 name stands.2 there.2),
  )

  pub in_wave_to : (n : ℕ) → n ≤ k → (name : List ℕ) → IsInWave loads roots n name → IsInWave also roots n name
  in_wave_to n low name is = record {
    there = (leads_same n low name).0 is.there;
    first = λ j below leads. is.first j below ((leads_same j (omega (arith, below, low)) name).1 leads);
  }

  in_wave_from : (n : ℕ) → n ≤ k → (name : List ℕ) → IsInWave also roots n name → IsInWave loads roots n name
  in_wave_from n low name is = record {
    there = (leads_same n low name).1 is.there;
    first = λ j below leads. is.first j below ((leads_same j (omega (arith, below, low)) name).0 leads);
  }

  wave_same : (n : ℕ) → n ≤ k → (wave : Names) → IsWave loads roots n wave → IsWave also roots n wave
  wave_same n low wave is = record {
    ordered = is.ordered;
    sound = λ name has. in_wave_to n low name (is.sound name has);
    all = λ name in_wave. is.all name (in_wave_from n low name in_wave);
  }

  pub first_waves_same : length waves ≤ suc k → AreFirstWaves also roots waves
  first_waves_same few n less = wave_same n (omega (arith, less, few)) (wave_at waves n) (are n less)

  pub waves_same : k ≡ length waves → AreWaves loads roots waves → AreWaves also roots waves
  waves_same whole all =
      let past : wave_at waves (length waves) ≡ [] = get_or_past waves (length waves) [] (omega arith) in
      all_waves also roots waves (first_waves_same (omega (arith, whole)))
      (subst (IsWave also roots (length waves)) past (wave_same (length waves) (omega (arith, whole)) (wave_at waves (length waves)) (all (length waves))))

-- names of waves cut off behind a name

-- the name stands in this wave, and before it the waves before and the head of the wave
pub record StandsAt (waves : List Names) (before : Names) (last : List ℕ) : Type 0 where
  pub first : List Names
  pub wave : Names
  pub more : List Names
  pub head : Names
  pub tail : Names
  pub is : waves ≡ first ++ wave ∷ more
  pub before_is : before ≡ names_in first ++ head
  pub wave_is : wave ≡ head ++ last ∷ tail

-- of two lists one after another, in which the first or the second does a name stand
in_which : (one others before rest : Names) (last : List ℕ) → one ++ others ≡ before ++ last ∷ rest
    → ((tail : Names) × (one ≡ before ++ last ∷ tail)) ⊎ ((head : Names) × (before ≡ one ++ head) × (others ≡ head ++ last ∷ rest))
in_which [] others before rest last same = inr (before, refl, same)
in_which (p ∷ one) others [] rest last same =
    let both : p ∷ (one ++ others) ≡ last ∷ rest = same in
    let first : p ≡ last = cc in
    inl (one, λ i. first i ∷ one)
in_which (p ∷ one) others (q ∷ before) rest last same =
    let both : p ∷ (one ++ others) ≡ q ∷ (before ++ last ∷ rest) = same in
    let first : p ≡ q = cc in
    let tails : one ++ others ≡ before ++ last ∷ rest = cc in
    elim (in_which one others before rest last tails) [
      | inl here ↦ inl (here.0, λ i. first i ∷ here.1 i)
      | inr later ↦ inr (later.0, (λ i. sym first i ∷ later.1 i), later.2)
    ]

pub stands_at : (waves : List Names) (before rest : Names) (last : List ℕ) → names_in waves ≡ before ++ last ∷ rest → StandsAt waves before last
stands_at [] before rest last same =
    let long : 0 ≡ length (before ++ last ∷ rest) = ap (λ names. length names) same in
    let none : ⊥ = omega (arith, long, length-append before (last ∷ rest)) in absurd none
stands_at (wave ∷ waves) before rest last same =
    later (in_which wave (names_in waves) before rest last (sym (flat_map-cons (λ w. w) wave waves) ∙ same)) (λ head is. stands_at waves head rest last is)
  where
    later : ((tail : Names) × (wave ≡ before ++ last ∷ tail)) ⊎ ((head : Names) × (before ≡ wave ++ head) × (names_in waves ≡ head ++ last ∷ rest))
        → ((head : Names) → names_in waves ≡ head ++ last ∷ rest → StandsAt waves head last) → StandsAt (wave ∷ waves) before last
    later (inl here) on = record { first = []; wave = wave; more = waves; head = before; tail = here.0; is = refl; before_is = refl; wave_is = here.1 }
    later (inr there) on =
        let s = on there.0 there.2 in
        record {
          first = wave ∷ s.first;
          wave = s.wave;
          more = s.more;
          head = s.head;
          tail = s.tail;
          is = ap (λ ws. wave ∷ ws) s.is;
          before_is =
              there.1
              ∙ (ap (λ names. wave ++ names) s.before_is
              ∙ (sym (append_assoc wave (names_in s.first) s.head) ∙ ap (λ names. names ++ s.head) (sym (flat_map-cons (λ w. w) wave s.first))));
          wave_is = s.wave_is;
        }

-- the names of waves that begin others
pub names_of_first : (first more : List Names) (wave : Names) → names_in (first ++ wave ∷ more) ≡ names_in (first ++ wave ∷ []) ++ names_in more
names_of_first first more wave =
    ap (λ ws. names_in ws) (sym (append_assoc first (wave ∷ []) more)) ∙ flat_map-append (λ w. w) (first ++ wave ∷ []) more

pub names_with_last : (first : List Names) (wave : Names) → names_in (first ++ wave ∷ []) ≡ names_in first ++ wave
names_with_last first wave =
    flat_map-append (λ w. w) first (wave ∷ []) ∙ ap (λ names. names_in first ++ names) (flat_map-cons (λ w. w) wave [] ∙ append-nil wave)

-- waves have no name twice
waves_once_from : (loads : List ℕ → List ℕ → Type 0) (roots : Names) (waves : List Names) (n : ℕ) → ((j : ℕ) → j < length waves → IsWave loads roots (n + j) (wave_at waves j))
    → AllPairs (λ a b. a ≡ b → ⊥) (names_in waves)
waves_once_from loads roots [] n are = λ i j d lt within same. let none : ⊥ = omega (arith, within) in none
waves_once_from loads roots (wave ∷ waves) n are =
    let some : 0 < suc (length waves) = omega arith in
    let here : IsWave loads roots n wave = let same : n + 0 ≡ n = omega arith in subst (λ m. IsWave loads roots m wave) same (are 0 some) in
    let rest : (j : ℕ) → j < length waves → IsWave loads roots (suc n + j) (wave_at waves j) = λ j less.
    let inside : suc j < suc (length waves) = omega (arith, less) in
    let same : n + suc j ≡ suc n + j = omega arith in
    subst (λ m. IsWave loads roots m (wave_at waves j)) same (are (suc j) inside) in
    subst (AllPairs (λ a b. a ≡ b → ⊥)) (sym (flat_map-cons (λ w. w) wave waves))
    (all_pairs_append (λ a b. a ≡ b → ⊥) wave (names_in waves) (order_once wave here.ordered) (waves_once_from loads roots waves (suc n) rest)
    (λ a b has_a has_b same.
    let found = in_some_wave waves b has_b in
    one_wave loads roots n (suc n + found.0) b (omega arith) (subst (IsInWave loads roots n) same (here.sound a has_a)) ((rest found.0 found.1).sound b found.2)))

pub waves_once : (loads : List ℕ → List ℕ → Type 0) (roots : Names) (waves : List Names) → AreFirstWaves loads roots waves → AllPairs (λ a b. a ≡ b → ⊥) (names_in waves)
waves_once loads roots waves are =
    waves_once_from loads roots waves 0 (λ j less. let same : j ≡ 0 + j = omega arith in subst (λ m. IsWave loads roots m (wave_at waves j)) same (are j less))
