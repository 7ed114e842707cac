-- Wave by wave until one is empty, or a limit is passed.
use Rattle.std.proofs.Common.{◌≡◌, ℕ, zero, suc, ◌+◌, ◌<◌, ◌≤◌, List, [], ◌∷◌, ◌++◌, Contains, length, sum_by, refl, sym, subst, ap, ◌∙◌, inl, inr, arith}
use Rattle.std.proofs.lemmas.Bool.{cases_lt}
use Rattle.std.proofs.lemmas.List.{append_assoc, length-append}
use Rattle.std.proofs.lemmas.List.Elements.{All-append, All-nil}
use Rattle.std.proofs.lemmas.List.Sums.{sum_by-append, sum_by-cons}
use Rattle.std.proofs.Math.Seq.{get_or-append_seam}
use Rattle.list_laws.proofs.OneOrder.{nothing_in}
use Rattle.file_library.specs.Library.{Files}
use Rattle.file_library.specs.Asked.{IsWave, wave_at, AreFirstWaves, names_in}
use Rattle.file_library.specs.FileLoads.{FileLoads}
use Rattle.file_library.specs.declared.limits.TheConstants.{MOST_FILES}
use Rattle.prolog_tokens.specs.declared.limits.TheConstants.{MOST_BYTES}
use Rattle.file_library.specs.Loaded.{AreWithin, size_of}
use Rattle.file_library.specs.Asking.{AreAll, LeadTo, LoadEnd, too_many, too_large, too_much, LoadEndIs, IsDecided}
use Rattle.file_library.proofs.ToldWaves.{names_with_last}
use Rattle.file_library.proofs.WaveLaws.{Names, first_wave, next_sound, next_all, more_waves, all_waves}
use Rattle.laws.proofs.FoundAt.{IsAt, loads_at, loaded_from, loaded_into}
use Rattle.laws.proofs.NextNames.{IsNextOf, next_of, ordered_of}
use Rattle.laws.proofs.WaveCut.{AreUnder, IsOver, under_or_over}

-- the asking for the roots ends in a way that the map alone decides
abbrev pub Ends : Files → Names → Type 0
Ends files roots = (names : Names) × ((load : LoadEnd) × (IsDecided load × LoadEndIs files roots names load))

pub ends_by : (files : Files) (roots names : Names) (load : LoadEnd) → IsDecided load → LoadEndIs files roots names load → Ends files roots
ends_by files roots names load decided is = (names, (load, (decided, is)))

-- these waves are within the limits, and this is the next
record HasAsked (files : Files) (roots : Names) (waves : List Names) (wave : Names) : Type 0 where
  are : AreFirstWaves (FileLoads files) roots waves
  next : IsWave (FileLoads files) roots (length waves) wave
  few : length (names_in waves) ≤ MOST_FILES
  within : AreWithin files (names_in waves)

within_more : (files : Files) (names more : Names) → AreWithin files names → AreUnder (size_of files) (sum_by (size_of files) names) more → AreWithin files (names ++ more)
within_more files names more within under = record {
  each = All-append (λ name. size_of files name ≤ MOST_BYTES) names more within.each under.each;
  together = omega (arith, under.together, sum_by-append (size_of files) names more);
}

module _ (files : Files) (find : (name : List ℕ) → IsAt files name) (roots : Names) where
  -- what the last wave loads and no wave has is the next

  next_wave : (waves : List Names) (wave : Names) → HasAsked files roots waves wave → length (names_in waves) + length wave ≤ MOST_FILES
      → AreUnder (size_of files) (sum_by (size_of files) (names_in waves)) wave → (next : Names) × HasAsked files roots (waves ++ wave ∷ []) next
  next_wave waves wave asked fits under = (
    on.0,
    record {
      are = are;
      next = subst (λ n. IsWave (FileLoads files) roots n on.0) (sym count) (record {
        ordered = on.1.ordered;
        sound = λ name has.
            let new = elim (on.1.sound name has) as (λ _. Contains (loads_at files find wave) name × (Contains (names_in ws) name → ⊥)) [ inl none ↦ absurd (nothing_in name none) | inr added ↦ added ] in
            let from = loaded_from files find wave name new.0 in
            next_sound (FileLoads files) roots ws (length waves) are count from.0 name (subst (λ names. Contains names from.0) (sym seam) from.1) from.2 new.1;
        all = λ name in_wave.
            let from = next_all (FileLoads files) roots ws (length waves) are count name in_wave in
            elim (on.1.all name (loaded_into files find wave from.0 name (subst (λ names. Contains names from.0) seam from.1) from.2)) [
              | inl before ↦ absurd (from.3 before)
              | inr there ↦ there
            ];
      });
      few = omega (arith, fits, ap (λ (names : Names). length names) (names_with_last waves wave), length-append (names_in waves) wave);
      within = subst (AreWithin files) (sym (names_with_last waves wave)) (within_more files (names_in waves) wave asked.within under);
    },
  )
    where
      ws : List Names
      ws = waves ++ wave ∷ []

      are : AreFirstWaves (FileLoads files) roots ws
      are = more_waves (FileLoads files) roots waves wave asked.are asked.next

      count : length ws ≡ suc (length waves)
      count = omega (arith, length-append waves (wave ∷ []))

      seam : wave_at ws (length waves) ≡ wave
      seam = get_or-append_seam waves wave [] []

      on : (next : Names) × IsNextOf (names_in ws) [] (loads_at files find wave) next
      on = next_of (names_in ws) (loads_at files find wave)

  -- a limit is passed within the wave

  cut_off : (waves : List Names) (wave : Names) → HasAsked files roots waves wave → length (names_in waves) + length wave ≤ MOST_FILES
      → IsOver (size_of files) (sum_by (size_of files) (names_in waves)) wave → Ends files roots
  cut_off waves wave asked fits over = elim over.over [
    | inl large ↦ ends_by files roots names (too_large over.next) tt (leads, large)
    | inr much ↦ ends_by files roots names too_much tt (record {
      last = over.next;
      leads = leads;
      small = much.0;
      much = omega (arith, much.1, sum_by-append (size_of files) before (over.next ∷ []), sum_by-append (size_of files) (names_in waves) over.before, sum_by-cons (size_of files) over.next []);
    })
  ]
    where
      before : Names
      before = names_in waves ++ over.before

      names : Names
      names = before ++ over.next ∷ []

      whole : names_in (waves ++ wave ∷ []) ≡ names ++ over.rest
      whole =
          names_with_last waves wave
          ∙ (ap (λ w. names_in waves ++ w) over.is
          ∙ (sym (append_assoc (names_in waves) over.before (over.next ∷ over.rest))
          ∙ sym (append_assoc before (over.next ∷ []) over.rest)))

      leads : LeadTo files roots names over.next
      leads = record {
        before = before;
        is = refl;
        first = record {
          waves = waves ++ wave ∷ [];
          are = more_waves (FileLoads files) roots waves wave asked.are asked.next;
          rest = over.rest;
          is = whole;
          few = omega (arith, fits, ap (λ (all : Names). length all) (names_with_last waves wave), length-append (names_in waves) wave);
        };
        within = within_more files (names_in waves) over.before asked.within over.under;
      }

  module _ (finish : (names : Names) → AreAll files roots names → Ends files roots) where
    walk : (left : ℕ) (waves : List Names) (wave : Names) → HasAsked files roots waves wave → MOST_FILES < left + length (names_in waves) → Ends files roots
    walk zero waves wave asked full = let no : ⊥ = omega (arith, full, asked.few) in absurd no
    walk (suc left) waves [] asked full = finish (names_in waves) (record {
      waves = waves;
      are = all_waves (FileLoads files) roots waves asked.are asked.next;
      is = refl;
      few = asked.few;
      within = asked.within;
    })
    walk (suc left) waves (name ∷ rest) asked full = elim (cases_lt MOST_FILES (length (names_in waves) + length (name ∷ rest))) [
      | inl many ↦ ends_by files roots (names_in waves) too_many tt (record {
        waves = waves;
        are = asked.are;
        is = refl;
        few = asked.few;
        within = asked.within;
        next = name ∷ rest;
        ordered = asked.next.ordered;
        in_wave = asked.next.sound;
        many = many;
      })
      | inr fits ↦ elim (under_or_over (size_of files) (sum_by (size_of files) (names_in waves)) (name ∷ rest) asked.within.together) [
        | inl under ↦
            let next = next_wave waves (name ∷ rest) asked fits under in
            walk left (waves ++ (name ∷ rest) ∷ []) next.0 next.1
            (omega (arith, full, ap (λ (names : Names). length names) (names_with_last waves (name ∷ rest)), length-append (names_in waves) (name ∷ rest)))
        | inr over ↦ cut_off waves (name ∷ rest) asked fits over
      ]
    ]

    -- from the roots on
    pub walk_ends : Ends files roots
    walk_ends =
        let first = ordered_of roots in
        walk 1025 [] first.0 (record {
          are = λ n less. let no : ⊥ = omega (arith, less) in absurd no;
          next = first_wave (FileLoads files) roots first.0 first.1.up first.1.sound first.1.all;
          few = omega arith;
          within = record { each = All-nil (λ name. size_of files name ≤ MOST_BYTES); together = omega arith };
        }) (omega arith)
