-- A wave that was asked for and kept.
use Rattle.std.proofs.Common.{◌≡◌, ℕ, ◌+◌, ◌≤◌, ◌⊎◌, ◌||◌, Bool, true, false, List, [], ◌∷◌, ◌++◌, Option, Contains, length, sum_by, refl, sym, subst, ◌∙◌, inl, inr}
use Rattle.std.specs.Ordering.{nat_cmp}
use Rattle.std.specs.Cmp.Lexicographic.{slice_cmp}
use Rattle.std.specs.BTreeSet.{BTreeSet, contains}
use Rattle.std.proofs.lemmas.Cmp.{nat_list_cmp_total}
use Rattle.std.proofs.lemmas.Map.Lookups.{exact_bytes}
use Rattle.std.proofs.lemmas.Map.Views.{btree_set_contains_iff}
use Rattle.std.proofs.lemmas.List.{flat_map_more}
use Rattle.std.proofs.lemmas.List.Elements.{Contains-append_left, Contains-append_right, Contains-append_cases}
use Rattle.file_library.specs.declared.limits.TheConstants.{MOST_FILES}
use Rattle.file_library.specs.Library.{LibrarySeen, IsLater}
use Rattle.file_library.specs.Asked.{names_in}
use Rattle.file_library.specs.Answers.{bytes_of}
use Rattle.file_library.specs.AskedFile.{FileFound}
use Rattle.file_library.specs.AskAll.{answers_of, HasAskedWave, IsKept}
use Rattle.file_library.proofs.AskedSoFar.{AreKnown, AskedSoFar, wave_joined}
use Rattle.file_library.proofs.AskingSteps.{asking_goes_on}
use Rattle.file_library.proofs.NextWaveLemmas.{has_key}
use Rattle.file_library.proofs.WaveLaws.{Names}

-- a set that has gained the names of another has those of both

module _ (known wave known' : BTreeSet (List ℕ)) (union : (name : List ℕ) → contains (slice_cmp nat_cmp) known' name ≡ (contains (slice_cmp nat_cmp) known name || contains (slice_cmp nat_cmp) wave name)) where
  key_has : (set : BTreeSet (List ℕ)) (name : List ℕ) → Contains set.keys name → contains (slice_cmp nat_cmp) set name ≡ true
  key_has set name has = (btree_set_contains_iff nat_list_cmp_total exact_bytes set name).1 has

  pub union_sound : (name : List ℕ) → Contains known'.keys name → Contains known.keys name ⊎ Contains wave.keys name
  union_sound name has = at (contains (slice_cmp nat_cmp) known name) (contains (slice_cmp nat_cmp) wave name) (has_key known name) (has_key wave name) (sym (union name) ∙ key_has known' name has)
    where
      at : (a b : Bool) → (a ≡ true → Contains known.keys name) → (b ≡ true → Contains wave.keys name) → (a || b) ≡ true → Contains known.keys name ⊎ Contains wave.keys name
      at true b first second is = inl (first refl)
      at false true first second is = inr (second refl)
      at false false first second is = let both : false ≡ true = is in absurd (cc)

  pub union_all : (name : List ℕ) → Contains known.keys name ⊎ Contains wave.keys name → Contains known'.keys name
  union_all name (inl has) = has_key known' name (union name ∙ at (contains (slice_cmp nat_cmp) known name) (contains (slice_cmp nat_cmp) wave name) (key_has known name has))
    where
      at : (a b : Bool) → a ≡ true → (a || b) ≡ true
      at true b is = refl
      at false b is = let both : false ≡ true = is in absurd (cc)
  union_all name (inr has) = has_key known' name (union name ∙ at (contains (slice_cmp nat_cmp) known name) (contains (slice_cmp nat_cmp) wave name) (key_has wave name has))
    where
      at : (a b : Bool) → b ≡ true → (a || b) ≡ true
      at true b is = refl
      at false b is = is

module _ (before : LibrarySeen) (roots : Names) where
  pub kept_on : (mid after : LibrarySeen) (total : ℕ) (found new files : List FileFound) (known known' wave next : Names)
      → AskedSoFar before mid roots total found known wave → HasAskedWave mid after wave total new
      → IsLater before mid → IsLater mid after → length found + length wave ≤ MOST_FILES → IsKept known wave known' found new files next
      → AskedSoFar before after roots (total + sum_by bytes_of (answers_of new)) files known' next
  kept_on mid after total found new files known known' wave next so_far more first second few kept =
      let past = wave_joined before roots mid after total found new so_far.waves wave so_far.past so_far.next more first second few in
      subst (λ fs. AskedSoFar before after roots (total + sum_by bytes_of (answers_of new)) fs known' next) (sym kept.joined)
      (asking_goes_on before roots after (total + sum_by bytes_of (answers_of new)) found new so_far.waves wave known' next past more.names are_known kept.adds)
    where
      gained : names_in so_far.waves ++ wave ≡ names_in (so_far.waves ++ wave ∷ [])
      gained = flat_map_more (λ (w : Names). w) [] so_far.waves wave

      are_known : AreKnown (so_far.waves ++ wave ∷ []) known'
      are_known = record {
        sound = λ name has.
            subst (λ names. Contains names name) gained
            (elim (kept.sound name has) [
              | inl before ↦ Contains-append_left (names_in so_far.waves) wave name (so_far.are_known.sound name before)
              | inr last ↦ Contains-append_right (names_in so_far.waves) wave name last
            ]);
        all = λ name has.
            kept.all name
            (elim (Contains-append_cases (names_in so_far.waves) wave name (subst (λ names. Contains names name) (sym gained) has)) [
              | inl before ↦ inl (so_far.are_known.all name before)
              | inr last ↦ inr last
            ]);
      }
