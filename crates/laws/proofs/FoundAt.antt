-- What each name is found to be over a map of files, and what it loads.
use Rattle.std.proofs.Common.{◌≡◌, ℕ, List, [], ◌∷◌, Option, Some, None, ◌⊎◌, Contains, refl, sym, subst, inl, inr}
use Rattle.std.specs.List.{flat_map}
use Rattle.std.proofs.lemmas.List.Concat.{flat_map-cons}
use Rattle.std.proofs.lemmas.List.Elements.{Contains-append_left, Contains-append_right, Contains-append_cases}
use Rattle.list_laws.proofs.OneOrder.{nothing_in, first_or_rest, in_rest, in_first}
use Rattle.module_table.specs.Facts.{Facts}
use Rattle.module_table.specs.FileText.{HasFacts, HasFault}
use Rattle.module_table.specs.Said.{Refusal}
use Rattle.file_library.specs.Library.{Files}
use Rattle.file_library.specs.FileLoads.{FileLoads}
use Rattle.file_library.specs.AskedFile.{Found, absent, sound, faulty, text_of, loads_of, IsTold}
use Rattle.file_library.proofs.LoadsFound.{file_loads, loads_file}
use Rattle.file_library.proofs.WaveLaws.{Names}
use Rattle.laws.specs.TextsAreTold.{TextsAreTold}
use Rattle.laws.proofs.FaultPlaces.{fault_stands}

-- what the name is over the map
pub record IsAt (files : Files) (name : List ℕ) : Type 0 where
  pub found : Found
  pub there : files name ≡ text_of found
  pub told : IsTold name found

pub found_at : TextsAreTold → (files : Files) (name : List ℕ) → IsAt files name
found_at told files name = at (files name) refl
  where
    of_text : (text : List ℕ) → files name ≡ Some text → ((facts : Facts) × HasFacts name text facts) ⊎ ((refusal : Refusal) × HasFault name text refusal) → IsAt files name
    of_text text is (inl has) = record { found = sound text has.0; there = is; told = has.1 }
    of_text text is (inr has) = record { found = faulty text has.0; there = is; told = (has.1, fault_stands name text has.0 has.1) }

    at : (given : Option (List ℕ)) → files name ≡ given → IsAt files name
    at None is = record { found = absent; there = is; told = tt }
    at (Some text) is = of_text text is (told name text)

module _ (files : Files) (find : (name : List ℕ) → IsAt files name) where
  -- what files load, one after another
  abbrev pub loads_at : Names → Names
  loads_at names = flat_map (λ (name : List ℕ). loads_of (find name).found) names

  pub loaded_from : (names : Names) (name : List ℕ) → Contains (loads_at names) name → (user : List ℕ) × Contains names user × FileLoads files user name
  loaded_from [] name has = absurd (nothing_in name has)
  loaded_from (user ∷ names) name has =
      elim (Contains-append_cases (loads_of (find user).found) (loads_at names) name
      (subst (λ all. Contains all name) (flat_map-cons (λ (n : List ℕ). loads_of (find n).found) user names) has)) [
        | inl own ↦ (user, in_first user names, file_loads files user (find user).found name (find user).there (find user).told own)
        | inr later ↦ let from = loaded_from names name later in (from.0, in_rest user from.0 names from.1, from.2)
      ]

  pub loaded_into : (names : Names) (user name : List ℕ) → Contains names user → FileLoads files user name → Contains (loads_at names) name
  loaded_into [] user name has loads = absurd (nothing_in user has)
  loaded_into (first ∷ names) user name has loads =
      subst (λ all. Contains all name) (sym (flat_map-cons (λ (n : List ℕ). loads_of (find n).found) first names))
      (elim (first_or_rest first user names has) [
        | inl is ↦
            Contains-append_left (loads_of (find first).found) (loads_at names) name
            (loads_file files first (find first).found name (find first).there (find first).told (subst (λ n. FileLoads files n name) (sym is) loads))
        | inr later ↦ Contains-append_right (loads_of (find first).found) (loads_at names) name (loaded_into names user name later loads)
      ])
