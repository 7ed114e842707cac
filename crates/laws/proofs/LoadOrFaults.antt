-- Over each map of files, the asking for the roots ends in a way that the map alone decides.
use Rattle.std.proofs.Common.{◌≡◌, ℕ, List, [], ◌∷◌, refl, sym, subst}
use Rattle.file_library.specs.Library.{Files}
use Rattle.file_library.specs.FileLoads.{FileLoads}
use Rattle.file_library.specs.Asking.{AreAll, loaded, faults}
use Rattle.file_library.specs.Loaded.{AreLoadFaults}
use Rattle.file_library.specs.SortedOut.{AreJustAsked}
use Rattle.file_library.specs.declared.fault.Fault.{Fault}
use Rattle.file_library.proofs.WaveLaws.{Names, waves_asked, asked_waves}
use Rattle.laws.specs.TextsAreTold.{TextsAreTold}
use Rattle.laws.proofs.AllFaults.{faults_at, all_faults}
use Rattle.laws.proofs.AllLoaded.{found_files, all_loaded}
use Rattle.laws.proofs.FoundAt.{IsAt, found_at}
use Rattle.laws.proofs.NextNames.{AreOrderedOf, ordered_of}
use Rattle.laws.proofs.Waves.{Ends, ends_by, walk_ends}

module _ (files : Files) (roots : Names) (find : (name : List ℕ) → IsAt files name) where
  just_asked : (names : Names) → AreAll files roots names → AreJustAsked files roots names
  just_asked names all = subst (AreJustAsked files roots) (sym all.is) (record {
    sound = waves_asked (FileLoads files) roots all.waves (λ n less. all.are n);
    all = asked_waves (FileLoads files) roots all.waves all.are;
  })

  -- when all was asked for, some file has a fault, or what is there is loaded
  finish : (names : Names) → AreAll files roots names → Ends files roots
  finish names all = at (faults_at files roots find ordered.0) refl
    where
      ordered : (ordered : Names) × AreOrderedOf names ordered
      ordered = ordered_of names

      at : (found : List Fault) → faults_at files roots find ordered.0 ≡ found → Ends files roots
      at [] none =
          let root_names = ordered_of roots in
          let asked = just_asked names all in
          ends_by files roots names (loaded (found_files files roots find names ordered.0 root_names.0 asked all.few all.within ordered.1 root_names.1 none)) tt
          (all, all_loaded files roots find names ordered.0 root_names.0 asked all.few all.within ordered.1 root_names.1 none)
      at (fault ∷ rest) are =
          ends_by files roots names (faults (fault ∷ rest)) tt
          (all, subst (AreLoadFaults files roots) are (all_faults files roots find names ordered.0 (just_asked names all) ordered.1), λ none. cc)

pub load_or_faults : TextsAreTold → (files : Files) (roots : Names) → Ends files roots
load_or_faults told files roots = let find = found_at told files in walk_ends files find roots (finish files roots find)
