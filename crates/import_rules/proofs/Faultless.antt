-- Where there is no import fault, nothing is wrong, and no imports clash.
use Rattle.std.proofs.Common.{◌≡◌, ℕ, ◌≤◌, List, [], ◌∷◌, ◌++◌, length, map, flat_map, refl, subst, arith}
use Rattle.std.specs.List.{AllZip}
use Rattle.std.proofs.lemmas.List.{length-append, length-map}
use Rattle.std.proofs.lemmas.List.Sorted.{length_permutation}
use Rattle.module_table.specs.Facts.{Facts}
use Rattle.file_library.specs.declared.fault.Fault.{Fault}
use Rattle.file_library.specs.Loaded.{LoadedFiles}
use Rattle.file_library.proofs.LoadedFiles.{none_paired}
use Rattle.import_rules.specs.Clashes.{AreClashes}
use Rattle.import_rules.specs.Flaws.{Flaw, AreFlaws, AreImportFaults, IsFaultOf, file_flaws, clash_flaw}
use Rattle.import_rules.specs.Items.{foreign_items}
use Rattle.import_rules.specs.declared.import_stop.ImportStop.{ImportStop}
use Rattle.import_rules.specs.declared.import_stop.ImportStop.TheVariants.{Faults, TooManyPredicates, NoMemory}
use Rattle.import_rules.specs.declared.resolve.TheConstants.{MOST_PREDICATES}
use Rattle.import_rules.specs.Program.{Seen, IsProgram, IsImportStop, HasPredicates}
use Rattle.import_rules.proofs.OneFlaws.{one_list_of_flaws}
use Rattle.import_rules.proofs.OneProgram.{few_or_many}

pub empty_is : {X : Type 0} (xs : List X) → length xs ≡ 0 → xs ≡ []
empty_is {X} [] none = refl
empty_is {X} (x ∷ xs) none = let full : ⊥ = omega (arith, none) in absurd full

pub faultless : (loaded : LoadedFiles) (faults : List Fault) → faults ≡ [] → AreImportFaults loaded faults → AreFlaws loaded.files loaded.absent []
faultless loaded faults none are =
    subst (AreFlaws loaded.files loaded.absent) (none_paired (IsFaultOf loaded.texts) are.flaws faults none are.placed) are.are

-- neither files have flaws nor imports clash
pub no_clashes : (files : List Facts) (absent : List (List ℕ)) → AreFlaws files absent [] → AreClashes (foreign_items files) []
no_clashes files absent are =
    let found = flat_map (file_flaws files absent) files in
    let as_many : length {A = Flaw} [] ≡ length (found ++ map clash_flaw are.clashes) = length_permutation (found ++ map clash_flaw are.clashes) [] are.all in
    let empty : length are.clashes ≡ 0 = omega (arith, as_many, length-append found (map clash_flaw are.clashes), length-map are.clashes clash_flaw) in
    subst (AreClashes (foreign_items files)) (empty_is are.clashes empty) are.are_clashes

pub no_flaws : (files : List Facts) (absent : List (List ℕ)) → AreFlaws files absent [] → flat_map (file_flaws files absent) files ≡ []
no_flaws files absent are =
    let found = flat_map (file_flaws files absent) files in
    let as_many : length {A = Flaw} [] ≡ length (found ++ map clash_flaw are.clashes) = length_permutation (found ++ map clash_flaw are.clashes) [] are.all in
    empty_is found (omega (arith, as_many, length-append found (map clash_flaw are.clashes)))

nothing_told : {A B : Type 0} (R : A → B → Type 0) (xs : List A) (ys : List B) → xs ≡ [] → AllZip R xs ys → ys ≡ []
nothing_told {A} {B} R [] [] none all = refl
nothing_told {A} {B} R [] (y ∷ ys) none all = absurd all
nothing_told {A} {B} R (x ∷ xs) ys none all = cc

-- beside a program there is no fault
pub none_beside : (loaded : LoadedFiles) (seen : Seen) (faults : List Fault) → IsProgram loaded seen → AreImportFaults loaded faults → faults ≡ []
none_beside loaded seen faults program are =
    nothing_told (IsFaultOf loaded.texts) are.flaws faults (one_list_of_flaws loaded.files loaded.absent are.flaws [] are.are program.sound) are.placed

-- nor is there a stop, but for want of memory
pub never_stopped : (loaded : LoadedFiles) (seen : Seen) (stop : ImportStop) → IsProgram loaded seen → IsImportStop loaded stop → stop ≡ NoMemory
never_stopped loaded seen (Faults faults) program is = absurd (is.2 (none_beside loaded seen faults.items program is.1))
never_stopped loaded seen TooManyPredicates program is =
    let few : HasPredicates loaded (λ n. n ≤ MOST_PREDICATES) = record { predicates = seen.predicates; numbered = program.numbered; many_are = program.few } in
    absurd (few_or_many loaded few is)
never_stopped loaded seen NoMemory program is = refl
