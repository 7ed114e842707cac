-- What is found in a program is what a name means.
use Rattle.std.proofs.Common.{◌≡◌, ℕ, ◌<◌, List, Some, length, sym, ap, ◌∙◌}
use Rattle.std.specs.Prelude.{slice_get}
use Rattle.file_library.specs.Loaded.{LoadedFiles}
use Rattle.import_rules.specs.declared.names.PredName.{PredName}
use Rattle.import_rules.specs.Find.{Means, found_in}
use Rattle.import_rules.specs.Names.{pred_name}
use Rattle.import_rules.specs.Program.{Seen, IsProgram, found}
use Rattle.import_rules.proofs.Meant.{found_below, found_meant, meant_found, meant_there}

pub below : (seen : Seen) (owner name : List ℕ) (arity n : ℕ) → found seen owner name arity ≡ Some n → n < length seen.predicates
unfolding found
below seen owner name arity n is = found_below seen.loaded.files seen.predicates (pred_name owner name arity) n is

pub means : (loaded : LoadedFiles) (seen : Seen) → IsProgram loaded seen → (owner name : List ℕ) (arity n : ℕ) → found seen owner name arity ≡ Some n
    → (q : PredName) × Means loaded.files (pred_name owner name arity) q × (slice_get seen.predicates n ≡ Some q)
unfolding found
means loaded seen program owner name arity n is =
    let p = pred_name owner name arity in
    found_meant loaded.files loaded.absent seen.predicates program.numbered program.sound p n
    (ap (λ (l : LoadedFiles). found_in l.files seen.predicates p) (sym program.is) ∙ is)

pub found_for : (loaded : LoadedFiles) (seen : Seen) → IsProgram loaded seen → (owner name : List ℕ) (arity : ℕ) (q : PredName)
    → Means loaded.files (pred_name owner name arity) q → (n : ℕ) × (found seen owner name arity ≡ Some n) × (slice_get seen.predicates n ≡ Some q)
unfolding found
found_for loaded seen program owner name arity q is =
    let p = pred_name owner name arity in
    let there = meant_there loaded.files loaded.absent seen.predicates program.numbered program.sound p q is in (
      there.0,
      ap (λ (l : LoadedFiles). found_in l.files seen.predicates p) program.is
          ∙ meant_found loaded.files loaded.absent seen.predicates program.numbered program.sound p q there.0 is there.1,
      there.1,
    )
