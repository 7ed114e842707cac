-- A predicate of the program is found in its own module.
use Rattle.std.proofs.Common.{◌≡◌, ℕ, List, Some, AllPairs, Contains, ap, ◌∙◌}
use Rattle.std.specs.Prelude.{slice_get}
use Rattle.std.specs.declared.cmp.Ordering.TheVariants.{Less}
use Rattle.std.proofs.lemmas.Option.{slice_get-get_or}
use Rattle.import_rules.specs.declared.names.PredName.{PredName}
use Rattle.import_rules.specs.Find.{or_found, first_source}
use Rattle.import_rules.specs.Names.{pred_cmp}
use Rattle.import_rules.specs.Program.{Seen, found}
use Rattle.import_rules.proofs.NumberLemmas.{number_at}

stands : (predicates : List PredName) (name : PredName) → Contains predicates name → (n : ℕ) × (slice_get predicates n ≡ Some name)
stands predicates name (k, lt, is) = (k, slice_get-get_or predicates k name lt ∙ ap (λ p. Some p) is)

-- the predicate of that number is found by its name
pub own_at : (seen : Seen) (name : PredName) (n : ℕ) → AllPairs (λ p q. pred_cmp p q ≡ Less) seen.predicates → slice_get seen.predicates n ≡ Some name
    → found seen name.module name.name name.arity ≡ Some n
unfolding found
own_at seen name n rising is = ap (λ own. or_found seen.predicates own (first_source seen.loaded.files name)) (number_at seen.predicates name n rising is)

pub found_own : (seen : Seen) (name : PredName) → AllPairs (λ p q. pred_cmp p q ≡ Less) seen.predicates → Contains seen.predicates name
    → (n : ℕ) × (found seen name.module name.name name.arity ≡ Some n) × (slice_get seen.predicates n ≡ Some name)
found_own seen name rising has =
    let at = stands seen.predicates name has in
    (at.0, own_at seen name at.0 rising at.1, at.1)
