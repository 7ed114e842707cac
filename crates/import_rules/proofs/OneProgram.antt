-- What was loaded is one program at most.
use Rattle.std.proofs.Common.{◌≡◌, ◌<◌, ◌≤◌, List, Contains, length, sym, ap, ◌∙◌, arith}
use Rattle.std.specs.declared.cmp.Ordering.TheVariants.{Less}
use Rattle.std.proofs.lemmas.List.Elements.{All-contains}
use Rattle.module_table.specs.Facts.{Facts}
use Rattle.file_library.specs.Loaded.{LoadedFiles}
use Rattle.list_laws.proofs.OneOrder.{less_strict, same_order}
use Rattle.import_rules.specs.declared.names.PredName.{PredName}
use Rattle.import_rules.specs.Files.{AreNumbered, all_defined}
use Rattle.import_rules.specs.Names.{pred_cmp}
use Rattle.import_rules.specs.declared.resolve.TheConstants.{MOST_PREDICATES}
use Rattle.import_rules.specs.Program.{Seen, IsProgram, HasPredicates}
use Rattle.import_rules.proofs.NameOrder.{pred_cmp_total}

members : (files : List Facts) (predicates others : List PredName) → AreNumbered files predicates → AreNumbered files others
    → (p : PredName) → Contains predicates p → Contains others p
members files predicates others are also p has =
    All-contains (Contains others) (all_defined files) p also.all (All-contains (Contains (all_defined files)) predicates p are.defined has)

pub one_numbering : (files : List Facts) (predicates others : List PredName) → AreNumbered files predicates → AreNumbered files others → predicates ≡ others
one_numbering files predicates others are also =
    same_order (λ p q. pred_cmp p q ≡ Less) (less_strict pred_cmp pred_cmp_total) predicates others are.in_order also.in_order
    (members files predicates others are also) (members files others predicates also are)

pub one_program : (loaded : LoadedFiles) (seen other : Seen) → IsProgram loaded seen → IsProgram loaded other → seen ≡ other
one_program loaded seen other are also =
    let same = one_numbering loaded.files seen.predicates other.predicates are.numbered also.numbered in
    λ i. record { loaded = (are.is ∙ sym also.is) i; predicates = same i }

-- the predicates are few or too many, and never both
pub few_or_many : (loaded : LoadedFiles) → HasPredicates loaded (λ n. n ≤ MOST_PREDICATES) → HasPredicates loaded (λ n. MOST_PREDICATES < n) → ⊥
few_or_many loaded few many =
    let same = one_numbering loaded.files few.predicates many.predicates few.numbered many.numbered in
    omega (arith, few.many_are, many.many_are, ap (λ (ps : List PredName). length ps) same)
