-- Files have one list of import loops.
use Rattle.std.proofs.Common.{◌≡◌, ℕ, ◌<◌, List, map, get_or, All, AllPairs, Contains, sym, subst, ◌∙◌, arith}
use Rattle.std.specs.Ordering.{nat_cmp}
use Rattle.std.specs.Cmp.Lexicographic.{slice_cmp}
use Rattle.std.specs.declared.cmp.Ordering.TheVariants.{Less}
use Rattle.std.specs.List.Sorted.{IsStrictlyIncreasing}
use Rattle.std.proofs.lemmas.Cmp.{nat_list_cmp_total}
use Rattle.std.proofs.lemmas.List.{get_or-map, length-map}
use Rattle.std.proofs.lemmas.List.Kept.{AllPairs-from_increasing}
use Rattle.graph_law.specs.Classes.{least_member}
use Rattle.module_table.specs.Facts.{Facts}
use Rattle.list_laws.proofs.OneOrder.{IsStrict, less_strict, same_order, holds_of}
use Rattle.loop_report.specs.ImportLoops.{AreModules, IsLoop, AreImportLoops, names_at}

has_module : (files : List Facts) (modules others : List (List ℕ)) → AreModules files modules → AreModules files others
    → (m : List ℕ) → Contains modules m → Contains others m
has_module files modules others are also m has =
    let from = holds_of (λ (n : List ℕ). (f : Facts) × Contains files f × (f.module_ ≡ n)) modules m are.each has in
    subst (Contains others) from.2 (holds_of (λ (f : Facts). Contains others f.module_) files from.0 also.all from.1)

pub one_list_of_modules : (files : List Facts) (modules others : List (List ℕ)) → AreModules files modules → AreModules files others → modules ≡ others
one_list_of_modules files modules others are also =
    same_order (λ m n. slice_cmp nat_cmp m n ≡ Less) (less_strict (slice_cmp nat_cmp) nat_list_cmp_total) modules others are.in_order also.in_order
    (has_module files modules others are also) (has_module files others modules also are)

abbrev IsLower : List ℕ → List ℕ → Type 0
IsLower a b = least_member a < least_member b

lower_strict : IsStrict IsLower
lower_strict = record { one_way = λ a b there back. omega (arith, there, back) }

-- lists in order of their least members
lists_rise : (classes : List (List ℕ)) → IsStrictlyIncreasing (map least_member classes) → AllPairs IsLower classes
lists_rise classes up i j d lt within =
    let long = length-map classes least_member in
    let first : get_or (map least_member classes) i 0 ≡ least_member (get_or classes i d) =
    get_or-map least_member classes i d 0 (omega (arith, lt, within)) in
    let second : get_or (map least_member classes) j 0 ≡ least_member (get_or classes j d) = get_or-map least_member classes j d 0 within in
    let below : get_or (map least_member classes) i 0 < get_or (map least_member classes) j 0 =
    AllPairs-from_increasing (map least_member classes) up i j 0 lt (omega (arith, within, long)) in
    omega (arith, first, second, below)

one_list_of_classes : (files : List Facts) (modules : List (List ℕ)) (classes others : List (List ℕ)) → All (IsLoop files modules) classes
    → ((class : List ℕ) → IsLoop files modules class → Contains classes class) → IsStrictlyIncreasing (map least_member classes)
    → All (IsLoop files modules) others → ((class : List ℕ) → IsLoop files modules class → Contains others class)
    → IsStrictlyIncreasing (map least_member others) → classes ≡ others
one_list_of_classes files modules classes others each all up also there vp =
    same_order IsLower lower_strict classes others (lists_rise classes up) (lists_rise others vp)
    (λ class has. there class (holds_of (IsLoop files modules) classes class each has))
    (λ class has. all class (holds_of (IsLoop files modules) others class also has))

pub one_list_of_loops : (files : List Facts) (loops others : List (List (List ℕ))) → AreImportLoops files loops → AreImportLoops files others → loops ≡ others
one_list_of_loops files loops others are also =
    let modules : also.modules ≡ are.modules = one_list_of_modules files also.modules are.modules also.are_modules are.are_modules in
    let each = subst (λ ms. All (IsLoop files ms) also.classes) modules also.each in
    let all = subst (λ ms. (class : List ℕ) → IsLoop files ms class → Contains also.classes class) modules also.all in
    let classes : are.classes ≡ also.classes =
    one_list_of_classes files are.modules are.classes also.classes are.each are.all are.in_order each all also.in_order in
    are.are ∙ ((λ i. map (names_at (sym modules i)) (classes i)) ∙ sym also.are)
