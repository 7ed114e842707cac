-- A file has no more predicates than its clauses weigh.
use Rattle.std.proofs.Common.{◌≡◌, ℕ, ◌≤◌, true, List, length, map, ap, subst, arith}
use Rattle.std.proofs.lemmas.List.{length-map}
use Rattle.std.specs.List.{filter_map, list_any}
use Rattle.std.specs.Ordering.{eq_by_cmp}
use Rattle.std.proofs.lemmas.Cmp.{eq_by_cmp_equiv}
use Rattle.std.proofs.lemmas.Map.Keys.{IsDistinct-from_sorted}
use Rattle.std.proofs.lemmas.Map.Made.{length-le_from_is_member}
use Rattle.list_laws.proofs.Members.{any_from, any_there, map_has}
use Rattle.prolog_terms.specs.Tree.{Tree}
use Rattle.clause_text.specs.Clauses.{total_weight}
use Rattle.module_table.specs.Defined.{Defines, Predicate, AreDefined, IsDefined, predicate_cmp, key}
use Rattle.module_table.specs.Kinds.{defined_part}
use Rattle.module_table.specs.Directives.{home}
use Rattle.module_table.specs.Facts.{Facts, AreFacts, module_of}
use Rattle.module_table.proofs.PredicateOrder.{predicate_cmp_total}
use Rattle.module_table.proofs.SaidCounts.{DefinesAtMost, trees_few, definitions}

-- each predicate is one of those that are defined

abbrev named : Defines → Predicate
named d = key d.module_ d.name d.arity

members : (ds : List Defines) (defined : List Predicate) → AreDefined ds defined → (q : Predicate) → list_any (eq_by_cmp predicate_cmp q) defined ≡ true
    → list_any (eq_by_cmp predicate_cmp q) (map named ds) ≡ true
members ds defined are q is =
    let found = any_from (eq_by_cmp predicate_cmp q) defined is in
    let p = found.0 in
    let by : IsDefined p.module_ p.name p.arity ds = (are.each p found.1).0 in
    any_there (eq_by_cmp predicate_cmp q) (map named ds) (key p.module_ p.name p.arity)
    (map_has named ds (record { module_ = p.module_; name = p.name; arity = p.arity; clause = by.clause }) by.stands) found.2

pub few_grouped : (ds : List Defines) (defined : List Predicate) → AreDefined ds defined → length defined ≤ length ds
few_grouped ds defined are =
    let fewer : length defined ≤ length (map named ds) =
    length-le_from_is_member (eq_by_cmp_equiv predicate_cmp_total) defined (map named ds) (IsDistinct-from_sorted predicate_cmp defined are.in_order) (members ds defined are) in
    omega (arith, fewer, length-map ds named)

pub few_defined : (user : List ℕ) (trees : List Tree) (facts : Facts) → AreFacts user trees facts → length facts.defined ≤ total_weight trees
few_defined user trees facts are =
    let few : definitions are.parts ≤ total_weight trees = subst (DefinesAtMost (total_weight trees)) are.said (trees_few (home user (module_of trees)) trees) in
    omega (arith, few, few_grouped (filter_map defined_part are.parts) facts.defined are.are.defined)

pub few_metas : (user : List ℕ) (trees : List Tree) (facts : Facts) → AreFacts user trees facts → length facts.metas ≤ total_weight trees
few_metas user trees facts are =
    let few : definitions are.parts ≤ total_weight trees = subst (DefinesAtMost (total_weight trees)) are.said (trees_few (home user (module_of trees)) trees) in
    omega (arith, few, ap length are.are.metas)
