-- The lists of successors are what the predicates call.
use Rattle.std.proofs.Common.{◌≡◌, ◌↔◌, ℕ, ◌+◌, ◌<◌, true, false, inl, inr, List, [], Option, Some, None, length, filter, ap, sym, ◌∙◌, subst, arith}
use Rattle.std.specs.Prelude.{Contains, slice_index_or}
use Rattle.std.specs.List.{range_with_len}
use Rattle.std.specs.List.Sorted.{IsStrictlyIncreasing}
use Rattle.std.proofs.lemmas.Bool.{eqb-true, eq-eqb, cases_lt}
use Rattle.std.proofs.lemmas.List.{get_or_past}
use Rattle.std.proofs.lemmas.List.FromFn.{length-map-range_with_len, get_or-map-range_with_len, length-range_with_len, get_or-range_with_len}
use Rattle.std.proofs.lemmas.List.Kept.{IsStrictlyIncreasing-filter}
use Rattle.std.proofs.lemmas.Option.{same_Some, none-some}
use Rattle.list_laws.proofs.OneOrder.{range_has}
use Rattle.list_laws.proofs.Members.{any_there, any_from}
use Rattle.graph_law.specs.Graph.{Calls, IsClosed}
use Rattle.graph_law.proofs.Unique.{increasing_unique}
use Rattle.import_rules.specs.Program.{Seen}
use Rattle.import_rules.proofs.FoundMeans.{below}
use Rattle.call_edges.specs.Goals.{Met, call, fault}
use Rattle.call_edges.specs.ProgramRows.{rows_of}
use Rattle.call_edges.specs.Calls.{IsMetIn, target, GoesTo, NodeCalls}
use Rattle.call_edges.specs.Bodies.{bodies_in, IsMetInBody}
use Rattle.call_edges.specs.Successors.{body_mets, node_mets, is_target, calls_to, successor_lists}
use Rattle.call_edges.proofs.AmongLemmas.{among_as, flat_has, filter_has}
use Rattle.call_edges.proofs.ListedMets.{mets_are}
use Rattle.call_edges.proofs.BodyLemmas.{node_met}

-- what is called is below the count

pub target_below : (seen : Seen) (m : Met) (q : ℕ) → target seen m ≡ Some q → q < length seen.predicates
target_below seen (call at owner name arity more negated) q is = below seen owner name arity q is
target_below seen (fault at) q is = absurd (none-some q is)

pub goes_below : (seen : Seen) (P : Met → Type 0) (q : ℕ) → GoesTo seen P q → q < length seen.predicates
goes_below seen P q goes = target_below seen goes.met q goes.goes

-- tests of targets

target_is : (q : ℕ) (o : Option ℕ) → is_target q o ≡ true → o ≡ Some q
target_is q (Some callee) is = ap (λ n. Some n) (eqb-true callee q is)
target_is q None is = let both : false ≡ true = is in absurd (cc)

is_the_target : (q : ℕ) (o : Option ℕ) → o ≡ Some q → is_target q o ≡ true
is_the_target q (Some callee) is = eq-eqb callee q (same_Some callee q is)
is_the_target q None is = absurd (none-some q is)

-- what is met in a predicate
pub node_mets_are : (seen : Seen) (node : ℕ) (m : Met) → Contains (node_mets seen node) m ↔ IsMetIn seen node m
node_mets_are seen node m =
    let bodies = bodies_in seen node in
    let flat = flat_has (body_mets (rows_of seen)) bodies m in
    let node = node_met seen node m in (
      λ has.
          node.0
          (among_as (λ body. Contains ((body_mets (rows_of seen)) body)) (IsMetInBody (rows_of seen)) bodies m (λ body. (mets_are (rows_of seen) body.at.module_ body.at.role body.at.tree m).0) (flat.0 has)),
      λ met.
          flat.1
          (among_as (IsMetInBody (rows_of seen)) (λ body. Contains ((body_mets (rows_of seen)) body)) bodies m (λ body. (mets_are (rows_of seen) body.at.module_ body.at.role body.at.tree m).1) (node.1 met)),
    )

pub calls_are : (seen : Seen) (p q : ℕ) → calls_to seen p q ≡ true → NodeCalls seen p q
calls_are seen p q is =
    let some = any_from (λ m. is_target q (target seen m)) (node_mets seen p) is in
    record { met = some.0; is = (node_mets_are seen p some.0).0 some.1; goes = target_is q (target seen some.0) some.2 }

pub calls_true : (seen : Seen) (p q : ℕ) → NodeCalls seen p q → calls_to seen p q ≡ true
calls_true seen p q calls =
    any_there (λ m. is_target q (target seen m)) (node_mets seen p) calls.met ((node_mets_are seen p calls.met).1 calls.is)
    (is_the_target q (target seen calls.met) calls.goes)

-- the lists

abbrev pub row_of : Seen → ℕ → List ℕ
row_of seen p = filter (calls_to seen p) (range_with_len 0 (length seen.predicates))

pub row_has : (seen : Seen) (p q : ℕ) → Contains (row_of seen p) q ↔ NodeCalls seen p q
row_has seen p q =
    let all = range_with_len 0 (length seen.predicates) in
    let kept = filter_has (calls_to seen p) all q in (
      λ has. calls_are seen p q (kept.0 has).1,
      λ calls. kept.1 (range_has (length seen.predicates) q (goes_below seen (IsMetIn seen p) q calls), calls_true seen p q calls),
    )

pub lists_count : (seen : Seen) → length (successor_lists seen) ≡ length seen.predicates
unfolding successor_lists
lists_count seen = length-map-range_with_len (row_of seen) 0 (length seen.predicates)

pub list_is : (seen : Seen) (p : ℕ) → p < length seen.predicates → slice_index_or (successor_lists seen) p [] ≡ row_of seen p
unfolding successor_lists
list_is seen p lt = get_or-map-range_with_len (row_of seen) 0 (length seen.predicates) p p [] lt (omega arith)

pub list_has : (seen : Seen) (p q : ℕ) → p < length seen.predicates → Calls (successor_lists seen) p q ↔ NodeCalls seen p q
list_has seen p q lt =
    let is = list_is seen p lt in
    let has = row_has seen p q in (
      λ calls. has.0 (subst (λ (xs : List ℕ). Contains xs q) is calls),
      λ calls. subst (λ (xs : List ℕ). Contains xs q) (sym is) (has.1 calls),
    )

pub lists_closed : (seen : Seen) → IsClosed (successor_lists seen)
lists_closed seen p q calls =
    elim (cases_lt p (length seen.predicates)) [
      | inl lt ↦ omega (arith, lists_count seen, goes_below seen (IsMetIn seen p) q ((list_has seen p q lt).0 calls))
      | inr ge ↦
          let none = get_or_past (successor_lists seen) p [] (omega (arith, lists_count seen, ge)) in
          let nothing = subst (λ (xs : List ℕ). Contains xs q) none calls in
          absurd (omega (arith, nothing.1))
    ]

range_rises : (n : ℕ) → IsStrictlyIncreasing (range_with_len 0 n)
range_rises n k lt =
    let within : k + 1 < n = omega (arith, lt, length-range_with_len 0 n) in
    omega (arith, get_or-range_with_len 0 n k 0 (omega (arith, within)), get_or-range_with_len 0 n (k + 1) 0 within)

pub is_list : (seen : Seen) (p : ℕ) (out : List ℕ) → p < length seen.predicates → IsStrictlyIncreasing out → ((q : ℕ) → Contains out q ↔ NodeCalls seen p q)
    → out ≡ slice_index_or (successor_lists seen) p []
is_list seen p out lt rises has =
    increasing_unique out (row_of seen p) rises (IsStrictlyIncreasing-filter (calls_to seen p) (range_with_len 0 (length seen.predicates)) (range_rises (length seen.predicates)))
    (λ q in_out. (row_has seen p q).1 ((has q).0 in_out))
    (λ q in_row. (has q).1 ((row_has seen p q).0 in_row))
    ∙ sym (list_is seen p lt)
