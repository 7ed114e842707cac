-- The clauses of predicates are a list in order, and so are their calls.
use Rattle.std.proofs.Common.{◌≡◌, ◌≤◌, ℕ, Bool, true, false, List, None, Contains, flat_map, length, map, refl, sym, ap, ◌∙◌, subst, arith}
use Rattle.std.specs.Cmp.{IsTotalOrder}
use Rattle.std.specs.Cmp.Lexicographic.{slice_cmp}
use Rattle.std.specs.Ordering.{bool_cmp, nat_cmp, ordering_then}
use Rattle.std.specs.declared.cmp.Ordering.{Ordering}
use Rattle.std.specs.declared.cmp.Ordering.TheVariants.{Less, Equal, Greater}
use Rattle.std.proofs.lemmas.Cmp.{on_total, ranked}
use Rattle.std.proofs.lemmas.List.{length-map}
use Rattle.list_laws.proofs.Members.{map_from, map_has}
use Rattle.import_rules.specs.declared.names.PredName.{PredName}
use Rattle.import_rules.specs.Names.{pred_name}
use Rattle.import_rules.specs.Program.{Seen, found}
use Rattle.import_rules.proofs.Lists.{all_pairs_map}
use Rattle.import_rules.proofs.NameOrder.{same_text}
use Rattle.call_edges.specs.CallPlaces.{AreCallsOf, CallAt, IsCallOf, IsCalledIn, call_cmp, callee_cmp}
use Rattle.call_edges.specs.Bodies.{goals_in}
use Rattle.call_edges.specs.DirectiveCalls.{AreDirectiveCalls, no_caller}
use Rattle.call_edges.specs.KeptCalls.{body_calls, calls_in}
use Rattle.call_edges.proofs.AmongLemmas.{flat_has}
use Rattle.call_edges.proofs.KeptCallLemmas.{body_calls_are}
use Rattle.call_edges.proofs.PlacedCallLemmas.{call_cmp_total}
use Rattle.call_table.specs.declared.clause_at.ClauseAt.{ClauseAt}
use Rattle.call_table.specs.Clauses.{AreClausesOf, clause_cmp, clauses_in}
use Rattle.call_table.proofs.ClauseLemmas.{clause_cmp_total}
use Rattle.laws.proofs.KeptCalls.{calls_are}
use Rattle.laws.proofs.Mets.{given_has}
use Rattle.laws.proofs.Orders.{HasOnce, has_once}

-- two comparisons in turn
pub both_equal : (o p : Ordering) → ordering_then o p ≡ Equal → (o ≡ Equal) × (p ≡ Equal)
both_equal Less p same = let no : ⊥ = cc in absurd no
both_equal Equal p same = (refl, same)
both_equal Greater p same = let no : ⊥ = cc in absurd no

pub same_number : (a b : ℕ) → nat_cmp a b ≡ Equal → a ≡ b
same_number a b tie = ranked a b Equal (sym tie)

-- clauses

same_clause : (a b : ClauseAt) → clause_cmp a b ≡ Equal → a ≡ b
same_clause a b tie =
    let by_end = ordering_then (nat_cmp a.end b.end) (nat_cmp a.node b.node) in
    let first = both_equal (nat_cmp a.file b.file) (ordering_then (nat_cmp a.offset b.offset) by_end) tie in
    let second = both_equal (nat_cmp a.offset b.offset) by_end first.1 in
    let third = both_equal (nat_cmp a.end b.end) (nat_cmp a.node b.node) second.1 in
    let files = same_number a.file b.file first.0 in
    let offsets = same_number a.offset b.offset second.0 in
    let ends = same_number a.end b.end third.0 in
    let nodes = same_number a.node b.node third.1 in
    λ i. record { file = files i; offset = offsets i; end = ends i; node = nodes i }

-- no longer than this list of them
pub record HasClauses (seen : Seen) (nodes : List ℕ) : Type 0 where
  pub clauses : List ClauseAt
  pub are : AreClausesOf seen nodes clauses
  pub fewer : length clauses ≤ length (flat_map (clauses_in seen) nodes)

pub has_clauses : (seen : Seen) (nodes : List ℕ) → HasClauses seen nodes
has_clauses seen nodes =
    let all = flat_map (clauses_in seen) nodes in
    let ordered : HasOnce clause_cmp clause_cmp_total all = has_once clause_cmp clause_cmp_total same_clause all in
    let flat = flat_has (clauses_in seen) nodes in
    record {
      clauses = ordered.once;
      are = record {
        ordered = ordered.rising;
        each = λ c. (λ has. (flat c).0 ((ordered.each c).0 has), λ among. (ordered.each c).1 ((flat c).1 among));
      };
      fewer = ordered.fewer;
    }

-- calls

-- a call without what its name means
record NamedAt : Type 0 where
  file : ℕ
  offset : ℕ
  caller : ℕ
  callee : PredName
  added : ℕ
  negated : Bool

abbrev named_at : CallAt → NamedAt
named_at c = record { file = c.file; offset = c.offset; caller = c.caller; callee = c.callee; added = c.added; negated = c.negated }

module _ (seen : Seen) where
  -- with what its name means in the program
  abbrev meant : NamedAt → CallAt
  meant c = record {
    file = c.file;
    offset = c.offset;
    caller = c.caller;
    callee = c.callee;
    added = c.added;
    negated = c.negated;
    means = found seen c.callee.module c.callee.name c.callee.arity;
  }

  meant_itself : (c : CallAt) → c.means ≡ found seen c.callee.module c.callee.name c.callee.arity → meant (named_at c) ≡ c
  meant_itself c means = λ i. record c { means = sym means i }

-- in the order of calls
abbrev unmeant : NamedAt → CallAt
unmeant c = record {
  file = c.file;
  offset = c.offset;
  caller = c.caller;
  callee = c.callee;
  added = c.added;
  negated = c.negated;
  means = None;
}

abbrev named_cmp : NamedAt → NamedAt → Ordering
named_cmp a b = call_cmp (unmeant a) (unmeant b)

named_cmp_total : IsTotalOrder named_cmp
named_cmp_total = on_total unmeant call_cmp_total

same_bool : (a b : Bool) → bool_cmp a b ≡ Equal → a ≡ b
same_bool true true tie = refl
same_bool true false tie = let no : ⊥ = cc in absurd no
same_bool false true tie = let no : ⊥ = cc in absurd no
same_bool false false tie = refl

-- the same name, with as many arguments added, and both negated or neither
record IsSameGoal (a b : CallAt) : Type 0 where
  callee : a.callee ≡ b.callee
  added : a.added ≡ b.added
  negated : a.negated ≡ b.negated

same_goal : (a b : CallAt) → callee_cmp a b ≡ Equal → IsSameGoal a b
same_goal a b tie =
    let last = ordering_then (nat_cmp a.added b.added) (bool_cmp a.negated b.negated) in
    let third = ordering_then (nat_cmp a.callee.arity b.callee.arity) last in
    let first = both_equal (slice_cmp nat_cmp a.callee.module b.callee.module) (ordering_then (slice_cmp nat_cmp a.callee.name b.callee.name) third) tie in
    let second = both_equal (slice_cmp nat_cmp a.callee.name b.callee.name) third first.1 in
    let arity = both_equal (nat_cmp a.callee.arity b.callee.arity) last second.1 in
    let goal = both_equal (nat_cmp a.added b.added) (bool_cmp a.negated b.negated) arity.1 in
    let modules = same_text a.callee.module b.callee.module first.0 in
    let names = same_text a.callee.name b.callee.name second.0 in
    let arities = same_number a.callee.arity b.callee.arity arity.0 in
    record {
      callee = λ i. pred_name (modules i) (names i) (arities i);
      added = same_number a.added b.added goal.0;
      negated = same_bool a.negated b.negated goal.1;
    }

same_named : (a b : NamedAt) → named_cmp a b ≡ Equal → a ≡ b
same_named a b tie =
    let goals = callee_cmp (unmeant a) (unmeant b) in
    let first = both_equal (nat_cmp a.file b.file) (ordering_then (nat_cmp a.offset b.offset) (ordering_then (nat_cmp a.caller b.caller) goals)) tie in
    let second = both_equal (nat_cmp a.offset b.offset) (ordering_then (nat_cmp a.caller b.caller) goals) first.1 in
    let third = both_equal (nat_cmp a.caller b.caller) goals second.1 in
    let files = same_number a.file b.file first.0 in
    let offsets = same_number a.offset b.offset second.0 in
    let callers = same_number a.caller b.caller third.0 in
    let goal = same_goal (unmeant a) (unmeant b) third.1 in
    λ i. record {
      file = files i;
      offset = offsets i;
      caller = callers i;
      callee = goal.callee i;
      added = goal.added i;
      negated = goal.negated i;
    }

-- no longer than this list of them
pub record HasCalls (seen : Seen) (callers : List ℕ) : Type 0 where
  pub calls : List CallAt
  pub are : AreCallsOf seen callers calls
  pub fewer : length calls ≤ length (flat_map (calls_in seen) callers)

pub has_calls : (seen : Seen) (callers : List ℕ) → HasCalls seen callers
has_calls seen callers =
    let all = flat_map (calls_in seen) callers in
    let among = given_has (calls_in seen) (IsCallOf seen) (calls_are seen) callers in
    let ordered : HasOnce named_cmp named_cmp_total (map named_at all) = has_once named_cmp named_cmp_total same_named (map named_at all) in
    let calls : List CallAt = map (meant seen) ordered.once in
    record {
      calls = calls;
      are = record {
        ordered = all_pairs_map (λ a b. call_cmp a b ≡ Less) (meant seen) ordered.once ordered.rising;
        each = λ c. (
          λ has.
              let named = map_from (meant seen) ordered.once c has in
              let one = map_from named_at all named.0 ((ordered.each named.0).0 named.1) in
              let is = (among one.0).0 one.1 in
              let same : one.0 ≡ c = sym (meant_itself seen one.0 is.is.is.means_is) ∙ ap (meant seen) one.2 ∙ named.2 in
              (among c).0 (subst (Contains all) same one.1),
          λ is.
              let has = map_has named_at all c ((among c).1 is) in
              subst (Contains calls) (meant_itself seen c is.is.is.means_is)
              (map_has (meant seen) ordered.once (named_at c) ((ordered.each (named_at c)).1 has)),
        );
      };
      fewer = omega (arith, ordered.fewer, length-map all named_at, length-map ordered.once (meant seen));
    }

-- those of directives

pub has_directives : (seen : Seen) → (calls : List CallAt) × AreDirectiveCalls seen calls
has_directives seen =
    let bodies = goals_in seen.loaded.files in
    let all = flat_map (body_calls seen no_caller) bodies in
    let among = given_has (body_calls seen no_caller) (IsCalledIn seen no_caller) (body_calls_are seen no_caller) bodies in
    let ordered : HasOnce named_cmp named_cmp_total (map named_at all) = has_once named_cmp named_cmp_total same_named (map named_at all) in
    let calls : List CallAt = map (meant seen) ordered.once in (
      calls,
      record {
        ordered = all_pairs_map (λ a b. call_cmp a b ≡ Less) (meant seen) ordered.once ordered.rising;
        each = λ c. (
          λ has.
              let named = map_from (meant seen) ordered.once c has in
              let one = map_from named_at all named.0 ((ordered.each named.0).0 named.1) in
              let is = (among one.0).0 one.1 in
              let same : one.0 ≡ c = sym (meant_itself seen one.0 is.is.means_is) ∙ ap (meant seen) one.2 ∙ named.2 in
              (among c).0 (subst (Contains all) same one.1),
          λ is.
              let has = map_has named_at all c ((among c).1 is) in
              subst (Contains calls) (meant_itself seen c is.is.means_is)
              (map_has (meant seen) ordered.once (named_at c) ((ordered.each (named_at c)).1 has)),
        );
      },
    )
