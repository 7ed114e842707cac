-- Clauses of predicates: where they stand, in order and each once.
use Rattle.std.proofs.Common.{◌≡◌, ℕ, nat_eq, ◌&&◌, Bool, true, List, [], Some, All, map, slice_get, ap, sym, ◌∙◌, subst}
use Rattle.std.specs.Prelude.{Contains}
use Rattle.std.specs.List.{dedup, flat_map}
use Rattle.std.specs.List.Retain.{IsFiltered, DiffersFromLast}
use Rattle.std.specs.List.Sorted.{IsSorted, IsPermutation}
use Rattle.std.specs.Ordering.{is_eq}
use Rattle.std.specs.Cmp.{IsEquivalence, IsTotalOrder, both_tied, unsigned_ties}
use Rattle.std.proofs.lemmas.Bool.{and_parts}
use Rattle.std.proofs.lemmas.Bool.Decides.{Decides-eqb}
use Rattle.std.proofs.lemmas.Cmp.{then_total, on_total, nat_cmp_total, and_equiv, on_equiv, nat_eq_equiv}
use Rattle.std.proofs.lemmas.List.Elements.{All-contains}
use Rattle.std.proofs.lemmas.List.Filters.{dedup_is}
use Rattle.std.proofs.lemmas.List.Kept.{Any-dedup, Contains-from_dedup, IsStrictlySortedBy-dedup}
use Rattle.std.proofs.lemmas.List.Sorted.{Contains-permutation, IsPermutation-sym}
use Rattle.std.proofs.lemmas.Map.Keys.{Less-from_sorted}
use Rattle.list_laws.proofs.Members.{all_by, stands_in}
use Rattle.prolog_tokens.specs.Places.{IsOffset}
use Rattle.prolog_terms.specs.Tree.{Tree}
use Rattle.prolog_terms.specs.Views.{start_of}
use Rattle.clause_text.specs.Offsets.{HasOffsets}
use Rattle.clause_text.proofs.TermOffsets.{start_stands}
use Rattle.module_table.specs.Defined.{Predicate}
use Rattle.module_table.specs.Facts.{Facts}
use Rattle.import_rules.specs.ClauseEnds.{IsClauseIn, end_of}
use Rattle.import_rules.specs.Program.{Seen, places_in, IsKnown}
use Rattle.file_library.specs.Spots.{StandsInText}
use Rattle.call_edges.proofs.AmongLemmas.{flat_has, map_has}
use Rattle.call_edges.proofs.BodyLemmas.{places_there}
use Rattle.call_edges.proofs.CallOffsets.{zip_text}
use Rattle.call_table.specs.declared.clause_at.ClauseAt.{ClauseAt}
use Rattle.call_table.specs.Clauses.{clause_at, part_clauses, file_clauses, clauses_there, clauses_in, clause_cmp, AreClausesOf}

pub clauses_at : (files : List Facts) (node : ℕ) (at : ℕ × ℕ) (file : Facts) (predicate : Predicate) → slice_get files at.0 ≡ Some file → slice_get file.defined at.1 ≡ Some predicate
    → clauses_there files node at ≡ map (clause_at at.0 node) predicate.clauses
clauses_at files node at file predicate here there = ap (file_clauses at.0 at.1 node) here ∙ ap (part_clauses at.0 node) there

-- a clause of a predicate is one of its file
pub record IsFound (seen : Seen) (c : ClauseAt) : Type 0 where
  pub file : Facts
  pub at_place : slice_get seen.loaded.files c.file ≡ Some file
  pub clause : Tree
  pub own : IsClauseIn file clause
  pub starts : start_of clause ≡ c.offset
  pub ends : end_of clause ≡ c.end

pub clause_found : (seen : Seen) (node : ℕ) (c : ClauseAt) → Contains (clauses_in seen node) c → IsFound seen c
clause_found seen node c has =
    let files = seen.loaded.files in
    let place = (flat_has (clauses_there files node) (places_in seen node) c).0 has in
    let there = places_there seen node place.one place.has in
    let one = (map_has (clause_at place.one.0 node) there.predicate.clauses c).0
    (subst (λ (cs : List ClauseAt). Contains cs c) (clauses_at files node place.one there.file there.predicate there.at_place there.at_part) place.is) in
    record {
      file = there.file;
      at_place = ap (λ (x : ClauseAt). slice_get files x.file) (sym one.is) ∙ there.at_place;
      clause = one.one;
      own = record { predicate = there.predicate; defined = stands_in there.file.defined place.one.1 there.predicate there.at_part; has = one.has };
      starts = ap (λ (x : ClauseAt). x.offset) one.is;
      ends = ap (λ (x : ClauseAt). x.end) one.is;
    }

-- each clause stands in its text
node_stands : (seen : Seen) (c : ClauseAt) → IsKnown seen → IsFound seen c → StandsInText seen.loaded.texts c.file c.offset
node_stands seen c known found =
    let text = zip_text seen.loaded.texts seen.loaded.files c.file found.file known.read found.at_place in
    let own = found.own in
    let clauses : All (HasOffsets text.0.1) own.predicate.clauses =
    All-contains (λ (p : Predicate). All (HasOffsets text.0.1) p.clauses) found.file.defined own.predicate text.2.placed.of_clauses own.defined in
    let stands = start_stands text.0.1 found.clause (All-contains (HasOffsets text.0.1) own.predicate.clauses found.clause clauses own.has) in
    record { text = text.0; is = text.1; stands = subst (IsOffset text.0.1) found.starts stands }

pub clauses_stand : (seen : Seen) (nodes : List ℕ) (clauses : List ClauseAt) → IsKnown seen → AreClausesOf seen nodes clauses
    → All (λ (c : ClauseAt). StandsInText seen.loaded.texts c.file c.offset) clauses
clauses_stand seen nodes clauses known are =
    all_by (λ (c : ClauseAt). StandsInText seen.loaded.texts c.file c.offset) clauses
    (λ c has. let among = (are.each c).0 has in node_stands seen c known (clause_found seen among.one c among.is))

-- sorted, and each once

abbrev pub same_clause : ClauseAt → ClauseAt → Bool
same_clause a b = nat_eq a.file b.file && (nat_eq a.offset b.offset && (nat_eq a.end b.end && nat_eq a.node b.node))

pub clause_cmp_total : IsTotalOrder clause_cmp
clause_cmp_total =
    then_total (on_total (λ (c : ClauseAt). c.file) nat_cmp_total)
    (then_total (on_total (λ (c : ClauseAt). c.offset) nat_cmp_total)
    (then_total (on_total (λ (c : ClauseAt). c.end) nat_cmp_total) (on_total (λ (c : ClauseAt). c.node) nat_cmp_total)))

same_clause_ties : (a b : ClauseAt) → same_clause a b ≡ is_eq (clause_cmp a b)
same_clause_ties a b =
    both_tied _ _ _ _ (unsigned_ties a.file b.file)
    (both_tied _ _ _ _ (unsigned_ties a.offset b.offset) (both_tied _ _ _ _ (unsigned_ties a.end b.end) (unsigned_ties a.node b.node)))

clause_equiv : IsEquivalence same_clause
clause_equiv =
    and_equiv (on_equiv (λ (c : ClauseAt). c.file) nat_eq_equiv)
    (and_equiv (on_equiv (λ (c : ClauseAt). c.offset) nat_eq_equiv)
    (and_equiv (on_equiv (λ (c : ClauseAt). c.end) nat_eq_equiv) (on_equiv (λ (c : ClauseAt). c.node) nat_eq_equiv)))

same_clause_parts : (a b : ClauseAt) → same_clause a b ≡ true → a ≡ b
same_clause_parts a b e =
    let first = and_parts (nat_eq a.file b.file) (nat_eq a.offset b.offset && (nat_eq a.end b.end && nat_eq a.node b.node)) e in
    let second = and_parts (nat_eq a.offset b.offset) (nat_eq a.end b.end && nat_eq a.node b.node) first.1 in
    let third = and_parts (nat_eq a.end b.end) (nat_eq a.node b.node) second.1 in
    let files : a.file ≡ b.file = (Decides-eqb a.file b.file).0 first.0 in
    let offsets : a.offset ≡ b.offset = (Decides-eqb a.offset b.offset).0 second.0 in
    let ends : a.end ≡ b.end = (Decides-eqb a.end b.end).0 third.0 in
    let nodes : a.node ≡ b.node = (Decides-eqb a.node b.node).0 third.1 in
    λ i. record { file = files i; offset = offsets i; end = ends i; node = nodes i }

pub all_clauses : (seen : Seen) (nodes : List ℕ) (clauses sorted kept : List ClauseAt) → clauses ≡ flat_map (clauses_in seen) nodes
    → IsPermutation clauses sorted → IsSorted clause_cmp sorted → IsFiltered (DiffersFromLast same_clause) [] sorted kept → AreClausesOf seen nodes kept
all_clauses seen nodes clauses sorted kept are moved in_order filtered =
    let is = dedup_is same_clause sorted kept filtered in
    let once = dedup same_clause sorted in
    let rises = IsStrictlySortedBy-dedup clause_cmp_total same_clause_ties sorted in_order in
    let P : List ClauseAt → Type 0 = λ xs. AreClausesOf seen nodes xs in
    subst P (sym is)
    (record {
      ordered = λ i j d before lt. Less-from_sorted clause_cmp once i j d rises before lt;
      each = λ c. (
        λ has.
            let there = Contains-permutation sorted clauses c (IsPermutation-sym clauses sorted moved) (Contains-from_dedup same_clause sorted c has) in
            (flat_has (clauses_in seen) nodes c).0 (subst (λ (cs : List ClauseAt). Contains cs c) are there),
        λ among.
            let there = subst (λ (cs : List ClauseAt). Contains cs c) (sym are) ((flat_has (clauses_in seen) nodes c).1 among) in
            let found_one = Any-dedup clause_equiv sorted c (Contains-permutation clauses sorted c moved there) in
            subst (λ x. Contains once x) (sym (same_clause_parts c found_one.1 found_one.4)) (found_one.0, found_one.2, found_one.3),
      );
    })
