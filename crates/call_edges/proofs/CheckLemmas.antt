-- The places of all goals that aren't callable, from those of predicates and of directives.
use Rattle.std.proofs.Common.{◌≡◌, ◌⊎◌, ◌↔◌, inl, inr, ℕ, ◌*◌, ◌/◌, ◌<◌, Bool, true, ◌&&◌, nat_eq, List, [], ◌++◌, Option, Some, None, Result, Ok, IfOk, AllPairs, length, map, get_or, slice_get, ap, sym, ◌∙◌, subst, refl, arith}
use Rattle.std.specs.Prelude.{Contains}
use Rattle.std.specs.List.{AllZip, range_with_len, enumerate_from, dedup}
use Rattle.std.specs.List.Retain.{IsFiltered, DiffersFromLast}
use Rattle.std.specs.List.Sorted.{IsSorted, IsPermutation}
use Rattle.std.specs.Cmp.{IsTotalOrder, IsEquivalence, both_tied, unsigned_ties}
use Rattle.std.specs.Option.{option_map}
use Rattle.std.specs.Ordering.{eq_by_cmp}
use Rattle.std.specs.declared.alloc.AllocError.{AllocError}
use Rattle.std.specs.declared.cmp.Ordering.TheVariants.{Less}
use Rattle.std.proofs.lemmas.Bool.{and_parts, eqb-true}
use Rattle.std.proofs.lemmas.Cmp.{then_total, on_total, nat_cmp_total, and_equiv, on_equiv, nat_eq_equiv}
use Rattle.std.proofs.lemmas.List.{length-map, get_or-map}
use Rattle.std.proofs.lemmas.List.Elements.{Contains-append_left, Contains-append_right, Contains-append_cases, All-contains}
use Rattle.std.proofs.lemmas.List.Filters.{dedup_is}
use Rattle.std.proofs.lemmas.List.FromFn.{length-range_with_len, get_or-range_with_len}
use Rattle.std.proofs.lemmas.List.Kept.{Contains-dedup, Contains-from_dedup, IsStrictlySortedBy-dedup}
use Rattle.std.proofs.lemmas.List.Sorted.{Contains-permutation, IsPermutation-sym}
use Rattle.std.proofs.lemmas.Map.Keys.{Less-from_sorted}
use Rattle.std.proofs.lemmas.Option.{none-some, same_Some, slice_get-get_or, slice_get-map, slice_get_within, get_or_from_slice_get}
use Rattle.list_laws.proofs.Members.{stands_in}
use Rattle.module_table.specs.Defined.{Predicate}
use Rattle.module_table.specs.Facts.{Facts}
use Rattle.import_rules.specs.declared.names.PredName.{PredName}
use Rattle.import_rules.specs.Files.{pair_cmp, name_in, defined_in, all_defined, IsDefinedAt}
use Rattle.import_rules.specs.Numbers.{places_for, parts_in}
use Rattle.import_rules.specs.Program.{Seen, places_in, places_at, IsKnown}
use Rattle.import_rules.proofs.PartsSoFar.{element_at}
use Rattle.call_edges.specs.declared.piece.OpenedPiece.{OpenedPiece}
use Rattle.call_edges.specs.declared.piece.Piece.{Piece}
use Rattle.call_edges.specs.Goals.{fault, place, goal_role, Rows, IsMet, Adds}
use Rattle.call_edges.specs.ProgramRows.{rows_of}
use Rattle.call_edges.specs.Calls.{IsAmong, IsMetInClause, IsMetAt}
use Rattle.call_edges.specs.Bodies.{body_in, bodies_at, bodies_in, goals_of_file, goals_in}
use Rattle.call_edges.specs.CallLists.{IsPiece, ArePieces}
use Rattle.call_edges.specs.KeptCalls.{AreCallsIn, AreKept}
use Rattle.call_edges.specs.OpenedPieces.{IsOpenedPiece, AreOpened, AreOpenedPieces, pieces_of, kept_of}
use Rattle.call_edges.specs.FaultPlaces.{HasPlace, IsFaultIn, AreFaultsIn, IsFaultPlace, AreFaultPlaces}
use Rattle.call_edges.proofs.AddsLemmas.{adds_append}
use Rattle.call_edges.proofs.AmongLemmas.{among_flat, among_map, flat_has, map_has}
use Rattle.call_edges.proofs.PlaceLemmas.{enumerated, numbered, stands_place}
use Rattle.call_edges.proofs.BodyLemmas.{place_met, body_file}
use Rattle.list_laws.proofs.Zips.{zip_at, zip_count}

pub place_adds : (piece : Piece) (old new : List (ℕ × ℕ)) → new ≡ old ++ piece.faults.items → Adds (HasPlace piece) old new
place_adds piece old new same =
    let P : List (ℕ × ℕ) → Type 0 = λ xs. Adds (HasPlace piece) old xs in
    subst P (sym same) (adds_append old piece.faults.items)

-- elements by their places

pub place_in : {X : Type 0} (xs : List X) (x : X) → Contains xs x → (k : ℕ) × (slice_get xs k ≡ Some x)
place_in xs x (k, lt, is) = (k, slice_get-get_or xs k x lt ∙ ap (λ y. Some y) is)

-- the pieces, where memory was wanting for none

pub opened_of : (keep : Bool) (seen : Seen) (each : List (Result OpenedPiece AllocError)) (count : ℕ)
    → ((number : ℕ) → number < count ↔ number * 512 < length seen.predicates)
    → AllZip (λ number one. IfOk one (IsOpenedPiece keep seen number)) (range_with_len 0 count) each → AreOpened keep seen each
opened_of keep seen each count so_many zip =
    let R : ℕ → Result OpenedPiece AllocError → Type 0 = λ number one. IfOk one (IsOpenedPiece keep seen number) in
    let as_long : count ≡ length each = sym (length-range_with_len 0 count) ∙ zip_count R (range_with_len 0 count) each zip in
    record {
      as_many = λ number inside. omega (arith, (so_many number).1 inside, as_long);
      each = subst (λ (n : ℕ). AllZip R (range_with_len 0 n) each) as_long zip;
    }

one_piece : (keep : Bool) (seen : Seen) (number : ℕ) (one : Result OpenedPiece AllocError) (piece : OpenedPiece) → one ≡ Ok piece
    → IfOk one (IsOpenedPiece keep seen number) → IsOpenedPiece keep seen number piece
one_piece keep seen number one piece is if_ok =
    let P : Result OpenedPiece AllocError → Type 0 = λ one. IfOk one (IsOpenedPiece keep seen number) in subst P is if_ok

pub all_opened : (keep : Bool) (seen : Seen) (each : List (Result OpenedPiece AllocError)) (pieces : List OpenedPiece) → AreOpened keep seen each
    → each ≡ map (λ piece. Ok piece) pieces → AreOpenedPieces keep seen pieces
all_opened keep seen each pieces opened are =
    let as_long : length each ≡ length pieces = ap length are ∙ length-map pieces (λ piece. Ok piece) in
    record {
      as_many = λ number inside. omega (arith, opened.as_many number inside, as_long);
      each = λ number piece is.
          let lt : number < length pieces = slice_get_within pieces number piece is in
          let within : number < length each = omega (arith, lt, as_long) in
          let one : Result OpenedPiece AllocError = get_or each number (Ok piece) in
          let here : get_or (range_with_len 0 (length each)) number 0 ≡ number = omega (arith, get_or-range_with_len 0 (length each) number 0 within) in
          let R : ℕ → Result OpenedPiece AllocError → Type 0 = λ number one. IfOk one (IsOpenedPiece keep seen number) in
          let found : R number one =
          subst (λ (n : ℕ). R n one) here (zip_at R (range_with_len 0 (length each)) each number 0 (Ok piece) opened.each (omega (arith, within, length-range_with_len 0 (length each)))) in
          let read : one ≡ Ok piece =
          ap (λ (xs : List (Result OpenedPiece AllocError)). get_or xs number (Ok piece)) are
          ∙ get_or-map (λ piece. Ok piece) pieces number piece (Ok piece) lt
          ∙ ap (λ x. Ok x) (get_or_from_slice_get pieces number piece piece is) in
          one_piece keep seen number one piece read found;
    }

-- the lists of the pieces, and the calls that are kept of them

mapped_there : {X Y : Type 0} (f : X → Y) (xs : List X) (number : ℕ) (y : Y) → slice_get (map f xs) number ≡ Some y
    → (x : X) × (slice_get xs number ≡ Some x) × (f x ≡ y)
mapped_there {X} {Y} f xs number y is = by_read (slice_get xs number) refl (sym (slice_get-map f xs number) ∙ is)
  where
    by_read : (o : Option X) → slice_get xs number ≡ o → option_map f o ≡ Some y → (x : X) × (slice_get xs number ≡ Some x) × (f x ≡ y)
    by_read None read given = absurd (none-some y given)
    by_read (Some x) read given = (x, read, same_Some (f x) y given)

pub pieces_there : (keep : Bool) (seen : Seen) (opened : List OpenedPiece) → AreOpenedPieces keep seen opened → ArePieces seen (pieces_of opened)
pieces_there keep seen opened are = record {
  as_many = λ number inside. omega (arith, are.as_many number inside, length-map opened (λ (one : OpenedPiece). one.piece));
  each = λ number piece is.
      let one = mapped_there (λ (one : OpenedPiece). one.piece) opened number piece is in
      subst (IsPiece seen number) one.2 (are.each number one.0 one.1).piece;
}

pub kept_pieces : (keep : Bool) (seen : Seen) (opened : List OpenedPiece) → AreOpenedPieces keep seen opened → keep ≡ true → AreKept seen (kept_of opened)
kept_pieces keep seen opened are kept = record {
  as_many = λ number inside. omega (arith, are.as_many number inside, length-map opened (λ (one : OpenedPiece). one.kept));
  each = λ number piece is.
      let one = mapped_there (λ (one : OpenedPiece). one.kept) opened number piece is in
      subst (AreCallsIn seen number) one.2 ((are.each number one.0 one.1).kept kept);
}

-- a goal of a predicate isn't callable, there
pub record IsNodeFault (seen : Seen) (p : ℕ × ℕ) : Type 0 where
  pub node : ℕ
  pub below : node < length seen.predicates
  pub is : IsAmong (IsFaultIn (rows_of seen)) (bodies_in seen node) p

pub each_faults : (seen : Seen) (pieces : List Piece) (p : ℕ × ℕ) → ArePieces seen pieces → IsAmong HasPlace pieces p ↔ IsNodeFault seen p
each_faults seen pieces p are = (
  λ among.
      let at = place_in pieces among.one among.has in
      let fault = ((are.each at.0 among.one at.1).faults p).0 among.is in
      record { node = fault.node; below = fault.below; is = fault.is },
  λ fault.
      let number = fault.node / 512 in
      let at = element_at pieces number (are.as_many number (omega (arith, fault.below))) in
      record {
        one = at.0;
        has = stands_in pieces number at.0 at.1;
        is = ((are.each number at.0 at.1).faults p).1 (record { node = fault.node; below = fault.below; in_piece = refl; is = fault.is });
      },
)

-- a goal of a clause of the predicate at a place

pub fault_at_place : (T : Rows) (files : List Facts) (at p : ℕ × ℕ) → IsAmong (IsFaultIn T) (bodies_at files at) p ↔ ((p.0 ≡ at.0) × (IsMetAt T) files at (fault p.1))
fault_at_place T files at p =
    let met = place_met T files at (fault p.1) in (
      λ among. (
        among.is.in_file ∙ body_file files at among.one among.has,
        met.0 (record { one = among.one; has = among.has; is = among.is.met }),
      ),
      λ both.
          let among = met.1 both.1 in
          record { one = among.one; has = among.has; is = record { in_file = both.0 ∙ sym (body_file files at among.one among.has); met = among.is } },
    )

-- a clause of a predicate of a file is one of a node

pub node_of : (seen : Seen) (p : PredName) → IsKnown seen → Contains (all_defined seen.loaded.files) p → (n : ℕ) × (slice_get seen.predicates n ≡ Some p)
node_of seen p known has = place_in seen.predicates p (All-contains (Contains seen.predicates) (all_defined seen.loaded.files) p known.numbered.all has)

pub defined_there : (files : List Facts) (file : Facts) (k part : ℕ) (predicate : Predicate) → slice_get files k ≡ Some file → slice_get file.defined part ≡ Some predicate
    → Contains (all_defined files) (name_in predicate)
defined_there files file k part predicate here there =
    (flat_has defined_in files (name_in predicate)).1
    (record {
      one = file;
      has = stands_in files k file here;
      is =
          (map_has name_in file.defined (name_in predicate)).1
          (record { one = predicate; has = stands_in file.defined part predicate there; is = refl });
    })

pub place_of_node : (seen : Seen) (n : ℕ) (p : PredName) (at : ℕ × ℕ) → slice_get seen.predicates n ≡ Some p → Contains (places_for (parts_in seen.loaded.files) p) at
    → Contains (places_in seen n) at
unfolding places_in
place_of_node seen n p at is has = subst (λ (o : Option PredName). Contains (places_at seen.loaded.files o) at) (sym is) has

met_node : (seen : Seen) (p : ℕ × ℕ) (file : Facts) → IsKnown seen → slice_get seen.loaded.files p.0 ≡ Some file
    → IsAmong (λ (predicate : Predicate). IsAmong ((IsMetInClause (rows_of seen)) file.module_) predicate.clauses) file.defined (fault p.1) → IsNodeFault seen p
met_node seen p file known here among =
    let files = seen.loaded.files in
    let predicate = among.one in
    let part = place_in file.defined predicate among.has in
    let name = name_in predicate in
    let node = node_of seen name known (defined_there files file p.0 part.0 predicate here part.1) in
    let at : ℕ × ℕ = (p.0, part.0) in
    let stands : IsDefinedAt files name p.0 part.0 = record { file = file; predicate = predicate; at_place = here; at_part = part.1; is = refl } in
    let met : (IsMetAt (rows_of seen)) files at (fault p.1) = record { file = file; file_is = here; predicate = predicate; predicate_is = part.1; among = among.is } in
    record {
      node = node.0;
      below = slice_get_within seen.predicates node.0 name node.1;
      is =
          (among_flat (IsFaultIn (rows_of seen)) (bodies_at files) (places_in seen node.0) p).1
          (record { one = at; has = place_of_node seen node.0 name at node.1 (stands_place files name p.0 part.0 stands); is = (fault_at_place (rows_of seen) files at p).1 (refl, met) });
    }

node_met_there : (seen : Seen) (p : ℕ × ℕ) → IsNodeFault seen p → IsFaultPlace seen p
node_met_there seen p wrong =
    let files = seen.loaded.files in
    let among = (among_flat (IsFaultIn (rows_of seen)) (bodies_at files) (places_in seen wrong.node) p).0 wrong.is in
    let both = (fault_at_place (rows_of seen) files among.one p).0 among.is in
    let met = both.1 in
    record {
      file = met.file;
      is = ap (slice_get files) both.0 ∙ met.file_is;
      met = inl (record { one = met.predicate; has = stands_in met.file.defined among.one.1 met.predicate met.predicate_is; is = met.among });
    }

-- goals of directives

goal_met_there : (seen : Seen) (p : ℕ × ℕ) → IsAmong (IsFaultIn (rows_of seen)) (goals_in seen.loaded.files) p → IsFaultPlace seen p
goal_met_there seen p among =
    let files = seen.loaded.files in
    let of_file = (among_flat (IsFaultIn (rows_of seen)) goals_of_file (enumerate_from 0 files) p).0 among in
    let at = of_file.one in
    let of_goal = (among_map (IsFaultIn (rows_of seen)) (λ goal. body_in at.0 (place at.1.module_ goal_role goal)) at.1.goals p).0 of_file.is in
    record {
      file = at.1;
      is = ap (slice_get files) of_goal.is.in_file ∙ enumerated files at of_file.has;
      met = inr (record { one = of_goal.one; has = of_goal.has; is = of_goal.is.met });
    }

met_goal : (seen : Seen) (p : ℕ × ℕ) (file : Facts) → slice_get seen.loaded.files p.0 ≡ Some file
    → IsAmong (λ goal. IsMet (rows_of seen) (place file.module_ goal_role goal)) file.goals (fault p.1) → IsAmong (IsFaultIn (rows_of seen)) (goals_in seen.loaded.files) p
met_goal seen p file here among =
    let files = seen.loaded.files in
    (among_flat (IsFaultIn (rows_of seen)) goals_of_file (enumerate_from 0 files) p).1
    (record {
      one = (p.0, file);
      has = numbered files p.0 file here;
      is =
          (among_map (IsFaultIn (rows_of seen)) (λ goal. body_in p.0 (place file.module_ goal_role goal)) file.goals p).1
          (record { one = among.one; has = among.has; is = record { in_file = refl; met = among.is } });
    })

-- all places

pub there_is : (seen : Seen) (p : ℕ × ℕ) → IsKnown seen → (IsNodeFault seen p ⊎ IsAmong (IsFaultIn (rows_of seen)) (goals_in seen.loaded.files) p) ↔ IsFaultPlace seen p
there_is seen p known = (
  λ either. elim either [ inl node ↦ node_met_there seen p node | inr goal ↦ goal_met_there seen p goal ],
  λ is. elim is.met [ inl among ↦ inl (met_node seen p is.file known is.is among) | inr goal ↦ inr (met_goal seen p is.file is.is goal) ],
)

-- pairs of numbers that are sorted, each once

pub pair_cmp_total : IsTotalOrder pair_cmp
pair_cmp_total = then_total (on_total (λ (t : ℕ × ℕ). t.0) nat_cmp_total) (on_total (λ (t : ℕ × ℕ). t.1) nat_cmp_total)

abbrev pub pair_eq : ℕ × ℕ → ℕ × ℕ → Bool
pair_eq a b = nat_eq a.0 b.0 && nat_eq a.1 b.1

pair_ties : (a b : ℕ × ℕ) → pair_eq a b ≡ eq_by_cmp pair_cmp a b
pair_ties a b = both_tied _ _ _ _ (unsigned_ties a.0 b.0) (unsigned_ties a.1 b.1)

pair_equiv : IsEquivalence pair_eq
pair_equiv = and_equiv (on_equiv (λ (t : ℕ × ℕ). t.0) nat_eq_equiv) (on_equiv (λ (t : ℕ × ℕ). t.1) nat_eq_equiv)

pair_same : (a b : ℕ × ℕ) → pair_eq a b ≡ true → a ≡ b
pair_same a b is =
    let both = and_parts (nat_eq a.0 b.0) (nat_eq a.1 b.1) is in
    let first : a.0 ≡ b.0 = eqb-true a.0 b.0 both.0 in
    let second : a.1 ≡ b.1 = eqb-true a.1 b.1 both.1 in
    λ i. (first i, second i)

pairs_rise : (sorted kept : List (ℕ × ℕ)) → IsSorted pair_cmp sorted → IsFiltered (DiffersFromLast pair_eq) [] sorted kept → AllPairs (λ a b. pair_cmp a b ≡ Less) kept
pairs_rise sorted kept in_order filtered =
    let rises = IsStrictlySortedBy-dedup pair_cmp_total pair_ties sorted in_order in
    let P : List (ℕ × ℕ) → Type 0 = λ xs. AllPairs (λ a b. pair_cmp a b ≡ Less) xs in
    subst P (sym (dedup_is pair_eq sorted kept filtered)) (λ i j d before lt. Less-from_sorted pair_cmp (dedup pair_eq sorted) i j d rises before lt)

pairs_have : (xs sorted kept : List (ℕ × ℕ)) (p : ℕ × ℕ) → IsPermutation xs sorted → IsFiltered (DiffersFromLast pair_eq) [] sorted kept → Contains kept p ↔ Contains xs p
pairs_have xs sorted kept p moved filtered =
    let is = dedup_is pair_eq sorted kept filtered in (
      λ has.
          Contains-permutation sorted xs p (IsPermutation-sym xs sorted moved) (Contains-from_dedup pair_eq sorted p (subst (λ (ys : List (ℕ × ℕ)). Contains ys p) is has)),
      λ has. subst (λ (ys : List (ℕ × ℕ)). Contains ys p) (sym is) (Contains-dedup pair_equiv pair_same sorted p (Contains-permutation xs sorted p moved has)),
    )

-- the places of all, sorted and each once
pub all_places : (seen : Seen) (pieces : List Piece) (lists others all sorted kept : List (ℕ × ℕ)) → IsKnown seen → ArePieces seen pieces → ((p : ℕ × ℕ) → Contains lists p ↔ IsAmong HasPlace pieces p)
    → (AreFaultsIn (rows_of seen)) (goals_in seen.loaded.files) others → all ≡ lists ++ others
    → IsPermutation all sorted → IsSorted pair_cmp sorted → IsFiltered (DiffersFromLast pair_eq) [] sorted kept → AreFaultPlaces seen kept
all_places seen pieces lists others all sorted kept known are told goals joins moved in_order filtered = record {
  ordered = pairs_rise sorted kept in_order filtered;
  each = λ p.
      let has = pairs_have all sorted kept p moved filtered in
      let node = each_faults seen pieces p are in
      let is = there_is seen p known in (
        λ in_kept.
            is.0
            (elim (Contains-append_cases lists others p (subst (λ (xs : List (ℕ × ℕ)). Contains xs p) joins (has.0 in_kept))) [
              | inl listed ↦ inl (node.0 ((told p).0 listed))
              | inr other ↦ inr ((goals.each p).0 other)
            ]),
        λ there.
            has.1
            (subst (λ (xs : List (ℕ × ℕ)). Contains xs p) (sym joins)
            (elim (is.1 there) [
              | inl of_node ↦ Contains-append_left lists others p ((told p).1 (node.1 of_node))
              | inr goal ↦ Contains-append_right lists others p ((goals.each p).1 goal)
            ])),
      );
}
