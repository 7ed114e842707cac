-- The calls of predicates that are kept are those of their clauses.
use Rattle.std.proofs.Common.{◌≡◌, ◌↔◌, inl, inr, ℕ, ◌+◌, ◌-◌, ◌*◌, ◌/◌, ◌%◌, ◌<◌, Bool, true, false, List, [], ◌∷◌, ◌++◌, Some, length, take, drop, get_or, ap, sym, ◌∙◌, subst, refl, arith}
use Rattle.std.specs.Prelude.{Contains, slice_range}
use Rattle.std.proofs.lemmas.Bool.{cases_lt}
use Rattle.std.proofs.lemmas.List.{drop-append-le, take-append-le, length-append, length-drop, map-append, take_all, get_or_append_left, get_or_push, get_or_read, length_push}
use Rattle.std.proofs.lemmas.Option.{slice_get_read}
use Rattle.std.proofs.Math.Seq.{drop-append_seam}
use Rattle.list_laws.proofs.Members.{any_there, any_from}
use Rattle.import_rules.specs.Program.{Seen}
use Rattle.call_edges.specs.declared.piece_calls.PieceCalls.{PieceCalls}
use Rattle.call_edges.specs.declared.placed_calls.PlacedCall.{PlacedCall}
use Rattle.call_edges.specs.Goals.{Met, Adds}
use Rattle.call_edges.specs.ProgramRows.{rows_of}
use Rattle.call_edges.specs.Bodies.{Body, bodies_in, IsMetInBody}
use Rattle.call_edges.specs.CallPlaces.{CallAt, IsCalledIn, IsCallOf, met_of}
use Rattle.call_edges.specs.KeptCalls.{body_calls, calls_in, same_call, has_call, AreCallsBetween, AreCallsIn, AreKept}
use Rattle.call_edges.specs.PlacedSeen.{call_met, see_call, see_calls}
use Rattle.call_edges.specs.Successors.{body_mets}
use Rattle.call_edges.proofs.AddsLemmas.{adds_as, adds_append}
use Rattle.call_edges.proofs.AmongLemmas.{among_as, among_given, flat_has}
use Rattle.call_edges.proofs.LaidOutLemmas.{in_its_piece}
use Rattle.call_edges.proofs.ListedMets.{mets_are}
use Rattle.call_edges.proofs.PlacedCallLemmas.{kept_call, call_kept, call_as, same_itself, same_call_parts}

-- the list of the calls of a predicate has just its calls

module _ (seen : Seen) (caller : ℕ) where
  pub body_calls_are : (body : Body) (c : CallAt) → Contains (body_calls seen caller body) c ↔ IsCalledIn seen caller body c
  body_calls_are body c =
      let mets = body_mets (rows_of seen) body in
      let Met_in : Met → Type 0 = IsMetInBody (rows_of seen) body in
      let met : (m : Met) → Contains mets m ↔ Met_in m = mets_are (rows_of seen) body.at.module_ body.at.role body.at.tree in
      let given = among_given (λ (x y : CallAt). x ≡ y) (call_met seen body.file caller) mets c in (
        λ has.
            let one = given.0 (record { one = c; has = has; is = refl }) in
            call_as seen body.file caller (λ (x : Met). one.one ≡ x) Met_in c (λ m same. (met m).0 (subst (λ (x : Met). Contains mets x) same one.has))
            (kept_call seen body.file caller one.one c (one.is.is ∙ ap (λ x. Some x) one.is.holds)),
        λ called.
            let m = met_of c in
            let is =
            call_kept seen body.file caller m c
            (record { in_file = called.in_file; caller_is = called.caller_is; means_is = called.means_is; met = refl }) in
            let there = given.1 (record { one = m; has = (met m).1 called.met; is = record { one = c; is = is; holds = refl } }) in
            subst (λ (x : CallAt). Contains (body_calls seen caller body) x) there.is there.has,
      )

  calls_in_are : (c : CallAt) → Contains (calls_in seen caller) c ↔ IsCallOf seen caller c
  unfolding calls_in
  calls_in_are c =
      let bodies = bodies_in seen caller in
      let flat = flat_has (body_calls seen caller) bodies c in (
        λ has. among_as (λ body. Contains (body_calls seen caller body)) (IsCalledIn seen caller) bodies c (λ body. (body_calls_are body c).0) (flat.0 has),
        λ is. flat.1 (among_as (IsCalledIn seen caller) (λ body. Contains (body_calls seen caller body)) bodies c (λ body. (body_calls_are body c).1) is),
      )

-- whether a list has a call

has_from : (calls : List CallAt) (c : CallAt) → has_call calls c ≡ true → Contains calls c
has_from calls c is =
    let one = any_from (same_call c) calls is in
    subst (λ (x : CallAt). Contains calls x) (sym (same_call_parts c one.0 one.2)) one.1

has_true : (calls : List CallAt) (c : CallAt) → Contains calls c → has_call calls c ≡ true
has_true calls c has = any_there (same_call c) calls c has (same_itself c)

both_or_none : (a b : Bool) → (a ≡ true → b ≡ true) → (b ≡ true → a ≡ true) → a ≡ b
both_or_none true b to from = sym (to refl)
both_or_none false true to from = from refl
both_or_none false false to from = refl

-- lists of the same calls
same_calls : (seen : Seen) (node : ℕ) (calls : List CallAt) → ((c : CallAt) → Contains calls c ↔ IsCallOf seen node c)
    → (c : CallAt) → has_call calls c ≡ has_call (calls_in seen node) c
same_calls seen node calls are c =
    let listed = calls_in_are seen node c in
    both_or_none (has_call calls c) (has_call (calls_in seen node) c)
    (λ is. has_true (calls_in seen node) c (listed.1 ((are c).0 (has_from calls c is))))
    (λ is. has_true calls c ((are c).1 (listed.0 (has_from (calls_in seen node) c is))))

pub calls_between : (seen : Seen) (node : ℕ) (calls : List PlacedCall) (span : ℕ × ℕ) → AreCallsBetween seen node calls span
    → (c : CallAt) → Contains (see_calls (slice_range calls span.0 span.1)) c ↔ IsCallOf seen node c
calls_between seen node calls span are c =
    let listed = calls_in_are seen node c in
    let here = see_calls (slice_range calls span.0 span.1) in (
      λ has. listed.0 (has_from (calls_in seen node) c (sym (are.each c) ∙ has_true here c has)),
      λ is. has_from here c (are.each c ∙ has_true (calls_in seen node) c (listed.1 is)),
    )

-- predicate after predicate

-- the calls of so many predicates from a number on
pub record AreFirstCalls (seen : Seen) (from count : ℕ) (spans : List (ℕ × ℕ)) (calls : List PlacedCall) : Type 0 where
  pub as_many : length spans ≡ count
  pub each : (k : ℕ) → k < count → AreCallsBetween seen (from + k) calls (get_or spans k (0, 0))

pub no_calls : (seen : Seen) (from : ℕ) (spans : List (ℕ × ℕ)) (calls : List PlacedCall) → spans ≡ [] → AreFirstCalls seen from 0 spans calls
no_calls seen from spans calls none = record { as_many = ap length none; each = λ k lt. absurd (omega (arith, lt)) }

-- more behind them
still_between : (seen : Seen) (node : ℕ) (calls more : List PlacedCall) (span : ℕ × ℕ) → AreCallsBetween seen node calls span
    → AreCallsBetween seen node (calls ++ more) span
still_between seen node calls more span are =
    let same : slice_range (calls ++ more) span.0 span.1 ≡ slice_range calls span.0 span.1 =
    ap (take (span.1 - span.0)) (drop-append-le span.0 calls more (omega (arith, are.ordered, are.within)))
    ∙ take-append-le (span.1 - span.0) (drop span.0 calls) more (omega (arith, are.ordered, are.within, length-drop span.0 calls)) in
    record {
      ordered = are.ordered;
      within = omega (arith, are.within, length-append calls more);
      each = λ c. ap (λ (xs : List PlacedCall). has_call (see_calls xs) c) same ∙ are.each c;
    }

last_between : (seen : Seen) (node : ℕ) (calls list : List PlacedCall) → ((c : CallAt) → Contains (see_calls list) c ↔ IsCallOf seen node c)
    → AreCallsBetween seen node (calls ++ list) (length calls, length (calls ++ list))
last_between seen node calls list are =
    let same : slice_range (calls ++ list) (length calls) (length (calls ++ list)) ≡ list =
    ap (take (length (calls ++ list) - length calls)) (drop-append_seam calls list)
    ∙ take_all (length (calls ++ list) - length calls) list (omega (arith, length-append calls list)) in
    record {
      ordered = omega (arith, length-append calls list);
      within = omega arith;
      each = λ c. ap (λ (xs : List PlacedCall). has_call (see_calls xs) c) same ∙ same_calls seen node (see_calls list) are c;
    }

-- one predicate more
pub more_calls : (seen : Seen) (from count : ℕ) (spans spans_then : List (ℕ × ℕ)) (calls list given calls_then : List PlacedCall)
    → AreFirstCalls seen from count spans calls → ((c : CallAt) → Contains (see_calls list) c ↔ IsCallOf seen (from + count) c) → given ≡ list
    → calls_then ≡ calls ++ given → spans_then ≡ spans ++ ((length calls, length (calls ++ given)) ∷ [])
    → AreFirstCalls seen from (count + 1) spans_then calls_then
more_calls seen from count spans spans_then calls list given calls_then first are same calls_is spans_is =
    let span : ℕ × ℕ = (length calls, length (calls ++ list)) in
    let all_calls : calls_then ≡ calls ++ list = calls_is ∙ ap (λ xs. calls ++ xs) same in
    let all_spans : spans_then ≡ spans ++ span ∷ [] = spans_is ∙ ap (λ (xs : List PlacedCall). spans ++ ((length calls, length (calls ++ xs)) ∷ [])) same in
    subst (λ (xs : List (ℕ × ℕ)). AreFirstCalls seen from (count + 1) xs calls_then) (sym all_spans)
    (subst (λ (xs : List PlacedCall). AreFirstCalls seen from (count + 1) (spans ++ span ∷ []) xs) (sym all_calls)
    (record {
      as_many = length_push spans span ∙ ap (λ n. n + 1) first.as_many;
      each = λ k lt.
          elim (cases_lt k count) [
            | inl before ↦
                let read = get_or_append_left spans (span ∷ []) (0, 0) k (omega (arith, before, first.as_many)) in
                subst (λ (s : ℕ × ℕ). AreCallsBetween seen (from + k) (calls ++ list) s) (sym read)
                (still_between seen (from + k) calls list (get_or spans k (0, 0)) (first.each k before))
            | inr ge ↦
                let here : count ≡ k = omega (arith, lt, ge) in
                let read : get_or (spans ++ span ∷ []) k (0, 0) ≡ span = get_or_push spans span (0, 0) k (first.as_many ∙ here) in
                subst (λ (s : ℕ × ℕ). AreCallsBetween seen (from + k) (calls ++ list) s) (sym read)
                (subst (λ (n : ℕ). AreCallsBetween seen (from + n) (calls ++ list) span) here (last_between seen (from + count) calls list are))
          ];
    }))

-- all predicates of a piece
pub all_first_calls : (seen : Seen) (number count : ℕ) (piece : PieceCalls)
    → ((k : ℕ) → k < 512 → number * 512 + k < length seen.predicates → k < count)
    → AreFirstCalls seen (number * 512) count piece.spans.items piece.calls.items → AreCallsIn seen number piece
all_first_calls seen number count piece whole first = record {
  as_many = λ k short below. omega (arith, whole k short below, first.as_many);
  each = λ k lt. first.each k (omega (arith, lt, first.as_many));
}

-- the calls of a predicate, in the piece of the predicate

pub kept_there : (seen : Seen) (pieces : List PieceCalls) (node : ℕ) → AreKept seen pieces → node < length seen.predicates → node / 512 < length pieces
kept_there seen pieces node kept lt = kept.as_many (node / 512) (omega (arith, lt, in_its_piece node))

kept_piece : (seen : Seen) (pieces : List PieceCalls) (node : ℕ) (piece : PieceCalls) → AreKept seen pieces → node < length seen.predicates
    → piece ≡ get_or pieces (node / 512) piece → AreCallsIn seen (node / 512) piece
kept_piece seen pieces node piece kept lt is =
    kept.each (node / 512) piece (slice_get_read pieces (length pieces) (node / 512) piece refl (kept_there seen pieces node kept lt) is)

pub span_there : (seen : Seen) (pieces : List PieceCalls) (node : ℕ) (piece : PieceCalls) → AreKept seen pieces → node < length seen.predicates
    → piece ≡ get_or pieces (node / 512) piece → node % 512 < length piece.spans.items
span_there seen pieces node piece kept lt is =
    let at = in_its_piece node in
    (kept_piece seen pieces node piece kept lt is).as_many (node % 512) at.1 (omega (arith, lt, at.0))

pub kept_read : (seen : Seen) (pieces : List PieceCalls) (node : ℕ) (piece : PieceCalls) (span : ℕ × ℕ) → AreKept seen pieces → node < length seen.predicates
    → piece ≡ get_or pieces (node / 512) piece → span ≡ get_or piece.spans.items (node % 512) span → AreCallsBetween seen node piece.calls.items span
kept_read seen pieces node piece span kept lt is read =
    let spans = piece.spans.items in
    let within = span_there seen pieces node piece kept lt is in
    let here : get_or spans (node % 512) (0, 0) ≡ span = sym (get_or_read spans (node % 512) span within read (0, 0)) in
    let between = (kept_piece seen pieces node piece kept lt is).each (node % 512) within in
    subst (λ (n : ℕ). AreCallsBetween seen n piece.calls.items span) (in_its_piece node).0
    (subst (λ (s : ℕ × ℕ). AreCallsBetween seen ((node / 512) * 512 + node % 512) piece.calls.items s) here between)

-- calls that are put behind others
pub calls_behind : (seen : Seen) (node : ℕ) (old list new : List PlacedCall) → new ≡ old ++ list
    → ((c : CallAt) → Contains (see_calls list) c ↔ IsCallOf seen node c) → Adds (IsCallOf seen node) (see_calls old) (see_calls new)
calls_behind seen node old list new is are =
    let whole : see_calls new ≡ see_calls old ++ see_calls list = ap see_calls is ∙ map-append see_call old list in
    adds_as (Contains (see_calls list)) (IsCallOf seen node) (see_calls old) (see_calls new) (λ c. (are c).0) (λ c. (are c).1)
    (subst (λ (xs : List CallAt). Adds (Contains (see_calls list)) (see_calls old) xs) (sym whole) (adds_append (see_calls old) (see_calls list)))
