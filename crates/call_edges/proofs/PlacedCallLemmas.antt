-- Calls of bodies and of predicates, in order and each once.
use Rattle.std.proofs.Common.{◌≡◌, ◌↔◌, ℕ, nat_eq, ◌&&◌, Bool, true, false, List, [], Option, Some, None, map, get_or, ◌++◌, ap, sym, ◌∙◌, subst, refl, arith}
use Rattle.std.specs.Prelude.{AllPairs, Contains}
use Rattle.std.specs.List.{dedup}
use Rattle.std.specs.List.Retain.{IsFiltered, DiffersFromLast}
use Rattle.std.specs.List.Sorted.{IsSorted, IsPermutation}
use Rattle.std.specs.Option.{option_eq, option_cmp, option_to_list}
use Rattle.std.specs.declared.cmp.Ordering.{Ordering}
use Rattle.std.specs.declared.cmp.Ordering.TheVariants.{Less, Equal, Greater}
use Rattle.std.specs.Bool.{beq}
use Rattle.std.specs.Ordering.{bool_cmp, is_eq, nat_cmp, ordering_then}
use Rattle.std.specs.Cmp.{IsEquivalence, IsTotalOrder, bool_cmp_total, bool_eq_equiv, both_tied, unsigned_ties}
use Rattle.std.specs.Cmp.Lexicographic.{options_equiv, options_total, texts_ties}
use Rattle.std.specs.Str.{bytes_eq}
use Rattle.std.proofs.lemmas.Bool.{and_parts}
use Rattle.std.proofs.lemmas.Bool.Decides.{Decides-eqb}
use Rattle.std.proofs.lemmas.Cmp.{then_total, on_total, nat_cmp_total, nat_list_cmp_total, and_equiv, on_equiv, nat_list_eq_equiv, nat_eq_equiv, tied_itself}
use Rattle.std.proofs.lemmas.List.Filters.{dedup_is}
use Rattle.std.proofs.lemmas.List.Kept.{Any-dedup, Contains-from_dedup, IsStrictlySortedBy-dedup}
use Rattle.std.proofs.lemmas.List.Sorted.{Contains-permutation, IsPermutation-sym}
use Rattle.std.proofs.lemmas.Map.Keys.{Less-from_sorted}
use Rattle.std.proofs.lemmas.Option.{none-some, same_Some, slice_get-get_or}
use Rattle.std.proofs.lemmas.Slice.Eq.{bytes_eq-Decides}
use Rattle.list_laws.proofs.Members.{stands_in}
use Rattle.import_rules.specs.declared.names.PredName.{PredName}
use Rattle.import_rules.specs.Names.{pred_name}
use Rattle.import_rules.specs.Program.{Seen, found}
use Rattle.import_rules.proofs.Lists.{all_pairs_map}
use Rattle.call_edges.specs.declared.role.Met.{Met as MetKept}
use Rattle.call_edges.specs.declared.placed_calls.PlacedCall.{PlacedCall}
use Rattle.call_edges.specs.Goals.{Met, call, fault, Adds, AddsMet}
use Rattle.call_edges.specs.Calls.{IsAmong, target}
use Rattle.call_edges.specs.Bodies.{Body, IsMetInBody}
use Rattle.call_edges.specs.ProgramRows.{rows_of}
use Rattle.call_edges.specs.Seen.{see_met, see_mets}
use Rattle.call_edges.specs.CallPlaces.{CallAt, callee_cmp, call_cmp, met_of, IsCallBy, IsCalledIn, IsCallOf, AreCallsOf}
use Rattle.call_edges.specs.KeptCalls.{same_callee, same_name, same_call}
use Rattle.call_edges.specs.PlacedSeen.{see_call, see_calls, call_to, call_met}
use Rattle.call_edges.proofs.AddsLemmas.{adds_as, adds_option}
use Rattle.call_edges.proofs.AmongLemmas.{map_has}
use Rattle.call_edges.proofs.CallLemmas.{adds_from_none}

-- the calls of what is met

module _ (seen : Seen) (file caller : ℕ) where
  abbrev pub IsKeptCall : MetKept → CallAt → Type 0
  IsKeptCall one c = call_met seen file caller (see_met one) ≡ Some c

  -- the call of one more, where it is one
  pub call_added : (one : MetKept) (means : Option ℕ) (old new : List CallAt) → means ≡ target seen (see_met one)
      → new ≡ old ++ option_to_list (call_to means file caller (see_met one)) → Adds (IsKeptCall one) old new
  call_added one means old new is added =
      let same : call_to means file caller (see_met one) ≡ call_met seen file caller (see_met one) = ap (λ m. call_to m file caller (see_met one)) is in
      adds_option (IsKeptCall one) (call_met seen file caller (see_met one)) old new (λ c e. e) (λ c e. e)
      (added ∙ ap (λ o. old ++ option_to_list o) same)

  pub kept_call : (m : Met) (c : CallAt) → call_met seen file caller m ≡ Some c → IsCallBy seen file caller (λ (x : Met). m ≡ x) c
  kept_call (call at owner name arity more negated) c is =
      let same = same_Some _ c is in
      let Means : CallAt → Type 0 = λ x. x.means ≡ found seen x.callee.module x.callee.name x.callee.arity in
      record {
        in_file = ap (λ (x : CallAt). x.file) (sym same);
        caller_is = ap (λ (x : CallAt). x.caller) (sym same);
        means_is = subst Means same refl;
        met = ap met_of same;
      }
  kept_call (fault at) c is = absurd (none-some c is)

  pub call_kept : (m : Met) (c : CallAt) → IsCallBy seen file caller (λ (x : Met). m ≡ x) c → call_met seen file caller m ≡ Some c
  call_kept m c is =
      ap (call_met seen file caller) is.met
      ∙ (λ i. Some (record c { file = sym is.in_file i; caller = sym is.caller_is i; means = sym is.means_is i }))

  pub call_as : (P Q : Met → Type 0) (c : CallAt) → ((m : Met) → P m → Q m) → IsCallBy seen file caller P c → IsCallBy seen file caller Q c
  call_as P Q c to is = record {
    in_file = is.in_file;
    caller_is = is.caller_is;
    means_is = is.means_is;
    met = to (met_of c) is.met;
  }

  pub calls_kept : (met : List MetKept) (old new : List CallAt) → Adds (IsAmong IsKeptCall met) old new → Adds (IsCallBy seen file caller (Contains (see_mets met))) old new
  calls_kept met old new adds =
      adds_as (IsAmong IsKeptCall met) (IsCallBy seen file caller (Contains (see_mets met))) old new
      (λ c among.
      call_as (λ (x : Met). see_met among.one ≡ x) (Contains (see_mets met)) c
      (λ m same. (map_has see_met met m).1 (record { one = among.one; has = among.has; is = same }))
      (kept_call (see_met among.one) c among.is))
      (λ c is.
      let kept = (map_has see_met met (met_of c)).0 is.met in
      record {
        one = kept.one;
        has = kept.has;
        is = call_kept (see_met kept.one) c (record { in_file = is.in_file; caller_is = is.caller_is; means_is = is.means_is; met = kept.is });
      })
      adds

-- the calls of a body
pub body_called : (seen : Seen) (caller : ℕ) (body : Body) (met : List MetKept) (none : List Met) (old new : List CallAt) → none ≡ []
    → AddsMet (rows_of seen) body.at none (see_mets met) → Adds (IsCallBy seen body.file caller (Contains (see_mets met))) old new
    → Adds (IsCalledIn seen caller body) old new
body_called seen caller body met none old new empty walked adds =
    let has = adds_from_none (IsMetInBody (rows_of seen) body) none (see_mets met) empty walked in
    adds_as (IsCallBy seen body.file caller (Contains (see_mets met))) (IsCalledIn seen caller body) old new
    (λ c. call_as seen body.file caller (Contains (see_mets met)) (IsMetInBody (rows_of seen) body) c (λ m. (has m).0))
    (λ c. call_as seen body.file caller (IsMetInBody (rows_of seen) body) (Contains (see_mets met)) c (λ m. (has m).1)) adds

-- which calls are the same

callee_cmp_total : IsTotalOrder callee_cmp
callee_cmp_total =
    then_total (on_total (λ (c : CallAt). c.callee.module) nat_list_cmp_total)
    (then_total (on_total (λ (c : CallAt). c.callee.name) nat_list_cmp_total)
    (then_total (on_total (λ (c : CallAt). c.callee.arity) nat_cmp_total)
    (then_total (on_total (λ (c : CallAt). c.added) nat_cmp_total) (on_total (λ (c : CallAt). c.negated) bool_cmp_total))))

pub call_cmp_total : IsTotalOrder call_cmp
call_cmp_total =
    then_total (on_total (λ (c : CallAt). c.file) nat_cmp_total)
    (then_total (on_total (λ (c : CallAt). c.offset) nat_cmp_total)
    (then_total (on_total (λ (c : CallAt). c.caller) nat_cmp_total) callee_cmp_total))

bool_ties : (a b : Bool) → beq a b ≡ is_eq (bool_cmp a b)
bool_ties true true = refl
bool_ties true false = refl
bool_ties false true = refl
bool_ties false false = refl

same_callee_ties : (a b : CallAt) → same_callee a b ≡ is_eq (callee_cmp a b)
same_callee_ties a b =
    both_tied _ _ _ _ (texts_ties a.callee.module b.callee.module)
    (both_tied _ _ _ _ (texts_ties a.callee.name b.callee.name)
    (both_tied _ _ _ _ (unsigned_ties a.callee.arity b.callee.arity)
    (both_tied _ _ _ _ (unsigned_ties a.added b.added) (bool_ties a.negated b.negated))))

same_name_ties : (a b : CallAt) → same_name a b ≡ is_eq (call_cmp a b)
same_name_ties a b =
    both_tied _ _ _ _ (unsigned_ties a.file b.file)
    (both_tied _ _ _ _ (unsigned_ties a.offset b.offset) (both_tied _ _ _ _ (unsigned_ties a.caller b.caller) (same_callee_ties a b)))

-- by what their names mean last
abbrev pub whole_cmp : CallAt → CallAt → Ordering
whole_cmp a b = ordering_then (call_cmp a b) (option_cmp nat_cmp a.means b.means)

whole_cmp_total : IsTotalOrder whole_cmp
whole_cmp_total = then_total call_cmp_total (on_total (λ (c : CallAt). c.means) (options_total nat_cmp_total))

option_ties : (p q : Option ℕ) → option_eq nat_eq p q ≡ is_eq (option_cmp nat_cmp p q)
option_ties None None = refl
option_ties None (Some y) = refl
option_ties (Some x) None = refl
option_ties (Some x) (Some y) = unsigned_ties x y

same_call_ties : (a b : CallAt) → same_call a b ≡ is_eq (whole_cmp a b)
same_call_ties a b = both_tied _ _ _ _ (same_name_ties a b) (option_ties a.means b.means)

callee_equiv : IsEquivalence same_callee
callee_equiv =
    and_equiv (on_equiv (λ (c : CallAt). c.callee.module) nat_list_eq_equiv)
    (and_equiv (on_equiv (λ (c : CallAt). c.callee.name) nat_list_eq_equiv)
    (and_equiv (on_equiv (λ (c : CallAt). c.callee.arity) nat_eq_equiv)
    (and_equiv (on_equiv (λ (c : CallAt). c.added) nat_eq_equiv) (on_equiv (λ (c : CallAt). c.negated) bool_eq_equiv))))

same_name_equiv : IsEquivalence same_name
same_name_equiv =
    and_equiv (on_equiv (λ (c : CallAt). c.file) nat_eq_equiv)
    (and_equiv (on_equiv (λ (c : CallAt). c.offset) nat_eq_equiv)
    (and_equiv (on_equiv (λ (c : CallAt). c.caller) nat_eq_equiv) callee_equiv))

call_equiv : IsEquivalence same_call
call_equiv = and_equiv same_name_equiv (on_equiv (λ (c : CallAt). c.means) (options_equiv nat_eq_equiv))

pub same_itself : (c : CallAt) → same_call c c ≡ true
same_itself c = same_call_ties c c ∙ ap is_eq (tied_itself whole_cmp_total c)

option_parts : (p q : Option ℕ) → option_eq nat_eq p q ≡ true → p ≡ q
option_parts None None e = refl
option_parts None (Some y) e = let both : false ≡ true = e in absurd (cc)
option_parts (Some x) None e = let both : false ≡ true = e in absurd (cc)
option_parts (Some x) (Some y) e = ap (λ n. Some n) ((Decides-eqb x y).0 e)

bool_parts : (a b : Bool) → beq a b ≡ true → a ≡ b
bool_parts true true e = refl
bool_parts true false e = let both : false ≡ true = e in absurd (cc)
bool_parts false true e = let both : false ≡ true = e in absurd (cc)
bool_parts false false e = refl

-- the same name, with as many arguments added, and both negated or neither
record IsSameCallee (a b : CallAt) : Type 0 where
  callee : a.callee ≡ b.callee
  added : a.added ≡ b.added
  negated : a.negated ≡ b.negated

callee_parts : (a b : CallAt) → same_callee a b ≡ true → IsSameCallee a b
callee_parts a b e =
    let last = nat_eq a.added b.added && beq a.negated b.negated in
    let third = nat_eq a.callee.arity b.callee.arity && last in
    let first = and_parts (bytes_eq a.callee.module b.callee.module) (bytes_eq a.callee.name b.callee.name && third) e in
    let second = and_parts (bytes_eq a.callee.name b.callee.name) third first.1 in
    let arity = and_parts (nat_eq a.callee.arity b.callee.arity) last second.1 in
    let both = and_parts (nat_eq a.added b.added) (beq a.negated b.negated) arity.1 in
    let modules : a.callee.module ≡ b.callee.module = (bytes_eq-Decides a.callee.module b.callee.module).0 first.0 in
    let names : a.callee.name ≡ b.callee.name = (bytes_eq-Decides a.callee.name b.callee.name).0 second.0 in
    let arities : a.callee.arity ≡ b.callee.arity = (Decides-eqb a.callee.arity b.callee.arity).0 arity.0 in
    record {
      callee = λ i. pred_name (modules i) (names i) (arities i);
      added = (Decides-eqb a.added b.added).0 both.0;
      negated = bool_parts a.negated b.negated both.1;
    }

pub same_call_parts : (a b : CallAt) → same_call a b ≡ true → a ≡ b
same_call_parts a b e =
    let outer = and_parts (same_name a b) (option_eq nat_eq a.means b.means) e in
    let first = and_parts (nat_eq a.file b.file) (nat_eq a.offset b.offset && (nat_eq a.caller b.caller && same_callee a b)) outer.0 in
    let second = and_parts (nat_eq a.offset b.offset) (nat_eq a.caller b.caller && same_callee a b) first.1 in
    let third = and_parts (nat_eq a.caller b.caller) (same_callee a b) second.1 in
    let files : a.file ≡ b.file = (Decides-eqb a.file b.file).0 first.0 in
    let offsets : a.offset ≡ b.offset = (Decides-eqb a.offset b.offset).0 second.0 in
    let callers : a.caller ≡ b.caller = (Decides-eqb a.caller b.caller).0 third.0 in
    let own = callee_parts a b third.1 in
    let means : a.means ≡ b.means = option_parts a.means b.means outer.1 in
    λ i. record {
      file = files i;
      offset = offsets i;
      caller = callers i;
      callee = own.callee i;
      added = own.added i;
      negated = own.negated i;
      means = means i;
    }

-- the callees of two names that are the same are too
same_means : (seen : Seen) (a b : CallAt) → a.means ≡ found seen a.callee.module a.callee.name a.callee.arity
    → b.means ≡ found seen b.callee.module b.callee.name b.callee.arity → same_name a b ≡ true → a.means ≡ b.means
same_means seen a b first second e =
    let outer = and_parts (nat_eq a.file b.file) (nat_eq a.offset b.offset && (nat_eq a.caller b.caller && same_callee a b)) e in
    let inner = and_parts (nat_eq a.offset b.offset) (nat_eq a.caller b.caller && same_callee a b) outer.1 in
    let last = and_parts (nat_eq a.caller b.caller) (same_callee a b) inner.1 in
    let callees : a.callee ≡ b.callee = (callee_parts a b last.1).callee in
    first ∙ ap (λ (p : PredName). found seen p.module p.name p.arity) callees ∙ sym second

-- so the order of calls is that of their places and names
names_rise : (seen : Seen) (a b : CallAt) → a.means ≡ found seen a.callee.module a.callee.name a.callee.arity
    → b.means ≡ found seen b.callee.module b.callee.name b.callee.arity → whole_cmp a b ≡ Less → call_cmp a b ≡ Less
names_rise seen a b first second less = by_cmp (call_cmp a b) refl less
  where
    by_cmp : (o : Ordering) → call_cmp a b ≡ o → ordering_then o (option_cmp nat_cmp a.means b.means) ≡ Less → call_cmp a b ≡ Less
    by_cmp Less is lt = is
    by_cmp Equal is lt =
        let means = same_means seen a b first second (same_name_ties a b ∙ ap is_eq is) in
        let tied : option_cmp nat_cmp a.means b.means ≡ Equal =
        ap (λ o. option_cmp nat_cmp a.means o) (sym means) ∙ tied_itself (options_total nat_cmp_total) a.means in
        let both : Equal ≡ Less = sym tied ∙ lt in
        absurd (cc)
    by_cmp Greater is lt = let both : Greater ≡ Less = lt in absurd (cc)

-- sorted, and each once

abbrev pub kept_cmp : PlacedCall → PlacedCall → Ordering
kept_cmp a b = whole_cmp (see_call a) (see_call b)

abbrev pub kept_eq : PlacedCall → PlacedCall → Bool
kept_eq a b = same_call (see_call a) (see_call b)

pub all_calls : (seen : Seen) (callers : List ℕ) (calls sorted kept : List PlacedCall)
    → ((c : CallAt) → Contains (see_calls calls) c ↔ IsAmong (IsCallOf seen) callers c)
    → IsPermutation calls sorted → IsSorted kept_cmp sorted → IsFiltered (DiffersFromLast kept_eq) [] sorted kept → AreCallsOf seen callers (see_calls kept)
all_calls seen callers calls sorted kept told moved in_order filtered =
    let is = dedup_is kept_eq sorted kept filtered in
    let once = dedup kept_eq sorted in
    let rises = IsStrictlySortedBy-dedup (on_total see_call whole_cmp_total) (λ a b. same_call_ties (see_call a) (see_call b)) sorted in_order in
    let there : (c : PlacedCall) → Contains once c → Contains calls c =
    λ c has. Contains-permutation sorted calls c (IsPermutation-sym calls sorted moved) (Contains-from_dedup kept_eq sorted c has) in
    let among : (c : PlacedCall) → Contains once c → IsAmong (IsCallOf seen) callers (see_call c) =
    λ c has. (told (see_call c)).0 ((map_has see_call calls (see_call c)).1 (record { one = c; has = there c has; is = refl })) in
    let P : List CallAt → Type 0 = λ xs. AreCallsOf seen callers xs in
    subst P (sym (ap (map see_call) is))
    (record {
      ordered =
          all_pairs_map (λ a b. call_cmp a b ≡ Less) see_call once
          (λ i j d before lt.
          let first = among (get_or once i d) (stands_in once i (get_or once i d) (slice_get-get_or once i d (omega (arith, before, lt)))) in
          let second = among (get_or once j d) (stands_in once j (get_or once j d) (slice_get-get_or once j d lt)) in
          names_rise seen (see_call (get_or once i d)) (see_call (get_or once j d)) first.is.is.means_is second.is.is.means_is
          (Less-from_sorted kept_cmp once i j d rises before lt));
      each = λ c. (
        λ has.
            let one = (map_has see_call once c).0 has in
            (told c).0 ((map_has see_call calls c).1 (record { one = one.one; has = there one.one one.has; is = one.is })),
        λ is_among.
            let one = (map_has see_call calls c).0 ((told c).1 is_among) in
            let found_one = Any-dedup (on_equiv see_call call_equiv) sorted one.one (Contains-permutation calls sorted one.one moved one.has) in
            let same : see_call one.one ≡ see_call found_one.1 = same_call_parts (see_call one.one) (see_call found_one.1) found_one.4 in
            (map_has see_call once c).1 (record { one = found_one.1; has = (found_one.0, found_one.2, found_one.3); is = sym same ∙ one.is }),
      );
    })

-- the same of calls of which something else is true, and each of which has what its name means

pub record AreOnce (Q : CallAt → Type 0) (calls : List CallAt) : Type 0 where
  pub ordered : AllPairs (λ a b. call_cmp a b ≡ Less) calls
  pub each : (c : CallAt) → Contains calls c ↔ Q c

pub all_once : (seen : Seen) (Q : CallAt → Type 0) (calls sorted kept : List PlacedCall)
    → ((c : CallAt) → Q c → c.means ≡ found seen c.callee.module c.callee.name c.callee.arity) → ((c : CallAt) → Contains (see_calls calls) c ↔ Q c)
    → IsPermutation calls sorted → IsSorted kept_cmp sorted → IsFiltered (DiffersFromLast kept_eq) [] sorted kept → AreOnce Q (see_calls kept)
all_once seen Q calls sorted kept means told moved in_order filtered =
    let is = dedup_is kept_eq sorted kept filtered in
    let once = dedup kept_eq sorted in
    let rises = IsStrictlySortedBy-dedup (on_total see_call whole_cmp_total) (λ a b. same_call_ties (see_call a) (see_call b)) sorted in_order in
    let there : (c : PlacedCall) → Contains once c → Contains calls c =
    λ c has. Contains-permutation sorted calls c (IsPermutation-sym calls sorted moved) (Contains-from_dedup kept_eq sorted c has) in
    let among : (c : PlacedCall) → Contains once c → Q (see_call c) =
    λ c has. (told (see_call c)).0 ((map_has see_call calls (see_call c)).1 (record { one = c; has = there c has; is = refl })) in
    subst (AreOnce Q) (sym (ap (map see_call) is))
    (record {
      ordered =
          all_pairs_map (λ a b. call_cmp a b ≡ Less) see_call once
          (λ i j d before lt.
          let a = get_or once i d in
          let b = get_or once j d in
          let first = among a (stands_in once i a (slice_get-get_or once i d (omega (arith, before, lt)))) in
          let second = among b (stands_in once j b (slice_get-get_or once j d lt)) in
          names_rise seen (see_call a) (see_call b) (means (see_call a) first) (means (see_call b) second) (Less-from_sorted kept_cmp once i j d rises before lt));
      each = λ c. (
        λ has.
            let one = (map_has see_call once c).0 has in
            (told c).0 ((map_has see_call calls c).1 (record { one = one.one; has = there one.one one.has; is = one.is })),
        λ holds.
            let one = (map_has see_call calls c).0 ((told c).1 holds) in
            let found_one = Any-dedup (on_equiv see_call call_equiv) sorted one.one (Contains-permutation calls sorted one.one moved one.has) in
            let same : see_call one.one ≡ see_call found_one.1 = same_call_parts (see_call one.one) (see_call found_one.1) found_one.4 in
            (map_has see_call once c).1 (record { one = found_one.1; has = (found_one.0, found_one.2, found_one.3); is = sym same ∙ one.is }),
      );
    })
