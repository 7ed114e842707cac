-- Calls that go to no predicate.
use Rattle.std.proofs.Common.{◌≡◌, ◌↔◌, ℕ, Bool, List, [], Option, Some, None, map, ap, sym, ◌∙◌, subst, refl}
use Rattle.std.specs.Prelude.{Contains}
use Rattle.std.specs.List.{dedup, filter_map}
use Rattle.std.specs.List.Retain.{IsFiltered, DiffersFromLast}
use Rattle.std.specs.List.Sorted.{IsSorted, IsPermutation}
use Rattle.std.specs.declared.cmp.Ordering.TheVariants.{Less}
use Rattle.std.specs.Cmp.{IsEquivalence}
use Rattle.std.specs.declared.cmp.Ordering.{Ordering}
use Rattle.std.proofs.lemmas.Cmp.{on_total, and_equiv, on_equiv, nat_list_eq_equiv, nat_eq_equiv}
use Rattle.std.proofs.lemmas.List.Filters.{dedup_is}
use Rattle.std.proofs.lemmas.List.Kept.{Any-dedup, Contains-from_dedup, IsStrictlySortedBy-dedup}
use Rattle.std.proofs.lemmas.List.Sorted.{Contains-permutation, IsPermutation-sym}
use Rattle.std.proofs.lemmas.Map.Keys.{Less-from_sorted}
use Rattle.std.proofs.lemmas.Option.{none-some, same_Some}
use Rattle.list_laws.proofs.Members.{all_by}
use Rattle.import_rules.specs.declared.names.PredName.{PredName}
use Rattle.import_rules.specs.Names.{pred_cmp, is_same, pred_name}
use Rattle.import_rules.specs.Program.{Seen, found}
use Rattle.import_rules.proofs.Lists.{all_pairs_map}
use Rattle.import_rules.proofs.NameOrder.{pred_cmp_total, same_ties, same_parts}
use Rattle.call_edges.specs.declared.role.Met.{Met as MetKept}
use Rattle.call_edges.specs.declared.unresolved.Called.{Called}
use Rattle.call_edges.specs.Goals.{Met, call, fault, Adds}
use Rattle.call_edges.specs.Seen.{see_met, see_mets}
use Rattle.call_edges.specs.Calls.{IsAmong, IsMetIn}
use Rattle.call_edges.specs.Called.{see_called, unless_found, unresolved}
use Rattle.call_edges.specs.Unresolved.{IsUnresolvedOf, IsUnresolved, AreUnresolved}
use Rattle.call_edges.proofs.AddsLemmas.{adds_as}
use Rattle.call_edges.proofs.AmongLemmas.{among_given, map_has}
use Rattle.call_edges.proofs.CallLemmas.{adds_from_none}

module _ (seen : Seen) where
  abbrev pub IsKeptName : MetKept → PredName → Type 0
  IsKeptName one name = unresolved seen (see_met one) ≡ Some name

  -- what it says that a call has no predicate: it has the name, which means none
  record IsCallOf (m : Met) (wanted : PredName) : Type 0 where
    at : ℕ
    added : ℕ
    negated : Bool
    same : m ≡ call at wanted.module wanted.name wanted.arity added negated
    none : found seen wanted.module wanted.name wanted.arity ≡ None

  call_found : (at : ℕ) (owner name : List ℕ) (arity more : ℕ) (negated : Bool) (wanted : PredName) (o : Option ℕ) → found seen owner name arity ≡ o
      → unless_found (pred_name owner name arity) o ≡ Some wanted → IsCallOf (call at owner name arity more negated) wanted
  call_found at owner name arity more negated wanted (Some n) here is = absurd (none-some wanted is)
  call_found at owner name arity more negated wanted None here is =
      let same : pred_name owner name arity ≡ wanted = same_Some (pred_name owner name arity) wanted is in
      record {
        at = at;
        added = more;
        negated = negated;
        same = ap (λ (p : PredName). call at p.module p.name p.arity more negated) same;
        none = subst (λ (p : PredName). found seen p.module p.name p.arity ≡ None) same here;
      }

  kept_name : (m : Met) (wanted : PredName) → unresolved seen m ≡ Some wanted → IsCallOf m wanted
  kept_name (call at owner name arity more negated) wanted is = call_found at owner name arity more negated wanted (found seen owner name arity) refl is
  kept_name (fault at) wanted is = absurd (none-some wanted is)

  name_kept : (m : Met) (at more : ℕ) (negated : Bool) (wanted : PredName) → m ≡ call at wanted.module wanted.name wanted.arity more negated → found seen wanted.module wanted.name wanted.arity ≡ None
      → unresolved seen m ≡ Some wanted
  name_kept m at more negated wanted same none = ap (unresolved seen) same ∙ ap (unless_found wanted) none

  pub names_kept : (met : List MetKept) (old new : List PredName) → Adds (IsAmong IsKeptName met) old new → Adds (IsUnresolvedOf seen (Contains (see_mets met))) old new
  names_kept met old new adds =
      adds_as (IsAmong IsKeptName met) (IsUnresolvedOf seen (Contains (see_mets met))) old new
      (λ name among.
      let one = kept_name (see_met among.one) name among.is in
      record {
        at = one.at;
        added = one.added;
        negated = one.negated;
        met = (map_has see_met met (call one.at name.module name.name name.arity one.added one.negated)).1 (record { one = among.one; has = among.has; is = one.same });
        means_none = one.none;
      })
      (λ name is.
      let kept = (map_has see_met met (call is.at name.module name.name name.arity is.added is.negated)).0 is.met in
      record { one = kept.one; has = kept.has; is = name_kept (see_met kept.one) is.at is.added is.negated name kept.is is.means_none })
      adds

  pub unresolved_as : (P Q : Met → Type 0) (name : PredName) → ((m : Met) → P m → Q m) → IsUnresolvedOf seen P name → IsUnresolvedOf seen Q name
  unresolved_as P Q name to un = record {
    at = un.at;
    added = un.added;
    negated = un.negated;
    met = to (call un.at name.module name.name name.arity un.added un.negated) un.met;
    means_none = un.means_none;
  }

  -- those of what is met in a predicate
  pub node_names : (node : ℕ) (met : List Met) (old new : List PredName) → ((m : Met) → Contains met m ↔ IsMetIn seen node m) → old ≡ []
      → Adds (IsUnresolvedOf seen (Contains met)) old new → (name : PredName) → Contains new name ↔ IsUnresolved seen node name
  node_names node met old new are none adds name =
      let has = adds_from_none (IsUnresolvedOf seen (Contains met)) old new none adds name in (
        λ there. unresolved_as (Contains met) (IsMetIn seen node) name (λ m. (are m).0) (has.0 there),
        λ un. has.1 (unresolved_as (IsMetIn seen node) (Contains met) name (λ m. (are m).1) un),
      )

  -- the names that are met in a predicate and mean none
  pub met_unresolved : (node : ℕ) (met : List Met) → ((m : Met) → Contains met m ↔ IsMetIn seen node m)
      → (name : PredName) → Contains (filter_map (unresolved seen) met) name ↔ IsUnresolved seen node name
  met_unresolved node met are name =
      let given = among_given (λ (x : PredName) (y : PredName). x ≡ y) (unresolved seen) met name in (
        λ has.
            let one = given.0 (record { one = name; has = has; is = refl }) in
            let named = kept_name one.one name (one.is.is ∙ ap (λ n. Some n) one.is.holds) in
            record {
              at = named.at;
              added = named.added;
              negated = named.negated;
              met = subst (IsMetIn seen node) named.same ((are one.one).0 one.has);
              means_none = named.none;
            },
        λ un.
            let m = call un.at name.module name.name name.arity un.added un.negated in
            let back =
            given.1 (record { one = m; has = (are m).1 un.met; is = record { one = name; is = name_kept m un.at un.added un.negated name refl un.means_none; holds = refl } }) in
            subst (Contains (filter_map (unresolved seen) met)) back.is back.has,
      )

-- names that are called, sorted and each once

abbrev pub called_cmp : Called → Called → Ordering
called_cmp a b = pred_cmp (see_called a) (see_called b)

abbrev pub called_eq : Called → Called → Bool
called_eq a b = is_same (see_called a) (see_called b)

same_equiv : IsEquivalence is_same
same_equiv =
    and_equiv (on_equiv (λ (p : PredName). p.module) nat_list_eq_equiv)
    (and_equiv (on_equiv (λ (p : PredName). p.name) nat_list_eq_equiv) (on_equiv (λ (p : PredName). p.arity) nat_eq_equiv))

pub all_names : (seen : Seen) (node : ℕ) (called sorted kept : List Called) (names : List PredName)
    → ((name : PredName) → Contains (map see_called called) name ↔ IsUnresolved seen node name)
    → IsPermutation called sorted → IsSorted called_cmp sorted → IsFiltered (DiffersFromLast called_eq) [] sorted kept → names ≡ map see_called kept → AreUnresolved seen node names
all_names seen node called sorted kept names told moved in_order filtered are =
    let is = dedup_is called_eq sorted kept filtered in
    let once = dedup called_eq sorted in
    let rises = IsStrictlySortedBy-dedup (on_total see_called pred_cmp_total) (λ a b. same_ties (see_called a) (see_called b)) sorted in_order in
    let P : List PredName → Type 0 = λ xs. AreUnresolved seen node xs in
    subst P (sym (are ∙ ap (map see_called) is))
    (record {
      ordered = all_pairs_map (λ p q. pred_cmp p q ≡ Less) see_called once (λ i j d before lt. Less-from_sorted called_cmp once i j d rises before lt);
      sound = all_by (IsUnresolved seen node) (map see_called once) (λ name has.
          let one = (map_has see_called once name).0 has in
          let there = Contains-permutation sorted called one.one (IsPermutation-sym called sorted moved) (Contains-from_dedup called_eq sorted one.one one.has) in
          (told name).0 ((map_has see_called called name).1 (record { one = one.one; has = there; is = one.is })));
      all = λ name un.
          let one = (map_has see_called called name).0 ((told name).1 un) in
          let found_one = Any-dedup (on_equiv see_called same_equiv) sorted one.one (Contains-permutation called sorted one.one moved one.has) in
          let same : see_called one.one ≡ see_called found_one.1 = same_parts (see_called one.one) (see_called found_one.1) found_one.4 in
          (map_has see_called once name).1 (record { one = found_one.1; has = (found_one.0, found_one.2, found_one.3); is = sym same ∙ one.is });
    })
