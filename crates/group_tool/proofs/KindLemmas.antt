-- The kinds of effects that predicates have themselves.
use Rattle.std.proofs.Common.{◌≡◌, ◌⊎◌, inl, inr, ◌↔◌, ℕ, ◌<◌, ◌≤◌, ◌+◌, ◌*◌, ◌^◌, bit_and, bit_or, List, [], ◌∷◌, ◌++◌, Option, Some, None, Result, Ok, Err, IfOk, length, get_or, map, take, refl, sym, subst, ap, ◌∙◌, arith, append-nil}
use Rattle.std.specs.Int.{IsBitSet, bit_at}
use Rattle.std.specs.List.{AllZip, filter_map, range_with_len}
use Rattle.std.specs.Option.{option_to_list}
use Rattle.std.specs.declared.alloc.AllocError.{AllocError}
use Rattle.std.proofs.lemmas.Bool.{cases_eq}
use Rattle.std.specs.Prelude.{Contains, MatchResult}
use Rattle.std.proofs.lemmas.List.{get_or-map, length-map, take_all, get_or_default}
use Rattle.std.proofs.lemmas.List.Elements.{Contains-append_left, Contains-push, Contains-push_cases}
use Rattle.std.proofs.lemmas.List.FromFn.{get_or-range_with_len, length-range_with_len}
use Rattle.std.proofs.lemmas.Nat.{pow_pos}
use Rattle.std.proofs.lemmas.Nat.Bits.{and_pow, bit_at-lt, bit_at-zero, bit_at_or}
use Rattle.list_laws.proofs.OneOrder.{nothing_in}
use Rattle.effect_flow.specs.Kinds.{kinds}
use Rattle.import_rules.specs.declared.names.PredName.{PredName}
use Rattle.import_rules.specs.Names.{pred_name}
use Rattle.import_rules.specs.Program.{Seen}
use Rattle.call_edges.specs.declared.role.Met.{Met as MetKept}
use Rattle.call_edges.specs.Goals.{Met}
use Rattle.call_edges.specs.Seen.{see_met, see_mets}
use Rattle.call_edges.specs.Calls.{IsMetIn}
use Rattle.call_edges.specs.Called.{unless_found, unresolved}
use Rattle.call_edges.proofs.BodyLemmas.{given_more}
use Rattle.call_edges.proofs.UnresolvedLemmas.{met_unresolved}
use Rattle.list_laws.proofs.Zips.{zip_at, zip_count}
use Rattle.group_tool.specs.Parts.{AreOwnKinds, IsOwnKinds, SomeHasKind, kinds_given}

-- a bit that is set is 1
set_one : (n k : ℕ) → IsBitSet n k → bit_at n k ≡ 1
set_one n k set = elim (cases_eq (bit_at n k) 0) [
  | inl none ↦
      let at : bit_and n (2 ^ k) ≡ 0 * 2 ^ k = and_pow n k ∙ ap (λ b. b * 2 ^ k) none in
      let zero_is : bit_and n (2 ^ k) ≡ 0 = omega (arith, at) in
      absurd (set zero_is)
  | inr some ↦ let low = bit_at-lt n k in omega (arith, low, some)
]

one_set : (n k : ℕ) → bit_at n k ≡ 1 → IsBitSet n k
one_set n k one none = let some = pow_pos k in omega (arith, sym (and_pow n k) ∙ none, ap (λ b. b * 2 ^ k) one, some)

-- a bit of two numbers together is a bit of one of them
or_left : (a b k : ℕ) → IsBitSet a k → IsBitSet (bit_or a b) k
or_left a b k set =
    one_set (bit_or a b) k (let both = bit_at_or a b k in let one = set_one a k set in let low = bit_at-lt b k in omega (arith, both, one, low))

or_right : (a b k : ℕ) → IsBitSet b k → IsBitSet (bit_or a b) k
or_right a b k set =
    one_set (bit_or a b) k (let both = bit_at_or a b k in let one = set_one b k set in let low = bit_at-lt a k in omega (arith, both, one, low))

or_cases : (a b k : ℕ) → IsBitSet (bit_or a b) k → IsBitSet a k ⊎ IsBitSet b k
or_cases a b k set = elim (cases_eq (bit_at a k) 1) [
  | inl one ↦ inl (one_set a k one)
  | inr other ↦
      inr (one_set b k (
      let both = bit_at_or a b k in
      let one = set_one (bit_or a b) k set in
      let low = bit_at-lt a k in
      let low_too = bit_at-lt b k in
      omega (arith, both, one, low, low_too, other)
      ))
]

-- the number has the kinds of the names
abbrev pub AreKinds : List PredName → ℕ → Type 0
AreKinds names all = (kind : ℕ) → IsBitSet all kind ↔ SomeHasKind names kind

pub kinds_none : AreKinds [] 0
kinds_none kind = (
  λ set. let one = set_one 0 kind set in let none = bit_at-zero kind in let no : ⊥ = omega (arith, one, none) in absurd no,
  λ some. absurd (nothing_in some.name some.is_name),
)

pub kinds_more : (names : List PredName) (name : PredName) (all own : ℕ) → own ≡ kinds name.name name.arity → AreKinds names all → AreKinds (names ++ name ∷ []) (bit_or all own)
kinds_more names name all own is are kind = (
  λ set.
      elim (or_cases all own kind set) [
        | inl before ↦ let some = (are kind).0 before in record { name = some.name; is_name = Contains-append_left names (name ∷ []) some.name some.is_name; of_kind = some.of_kind }
        | inr now ↦ record { name = name; is_name = Contains-push names name; of_kind = subst (λ k. IsBitSet k kind) is now }
      ],
  λ some.
      elim (Contains-push_cases names name some.name some.is_name) [
        | inl before ↦ or_left all own kind ((are kind).1 (record { name = some.name; is_name = before; of_kind = some.of_kind }))
        | inr same ↦ or_right all own kind (subst (λ k. IsBitSet k kind) (sym is) (subst (λ (n : PredName). IsBitSet (kinds n.name n.arity) kind) (sym same) some.of_kind))
      ],
)

-- what is met, one after another

kinds_same : (names : List PredName) (all : ℕ) → AreKinds names all → AreKinds names (bit_or all 0)
kinds_same names all are kind = (
  λ set.
      elim (or_cases all 0 kind set) [
        | inl before ↦ (are kind).0 before
        | inr never ↦ let one = set_one 0 kind never in let none = bit_at-zero kind in let no : ⊥ = omega (arith, one, none) in absurd no
      ],
  λ some. or_left all 0 kind ((are kind).1 some),
)

kinds_option : (names : List PredName) (given : Option PredName) (all own : ℕ) → own ≡ kinds_given given → AreKinds names all
    → AreKinds (names ++ option_to_list given) (bit_or all own)
kinds_option names None all own is are =
    subst (λ ns. AreKinds ns (bit_or all own)) (sym (append-nil names)) (subst (λ k. AreKinds names (bit_or all k)) (sym is) (kinds_same names all are))
kinds_option names (Some name) all own is are = kinds_more names name all own is are

kinds_next : (seen : Seen) (met : List MetKept) (i : ℕ) (one : MetKept) (all own : ℕ) → i < length met → one ≡ get_or met i one
    → own ≡ kinds_given (unresolved seen (see_met one))
    → AreKinds (filter_map (unresolved seen) (see_mets (take i met))) all → AreKinds (filter_map (unresolved seen) (see_mets (take (i + 1) met))) (bit_or all own)
kinds_next seen met i one all own lt at is are =
    subst (λ ns. AreKinds ns (bit_or all own)) (sym (given_more (unresolved seen) see_met met i one (unresolved seen (see_met one)) lt at refl))
    (kinds_option (filter_map (unresolved seen) (see_mets (take i met))) (unresolved seen (see_met one)) all own is are)

-- the same for what stands at the place, whatever stood past the end
pub kinds_next_at : (seen : Seen) (met : List MetKept) (i : ℕ) (other : MetKept) (all own : ℕ) → i < length met → own ≡ kinds_given (unresolved seen (see_met (get_or met i other)))
    → AreKinds (filter_map (unresolved seen) (see_mets (take i met))) all → AreKinds (filter_map (unresolved seen) (see_mets (take (i + 1) met))) (bit_or all own)
kinds_next_at seen met i other all own lt is are =
    kinds_next seen met i (get_or met i other) all own lt (get_or_default met i other (get_or met i other) lt) is are

pub kinds_whole : (seen : Seen) (met : List MetKept) (i all : ℕ) → length met ≤ i → AreKinds (filter_map (unresolved seen) (see_mets (take i met))) all
    → AreKinds (filter_map (unresolved seen) (see_mets met)) all
kinds_whole seen met i all whole are = subst (λ ms. AreKinds (filter_map (unresolved seen) (see_mets ms)) all) (take_all i met whole) are

-- a name without a kind, whether it means a predicate or not
pub none_given : (owner name : List ℕ) (arity : ℕ) (target : Option ℕ) → kinds name arity ≡ 0 → 0 ≡ kinds_given (unless_found (pred_name owner name arity) target)
none_given owner name arity None none = sym none
none_given owner name arity (Some node) none = refl

-- the kinds of the names that a predicate calls and that mean none
pub own_of : (seen : Seen) (node : ℕ) (met : List Met) (all : ℕ) → ((m : Met) → Contains met m ↔ IsMetIn seen node m)
    → AreKinds (filter_map (unresolved seen) met) all → IsOwnKinds seen node all
own_of seen node met all are kinds kind low = (
  λ set.
      let some = (kinds kind).0 set in
      record { name = some.name; unresolved = (met_unresolved seen node met are some.name).0 some.is_name; of_kind = some.of_kind },
  λ has. (kinds kind).1 (record { name = has.name; is_name = (met_unresolved seen node met are has.name).1 has.unresolved; of_kind = has.of_kind }),
)

-- what is found of each predicate

abbrev pub found_kinds : ℕ → Result ℕ AllocError
found_kinds kinds = Ok kinds

pub each_own : (seen : Seen) (count : ℕ) (own : List ℕ) → count ≡ length seen.predicates
    → AllZip (λ node one. IfOk one (IsOwnKinds seen node)) (range_with_len 0 count) (map found_kinds own) → AreOwnKinds seen own
each_own seen count own whole zip =
    let R : ℕ → Result ℕ AllocError → Type 0 = λ node one. IfOk one (IsOwnKinds seen node) in
    let as_long : count ≡ length own = sym (length-range_with_len 0 count) ∙ (zip_count R (range_with_len 0 count) (map found_kinds own) zip ∙ length-map own found_kinds) in
    record {
      each = sym as_long ∙ whole;
      are = λ kind node low lt.
          let inside : node < count = omega (arith, lt, whole) in
          let here = zip_at R (range_with_len 0 count) (map found_kinds own) node 0 (found_kinds 0) zip (omega (arith, inside, length-range_with_len 0 count)) in
          let from_zero : 0 + node ≡ node = omega arith in
          let number : get_or (range_with_len 0 count) node 0 ≡ node = get_or-range_with_len 0 count node 0 inside ∙ from_zero in
          let kinds : get_or (map found_kinds own) node (found_kinds 0) ≡ found_kinds (get_or own node 0) =
          get_or-map found_kinds own node 0 (found_kinds 0) (omega (arith, inside, as_long)) in
          subst (λ n. IsOwnKinds seen n (get_or own node 0)) number
          (subst (λ one. IfOk one (IsOwnKinds seen (get_or (range_with_len 0 count) node 0))) kinds here) kind low;
    }

pub each_found : {V : Type 0} (items : V → List ℕ) (seen : Seen) (count : ℕ) (xs : List (Result ℕ AllocError)) (found : Result V AllocError) → count ≡ length seen.predicates
    → AllZip (λ node one. IfOk one (IsOwnKinds seen node)) (range_with_len 0 count) xs
    → MatchResult found (λ own. (ys : List ℕ) × (xs ≡ map found_kinds ys) × (items own ≡ ys)) (λ e. Contains xs (Err e)) → IfOk found (λ own. AreOwnKinds seen (items own))
each_found items seen count xs (Ok own) whole zip is =
    let R : ℕ → Result ℕ AllocError → Type 0 = λ node one. IfOk one (IsOwnKinds seen node) in
    subst (AreOwnKinds seen) (sym is.2) (each_own seen count is.0 whole (subst (AllZip R (range_with_len 0 count)) is.1 zip))
each_found items seen count xs (Err e) whole zip is = tt
