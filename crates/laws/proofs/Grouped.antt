-- Definitions leave predicates: those of their names and arities, in order, each once.
use Rattle.std.proofs.Common.{◌≡◌, ◌⊎◌, inl, inr, List, [], ◌∷◌, refl, ap, sym, ◌∙◌, subst}
use Rattle.std.specs.Prelude.{All, Contains}
use Rattle.std.specs.Ordering.{is_eq, ordering_reverse}
use Rattle.std.specs.declared.cmp.Ordering.{Ordering}
use Rattle.std.specs.declared.cmp.Ordering.TheVariants.{Less, Equal, Greater}
use Rattle.std.specs.List.Sorted.{IsStrictlySortedBy}
use Rattle.std.proofs.lemmas.List.Elements.{All-nil, All-cons, All-from_recursion, recursion_from_All, All-weaker, All-contains, All-contains_itself}
use Rattle.list_laws.proofs.OneOrder.{nothing_in, first_or_rest, in_rest, in_first}
use Rattle.module_table.specs.Defined.{Defines, Predicate, IsDefined, AreDefined, predicate_cmp, clauses_for}
use Rattle.module_table.proofs.Grouping.{predicate_at}
use Rattle.module_table.proofs.PredicateOrder.{predicate_cmp_total, same_ties, same_parts}

module _ (ds : List Defines) where
  -- the predicate has the clauses of its definitions
  abbrev HasOwn : Predicate → Type 0
  HasOwn p = p.clauses ≡ clauses_for p.module_ p.name p.arity ds

  -- so two of one name and arity are one
  one_predicate : (p q : Predicate) → HasOwn p → HasOwn q → predicate_cmp p q ≡ Equal → p ≡ q
  one_predicate p q own other tie =
      let parts = same_parts p.module_ p.name p.arity q.module_ q.name q.arity (same_ties p.module_ p.name p.arity q.module_ q.name q.arity ∙ ap is_eq tie) in
      let clauses : p.clauses ≡ q.clauses = own ∙ ((λ i. clauses_for (parts.0 i) (parts.1 i) (parts.2 i) ds) ∙ sym other) in
      λ i. record { module_ = parts.0 i; name = parts.1 i; arity = parts.2 i; clauses = clauses i }

  -- the predicates in order, with one more
  record IsWith (q : Predicate) (ps : List Predicate) : Type 0 where
    out : List Predicate
    in_order : IsStrictlySortedBy predicate_cmp out
    own : All HasOwn out
    from : (p : Predicate) → Contains out p → (q ≡ p) ⊎ Contains ps p
    there : Contains out q
    rest : (p : Predicate) → Contains ps p → Contains out p

  abbrev IsAfter : Predicate → Predicate → Type 0
  IsAfter p y = predicate_cmp p y ≡ Less

  sorted_cons : (p : Predicate) (ps : List Predicate) → All (IsAfter p) ps → IsStrictlySortedBy predicate_cmp ps → IsStrictlySortedBy predicate_cmp (p ∷ ps)
  unfolding IsStrictlySortedBy
  sorted_cons p ps after up = (recursion_from_All (IsAfter p) ps after, up)

  sorted_after : (p : Predicate) (ps : List Predicate) → IsStrictlySortedBy predicate_cmp (p ∷ ps) → All (IsAfter p) ps
  unfolding IsStrictlySortedBy
  sorted_after p ps up = All-from_recursion (IsAfter p) ps up.0

  sorted_rest : (p : Predicate) (ps : List Predicate) → IsStrictlySortedBy predicate_cmp (p ∷ ps) → IsStrictlySortedBy predicate_cmp ps
  unfolding IsStrictlySortedBy
  sorted_rest p ps up = up.1

  sorted_none : IsStrictlySortedBy predicate_cmp []
  unfolding IsStrictlySortedBy
  sorted_none = tt

  -- before all
  put_first : (q : Predicate) (ps : List Predicate) → HasOwn q → All HasOwn ps → IsStrictlySortedBy predicate_cmp ps → All (IsAfter q) ps → IsWith q ps
  put_first q ps own all up after = record {
    out = q ∷ ps;
    in_order = sorted_cons q ps after up;
    own = All-cons HasOwn q ps own all;
    from = λ p has. first_or_rest q p ps has;
    there = in_first q ps;
    rest = λ p has. in_rest q p ps has;
  }

  -- it stands there already
  stays : (q p : Predicate) (ps : List Predicate) → All HasOwn (p ∷ ps) → IsStrictlySortedBy predicate_cmp (p ∷ ps) → q ≡ p → IsWith q (p ∷ ps)
  stays q p ps all up is = record {
    out = p ∷ ps;
    in_order = up;
    own = all;
    from = λ x has. inr has;
    there = subst (λ x. Contains (p ∷ ps) x) (sym is) (in_first p ps);
    rest = λ x has. has;
  }

  -- among those behind the first
  put_later : (q p : Predicate) (ps : List Predicate) → HasOwn p → All (IsAfter p) ps → IsAfter p q → IsWith q ps → IsWith q (p ∷ ps)
  put_later q p ps own after less found =
      let behind : (x : Predicate) → (q ≡ x) ⊎ Contains ps x → IsAfter p x = λ x case. elim case [
        | inl is ↦ subst (IsAfter p) is less
        | inr has ↦ All-contains (IsAfter p) ps x after has
      ] in
      record {
        out = p ∷ found.out;
        in_order = sorted_cons p found.out
            (All-weaker (Contains found.out) (IsAfter p) (λ x has. behind x (found.from x has)) found.out (All-contains_itself found.out)) found.in_order;
        own = All-cons HasOwn p found.out own found.own;
        from = λ x has. elim (first_or_rest p x found.out has) [
          | inl is ↦ inr (subst (λ y. Contains (p ∷ ps) y) is (in_first p ps))
          | inr later ↦ elim (found.from x later) [ inl is ↦ inl is | inr old ↦ inr (in_rest p x ps old) ]
        ];
        there = in_rest p q found.out found.there;
        rest = λ x has. elim (first_or_rest p x ps has) [
          | inl is ↦ subst (λ y. Contains (p ∷ found.out) y) is (in_first p found.out)
          | inr later ↦ in_rest p x found.out (found.rest x later)
        ];
      }

  less_turned : (r back : Ordering) → back ≡ ordering_reverse r → r ≡ Greater → back ≡ Less
  less_turned r back is greater = is ∙ ap ordering_reverse greater

  put : (q : Predicate) (ps : List Predicate) → HasOwn q → All HasOwn ps → IsStrictlySortedBy predicate_cmp ps → IsWith q ps
  put q [] own all up = put_first q [] own all up (All-nil (IsAfter q))
  put q (p ∷ ps) own all up = by_order (predicate_cmp q p) refl (put q ps own (tail_of all) (sorted_rest p ps up))
    where
      tail_of : All HasOwn (p ∷ ps) → All HasOwn ps
      tail_of whole = All-weaker (Contains ps) HasOwn (λ x has. All-contains HasOwn (p ∷ ps) x whole (in_rest p x ps has)) ps (All-contains_itself ps)

      by_order : (r : Ordering) → predicate_cmp q p ≡ r → IsWith q ps → IsWith q (p ∷ ps)
      by_order Less is found =
          put_first q (p ∷ ps) own all up
          (All-cons (IsAfter q) p ps is
          (All-weaker (IsAfter p) (IsAfter q) (λ x after. predicate_cmp_total.trans q p x is after) ps (sorted_after p ps up)))
      by_order Equal is found = stays q p ps all up (one_predicate q p own (All-contains HasOwn (p ∷ ps) p all (in_first p ps)) is)
      by_order Greater is found =
          put_later q p ps (All-contains HasOwn (p ∷ ps) p all (in_first p ps)) (sorted_after p ps up)
          (less_turned (predicate_cmp q p) (predicate_cmp p q) (predicate_cmp_total.antisymm p q) is) found

  abbrev own_of : Defines → Predicate
  own_of d = predicate_at d.module_ d.name d.arity ds

  -- the predicates of some of the definitions
  record ArePut (es : List Defines) : Type 0 where
    out : List Predicate
    in_order : IsStrictlySortedBy predicate_cmp out
    own : All HasOwn out
    from : (p : Predicate) → Contains out p → (d : Defines) × Contains es d × (own_of d ≡ p)
    there : (d : Defines) → Contains es d → Contains out (own_of d)

  put_all : (es : List Defines) → ArePut es
  put_all [] = record {
    out = [];
    in_order = sorted_none;
    own = All-nil HasOwn;
    from = λ p has. absurd (nothing_in p has);
    there = λ d has. absurd (nothing_in d has);
  }
  put_all (e ∷ es) =
      let found = put_all es in
      let more = put (own_of e) found.out refl found.own found.in_order in
      record {
        out = more.out;
        in_order = more.in_order;
        own = more.own;
        from = λ p has. elim (more.from p has) [
          | inl is ↦ (e, in_first e es, is)
          | inr old ↦ let one = found.from p old in (one.0, in_rest e one.0 es one.1, one.2)
        ];
        there = λ d has. elim (first_or_rest e d es has) [
          | inl is ↦ subst (λ x. Contains more.out (own_of x)) is more.there
          | inr later ↦ more.rest (own_of d) (found.there d later)
        ];
      }

pub defined_some : (ds : List Defines) → (defined : List Predicate) × AreDefined ds defined
defined_some ds =
    let all = put_all ds ds in (
      all.out,
      record {
        in_order = all.in_order;
        each = λ p has.
            let one = all.from p has in
            (subst (λ (x : Predicate). IsDefined x.module_ x.name x.arity ds) one.2 (record { clause = one.0.clause; stands = one.1 }), All-contains (HasOwn ds) all.out p all.own has);
        all = λ owner name arity is. all.there (record { module_ = owner; name = name; arity = arity; clause = is.clause }) is.stands;
      },
    )
