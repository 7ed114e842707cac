-- A change at one pair of a table.
use Rattle.std.proofs.Common.{ℕ, ◌≡◌, ◌≤◌, ◌==◌, ◌⊎◌, not, ◌&&◌, nat_lt, arith, inl, inr, List, Option, Some, None, Bool, true, false, cond, refl, ap, sym, subst, ◌∙◌, is_some}
use Rattle.std.proofs.Math.Path.{fun_ext}
use Rattle.std.proofs.lemmas.Bool.{cases_Bool}
use Rattle.std.proofs.lemmas.Slice.Eq.{bytes_eq-Decides}
use Rattle.std.proofs.lemmas.Bool.Decides.{nat_tests}
use Rattle.std.specs.Str.{bytes_eq}
use Rattle.prolog_ops.specs.declared.op.Op.{Op}
use Rattle.prolog_ops.specs.ByName.{Entries, ByName, op_at, with_op}
use Rattle.prolog_ops.specs.declared.op.OpKind.{OpKind}
use Rattle.prolog_ops.specs.declared.table.OpFault.TheVariants.{BadPriority, FixedOp, InfixAndPostfix}
use Rattle.prolog_ops.specs.Table.{Place, Prefix, Infix, Postfix, Ops, Lists, place_of, with_pair, is_fixed, has_rival, set_fault, opening, Fits, IsOps, ops_of}

-- texts that compare equal are equal
pub same_name : (a b : List ℕ) → bytes_eq a b ≡ true → a ≡ b
same_name a b h = (bytes_eq-Decides a b).0 h

-- a name has the new operator, or what it had
pub at_name : (ops : ByName) (name : List ℕ) (op : Option Op) (other : List ℕ)
    → (with_op ops name op other ≡ ops other) ⊎ ((name ≡ other) × (with_op ops name op other ≡ op))
at_name ops name op other =
    elim (cases_Bool (bytes_eq name other)) [
      | inl hit ↦ inr (same_name name other hit, ap (λ b. cond b op (ops other)) hit)
      | inr miss ↦ inl (ap (λ b. cond b op (ops other)) miss)
    ]

-- a pair has the new operator, or what it had
abbrev IsKept : Ops → Place → List ℕ → Option Op → Place → List ℕ → Type 0
IsKept table place name op other_place other = with_pair table place name op other_place other ≡ table other_place other

abbrev IsHit : Ops → Place → List ℕ → Option Op → Place → List ℕ → Type 0
IsHit table place name op other_place other =
    (place ≡ other_place) × (name ≡ other) × (with_pair table place name op other_place other ≡ op)

at_pair : (table : Ops) (place : Place) (name : List ℕ) (op : Option Op) (other_place : Place) (other : List ℕ)
    → IsKept table place name op other_place other ⊎ IsHit table place name op other_place other
at_pair table Prefix name op Prefix other = elim (at_name (table Prefix) name op other) [ inl kept ↦ inl kept | inr hit ↦ inr (refl, hit.0, hit.1) ]
at_pair table Infix name op Infix other = elim (at_name (table Infix) name op other) [ inl kept ↦ inl kept | inr hit ↦ inr (refl, hit.0, hit.1) ]
at_pair table Postfix name op Postfix other = elim (at_name (table Postfix) name op other) [ inl kept ↦ inl kept | inr hit ↦ inr (refl, hit.0, hit.1) ]
at_pair table Prefix name op Infix other = inl refl
at_pair table Prefix name op Postfix other = inl refl
at_pair table Infix name op Prefix other = inl refl
at_pair table Infix name op Postfix other = inl refl
at_pair table Postfix name op Prefix other = inl refl
at_pair table Postfix name op Infix other = inl refl

-- a table stays one where an operator that fits is put at a name that isn't fixed and has no rival
module _ (table : Ops) (is : IsOps table) (place : Place) (name : List ℕ) (op : Option Op)
    (free : is_fixed name ≡ false) (fits : (o : Op) → op ≡ Some o → Fits place o) (no_rival : is_some op ≡ true → has_rival table place name ≡ false) where
  still_fixed : (p : Place) (other : List ℕ) → is_fixed other ≡ true → with_pair table place name op p other ≡ opening p other
  still_fixed p other fixed =
      elim (at_pair table place name op p other) [
        | inl kept ↦ kept ∙ is.fixed p other fixed
        | inr hit ↦ let both : true ≡ false = sym fixed ∙ ap is_fixed (sym hit.1) ∙ free in cc
      ]

  still_fits : (p : Place) (other : List ℕ) (o : Op) → with_pair table place name op p other ≡ Some o → Fits p o
  still_fits p other o h =
      elim (at_pair table place name op p other) [
        | inl kept ↦ is.fits p other o (sym kept ∙ h)
        | inr hit ↦ subst (λ q. Fits q o) hit.0 (fits o (sym hit.2 ∙ h))
      ]

  -- the rival of a pair that was hit is what it was
  no_two : (other : List ℕ) (rival : Option Op) → is_some op ≡ true → name ≡ other → has_rival table place name ≡ is_some rival → is_some rival ≡ true → ⊥
  no_two other rival some same rival_is there = let both : true ≡ false = sym there ∙ sym rival_is ∙ no_rival some in cc

  still_apart : (other : List ℕ) → is_some (with_pair table place name op Infix other) ≡ true → is_some (with_pair table place name op Postfix other) ≡ true → ⊥
  still_apart other infix_there postfix_there =
      elim (at_pair table place name op Infix other) [
        | inl infix_kept ↦ elim (at_pair table place name op Postfix other) [
          | inl postfix_kept ↦ is.apart other (ap is_some (sym infix_kept) ∙ infix_there) (ap is_some (sym postfix_kept) ∙ postfix_there)
          | inr hit ↦
              no_two other (table Infix other) (ap is_some (sym hit.2) ∙ postfix_there) hit.1
              (ap (λ p. has_rival table p name) hit.0 ∙ ap (λ n. is_some (table Infix n)) hit.1) (ap is_some (sym infix_kept) ∙ infix_there)
        ]
        | inr hit ↦ elim (at_pair table place name op Postfix other) [
          | inl postfix_kept ↦
              no_two other (table Postfix other) (ap is_some (sym hit.2) ∙ infix_there) hit.1
              (ap (λ p. has_rival table p name) hit.0 ∙ ap (λ n. is_some (table Postfix n)) hit.1) (ap is_some (sym postfix_kept) ∙ postfix_there)
          | inr second ↦ let both : Infix ≡ Postfix = sym hit.0 ∙ second.0 in cc
        ]
      ]

  pub with_pair_is : IsOps (with_pair table place name op)
  with_pair_is = record { fixed = still_fixed; apart = still_apart; fits = still_fits }

-- what holds where an operator can be set
record IsLawful (table : Ops) (name : List ℕ) (kind : OpKind) (priority : ℕ) : Type 0 where
  most : priority ≤ 1200
  free : is_fixed name ≡ false
  no_rival : (not (priority == 0) && has_rival table (place_of kind) name) ≡ false

lawful : (table : Ops) (name : List ℕ) (kind : OpKind) (priority : ℕ) → set_fault table name kind priority ≡ None → IsLawful table name kind priority
lawful table name kind priority h =
    of (nat_lt 1200 priority) (is_fixed name) (not (priority == 0) && has_rival table (place_of kind) name) refl refl refl h
  where
    of : (over fixed rival : Bool) → nat_lt 1200 priority ≡ over → is_fixed name ≡ fixed → (not (priority == 0) && has_rival table (place_of kind) name) ≡ rival
        → cond over (Some BadPriority) (cond fixed (Some FixedOp) (cond rival (Some InfixAndPostfix) None)) ≡ None → IsLawful table name kind priority
    of true fixed rival over_is fixed_is rival_is none = cc
    of false true rival over_is fixed_is rival_is none = cc
    of false false true over_is fixed_is rival_is none = cc
    of false false false over_is fixed_is rival_is none = record { most = grind (arith, nat_tests); free = fixed_is; no_rival = rival_is }

-- what a name gets where an operator is set
abbrev pub set_op : Op → Option Op
set_op op = cond (op.priority == 0) None (Some op)

set_fits : (op o : Op) (zero : Bool) → (op.priority == 0) ≡ zero → cond zero None (Some op) ≡ Some o → op.priority ≤ 1200 → Fits (place_of op.kind) o
set_fits op o true zero_is h most = cc
set_fits op o false zero_is h most =
    let same : op ≡ o = (let both : Some op ≡ Some o = h in cc) in
    subst (λ q. Fits (place_of op.kind) q) same (record { there = refl; some = grind (arith, nat_tests); most = most })

set_no_rival : (op : Op) (rival zero : Bool) → (not zero && rival) ≡ false → is_some (cond zero None (Some op)) ≡ true → rival ≡ false
set_no_rival op rival true h some = cc
set_no_rival op rival false h some = h

-- a table in which an operator is set is one
pub with_set_is : (table : Ops) → IsOps table → (name : List ℕ) (op : Op) → set_fault table name op.kind op.priority ≡ None
    → IsOps (with_pair table (place_of op.kind) name (set_op op))
with_set_is table is name op h =
    let may : IsLawful table name op.kind op.priority = lawful table name op.kind op.priority h in
    with_pair_is table is (place_of op.kind) name (set_op op) may.free
    (λ o some. set_fits op o (op.priority == 0) refl some may.most)
    (set_no_rival op (has_rival table (place_of op.kind) name) (op.priority == 0) may.no_rival)

-- a change in one of the lists is a change at that place

pub prefixes_changed : (lists : Lists) (new : Entries) (name : List ℕ) (op : Option Op) → op_at new ≡ with_op (op_at lists.prefixes) name op
    → ops_of (record { prefixes = new; infixes = lists.infixes; postfixes = lists.postfixes }) ≡ with_pair (ops_of lists) Prefix name op
prefixes_changed lists new name op h = fun_ext at
  where
    at : (p : Place) → ops_of (record { prefixes = new; infixes = lists.infixes; postfixes = lists.postfixes }) p ≡ with_pair (ops_of lists) Prefix name op p
    at Prefix = h
    at Infix = refl
    at Postfix = refl

pub infixes_changed : (lists : Lists) (new : Entries) (name : List ℕ) (op : Option Op) → op_at new ≡ with_op (op_at lists.infixes) name op
    → ops_of (record { prefixes = lists.prefixes; infixes = new; postfixes = lists.postfixes }) ≡ with_pair (ops_of lists) Infix name op
infixes_changed lists new name op h = fun_ext at
  where
    at : (p : Place) → ops_of (record { prefixes = lists.prefixes; infixes = new; postfixes = lists.postfixes }) p ≡ with_pair (ops_of lists) Infix name op p
    at Prefix = refl
    at Infix = h
    at Postfix = refl

pub postfixes_changed : (lists : Lists) (new : Entries) (name : List ℕ) (op : Option Op) → op_at new ≡ with_op (op_at lists.postfixes) name op
    → ops_of (record { prefixes = lists.prefixes; infixes = lists.infixes; postfixes = new }) ≡ with_pair (ops_of lists) Postfix name op
postfixes_changed lists new name op h = fun_ext at
  where
    at : (p : Place) → ops_of (record { prefixes = lists.prefixes; infixes = lists.infixes; postfixes = new }) p ≡ with_pair (ops_of lists) Postfix name op p
    at Prefix = refl
    at Infix = refl
    at Postfix = h

-- so the changed lists are a table again
module _ (lists : Lists) (is : IsOps (ops_of lists)) (name : List ℕ) (op : Op) (may : set_fault (ops_of lists) name op.kind op.priority ≡ None) (new : Entries) where
  set_at : (place : Place) → place_of op.kind ≡ place → IsOps (with_pair (ops_of lists) place name (set_op op))
  set_at place there = subst (λ p. IsOps (with_pair (ops_of lists) p name (set_op op))) there (with_set_is (ops_of lists) is name op may)

  pub prefixes_are : place_of op.kind ≡ Prefix → op_at new ≡ with_op (op_at lists.prefixes) name (set_op op)
      → IsOps (ops_of (record { prefixes = new; infixes = lists.infixes; postfixes = lists.postfixes }))
  prefixes_are there h = subst IsOps (sym (prefixes_changed lists new name (set_op op) h)) (set_at Prefix there)

  pub infixes_are : place_of op.kind ≡ Infix → op_at new ≡ with_op (op_at lists.infixes) name (set_op op)
      → IsOps (ops_of (record { prefixes = lists.prefixes; infixes = new; postfixes = lists.postfixes }))
  infixes_are there h = subst IsOps (sym (infixes_changed lists new name (set_op op) h)) (set_at Infix there)

  pub postfixes_are : place_of op.kind ≡ Postfix → op_at new ≡ with_op (op_at lists.postfixes) name (set_op op)
      → IsOps (ops_of (record { prefixes = lists.prefixes; infixes = lists.infixes; postfixes = new }))
  postfixes_are there h = subst IsOps (sym (postfixes_changed lists new name (set_op op) h)) (set_at Postfix there)
