-- The first declaration for each predicate, and its place.
use Rattle.std.proofs.Common.{◌≡◌, ◌≢◌, ℕ, ◌+◌, ◌==◌, Bool, true, false, List, [], ◌∷◌, ◌++◌, Option, Some, None, AllPairs, Contains, cond, length, filter, refl, sym, ap, ◌∙◌, inl, inr, arith, if◌then◌else◌}
use Rattle.std.specs.Prelude.{slice_get, slice_index_or}
use Rattle.std.specs.List.{list_any}
use Rattle.std.specs.declared.cmp.Ordering.TheVariants.{Less}
use Rattle.std.proofs.lemmas.Bool.{cases_eq, false_from_ne_true}
use Rattle.std.proofs.lemmas.Option.{slice_get_within, get_or_from_slice_get}
use Rattle.prolog_terms.proofs.ViewLemmas.{some_once}
use Rattle.module_table.specs.Kinds.{first_of}
use Rattle.import_rules.specs.declared.names.PredName.{PredName}
use Rattle.import_rules.specs.Names.{is_same, pred_cmp}
use Rattle.import_rules.specs.Metas.{MetaAt, name_for, is_for, first_for, kept_as, first_kept, AreDeclared}
use Rattle.import_rules.proofs.Lists.{any_there}
use Rattle.import_rules.proofs.NameOrder.{same_parts, same_from}
use Rattle.import_rules.proofs.NumberLemmas.{number_at}

-- one more declaration

abbrev pub or_this : PredName → MetaAt → Option MetaAt → Option MetaAt
or_this p m (Some first) = Some first
or_this p m None = if is_for p m then Some m else None

pub first_more : (p : PredName) (done : List MetaAt) (m : MetaAt) → first_for (done ++ m ∷ []) p ≡ or_this p m (first_for done p)
first_more p [] m = at (is_for p m)
  where
    at : (b : Bool) → first_of (cond b (m ∷ []) []) ≡ (if b then Some m else None)
    at true = refl
    at false = refl
first_more p (x ∷ done) m = at (is_for p x) (first_more p done m)
  where
    at : (b : Bool) → first_for (done ++ m ∷ []) p ≡ or_this p m (first_for done p)
        → first_of (cond b (x ∷ filter (is_for p) (done ++ m ∷ [])) (filter (is_for p) (done ++ m ∷ [])))
        ≡ or_this p m (first_of (cond b (x ∷ filter (is_for p) done) (filter (is_for p) done)))
    at true rest = refl
    at false rest = rest

-- of another predicate
or_other : (p : PredName) (m : MetaAt) (first : Option MetaAt) → is_for p m ≡ false → or_this p m first ≡ first
or_other p m (Some first) other = refl
or_other p m None other = ap (λ b. if b then Some m else None) other

-- of this one
or_own : (p : PredName) (m : MetaAt) (first : Option MetaAt) → is_for p m ≡ true → kept_as (or_this p m first) ≡ first_kept (kept_as first) (kept_as (Some m))
or_own p m (Some first) own = kept (first.at.1 + 1 == 0) refl
  where
    kept : (b : Bool) → (first.at.1 + 1 == 0) ≡ b → kept_as (Some first) ≡ (if b then kept_as (Some m) else kept_as (Some first))
    kept true is = let no : ⊥ = search (arith, is) in absurd no
    kept false is = refl
or_own p m None own = ap (λ b. kept_as (if b then Some m else None)) own

-- no predicate is the one that is declared
pub none_declared : (done : List MetaAt) (m : MetaAt) (predicates : List PredName) (kept : List (ℕ × ℕ)) → list_any (is_same (name_for m.declaration)) predicates ≡ false
    → AreDeclared done predicates kept → AreDeclared (done ++ m ∷ []) predicates kept
none_declared done m predicates kept none are = record {
  as_many = are.as_many;
  each = λ node p is.
      let there : Contains predicates p = (node, slice_get_within predicates node p is, get_or_from_slice_get predicates node p p is) in
      let other : is_for p m ≡ false =
      false_from_ne_true (is_for p m)
      (λ same.
      let own : p ≡ name_for m.declaration = same_parts p (name_for m.declaration) same in
      let passes : is_same (name_for m.declaration) p ≡ true = same_from (name_for m.declaration) p (sym own) in
      let any : list_any (is_same (name_for m.declaration)) predicates ≡ true = any_there (is_same (name_for m.declaration)) predicates p there passes in
      let both : false ≡ true = sym none ∙ any in
      cc) in
      are.each node p is ∙ ap kept_as (sym (first_more p done m ∙ or_other p m (first_for done p) other));
}

-- the predicate of that number is
pub one_declared : (done : List MetaAt) (m : MetaAt) (predicates : List PredName) (old new : List (ℕ × ℕ)) (node : ℕ) → AllPairs (λ p q. pred_cmp p q ≡ Less) predicates
    → slice_get predicates node ≡ Some (name_for m.declaration) → length new ≡ length predicates
    → slice_index_or new node (0, 0) ≡ first_kept (slice_index_or old node (0, 0)) (kept_as (Some m))
    → ((k : ℕ) → k ≢ node → slice_index_or new k (0, 0) ≡ slice_index_or old k (0, 0))
    → AreDeclared done predicates old → AreDeclared (done ++ m ∷ []) predicates new
one_declared done m predicates old new node up own long here others are = record {
  as_many = λ some. long;
  each = λ k p is.
      elim (cases_eq k node) [
        | inl same ↦
            let named : p ≡ name_for m.declaration = some_once (sym is ∙ (ap (slice_get predicates) same ∙ own)) in
            let passes : is_for p m ≡ true = same_from p (name_for m.declaration) named in
            ap (λ n. slice_index_or new n (0, 0)) same
            ∙ (here
            ∙ (ap (λ n. first_kept (slice_index_or old n (0, 0)) (kept_as (Some m))) (sym same)
            ∙ (ap (λ was. first_kept was (kept_as (Some m))) (are.each k p is)
            ∙ (sym (or_own p m (first_for done p) passes) ∙ ap kept_as (sym (first_more p done m))))))
        | inr other ↦
            let apart : is_for p m ≡ false =
            false_from_ne_true (is_for p m)
            (λ same.
            let name : p ≡ name_for m.declaration = same_parts p (name_for m.declaration) same in
            let there : slice_get predicates k ≡ Some (name_for m.declaration) = is ∙ ap (λ q. Some q) name in
            let twice : k ≡ node = some_once (sym (number_at predicates (name_for m.declaration) k up there) ∙ number_at predicates (name_for m.declaration) node up own) in
            other twice) in
            others k other ∙ (are.each k p is ∙ ap kept_as (sym (first_more p done m ∙ or_other p m (first_for done p) apart)))
      ];
}

pub none_yet : (predicates : List PredName) → AreDeclared [] predicates []
none_yet predicates = record { as_many = λ some. absurd (some refl); each = λ node p is. refl }
