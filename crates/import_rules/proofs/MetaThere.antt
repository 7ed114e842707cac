-- Where the declaration of a predicate stands, by the place that is kept of it.
use Rattle.std.proofs.Common.{◌≡◌, ◌≢◌, ℕ, ◌+◌, ◌-◌, List, [], ◌∷◌, Option, Some, None, Contains, filter, refl, sym, ap, ◌∙◌, subst, arith}
use Rattle.std.specs.Prelude.{slice_get}
use Rattle.std.specs.List.{enumerate_from}
use Rattle.list_laws.proofs.OneOrder.{in_first}
use Rattle.module_table.specs.declared.goal_arg.GoalArg.{GoalArg}
use Rattle.module_table.specs.Metas.{Declaration}
use Rattle.module_table.specs.Facts.{Facts}
use Rattle.module_table.specs.Kinds.{first_of}
use Rattle.import_rules.specs.declared.names.PredName.{PredName}
use Rattle.import_rules.specs.Metas.{MetaAt, meta_at, metas_of_file, metas_in, is_for, first_for, args_of, args_for, kept_as}
use Rattle.import_rules.proofs.Lists.{map_from, kept_there}
use Rattle.import_rules.proofs.Members.{flat_map_from, counted_from}

-- the declaration stands there
pub record IsMetaAt (files : List Facts) (at : ℕ × ℕ) (args : List GoalArg) : Type 0 where
  pub file : Facts
  pub declaration : Declaration
  pub at_place : slice_get files at.0 ≡ Some file
  pub at_meta : slice_get file.metas at.1 ≡ Some declaration
  pub is : declaration.args ≡ args

abbrev of_file : ℕ × Facts → List MetaAt
of_file at = metas_of_file at.0 at.1

pub meta_from : (files : List Facts) (m : MetaAt) → Contains (metas_in files) m → IsMetaAt files m.at m.declaration.args
meta_from files m has =
    let outer = flat_map_from of_file (enumerate_from 0 files) m has in
    let counted = counted_from 0 files outer.0 outer.1 in
    let from = map_from (meta_at outer.0.0) (enumerate_from 0 outer.0.1.metas) m outer.2 in
    let own = counted_from 0 outer.0.1.metas from.0 from.1 in
    let place : counted.0 ≡ m.at.0 = omega (arith, counted.1, ap (λ (e : MetaAt). e.at.0) from.2) in
    let inner : own.0 ≡ m.at.1 = omega (arith, own.1, ap (λ (e : MetaAt). e.at.1) from.2) in record {
      file = outer.0.1;
      declaration = from.0.1;
      at_place = subst (λ k. slice_get files k ≡ Some outer.0.1) place counted.2;
      at_meta = subst (λ k. slice_get outer.0.1.metas k ≡ Some from.0.1) inner own.2;
      is = ap (λ (e : MetaAt). e.declaration.args) from.2;
    }

first_there : (metas : List MetaAt) (m : MetaAt) → first_of metas ≡ Some m → Contains metas m
first_there [] m is = let both : None ≡ Some m = is in absurd (cc)
first_there (x ∷ metas) m is = let same : x ≡ m = cc in subst (Contains (x ∷ metas)) same (in_first x metas)

-- nothing is kept
pub none_kept : (files : List Facts) (p : PredName) (at : ℕ × ℕ) → at ≡ kept_as (first_for (metas_in files) p) → at.1 ≡ 0 → [] ≡ args_for files p
none_kept files p at is zero_ = by_first (first_for (metas_in files) p) refl
  where
    by_first : (first : Option MetaAt) → first_for (metas_in files) p ≡ first → [] ≡ args_for files p
    by_first None none_ = sym (ap args_of none_)
    by_first (Some m) some = absurd (omega (arith, zero_, ap (λ (x : ℕ × ℕ). x.1) (is ∙ ap kept_as some)))

-- a place is
pub one_kept : (files : List Facts) (p : PredName) (at : ℕ × ℕ) → at ≡ kept_as (first_for (metas_in files) p) → at.1 ≢ 0 → IsMetaAt files (at.0, at.1 - 1) (args_for files p)
one_kept files p at is some = by_first (first_for (metas_in files) p) refl
  where
    by_first : (first : Option MetaAt) → first_for (metas_in files) p ≡ first → IsMetaAt files (at.0, at.1 - 1) (args_for files p)
    by_first None none_ = absurd (some (omega (arith, ap (λ (x : ℕ × ℕ). x.1) (is ∙ ap kept_as none_))))
    by_first (Some m) found =
        let own : at ≡ (m.at.0, m.at.1 + 1) = is ∙ ap kept_as found in
        let place : m.at.0 ≡ at.0 = ap (λ (x : ℕ × ℕ). x.0) (sym own) in
        let inner : m.at.1 ≡ at.1 - 1 = omega (arith, ap (λ (x : ℕ × ℕ). x.1) own) in
        let there : Contains (metas_in files) m = kept_there (is_for p) (metas_in files) m (first_there (filter (is_for p) (metas_in files)) m found) in
        let P : ℕ × ℕ → Type 0 = λ x. IsMetaAt files x (args_for files p) in
        let args : m.declaration.args ≡ args_for files p = sym (ap args_of found) in
        subst P (λ i. (place i, inner i)) (subst (IsMetaAt files m.at) args (meta_from files m there))
