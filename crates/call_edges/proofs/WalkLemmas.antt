-- What the walk adds at terms of each form.
use Rattle.std.proofs.Common.{◌≡◌, ℕ, ◌+◌, ◌*◌, ◌≤◌, List, [], ◌++◌, Option, Result, Ok, Err, OnOk, Bool, ap, sym, ◌∙◌, subst, refl, arith, append-nil}
use Rattle.std.specs.Option.{option_to_list}
use Rattle.prolog_terms.specs.declared.term.Span.{Span}
use Rattle.prolog_terms.specs.declared.term.Form.{Form}
use Rattle.prolog_terms.specs.declared.term.ConstKind.{ConstKind}
use Rattle.prolog_terms.specs.Tree.{Tree, Trees, variable, constant, atom, compound, listed, tailed, curly, paren}
use Rattle.prolog_terms.specs.Views.{trees_in}
use Rattle.prolog_terms.specs.Weight.{weight}
use Rattle.module_table.specs.Metas.{added}
use Rattle.call_edges.specs.declared.role.Role.{Role}
use Rattle.call_edges.specs.Goals.{Met, place, Rows, Taken, taken, role_at, atom_met, constant_met, curly_role, AddsMet}
use Rattle.call_edges.specs.Arguments.{AreLightArguments, AddsArguments}
use Rattle.call_edges.proofs.AddedLemmas.{RowsWithin, argument_within}
use Rattle.call_edges.proofs.MetLemmas.{adds_own, adds_part, compound_adds}

pub on_ok : {X E : Type 0} {P Q : Type 0} (r : Result X E) → OnOk r P → (P → Q) → OnOk r Q
on_ok (Ok x) p then = then p
on_ok (Err e) p then = tt

-- arguments of a compound that is light enough to be walked are so
pub light_arguments : (T : Rows) (within : RowsWithin T) (owner : List ℕ) (role : Role) (tree : Tree) (name : List ℕ) (args : Trees) (form : Form) (span : Span) (apart : Taken)
    → compound name args form span ≡ tree → apart ≡ taken T span.from owner role name (trees_in args) → added role.arg + 10 * weight tree ≤ 4294967295
    → AreLightArguments apart (trees_in args)
light_arguments T within owner role tree name args form span apart is same small = record {
  each = λ i part read.
      omega (arith, argument_within T within span.from owner role name args i part read, ap (λ (a : Taken). added (role_at a.standing i)) same, ap weight is, small);
}

module _ (T : Rows) (owner : List ℕ) (role : Role) (tree : Tree) (old new : List Met) where
  -- what the walk has to add
  abbrev pub IsWalked : Tree → Type 0
  IsWalked tree = AddsMet T (place owner role tree) old new

  nothing : new ≡ old → new ≡ old ++ []
  nothing same = same ∙ sym (append-nil old)

  pub variable_walked : (span : Span) → variable span ≡ tree → new ≡ old → IsWalked tree
  variable_walked span is same = subst IsWalked is (adds_own T (place owner role (variable span)) old new (λ q part. part) (nothing same))

  pub list_walked : (items : Trees) (span : Span) → listed items span ≡ tree → new ≡ old → IsWalked tree
  list_walked items span is same = subst IsWalked is (adds_own T (place owner role (listed items span)) old new (λ q part. part) (nothing same))

  pub tailed_walked : (items : Trees) (end : Tree) (span : Span) → tailed items end span ≡ tree → new ≡ old → IsWalked tree
  tailed_walked items end span is same = subst IsWalked is (adds_own T (place owner role (tailed items end span)) old new (λ q part. part) (nothing same))

  pub constant_walked : (kind : ConstKind) (minus : Bool) (value : Option ℕ) (span : Span) → constant kind minus value span ≡ tree
      → new ≡ old ++ option_to_list (constant_met role.arg kind span.from) → IsWalked tree
  constant_walked kind minus value span is adds =
      subst IsWalked is (adds_own T (place owner role (constant kind minus value span)) old new (λ q part. part) adds)

  pub atom_walked : (name : List ℕ) (span : Span) → atom name span ≡ tree → new ≡ old ++ option_to_list (atom_met span.from owner role name) → IsWalked tree
  atom_walked name span is adds = subst IsWalked is (adds_own T (place owner role (atom name span)) old new (λ q part. part) adds)

  pub curly_walked : (inner : Tree) (span : Span) → curly inner span ≡ tree → AddsMet T (place owner (curly_role role) inner) old new → IsWalked tree
  curly_walked inner span is adds =
      subst IsWalked is (adds_part T (place owner role (curly inner span)) (place owner (curly_role role) inner) old new refl (λ x same. same) refl adds)

  pub paren_walked : (inner : Tree) (span : Span) → paren inner span ≡ tree → AddsMet T (place owner role inner) old new → IsWalked tree
  paren_walked inner span is adds =
      subst IsWalked is (adds_part T (place owner role (paren inner span)) (place owner role inner) old new refl (λ x same. same) refl adds)

  pub compound_walked : (name : List ℕ) (args : Trees) (form : Form) (span : Span) (apart : Taken) (mid : List Met) → compound name args form span ≡ tree
      → apart ≡ taken T span.from owner role name (trees_in args) → mid ≡ old ++ option_to_list apart.met → AddsArguments T apart (trees_in args) mid new
      → IsWalked tree
  compound_walked name args form span apart mid is same own adds =
      let P : Taken → Type 0 = λ a. mid ≡ old ++ option_to_list a.met in
      let Q : Taken → Type 0 = λ a. AddsArguments T a (trees_in args) mid new in
      subst IsWalked is (compound_adds T owner role name args form span old mid new (subst P same own) (subst Q same adds))
