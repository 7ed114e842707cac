-- What is marked at predicates: there are such marks, and only these.
use Rattle.std.proofs.Common.{◌≡◌, ◌↔◌, inl, inr, ℕ, ◌<◌, Bool, true, false, not, List, [], cond, get_or, length, map, refl, sym, ◌∙◌, subst, arith}
use Rattle.std.specs.Prelude.{Contains}
use Rattle.std.specs.List.{flat_map, range_with_len}
use Rattle.std.specs.Option.{option_to_list}
use Rattle.std.proofs.lemmas.Bool.{false≢true}
use Rattle.std.proofs.lemmas.List.{ext_get_or}
use Rattle.std.proofs.lemmas.List.FromFn.{get_or-map-range_with_len, length-map-range_with_len}
use Rattle.list_laws.proofs.OneOrder.{nothing_in}
use Rattle.module_table.specs.declared.mark.Property.{Property}
use Rattle.module_table.specs.declared.mark.Property.TheVariants.{Dynamic, Multifile}
use Rattle.module_table.specs.Marks.{Marked}
use Rattle.module_table.specs.Facts.{Facts}
use Rattle.import_rules.specs.Program.{Seen, found}
use Rattle.call_edges.specs.Properties.{IsDeclared, IsDeclaredBy, IsDeclaredIn, IsDynamic, IsMultifile}
use Rattle.call_edges.specs.RootReasons.{IsExported, IsExportedByModule, IsRootByDirective, IsRootByExport, IsRootByFile}
use Rattle.call_edges.specs.Roots.{IsCalledByGoal, IsDefinedByRoot, IsExportedByRoot}
use Rattle.call_table.specs.Marks.{AreMarked, AreMarks, ProgramMarks}
use Rattle.laws.proofs.Choices.{Decided, in_or_out}
use Rattle.laws.proofs.Mets.{given_has}
use Rattle.laws.proofs.RootLists.{called_are, given_are, given_by, goals_call, is_root, is_the_root, one_there, root_is}

-- a list where it holds
only_if : (b : Bool) (xs : List ℕ) (q : ℕ) → Contains (cond b xs []) q ↔ ((b ≡ true) × Contains xs q)
only_if true xs q = (λ has. (refl, has), λ both. both.1)
only_if false xs q = (λ has. absurd (nothing_in q has), λ both. absurd (false≢true both.0))

-- what a module file exports

abbrev exported_by : Seen → Facts → List ℕ
exported_by seen file = cond file.is_module (given_by seen file true) []

exported_are : (seen : Seen) (file : Facts) (q : ℕ) → Contains (exported_by seen file) q ↔ IsExportedByModule seen file q
exported_are seen file q =
    let here = only_if file.is_module (given_by seen file true) q in
    let are = given_are seen file true q in (
      λ has. let both = here.0 has in record { declared = both.0; gives = are.0 both.1 },
      λ is. here.1 (is.declared, are.1 is.gives),
    )

-- and where it is a root file

abbrev root_exports : Seen → Facts → List ℕ
root_exports seen file = cond (is_root seen file) (exported_by seen file) []

root_exports_are : (seen : Seen) (file : Facts) (q : ℕ) → Contains (root_exports seen file) q ↔ IsExportedByRoot seen file q
root_exports_are seen file q =
    let here = only_if (is_root seen file) (exported_by seen file) q in
    let are = exported_are seen file q in (
      λ has.
          let both = here.0 has in
          let exports = are.0 both.1 in
          record { is_root = root_is seen file both.0; declared = exports.declared; gives = exports.gives },
      λ is. here.1 (is_the_root seen file is.is_root, are.1 (record { declared = is.declared; gives = is.gives })),
    )

-- what a root file defines that is no module file

not_set : (b : Bool) → not b ≡ true → b ≡ false
not_set true is = absurd (false≢true is)
not_set false is = refl

set_not : (b : Bool) → b ≡ false → not b ≡ true
set_not true is = absurd (false≢true (sym is))
set_not false is = refl

abbrev defined_by : Seen → Facts → List ℕ
defined_by seen file = cond (not file.is_module) (given_by seen file false) []

abbrev root_defines : Seen → Facts → List ℕ
root_defines seen file = cond (is_root seen file) (defined_by seen file) []

root_defines_are : (seen : Seen) (file : Facts) (q : ℕ) → Contains (root_defines seen file) q ↔ IsDefinedByRoot seen file q
root_defines_are seen file q =
    let here = only_if (is_root seen file) (defined_by seen file) q in
    let plain = only_if (not file.is_module) (given_by seen file false) q in
    let are = given_are seen file false q in (
      λ has.
          let both = here.0 has in
          let defines = plain.0 both.1 in
          (record { is_root = root_is seen file both.0; plain = not_set file.is_module defines.0 }, are.0 defines.1),
      λ is. here.1 (is_the_root seen file is.0.is_root, plain.1 (set_not file.is_module is.0.plain, are.1 is.1)),
    )

-- what directives declare to have a property

same_property : Property → Property → Bool
same_property Dynamic Dynamic = true
same_property Dynamic Multifile = false
same_property Multifile Dynamic = false
same_property Multifile Multifile = true

are_same : (a b : Property) → (same_property a b ≡ true) ↔ (a ≡ b)
unfolding same_property
are_same Dynamic Dynamic = (λ is. refl, λ same. refl)
are_same Dynamic Multifile = (λ is. absurd (false≢true is), λ same. let both : Dynamic ≡ Multifile = same in absurd (cc))
are_same Multifile Dynamic = (λ is. absurd (false≢true is), λ same. let both : Multifile ≡ Dynamic = same in absurd (cc))
are_same Multifile Multifile = (λ is. refl, λ same. refl)

abbrev marked_by : Seen → Property → Marked → List ℕ
marked_by seen property mark = cond (same_property mark.property property) (option_to_list (found seen mark.module_ mark.name mark.arity)) []

marked_are : (seen : Seen) (property : Property) (mark : Marked) (q : ℕ) → Contains (marked_by seen property mark) q ↔ IsDeclaredBy seen property mark q
marked_are seen property mark q =
    let means = found seen mark.module_ mark.name mark.arity in
    let here = only_if (same_property mark.property property) (option_to_list means) q in
    let same = are_same mark.property property in
    let one = one_there means q in (
      λ has. let both = here.0 has in record { is = same.0 both.0; means = one.0 both.1 },
      λ declared. here.1 (same.1 declared.is, one.1 declared.means),
    )

abbrev declared_in : Seen → Property → Facts → List ℕ
declared_in seen property file = flat_map (marked_by seen property) file.marks

declared_are : (seen : Seen) (property : Property) (file : Facts) (q : ℕ) → Contains (declared_in seen property file) q ↔ IsDeclaredIn seen property file q
declared_are seen property file q = given_has (marked_by seen property) (IsDeclaredBy seen property) (marked_are seen property) file.marks q

-- there are marks of what is decided

set_by : {P : Type 0} → Decided P → Bool
set_by (inl holds) = true
set_by (inr fails) = false

is_set : {P : Type 0} (choice : Decided P) → (set_by choice ≡ true) ↔ P
unfolding set_by
is_set (inl holds) = (λ is. holds, λ also. refl)
is_set (inr fails) = (λ is. absurd (false≢true is), λ holds. absurd (fails holds))

abbrev SomeMarks : ℕ → (ℕ → Type 0) → Type 0
SomeMarks count P = (marks : List Bool) × AreMarks count P marks

marks_for : (count : ℕ) (nodes : List ℕ) → SomeMarks count (Contains nodes)
marks_for count nodes =
    let mark : ℕ → Bool = λ q. set_by (in_or_out nodes q) in (
      map mark (range_with_len 0 count),
      record {
        each = length-map-range_with_len mark 0 count;
        is = λ q below.
            subst (λ b. (b ≡ true) ↔ Contains nodes q) (sym (get_or-map-range_with_len mark 0 count q q false below (omega arith))) (is_set (in_or_out nodes q));
      },
    )

marks_listed : (count : ℕ) (P : ℕ → Type 0) (nodes : List ℕ) → ((q : ℕ) → Contains nodes q ↔ P q) → SomeMarks count P
marks_listed count P nodes are =
    let marks = marks_for count nodes in (
      marks.0,
      record {
        each = marks.1.each;
        is = λ q below. (λ set. (are q).0 ((marks.1.is q below).0 set), λ holds. (marks.1.is q below).1 ((are q).1 holds));
      },
    )

declared_marks : (seen : Seen) (property : Property) → SomeMarks (length seen.predicates) (IsDeclared seen property)
declared_marks seen property =
    let files = seen.loaded.files in
    marks_listed (length seen.predicates) (IsDeclared seen property) (flat_map (declared_in seen property) files)
    (given_has (declared_in seen property) (IsDeclaredIn seen property) (declared_are seen property) files)

pub marks_exist : (listed : Bool) (seen : Seen) (roots : List ℕ) → (marks : ProgramMarks) × AreMarked listed seen roots marks
marks_exist listed seen roots =
    let count = length seen.predicates in
    let files = seen.loaded.files in
    let named = marks_for count roots in
    let exported =
    marks_listed count (IsExported seen) (flat_map (exported_by seen) files) (given_has (exported_by seen) (IsExportedByModule seen) (exported_are seen) files) in
    let by_export =
    marks_listed count (IsRootByExport seen) (flat_map (root_exports seen) files)
    (given_has (root_exports seen) (IsExportedByRoot seen) (root_exports_are seen) files) in
    let by_directive =
    marks_listed count (IsRootByDirective seen) (flat_map (goals_call seen) files) (given_has (goals_call seen) (IsCalledByGoal seen) (called_are seen) files) in
    let by_file =
    marks_listed count (IsRootByFile seen) (flat_map (root_defines seen) files)
    (given_has (root_defines seen) (IsDefinedByRoot seen) (root_defines_are seen) files) in
    let dynamic = declared_marks seen Dynamic in
    let multifile = declared_marks seen Multifile in (
      record {
        listed = listed;
        roots = named.0;
        exported = exported.0;
        by_export = by_export.0;
        by_directive = by_directive.0;
        by_file = by_file.0;
        dynamic = dynamic.0;
        multifile = multifile.0;
      },
      record {
        listed_is = refl;
        roots_are = named.1;
        exported_are = exported.1;
        by_export_are = by_export.1;
        by_directive_are = by_directive.1;
        by_file_are = by_file.1;
        dynamic_are = dynamic.1;
        multifile_are = multifile.1;
      },
    )

-- and only these

same_truth : (a b : Bool) → (a ≡ true → b ≡ true) → (b ≡ true → a ≡ true) → a ≡ b
same_truth true b to from = sym (to refl)
same_truth false true to from = from refl
same_truth false false to from = refl

one_marks : (count : ℕ) (P : ℕ → Type 0) (a b : List Bool) → AreMarks count P a → AreMarks count P b → a ≡ b
one_marks count P a b are also =
    ext_get_or false a b (are.each ∙ sym also.each)
    (λ q lt.
    let below : q < count = omega (arith, lt, are.each) in
    let one = are.is q below in
    let other = also.is q below in
    same_truth (get_or a q false) (get_or b q false) (λ set. other.1 (one.0 set)) (λ set. one.1 (other.0 set)))

pub one_marked : (listed : Bool) (seen : Seen) (roots : List ℕ) (a b : ProgramMarks) → AreMarked listed seen roots a → AreMarked listed seen roots b → a ≡ b
one_marked listed seen roots a b are also =
    let count = length seen.predicates in
    let listed_same = are.listed_is ∙ sym also.listed_is in
    let roots_same = one_marks count (Contains roots) a.roots b.roots are.roots_are also.roots_are in
    let exported_same = one_marks count (IsExported seen) a.exported b.exported are.exported_are also.exported_are in
    let export_same = one_marks count (IsRootByExport seen) a.by_export b.by_export are.by_export_are also.by_export_are in
    let directive_same = one_marks count (IsRootByDirective seen) a.by_directive b.by_directive are.by_directive_are also.by_directive_are in
    let file_same = one_marks count (IsRootByFile seen) a.by_file b.by_file are.by_file_are also.by_file_are in
    let dynamic_same = one_marks count (IsDynamic seen) a.dynamic b.dynamic are.dynamic_are also.dynamic_are in
    let multifile_same = one_marks count (IsMultifile seen) a.multifile b.multifile are.multifile_are also.multifile_are in
    λ i. record {
      listed = listed_same i;
      roots = roots_same i;
      exported = exported_same i;
      by_export = export_same i;
      by_directive = directive_same i;
      by_file = file_same i;
      dynamic = dynamic_same i;
      multifile = multifile_same i;
    }
