-- What directives say: definitions without a clause, and loads of files that specifications name.
use Rattle.std.proofs.Common.{◌≡◌, ℕ, Bool, true, false, ◌&&◌, List, [], ◌∷◌, ◌++◌, Option, Some, None, Result, Ok, Err, codes, refl, if◌then◌else◌, arith, map}
use Rattle.std.proofs.lemmas.Bool.{leb-true}
use Rattle.std.specs.Prelude.{nat_le}
use Rattle.std.specs.List.{AllByRecursion}
use Rattle.std.specs.Str.{bytes_eq}
use Rattle.prolog_terms.specs.declared.term.ConstKind.{ConstKind}
use Rattle.prolog_terms.specs.declared.term.ConstKind.TheVariants.{Integer, Float, Str, BackStr}
use Rattle.prolog_terms.specs.Tree.{Tree, Trees, variable, constant, atom, compound, listed, tailed, curly, paren, more as with_more, none}
use Rattle.prolog_terms.specs.Views.{trees_in, atom_name, inside}
use Rattle.module_table.specs.declared.goal_arg.GoalArg.TheVariants.{Plain, Goal, Caret, Grammar}
use Rattle.clause_text.specs.Lists.{written_items}
use Rattle.module_table.specs.declared.indicator.Indicator.{Indicator}
use Rattle.module_table.specs.declared.load.LoadKind.{LoadKind}
use Rattle.module_table.specs.declared.load.LoadKind.TheVariants.{UseAll, UseSome, Ensure}
use Rattle.module_table.specs.FileName.{resolved}
use Rattle.module_table.specs.Metas.{Declaration, IsSmall, goal_arg, goal_arg_at, name_arg, digit_arg, takes_of, all_takes}
use Rattle.module_table.specs.Said.{Said, Part, declares, loads, defines, goal, Refusal, refused, in_turn, each_said, takes, marks}
use Rattle.clause_text.specs.declared.cause.Cause.TheVariants.{BadIndicator}
use Rattle.module_table.specs.Indicators.{listed_indicators}
use Rattle.module_table.specs.Heads.{is_among, Owned}
use Rattle.module_table.specs.declared.dynamic.Standing.{Standing}
use Rattle.module_table.specs.declared.dynamic.Standing.TheVariants.{Whole, Joint, Item}
use Rattle.module_table.specs.declared.mark.Property.{Property}
use Rattle.module_table.specs.declared.mark.Property.TheVariants.{Dynamic, Multifile}
use Rattle.module_table.specs.Dynamic.{owned, bare_said, is_joint, is_whole, dynamic_at, each_dynamic}
use Rattle.module_table.specs.Loading.{path_text, resolved_in, is_system, file_of, load_said, loads_said, use_all_said}
use Rattle.module_table.specs.Directives.{Home, some_said, exports, declared_said, module_name, module_said, silent_names, outside_names, one_said, two_said, three_said, shallow_said, directive_said}
use Rattle.module_table.proofs.Segments.{join}

-- what is said in turn is of parts that each fit, where each that is said does

abbrev pub AllFit : (Part → Type 0) → Said → Type 0
AllFit P (Ok parts) = AllByRecursion P parts
AllFit P (Err refusal) = Unit {0}

pub fit_in_turn : (P : Part → Type 0) (a b : Said) → AllFit P a → AllFit P b → AllFit P (in_turn a b)
fit_in_turn P (Ok xs) (Ok ys) first second = join P xs ys first second
fit_in_turn P (Ok xs) (Err refusal) first second = tt
fit_in_turn P (Err refusal) b first second = tt

-- what is declared adds no more than a digit

digit_small : (kind : ConstKind) (minus : Bool) (value : Option ℕ) → IsSmall (digit_arg kind minus value)
digit_small Integer false (Some n) = by_test (nat_le n 9) refl
  where
    by_test : (test : Bool) → nat_le n 9 ≡ test → IsSmall (if test then Goal n else Plain)
    by_test true is = leb-true n 9 is
    by_test false is = omega arith
digit_small Integer false None = omega arith
digit_small Integer true value = omega arith
digit_small Float minus value = omega arith
digit_small Str minus value = omega arith
digit_small BackStr minus value = omega arith

name_small : (name : List ℕ) → IsSmall (name_arg name)
name_small name = first (bytes_eq name (codes "^")) (bytes_eq name (codes "//"))
  where
    first : (a b : Bool) → IsSmall (if a then Caret else if b then Grammar else Plain)
    first true b = omega arith
    first false true = omega arith
    first false false = omega arith

arg_at_small : (tree : Tree) → IsSmall (goal_arg_at tree)
arg_at_small (constant kind minus value span) = digit_small kind minus value
arg_at_small (atom name span) = name_small name
arg_at_small (variable span) = omega arith
arg_at_small (compound name args form span) = omega arith
arg_at_small (listed items span) = omega arith
arg_at_small (tailed items tail span) = omega arith
arg_at_small (curly inner span) = omega arith
arg_at_small (paren inner span) = omega arith

args_small : (trees : List Tree) → AllByRecursion IsSmall (map goal_arg trees)
args_small [] = tt
args_small (tree ∷ trees) = (arg_at_small (inside tree), args_small trees)

abbrev AreSmall : Declaration → Type 0
AreSmall d = AllByRecursion IsSmall d.args

small_if : (test : Bool) (a b : List Declaration) → AllByRecursion AreSmall a → AllByRecursion AreSmall b → AllByRecursion AreSmall (if test then a else b)
small_if true a b one other = one
small_if false a b one other = other

named_small : (found : Option (List ℕ)) (right : Tree) → ((own : List ℕ) → AllByRecursion AreSmall (takes_of own right))
    → AllByRecursion AreSmall (elim found [ Some own ↦ takes_of own right | None ↦ [] ])
named_small (Some own) right all = all own
named_small None right all = tt

mutual
  takes_small : (owner : List ℕ) (tree : Tree) → AllByRecursion AreSmall (takes_of owner tree)
  takes_small owner (compound name none form span) = (tt, tt)
  takes_small owner (compound name (with_more a none) form span) = (args_small (a ∷ []), tt)
  takes_small owner (compound name (with_more left (with_more right none)) form span) =
      small_if (bytes_eq name (codes ",")) (takes_of owner left ++ takes_of owner right) _
      (join AreSmall (takes_of owner left) (takes_of owner right) (takes_small owner left) (takes_small owner right))
      (small_if (bytes_eq name (codes ":")) _ _ (named_small (atom_name left) right (λ own. takes_small own right)) (args_small (left ∷ right ∷ []), tt))
  takes_small owner (compound name (with_more a (with_more b (with_more c rest))) form span) = (args_small (trees_in (with_more a (with_more b (with_more c rest)))), tt)
  takes_small owner (listed items span) = items_small owner items
  takes_small owner (paren inner span) = takes_small owner inner
  takes_small owner (atom name span) = tt
  takes_small owner (tailed items tail span) = tt
  takes_small owner (variable span) = tt
  takes_small owner (constant kind minus value span) = tt
  takes_small owner (curly inner span) = tt

  items_small : (owner : List ℕ) (trees : Trees) → AllByRecursion AreSmall (all_takes owner trees)
  items_small owner none = tt
  items_small owner (with_more tree trees) = join AreSmall (takes_of owner tree) (all_takes owner trees) (takes_small owner tree) (items_small owner trees)

module _ (user : Home) where
  -- a part that a directive says
  abbrev pub IsOfDirective : Part → Type 0
  IsOfDirective (declares own) = Unit {0}
  IsOfDirective (loads own) = (spec : List ℕ) × (resolved user.file spec ≡ Some own.file)
  IsOfDirective (defines own) = own.clause ≡ None
  IsOfDirective (takes own) = AllByRecursion IsSmall own.args
  IsOfDirective (marks own) = Unit {0}
  IsOfDirective (goal own) = Unit {0}

  abbrev pub OfDirective : Said → Type 0
  OfDirective said = AllFit IsOfDirective said

  by_test : (test : Bool) (a b : Said) → OfDirective a → OfDirective b → OfDirective (if test then a else b)
  by_test true a b first second = first
  by_test false a b first second = second

  each_of : (says : Tree → Said) → ((tree : Tree) → OfDirective (says tree)) → (trees : List Tree) → OfDirective (each_said says trees)
  each_of says fits [] = tt
  each_of says fits (tree ∷ trees) = fit_in_turn IsOfDirective (says tree) (each_said says trees) (fits tree) (each_of says fits trees)

  named : (tree : Tree) (file : List ℕ) → file_of user.file tree ≡ Some file → (spec : List ℕ) × (resolved user.file spec ≡ Some file)
  named tree file is = by_text (path_text tree) is
    where
      by_text : (text : Option (List ℕ)) → resolved_in user.file text ≡ Some file → (spec : List ℕ) × (resolved user.file spec ≡ Some file)
      by_text (Some spec) e = (spec, e)
      by_text None e = absurd (let no : ⊥ = cc in no)

  load_of : (kind : LoadKind) (items : List Indicator) (tree : Tree) → OfDirective (load_said user.file kind items tree)
  load_of kind items tree = by_both (is_system tree) (file_of user.file tree) refl refl
    where
      by_both : (system : Bool) (file : Option (List ℕ)) → is_system tree ≡ system → file_of user.file tree ≡ file → OfDirective (load_said user.file kind items tree)
      by_both true file s f = rw (s, load_said) tt
      by_both false (Some file) s f = let from = named tree file f in rw (s, f, load_said) (from, tt)
      by_both false None s f = rw (s, f, load_said) tt

  loads_of : (kind : LoadKind) (trees : List Tree) → OfDirective (loads_said user.file kind trees)
  loads_of kind trees = each_of (load_said user.file kind []) (load_of kind []) trees

  use_all_of : (tree : Tree) → OfDirective (use_all_said user.file tree)
  use_all_of tree = by_items (written_items tree) refl
    where
      by_items : (items : Option (List Tree)) → written_items tree ≡ items → OfDirective (use_all_said user.file tree)
      by_items (Some trees) is = rw (is, use_all_said) (loads_of UseAll trees)
      by_items None is = rw (is, use_all_said) (load_of UseAll [] tree)

  bare_of : (property : Property) (owner : List ℕ) (tree : Tree) → OfDirective (bare_said property owner tree)
  bare_of property owner tree = by_owned (owned owner tree) refl
    where
      by_owned : (found : Option Owned) → owned owner tree ≡ found → OfDirective (bare_said property owner tree)
      by_owned (Some own) is = rw (is, bare_said) (tt, tt)
      by_owned None is = rw (is, bare_said) tt

  inner_of : (property : Property) (found : Option (List ℕ)) (right tree : Tree) → ((inner : List ℕ) → OfDirective (dynamic_at property Whole inner right))
      → OfDirective (elim found [ Some inner ↦ dynamic_at property Whole inner right | None ↦ refused BadIndicator tree ])
  inner_of property (Some inner) right tree all = all inner
  inner_of property None right tree all = tt

  -- what `dynamic` and `multifile` declare
  mutual
    dynamic_of : (property : Property) (at : Standing) (owner : List ℕ) (tree : Tree) → OfDirective (dynamic_at property at owner tree)
    dynamic_of property at owner (compound own (with_more left (with_more right none)) form span) =
        let tree = compound own (with_more left (with_more right none)) form span in
        by_test (is_joint at && bytes_eq own (codes ",")) _ _
        (fit_in_turn IsOfDirective (dynamic_at property Joint owner left) (dynamic_at property Joint owner right) (dynamic_of property Joint owner left) (dynamic_of property Joint owner right))
        (by_test (bytes_eq own (codes ":")) _ _ (inner_of property (atom_name left) right tree (λ inner. dynamic_of property Whole inner right)) (bare_of property owner tree))
    dynamic_of property at owner (listed items span) = by_test (is_whole at) _ _ (each_dynamic_of property owner items) tt
    dynamic_of property at owner (atom own span) = by_test (is_whole at && bytes_eq own (codes "[]")) _ _ tt tt
    dynamic_of property at owner (paren inner span) = dynamic_of property at owner inner
    dynamic_of property at owner tree = tt

    each_dynamic_of : (property : Property) (owner : List ℕ) (trees : Trees) → OfDirective (each_dynamic property owner trees)
    each_dynamic_of property owner none = tt
    each_dynamic_of property owner (with_more tree trees) =
        fit_in_turn IsOfDirective (dynamic_at property Item owner tree) (each_dynamic property owner trees) (dynamic_of property Item owner tree) (each_dynamic_of property owner trees)

  taken_of : (ts : List Declaration) → AllByRecursion AreSmall ts → AllByRecursion IsOfDirective (map takes ts)
  taken_of [] all = tt
  taken_of (t ∷ ts) all = (all.0, taken_of ts all.1)

  some_of : (file : Tree) (told : Result (List Indicator) Refusal) → OfDirective (some_said user.file file told)
  some_of file (Ok items) = load_of UseSome items file
  some_of file (Err refusal) = fit_in_turn IsOfDirective (load_said user.file UseSome [] file) (Err refusal) (load_of UseSome [] file) tt

  declared_of : (own : List ℕ) (from : ℕ) (told : Result (List Indicator) Refusal) → OfDirective (declared_said own from told)
  declared_of own from (Ok exports) = (tt, tt)
  declared_of own from (Err refusal) = tt

  module_of : (own list : Tree) (from : ℕ) → OfDirective (module_said own list from)
  module_of own list from = by_name (module_name own) refl
    where
      by_name : (found : Option (List ℕ)) → module_name own ≡ found → OfDirective (module_said own list from)
      by_name (Some found) is = rw (is, module_said) (declared_of found from (exports list))
      by_name None is = rw (is, module_said) tt

  one_of : (own : List ℕ) (argument tree : Tree) → OfDirective (one_said user own argument tree)
  one_of own argument tree =
      by_test (bytes_eq own (codes "use_module")) _ _ (use_all_of argument)
      (by_test (is_among (codes "ensure_loaded" ∷ codes "consult" ∷ []) own) _ _ (load_of Ensure [] argument)
      (by_test (bytes_eq own (codes "dynamic")) _ _ (dynamic_of Dynamic Whole user.module_ argument)
      (by_test (bytes_eq own (codes "multifile")) _ _ (dynamic_of Multifile Whole user.module_ argument)
      (by_test (bytes_eq own (codes "meta_predicate")) _ _ (taken_of (takes_of user.module_ argument) (takes_small user.module_ argument))
      (by_test (is_among silent_names own) _ _ tt (by_test (is_among outside_names own) _ _ tt (tt, tt)))))))

  two_of : (first : Bool) (own : List ℕ) (left right tree : Tree) → OfDirective (two_said user first own left right tree)
  two_of first own left right tree =
      by_test (bytes_eq own (codes "module")) _ _ (by_test first _ _ (module_of left right _) tt)
      (by_test (bytes_eq own (codes "use_module")) _ _ (some_of left (listed_indicators right))
      (by_test (bytes_eq own (codes "set_prolog_flag")) _ _ tt (by_test (bytes_eq own (codes "reexport")) _ _ tt (tt, tt))))

  three_of : (own : List ℕ) (tree : Tree) → OfDirective (three_said own tree)
  three_of own tree = by_test (bytes_eq own (codes "op")) _ _ tt (by_test (bytes_eq own (codes "use_module")) _ _ tt (tt, tt))

  shallow_of : (first : Bool) (tree : Tree) → OfDirective (shallow_said user first tree)
  shallow_of first (compound own none form span) = (tt, tt)
  shallow_of first (compound own (with_more argument none) form span) = one_of own argument (compound own (with_more argument none) form span)
  shallow_of first (compound own (with_more left (with_more right none)) form span) =
      two_of first own left right (compound own (with_more left (with_more right none)) form span)
  shallow_of first (compound own (with_more a (with_more b (with_more c none))) form span) =
      three_of own (compound own (with_more a (with_more b (with_more c none))) form span)
  shallow_of first (compound own (with_more a (with_more b (with_more c (with_more d rest)))) form span) = (tt, tt)
  shallow_of first (atom own span) = by_test (is_among (codes "else" ∷ codes "endif" ∷ []) own) _ _ tt (tt, tt)
  shallow_of first (listed items span) = loads_of Ensure (trees_in items)
  shallow_of first (tailed items tail span) = tt
  shallow_of first (variable span) = (tt, tt)
  shallow_of first (constant kind minus value span) = (tt, tt)
  shallow_of first (curly inner span) = (tt, tt)
  shallow_of first (paren inner span) = (tt, tt)

  pub directive_of : (first : Bool) (tree : Tree) → OfDirective (directive_said user first tree)
  directive_of first (compound own none form span) = shallow_of first (compound own none form span)
  directive_of first (compound own (with_more argument none) form span) = shallow_of first (compound own (with_more argument none) form span)
  directive_of first (compound own (with_more left (with_more right none)) form span) =
      by_test (bytes_eq own (codes ",")) _ _
      (fit_in_turn IsOfDirective (directive_said user false left) (directive_said user false right) (directive_of false left) (directive_of false right))
      (shallow_of first (compound own (with_more left (with_more right none)) form span))
  directive_of first (compound own (with_more a (with_more b (with_more c rest))) form span) =
      shallow_of first (compound own (with_more a (with_more b (with_more c rest))) form span)
  directive_of first (atom own span) = shallow_of first (atom own span)
  directive_of first (listed items span) = shallow_of first (listed items span)
  directive_of first (tailed items tail span) = shallow_of first (tailed items tail span)
  directive_of first (variable span) = shallow_of first (variable span)
  directive_of first (constant kind minus value span) = shallow_of first (constant kind minus value span)
  directive_of first (curly inner span) = shallow_of first (curly inner span)
  directive_of first (paren inner span) = directive_of first inner
