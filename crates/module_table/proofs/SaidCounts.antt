-- Clauses define no more than they weigh.
use Rattle.std.proofs.Common.{◌≡◌, ℕ, ◌+◌, ◌≤◌, Bool, true, false, ◌||◌, ◌&&◌, List, [], ◌∷◌, ◌++◌, Option, Some, None, Result, Ok, Err, length, sum_by, codes, refl, ap, subst, sym, arith, if◌then◌else◌, length-append, map}
use Rattle.std.specs.List.{filter_map}
use Rattle.std.specs.Str.{bytes_eq}
use Rattle.std.proofs.lemmas.List.Elements.{filter_map-append}
use Rattle.std.proofs.lemmas.List.Sums.{sum_by-cons}
use Rattle.prolog_terms.specs.Tree.{Tree, Trees, variable, constant, atom, compound, listed, tailed, curly, paren, more as with_more, none}
use Rattle.prolog_terms.specs.Views.{inside, trees_in, atom_name}
use Rattle.prolog_terms.specs.Weight.{weight, weights}
use Rattle.prolog_terms.proofs.ViewLemmas.{inside_weight}
use Rattle.clause_text.specs.Lists.{written_items}
use Rattle.clause_text.specs.Items.{directive_at, directive_of}
use Rattle.clause_text.specs.Clauses.{total_weight}
use Rattle.module_table.specs.declared.indicator.Indicator.{Indicator}
use Rattle.module_table.specs.declared.load.LoadKind.{LoadKind}
use Rattle.module_table.specs.declared.load.LoadKind.TheVariants.{UseAll, UseSome, Ensure}
use Rattle.module_table.specs.Metas.{Declaration, takes_of, all_takes}
use Rattle.module_table.specs.Said.{Said, Part, Refusal, refused, in_turn, each_said, takes}
use Rattle.clause_text.specs.declared.cause.Cause.TheVariants.{BadIndicator}
use Rattle.module_table.specs.Kinds.{defined_part, takes_part}
use Rattle.module_table.specs.Heads.{is_among, Owned}
use Rattle.module_table.specs.Indicators.{listed_indicators}
use Rattle.module_table.specs.declared.dynamic.Standing.{Standing}
use Rattle.module_table.specs.declared.dynamic.Standing.TheVariants.{Whole, Joint, Item}
use Rattle.module_table.specs.declared.mark.Property.{Property}
use Rattle.module_table.specs.declared.mark.Property.TheVariants.{Dynamic, Multifile}
use Rattle.module_table.specs.Dynamic.{owned, bare_said, is_joint, is_whole, dynamic_at, each_dynamic}
use Rattle.module_table.specs.Loading.{is_system, file_of, load_said, loads_said, use_all_said}
use Rattle.module_table.specs.Directives.{Home, some_said, exports, declared_said, module_name, module_said, silent_names, outside_names, one_said, two_said, three_said, shallow_said, directive_said}
use Rattle.module_table.specs.Facts.{clause_head, headed, clause_said, trees_said}

-- how many things a file defines, and for how many it declares goal arguments
abbrev pub definitions : List Part → ℕ
definitions parts = length (filter_map defined_part parts) + length (filter_map takes_part parts)

-- what is told has at most so many
abbrev Few : {A : Type 0} → (List A → ℕ) → ℕ → Result (List A) Refusal → Type 0
Few count n (Ok xs) = count xs ≤ n
Few count n (Err refusal) = Unit {0}

abbrev pub DefinesAtMost : ℕ → Said → Type 0
DefinesAtMost n said = Few definitions n said

by_test : (n : ℕ) (test : Bool) (a b : Said) → DefinesAtMost n a → DefinesAtMost n b → DefinesAtMost n (if test then a else b)
by_test n true a b first second = first
by_test n false a b first second = second

more_allowed : (m n : ℕ) (said : Said) → m ≤ n → DefinesAtMost m said → DefinesAtMost n said
more_allowed m n (Ok parts) less few = omega (arith, less, few)
more_allowed m n (Err refusal) less few = tt

both_counted : (xs ys : List Part) → definitions (xs ++ ys) ≡ definitions xs + definitions ys
both_counted xs ys =
    omega (
      arith,
      ap length (filter_map-append defined_part xs ys),
      length-append (filter_map defined_part xs) (filter_map defined_part ys),
      ap length (filter_map-append takes_part xs ys),
      length-append (filter_map takes_part xs) (filter_map takes_part ys),
    )

turns : (m n : ℕ) (a b : Said) → DefinesAtMost m a → DefinesAtMost n b → DefinesAtMost (m + n) (in_turn a b)
turns m n (Ok xs) (Ok ys) first second = omega (arith, first, second, both_counted xs ys)
turns m n (Ok xs) (Err refusal) first second = tt
turns m n (Err refusal) b first second = tt

each_counted : (f : Tree → ℕ) (says : Tree → Said) → ((tree : Tree) → DefinesAtMost (f tree) (says tree)) → (trees : List Tree) → DefinesAtMost (sum_by f trees) (each_said says trees)
each_counted f says one [] = omega arith
each_counted f says one (tree ∷ trees) =
    subst (λ n. DefinesAtMost n (in_turn (says tree) (each_said says trees))) (sym (sum_by-cons f tree trees))
    (turns (f tree) (sum_by f trees) (says tree) (each_said says trees) (one tree) (each_counted f says one trees))

-- what `dynamic` and `multifile` define

bare_few : (property : Property) (owner : List ℕ) (tree : Tree) → DefinesAtMost 1 (bare_said property owner tree)
bare_few property owner tree = by_owned (owned owner tree) refl
  where
    by_owned : (found : Option Owned) → owned owner tree ≡ found → DefinesAtMost 1 (bare_said property owner tree)
    by_owned (Some own) is = rw (is, bare_said) (omega arith)
    by_owned None is = rw (is, bare_said) tt

by_inner : (property : Property) (found : Option (List ℕ)) (right tree : Tree) → ((inner : List ℕ) → DefinesAtMost (weight tree + 1) (dynamic_at property Whole inner right))
    → DefinesAtMost (weight tree + 1) (elim found [ Some inner ↦ dynamic_at property Whole inner right | None ↦ refused BadIndicator tree ])
by_inner property (Some inner) right tree all = all inner
by_inner property None right tree all = tt

mutual
  dynamic_few : (property : Property) (at : Standing) (owner : List ℕ) (tree : Tree) → DefinesAtMost (weight tree + 1) (dynamic_at property at owner tree)
  dynamic_few property at owner (compound own (with_more left (with_more right none)) form span) =
      let tree = compound own (with_more left (with_more right none)) form span in
      by_test (weight tree + 1) (is_joint at && bytes_eq own (codes ",")) _ _
      (more_allowed (weight left + 1 + (weight right + 1)) (weight tree + 1) (in_turn (dynamic_at property Joint owner left) (dynamic_at property Joint owner right)) (omega arith)
      (turns (weight left + 1) (weight right + 1) (dynamic_at property Joint owner left) (dynamic_at property Joint owner right) (dynamic_few property Joint owner left) (dynamic_few property Joint owner right)))
      (by_test (weight tree + 1) (bytes_eq own (codes ":")) _ _
      (by_inner property (atom_name left) right tree (λ inner. more_allowed (weight right + 1) (weight tree + 1) (dynamic_at property Whole inner right) (omega arith) (dynamic_few property Whole inner right)))
      (more_allowed 1 (weight tree + 1) (bare_said property owner tree) (omega arith) (bare_few property owner tree)))
  dynamic_few property at owner (listed items span) =
      let tree = listed items span in
      by_test (weight tree + 1) (is_whole at) _ _ (more_allowed (weights items) (weight tree + 1) (each_dynamic property owner items) (omega arith) (each_dynamic_few property owner items)) tt
  dynamic_few property at owner (atom own span) = by_test (weight (atom own span) + 1) (is_whole at && bytes_eq own (codes "[]")) _ _ (omega arith) tt
  dynamic_few property at owner (paren inner span) = more_allowed (weight inner + 1) (weight (paren inner span) + 1) (dynamic_at property at owner inner) (omega arith) (dynamic_few property at owner inner)
  dynamic_few property at owner tree = tt

  each_dynamic_few : (property : Property) (owner : List ℕ) (trees : Trees) → DefinesAtMost (weights trees) (each_dynamic property owner trees)
  each_dynamic_few property owner none = omega arith
  each_dynamic_few property owner (with_more tree trees) =
      more_allowed (weight tree + 1 + weights trees) (weights (with_more tree trees)) (in_turn (dynamic_at property Item owner tree) (each_dynamic property owner trees)) (omega arith)
      (turns (weight tree + 1) (weights trees) (dynamic_at property Item owner tree) (each_dynamic property owner trees) (dynamic_few property Item owner tree) (each_dynamic_few property owner trees))

-- declarations of goal arguments

count_if : (n : ℕ) (test : Bool) (a b : List Declaration) → length a ≤ n → length b ≤ n → length (if test then a else b) ≤ n
count_if n true a b one other = one
count_if n false a b one other = other

named_count : (n : ℕ) (found : Option (List ℕ)) (right : Tree) → ((own : List ℕ) → length (takes_of own right) ≤ n)
    → length {A = Declaration} (elim found [ Some own ↦ takes_of own right | None ↦ [] ]) ≤ n
named_count n (Some own) right few = few own
named_count n None right few = omega arith

mutual
  takes_few : (owner : List ℕ) (tree : Tree) → length (takes_of owner tree) ≤ weight tree + 1
  takes_few owner (compound name none form span) = omega arith
  takes_few owner (compound name (with_more a none) form span) = omega arith
  takes_few owner (compound name (with_more left (with_more right none)) form span) =
      let n = weight (compound name (with_more left (with_more right none)) form span) + 1 in
      count_if n (bytes_eq name (codes ",")) (takes_of owner left ++ takes_of owner right) _
      (omega (arith, length-append (takes_of owner left) (takes_of owner right), takes_few owner left, takes_few owner right))
      (count_if n (bytes_eq name (codes ":")) _ _ (named_count n (atom_name left) right (λ own. omega (arith, takes_few own right))) (omega arith))
  takes_few owner (compound name (with_more a (with_more b (with_more c rest))) form span) = omega arith
  takes_few owner (listed items span) = omega (arith, all_takes_few owner items)
  takes_few owner (paren inner span) = omega (arith, takes_few owner inner)
  takes_few owner (atom name span) = omega arith
  takes_few owner (tailed items tail span) = omega arith
  takes_few owner (variable span) = omega arith
  takes_few owner (constant kind minus value span) = omega arith
  takes_few owner (curly inner span) = omega arith

  all_takes_few : (owner : List ℕ) (trees : Trees) → length (all_takes owner trees) ≤ weights trees
  all_takes_few owner none = omega arith
  all_takes_few owner (with_more tree trees) = omega (arith, length-append (takes_of owner tree) (all_takes owner trees), takes_few owner tree, all_takes_few owner trees)

all_counted : (ts : List Declaration) → definitions (map takes ts) ≡ length ts
all_counted [] = refl
all_counted (t ∷ ts) = omega (arith, all_counted ts)

-- loads and modules define nothing

module _ (user : Home) where
  load_none : (kind : LoadKind) (items : List Indicator) (tree : Tree) → DefinesAtMost 0 (load_said user.file kind items tree)
  load_none kind items tree = by_both (is_system tree) (file_of user.file tree) refl refl
    where
      by_both : (system : Bool) (file : Option (List ℕ)) → is_system tree ≡ system → file_of user.file tree ≡ file → DefinesAtMost 0 (load_said user.file kind items tree)
      by_both true file s f = rw (s, load_said) (omega arith)
      by_both false (Some file) s f = rw (s, f, load_said) (omega arith)
      by_both false None s f = rw (s, f, load_said) tt

  loads_none : (kind : LoadKind) (trees : List Tree) → DefinesAtMost 0 (loads_said user.file kind trees)
  loads_none kind [] = omega arith
  loads_none kind (tree ∷ trees) = turns 0 0 (load_said user.file kind [] tree) (loads_said user.file kind trees) (load_none kind [] tree) (loads_none kind trees)

  use_all_none : (tree : Tree) → DefinesAtMost 0 (use_all_said user.file tree)
  use_all_none tree = by_items (written_items tree) refl
    where
      by_items : (items : Option (List Tree)) → written_items tree ≡ items → DefinesAtMost 0 (use_all_said user.file tree)
      by_items (Some trees) is = rw (is, use_all_said) (loads_none UseAll trees)
      by_items None is = rw (is, use_all_said) (load_none UseAll [] tree)

  some_none : (file : Tree) (told : Result (List Indicator) Refusal) → DefinesAtMost 0 (some_said user.file file told)
  some_none file (Ok items) = load_none UseSome items file
  some_none file (Err refusal) = turns 0 0 (load_said user.file UseSome [] file) (Err refusal) (load_none UseSome [] file) tt

  declared_none : (own : List ℕ) (from : ℕ) (told : Result (List Indicator) Refusal) → DefinesAtMost 0 (declared_said own from told)
  declared_none own from (Ok exports) = omega arith
  declared_none own from (Err refusal) = tt

  module_none : (own list : Tree) (from : ℕ) → DefinesAtMost 0 (module_said own list from)
  module_none own list from = by_name (module_name own) refl
    where
      by_name : (found : Option (List ℕ)) → module_name own ≡ found → DefinesAtMost 0 (module_said own list from)
      by_name (Some found) is = rw (is, module_said) (declared_none found from (exports list))
      by_name None is = rw (is, module_said) tt

  -- and a directive no more than it weighs

  at_most : (n : ℕ) (said : Said) → DefinesAtMost 0 said → DefinesAtMost n said
  at_most n said nothing = more_allowed 0 n said (omega arith) nothing

  one_few : (own : List ℕ) (argument tree : Tree) → DefinesAtMost (weight argument + 1) (one_said user own argument tree)
  one_few own argument tree =
      let n = weight argument + 1 in
      by_test n (bytes_eq own (codes "use_module")) _ _ (at_most n (use_all_said user.file argument) (use_all_none argument))
      (by_test n (is_among (codes "ensure_loaded" ∷ codes "consult" ∷ []) own) _ _ (at_most n (load_said user.file Ensure [] argument) (load_none Ensure [] argument))
      (by_test n (bytes_eq own (codes "dynamic")) _ _ (dynamic_few Dynamic Whole user.module_ argument)
      (by_test n (bytes_eq own (codes "multifile")) _ _ (dynamic_few Multifile Whole user.module_ argument)
      (by_test n (bytes_eq own (codes "meta_predicate")) _ _ (omega (arith, all_counted (takes_of user.module_ argument), takes_few user.module_ argument))
      (by_test n (is_among silent_names own) _ _ (omega arith) (by_test n (is_among outside_names own) _ _ tt (omega arith)))))))

  two_none : (first : Bool) (own : List ℕ) (left right tree : Tree) → DefinesAtMost 0 (two_said user first own left right tree)
  two_none first own left right tree =
      by_test 0 (bytes_eq own (codes "module")) _ _ (by_test 0 first _ _ (module_none left right _) tt)
      (by_test 0 (bytes_eq own (codes "use_module")) _ _ (some_none left (listed_indicators right))
      (by_test 0 (bytes_eq own (codes "set_prolog_flag")) _ _ (omega arith) (by_test 0 (bytes_eq own (codes "reexport")) _ _ tt (omega arith))))

  three_none : (own : List ℕ) (tree : Tree) → DefinesAtMost 0 (three_said own tree)
  three_none own tree = by_test 0 (bytes_eq own (codes "op")) _ _ (omega arith) (by_test 0 (bytes_eq own (codes "use_module")) _ _ tt (omega arith))

  shallow_few : (first : Bool) (tree : Tree) → DefinesAtMost (weight tree) (shallow_said user first tree)
  shallow_few first (compound own none form span) = omega arith
  shallow_few first (compound own (with_more argument none) form span) =
      let tree = compound own (with_more argument none) form span in
      more_allowed (weight argument + 1) (weight tree) (one_said user own argument tree) (omega arith) (one_few own argument tree)
  shallow_few first (compound own (with_more left (with_more right none)) form span) =
      let tree = compound own (with_more left (with_more right none)) form span in
      at_most (weight tree) (two_said user first own left right tree) (two_none first own left right tree)
  shallow_few first (compound own (with_more a (with_more b (with_more c none))) form span) =
      let tree = compound own (with_more a (with_more b (with_more c none))) form span in at_most (weight tree) (three_said own tree) (three_none own tree)
  shallow_few first (compound own (with_more a (with_more b (with_more c (with_more d rest)))) form span) = omega arith
  shallow_few first (atom own span) = by_test 0 (is_among (codes "else" ∷ codes "endif" ∷ []) own) _ _ tt (omega arith)
  shallow_few first (listed items span) = at_most (weight (listed items span)) (loads_said user.file Ensure (trees_in items)) (loads_none Ensure (trees_in items))
  shallow_few first (tailed items tail span) = tt
  shallow_few first (variable span) = omega arith
  shallow_few first (constant kind minus value span) = omega arith
  shallow_few first (curly inner span) = omega arith
  shallow_few first (paren inner span) = omega arith

  directive_few : (first : Bool) (tree : Tree) → DefinesAtMost (weight tree) (directive_said user first tree)
  directive_few first (compound own (with_more left (with_more right none)) form span) =
      let tree = compound own (with_more left (with_more right none)) form span in
      by_test (weight tree) (bytes_eq own (codes ",")) _ _
      (more_allowed (weight left + weight right) (weight tree) (in_turn (directive_said user false left) (directive_said user false right)) (omega arith)
      (turns (weight left) (weight right) (directive_said user false left) (directive_said user false right) (directive_few false left) (directive_few false right)))
      (shallow_few first tree)
  directive_few first (paren inner span) = more_allowed (weight inner) (weight (paren inner span)) (directive_said user first inner) (omega arith) (directive_few first inner)
  directive_few first tree = shallow_few first tree

  -- clauses

  headed_few : (told : Result Owned Refusal) (tree : Tree) → DefinesAtMost 1 (headed told tree)
  headed_few (Ok named) tree = omega arith
  headed_few (Err refusal) tree = tt

  directive_at_weight : (tree term : Tree) → directive_at tree ≡ Some term → weight term ≤ weight tree
  directive_at_weight (compound name (with_more argument none) form span) term is = of_test (bytes_eq name (codes ":-") || bytes_eq name (codes "?-")) is
    where
      of_test : (test : Bool) → (if test then Some argument else None) ≡ Some term → weight term ≤ weight (compound name (with_more argument none) form span)
      of_test true same = let one : argument ≡ term = (let both : Some argument ≡ Some term = same in cc) in omega (arith, ap weight one)
      of_test false same = let both : None ≡ Some term = same in absurd (cc)
  directive_at_weight tree term is = let both : None ≡ Some term = is in absurd (cc)

  clause_few : (first : Bool) (tree : Tree) → DefinesAtMost (weight tree + 2) (clause_said user first tree)
  clause_few first tree = by_term (directive_of tree) refl
    where
      by_term : (found : Option Tree) → directive_of tree ≡ found → DefinesAtMost (weight tree + 2) (clause_said user first tree)
      by_term (Some term) is =
          rw (is, clause_said)
          (more_allowed (weight term) (weight tree + 2) (directive_said user first term) (omega (arith, directive_at_weight (inside tree) term is, inside_weight tree)) (directive_few first term))
      by_term None is = rw (is, clause_said) (more_allowed 1 (weight tree + 2) (headed (clause_head user.module_ tree) tree) (omega arith) (headed_few (clause_head user.module_ tree) tree))

  pub trees_few : (trees : List Tree) → DefinesAtMost (total_weight trees) (trees_said user trees)
  trees_few [] = omega arith
  trees_few (tree ∷ trees) =
      subst (λ n. DefinesAtMost n (trees_said user (tree ∷ trees))) (sym (sum_by-cons (λ t. weight t + 2) tree trees))
      (turns (weight tree + 2) (total_weight trees) (clause_said user true tree) (each_said (clause_said user false) trees) (clause_few true tree)
      (each_counted (λ t. weight t + 2) (clause_said user false) (clause_few false) trees))
