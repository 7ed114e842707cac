-- What is handed down from clauses holds of what they say: of its goals, and of where all of it and a refusal stand.
use Rattle.std.proofs.Common.{◌≡◌, ℕ, suc, Bool, true, false, ◌||◌, ◌&&◌, List, [], ◌∷◌, Option, Some, None, Result, Ok, Err, codes, refl, ap, subst, arith, if◌then◌else◌, ◌++◌, length, sym, map}
use Rattle.std.proofs.lemmas.List.{length-map}
use Rattle.std.specs.Prelude.{All}
use Rattle.std.specs.Str.{bytes_eq}
use Rattle.std.proofs.lemmas.List.Elements.{All-nil, All-cons, All-append}
use Rattle.prolog_terms.specs.declared.term.Span.{Span}
use Rattle.prolog_terms.specs.declared.term.Form.{Form}
use Rattle.prolog_terms.specs.Tree.{Tree, Trees, atom, compound, listed, tailed, paren, more as with_more, none, variable, constant, curly}
use Rattle.prolog_terms.specs.Views.{inside, start_of, trees_in, Binary, binary, Named, name_and_arity, atom_name}
use Rattle.clause_text.specs.Lists.{written_items}
use Rattle.clause_text.specs.Items.{directive_at, directive_of}
use Rattle.clause_text.specs.declared.cause.Cause.TheVariants.{LateModule, BadIndicator, ControlHead, BadHead, NotInProfile}
use Rattle.module_table.specs.declared.indicator.Indicator.{Indicator}
use Rattle.module_table.specs.declared.load.LoadKind.{LoadKind}
use Rattle.module_table.specs.declared.load.LoadKind.TheVariants.{UseAll, UseSome, Ensure}
use Rattle.module_table.specs.Metas.{Declaration, goal_arg, takes_of, all_takes, taking}
use Rattle.module_table.specs.Said.{Said, Part, declares, loads, defines, goal, Refusal, refused, in_turn, each_said, nothing, only, takes, marks}
use Rattle.module_table.specs.Heads.{is_among, control_names, headless_names, named_head, head_named, plain_head, within, behind_modules, Owned, owned_by, head, grammar_head}
use Rattle.module_table.specs.Indicators.{indicator_of, indicator_with, indicator_from, arguments_added, arity_of, indicator, one_indicator, indicators, list_of, listed_indicators}
use Rattle.module_table.specs.declared.dynamic.Standing.{Standing}
use Rattle.module_table.specs.declared.dynamic.Standing.TheVariants.{Whole, Joint, Item}
use Rattle.module_table.specs.declared.mark.Property.{Property}
use Rattle.module_table.specs.declared.mark.Property.TheVariants.{Dynamic, Multifile}
use Rattle.module_table.specs.Dynamic.{owned, marked, bare_said, is_joint, is_whole, dynamic_at, each_dynamic, dynamic_said}
use Rattle.module_table.specs.Loading.{is_system, file_of, load_said, loads_said, use_all_said}
use Rattle.module_table.specs.Directives.{Home, home, some_said, use_some_said, is_operator, item_exports, exports_of, exports, declared_said, module_name, module_said, silent_names, outside_names, one_said, two_said, three_said, shallow_said, directive_said, meta_said}
use Rattle.module_table.specs.Facts.{with_added, head_with, clause_head, headed, clause_said, module_of, trees_said, file_said}
use Rattle.module_table.proofs.HandedDown.{HandsDown, inside_good, start_good, first_good, second_good, AreGood, pair_good, grammar_good, written_good, list_good}

-- where an indicator starts
from_parts : (name : Option (List ℕ)) (arity : Option ℕ) (from : ℕ) (i : Indicator) → indicator_of name arity from ≡ Some i → from ≡ i.from
from_parts (Some name) (Some arity) from i is =
    let same : record { name = name; arity = arity; from = from } ≡ i = cc in
    ap (λ (j : Indicator). j.from) same
from_parts (Some name) None from i is = let both : None ≡ Some i = is in absurd (cc)
from_parts None arity from i is = let both : None ≡ Some i = is in absurd (cc)

from_added : (added : Option ℕ) (name arity : Tree) (from : ℕ) (i : Indicator) → indicator_with added name arity from ≡ Some i → from ≡ i.from
from_added (Some added) name arity from i is = from_parts (atom_name name) (arity_of arity added) from i is
from_added None name arity from i is = let both : None ≡ Some i = is in absurd (cc)

from_pair : (pair : Option Binary) (from : ℕ) (i : Indicator) → indicator_from pair from ≡ Some i → from ≡ i.from
from_pair (Some pair) from i is = from_added (arguments_added pair.name) pair.left pair.right from i is
from_pair None from i is = let both : None ≡ Some i = is in absurd (cc)

module _ (k : HandsDown) where
  -- this holds of what is told, or a refusal stands where a term starts
  abbrev pub Holds : {A : Type 0} → (A → Type 0) → Result A Refusal → Type 0
  Holds P (Ok x) = P x
  Holds P (Err refusal) = k.At refusal.offset

  abbrev pub IsAt : Indicator → Type 0
  IsAt i = k.At i.from

  abbrev pub IsKept : Part → Type 0
  IsKept (declares own) = k.At own.from × All IsAt own.exports
  IsKept (loads own) = k.At own.from × All IsAt own.items
  IsKept (defines own) = Unit {0}
  IsKept (takes own) = k.At own.from × k.Many (length own.args)
  IsKept (marks own) = Unit {0}
  IsKept (goal tree) = k.Good tree

  abbrev pub Kept : Said → Type 0
  Kept said = Holds (All IsKept) said

  abbrev Listed : Result (List Indicator) Refusal → Type 0
  Listed told = Holds (All IsAt) told

  abbrev AnyHead : {A : Type 0} → Result A Refusal → Type 0
  AnyHead told = Holds (λ named. Unit {0}) told

  -- a test, two in turn, and each of some trees

  by_test : {A : Type 0} (P : A → Type 0) (test : Bool) (a b : Result A Refusal) → Holds P a → Holds P b → Holds P (if test then a else b)
  by_test P true a b first second = first
  by_test P false a b first second = second

  by_test_said : (test : Bool) (a b : Said) → Kept a → Kept b → Kept (if test then a else b)
  by_test_said test a b first second = by_test (All IsKept) test a b first second

  turns : {A : Type 0} (P : A → Type 0) (a b : Result (List A) Refusal) → Holds (All P) a → Holds (All P) b → Holds (All P) (in_turn a b)
  turns P (Ok xs) (Ok ys) first second = All-append P xs ys first second
  turns P (Ok xs) (Err refusal) first second = second
  turns P (Err refusal) b first second = first

  module _ {A : Type 0} (P : A → Type 0) (says : Tree → Result (List A) Refusal) (one : (tree : Tree) → k.Good tree → Holds (All P) (says tree)) where
    each_kept : (trees : List Tree) → All k.Good trees → Holds (All P) (each_said says trees)
    each_kept [] all = All-nil P
    each_kept (tree ∷ trees) all =
        turns P (says tree) (each_said says trees) (one tree (all 0 tree (omega arith))) (each_kept trees (λ i x below. all (suc i) x (omega (arith, below))))

  only_kept : (part : Part) → IsKept part → Kept (only part)
  only_kept part kept = All-cons IsKept part [] kept (All-nil IsKept)

  no_parts : Kept nothing
  no_parts = All-nil IsKept

  -- heads

  named_kept : (tree : Tree) (name : List ℕ) (arity : ℕ) → k.Good tree → AnyHead (named_head tree name arity)
  named_kept tree name arity good =
      by_test (λ named. Unit {0}) (is_among (control_names arity) name) (refused ControlHead tree) _ (start_good k tree good)
      (by_test (λ named. Unit {0}) (is_among (headless_names arity) name) (refused BadHead tree) (Ok (record { name = name; arity = arity })) (start_good k tree good) tt)

  plain_kept : (tree : Tree) → k.Good tree → AnyHead (plain_head tree)
  plain_kept tree good = by_name (name_and_arity tree)
    where
      by_name : (found : Option Named) → AnyHead (head_named tree found)
      by_name (Some named) = named_kept tree named.name named.arity good
      by_name None = start_good k tree good

  -- what stands behind the names of modules
  behind_good : (owner : List ℕ) (tree : Tree) → k.Good tree → k.Good (behind_modules owner tree).tree
  behind_good owner (compound name (with_more left (with_more right none)) form span) good =
      of_test (bytes_eq name (codes ":")) (atom_name left) (λ own. behind_good own right (second_good k name left right none form span good))
    where
      tree : Tree
      tree = compound name (with_more left (with_more right none)) form span

      of_test : (test : Bool) (found : Option (List ℕ)) → ((own : List ℕ) → k.Good (behind_modules own right).tree)
          → k.Good (if test then elim found [ Some own ↦ behind_modules own right | None ↦ within owner tree ] else within owner tree).tree
      of_test true (Some own) all = all own
      of_test true None all = good
      of_test false found all = good
  behind_good owner (paren inner span) good = behind_good owner inner (k.inner inner span good)
  behind_good owner tree good = good

  owned_kept : (owner : List ℕ) (told : Result Named Refusal) → AnyHead told → AnyHead (owned_by owner told)
  owned_kept owner (Ok named) kept = tt
  owned_kept owner (Err refusal) kept = kept

  head_kept : (owner : List ℕ) (tree : Tree) → k.Good tree → AnyHead (head owner tree)
  head_kept owner tree good =
      let behind = behind_modules owner tree in owned_kept behind.module_ (plain_head behind.tree) (plain_kept behind.tree (behind_good owner tree good))

  added_kept : (n : ℕ) (told : Result Owned Refusal) → AnyHead told → AnyHead (with_added n told)
  added_kept n (Ok named) kept = tt
  added_kept n (Err refusal) kept = kept

  clause_head_kept : (owner : List ℕ) (tree : Tree) → k.Good tree → AnyHead (clause_head owner tree)
  clause_head_kept owner tree good = by_pair (binary tree) refl
    where
      by_pair : (found : Option Binary) → binary tree ≡ found → AnyHead (head_with owner tree found)
      by_pair (Some pair) is =
          let are : AreGood k pair = pair_good k tree pair is good in
          by_test (λ named. Unit {0}) (bytes_eq pair.name (codes ":-")) (head owner pair.left) _ (head_kept owner pair.left are.left)
          (by_test (λ named. Unit {0}) (bytes_eq pair.name (codes "-->")) (with_added 2 (head owner (grammar_head pair.left))) (head owner tree)
          (added_kept 2 (head owner (grammar_head pair.left)) (head_kept owner (grammar_head pair.left) (grammar_good k pair.left are.left))) (head_kept owner tree good))
      by_pair None is = head_kept owner tree good

  headed_kept : (told : Result Owned Refusal) (tree : Tree) → AnyHead told → Kept (headed told tree)
  headed_kept (Ok named) tree kept = only_kept (defines (record { module_ = named.module_; name = named.name; arity = named.arity; clause = Some tree })) tt
  headed_kept (Err refusal) tree kept = kept

  -- indicators

  one_kept : (tree : Tree) → k.Good tree → Listed (one_indicator tree)
  one_kept tree good = by_option (indicator tree) refl
    where
      by_option : (found : Option Indicator) → indicator tree ≡ found → Listed (one_indicator tree)
      by_option (Some i) is =
          rw (is, one_indicator) (All-cons IsAt i [] (subst k.At (from_pair (binary tree) (start_of tree) i is) (start_good k tree good)) (All-nil IsAt))
      by_option None is = rw (is, one_indicator) (start_good k tree good)

  indicators_kept : (trees : List Tree) → All k.Good trees → Listed (indicators trees)
  indicators_kept trees all = each_kept IsAt one_indicator one_kept trees all

  listed_kept : (tree : Tree) → k.Good tree → Listed (listed_indicators tree)
  listed_kept tree good = by_list (list_of tree) refl
    where
      by_list : (found : Option (List Tree)) → list_of tree ≡ found → Listed (listed_indicators tree)
      by_list (Some items) is = rw (is, listed_indicators) (indicators_kept items (list_good k tree items is good))
      by_list None is = rw (is, listed_indicators) (start_good k tree good)

  -- loads

  load_kept : (user : List ℕ) (kind : LoadKind) (items : List Indicator) (tree : Tree) → All IsAt items → k.Good tree → Kept (load_said user kind items tree)
  load_kept user kind items tree all good = by_system (is_system tree) refl
    where
      by_file : (found : Option (List ℕ)) → is_system tree ≡ false → file_of user tree ≡ found → Kept (load_said user kind items tree)
      by_file (Some file) plain is =
          rw (plain, is, load_said) (only_kept (loads (record { file = file; kind = kind; items = items; from = start_of tree })) (start_good k tree good, all))
      by_file None plain is = rw (plain, is, load_said) (start_good k tree good)

      by_system : (test : Bool) → is_system tree ≡ test → Kept (load_said user kind items tree)
      by_system true is = rw (is, load_said) no_parts
      by_system false is = by_file (file_of user tree) is refl

  loads_kept : (user : List ℕ) (kind : LoadKind) (trees : List Tree) → All k.Good trees → Kept (loads_said user kind trees)
  loads_kept user kind trees all = each_kept IsKept (load_said user kind []) (λ tree good. load_kept user kind [] tree (All-nil IsAt) good) trees all

  use_all_kept : (user : List ℕ) (tree : Tree) → k.Good tree → Kept (use_all_said user tree)
  use_all_kept user tree good = by_list (written_items tree) refl
    where
      by_list : (found : Option (List Tree)) → written_items tree ≡ found → Kept (use_all_said user tree)
      by_list (Some trees) is = rw (is, use_all_said) (loads_kept user UseAll trees (written_good k tree trees is good))
      by_list None is = rw (is, use_all_said) (load_kept user UseAll [] tree (All-nil IsAt) good)

  -- directives

  bare_kept : (property : Property) (owner : List ℕ) (tree : Tree) → k.Good tree → Kept (bare_said property owner tree)
  bare_kept property owner tree good = by_owned (owned owner tree) refl
    where
      by_owned : (found : Option Owned) → owned owner tree ≡ found → Kept (bare_said property owner tree)
      by_owned (Some own) is = rw (is, bare_said) (only_kept (marked property own) tt)
      by_owned None is = rw (is, bare_said) (start_good k tree good)

  inner_kept : (property : Property) (found : Option (List ℕ)) (right tree : Tree) → k.Good tree → ((inner : List ℕ) → Kept (dynamic_at property Whole inner right))
      → Kept (elim found [ Some inner ↦ dynamic_at property Whole inner right | None ↦ refused BadIndicator tree ])
  inner_kept property (Some inner) right tree good all = all inner
  inner_kept property None right tree good all = start_good k tree good

  mutual
    dynamic_kept : (property : Property) (at : Standing) (owner : List ℕ) (tree : Tree) → k.Good tree → Kept (dynamic_at property at owner tree)
    dynamic_kept property at owner (compound own (with_more left (with_more right none)) form span) good =
        let tree = compound own (with_more left (with_more right none)) form span in
        let one = first_good k own left (with_more right none) form span good in
        let other = second_good k own left right none form span good in
        by_test_said (is_joint at && bytes_eq own (codes ",")) (in_turn (dynamic_at property Joint owner left) (dynamic_at property Joint owner right)) _
        (turns IsKept (dynamic_at property Joint owner left) (dynamic_at property Joint owner right) (dynamic_kept property Joint owner left one) (dynamic_kept property Joint owner right other))
        (by_test_said (bytes_eq own (codes ":")) _ (bare_said property owner tree)
        (inner_kept property (atom_name left) right tree good (λ inner. dynamic_kept property Whole inner right other)) (bare_kept property owner tree good))
    dynamic_kept property at owner (listed items span) good =
        by_test_said (is_whole at) (each_dynamic property owner items) (refused BadIndicator (listed items span)) (each_dynamic_kept property owner items (k.items items span good))
        (start_good k (listed items span) good)
    dynamic_kept property at owner (atom own span) good =
        by_test_said (is_whole at && bytes_eq own (codes "[]")) nothing (refused BadIndicator (atom own span)) no_parts (start_good k (atom own span) good)
    dynamic_kept property at owner (paren inner span) good = dynamic_kept property at owner inner (k.inner inner span good)
    dynamic_kept property at owner tree good = start_good k tree good

    each_dynamic_kept : (property : Property) (owner : List ℕ) (trees : Trees) → All k.Good (trees_in trees) → Kept (each_dynamic property owner trees)
    each_dynamic_kept property owner none all = no_parts
    each_dynamic_kept property owner (with_more tree trees) all =
        turns IsKept (dynamic_at property Item owner tree) (each_dynamic property owner trees) (dynamic_kept property Item owner tree (all 0 tree (omega arith)))
        (each_dynamic_kept property owner trees (λ i x below. all (suc i) x (omega (arith, below))))

  some_kept : (user : List ℕ) (file : Tree) (told : Result (List Indicator) Refusal) → k.Good file → Listed told → Kept (some_said user file told)
  some_kept user file (Ok items) good kept = load_kept user UseSome items file kept good
  some_kept user file (Err refusal) good kept = turns IsKept (load_said user UseSome [] file) (Err refusal) (load_kept user UseSome [] file (All-nil IsAt) good) kept

  item_kept : (item : Tree) → k.Good item → Listed (item_exports item)
  item_kept item good = by_test (All IsAt) (is_operator item) (Ok []) (one_indicator item) (All-nil IsAt) (one_kept item good)

  exports_kept : (list : Tree) → k.Good list → Listed (exports list)
  exports_kept list good = by_list (list_of list) refl
    where
      by_list : (found : Option (List Tree)) → list_of list ≡ found → Listed (exports_of list found)
      by_list (Some items) is = each_kept IsAt item_exports item_kept items (list_good k list items is good)
      by_list None is = start_good k list good

  declared_said_kept : (name : List ℕ) (from : ℕ) (told : Result (List Indicator) Refusal) → k.At from → Listed told → Kept (declared_said name from told)
  declared_said_kept name from (Ok exports) at kept = only_kept (declares (record { name = name; from = from; exports = exports })) (at, kept)
  declared_said_kept name from (Err refusal) at kept = kept

  module_kept : (name list : Tree) (from : ℕ) → k.At from → k.Good name → k.Good list → Kept (module_said name list from)
  module_kept name list from at named good = by_name (module_name name) refl
    where
      by_name : (found : Option (List ℕ)) → module_name name ≡ found → Kept (module_said name list from)
      by_name (Some own) is = rw (is, module_said) (declared_said_kept own from (exports list) at (exports_kept list good))
      by_name None is = rw (is, module_said) (start_good k name named)

  -- declarations of goal arguments

  abbrev IsTaken : Declaration → Type 0
  IsTaken t = k.At t.from × k.Many (length t.args)

  all_taken : (ts : List Declaration) → All IsTaken ts → All IsKept (map takes ts)
  all_taken [] all = All-nil IsKept
  all_taken (t ∷ ts) all = All-cons IsKept (takes t) (map takes ts) (all 0 t (omega arith)) (all_taken ts (λ i x below. all (suc i) x (omega (arith, below))))

  taking_kept : (owner : List ℕ) (name : List ℕ) (args : Trees) (form : Form) (span : Span) → k.Good (compound name args form span) → All IsTaken (taking owner name args span.from)
  taking_kept owner name args form span good =
      let one : Declaration = record { module_ = owner; name = name; args = map goal_arg (trees_in args); from = span.from } in
      let many : k.Many (length one.args) = subst k.Many (sym (length-map (trees_in args) goal_arg)) (k.many name args form span good) in
      All-cons IsTaken one [] (k.start (compound name args form span) good, many) (All-nil IsTaken)

  named_taken : (found : Option (List ℕ)) (right : Tree) → ((own : List ℕ) → All IsTaken (takes_of own right))
      → All IsTaken (elim found [ Some own ↦ takes_of own right | None ↦ [] ])
  named_taken (Some own) right all = all own
  named_taken None right all = All-nil IsTaken

  taken_if : (test : Bool) (a b : List Declaration) → All IsTaken a → All IsTaken b → All IsTaken (if test then a else b)
  taken_if true a b one other = one
  taken_if false a b one other = other

  mutual
    takes_kept : (owner : List ℕ) (tree : Tree) → k.Good tree → All IsTaken (takes_of owner tree)
    takes_kept owner (compound name none form span) good = taking_kept owner name none form span good
    takes_kept owner (compound name (with_more a none) form span) good = taking_kept owner name (with_more a none) form span good
    takes_kept owner (compound name (with_more left (with_more right none)) form span) good =
        let one = first_good k name left (with_more right none) form span good in
        let other = second_good k name left right none form span good in
        taken_if (bytes_eq name (codes ",")) (takes_of owner left ++ takes_of owner right) _
        (All-append IsTaken (takes_of owner left) (takes_of owner right) (takes_kept owner left one) (takes_kept owner right other))
        (taken_if (bytes_eq name (codes ":")) _ _ (named_taken (atom_name left) right (λ own. takes_kept own right other))
        (taking_kept owner name (with_more left (with_more right none)) form span good))
    takes_kept owner (compound name (with_more a (with_more b (with_more c rest))) form span) good =
        taking_kept owner name (with_more a (with_more b (with_more c rest))) form span good
    takes_kept owner (listed items span) good = items_kept owner items (k.items items span good)
    takes_kept owner (paren inner span) good = takes_kept owner inner (k.inner inner span good)
    takes_kept owner (atom name span) good = All-nil IsTaken
    takes_kept owner (tailed items tail span) good = All-nil IsTaken
    takes_kept owner (variable span) good = All-nil IsTaken
    takes_kept owner (constant kind minus value span) good = All-nil IsTaken
    takes_kept owner (curly inner span) good = All-nil IsTaken

    items_kept : (owner : List ℕ) (trees : Trees) → All k.Good (trees_in trees) → All IsTaken (all_takes owner trees)
    items_kept owner none all = All-nil IsTaken
    items_kept owner (with_more tree trees) all =
        All-append IsTaken (takes_of owner tree) (all_takes owner trees) (takes_kept owner tree (all 0 tree (omega arith)))
        (items_kept owner trees (λ i x below. all (suc i) x (omega (arith, below))))

  one_said_kept : (user : Home) (name : List ℕ) (argument tree : Tree) → k.Good argument → k.Good tree → Kept (one_said user name argument tree)
  one_said_kept user name argument tree inner good =
      by_test_said (bytes_eq name (codes "use_module")) (use_all_said user.file argument) _ (use_all_kept user.file argument inner)
      (by_test_said (is_among (codes "ensure_loaded" ∷ codes "consult" ∷ []) name) (load_said user.file Ensure [] argument) _ (load_kept user.file Ensure [] argument (All-nil IsAt) inner)
      (by_test_said (bytes_eq name (codes "dynamic")) (dynamic_said Dynamic user.module_ argument) _ (dynamic_kept Dynamic Whole user.module_ argument inner)
      (by_test_said (bytes_eq name (codes "multifile")) (dynamic_said Multifile user.module_ argument) _ (dynamic_kept Multifile Whole user.module_ argument inner)
      (by_test_said (bytes_eq name (codes "meta_predicate")) (meta_said user.module_ argument) _ (all_taken (takes_of user.module_ argument) (takes_kept user.module_ argument inner))
      (by_test_said (is_among silent_names name) nothing _ no_parts
      (by_test_said (is_among outside_names name) (refused NotInProfile tree) (only (goal tree)) (start_good k tree good) (only_kept (goal tree) good)))))))

  two_said_kept : (user : Home) (first : Bool) (name : List ℕ) (left right tree : Tree) → k.Good left → k.Good right → k.Good tree
      → Kept (two_said user first name left right tree)
  two_said_kept user first name left right tree one other good =
      by_test_said (bytes_eq name (codes "module")) _ _
      (by_test_said first (module_said left right (start_of tree)) (refused LateModule tree) (module_kept left right (start_of tree) (start_good k tree good) one other)
      (start_good k tree good))
      (by_test_said (bytes_eq name (codes "use_module")) (use_some_said user.file left right) _ (some_kept user.file left (listed_indicators right) one (listed_kept right other))
      (by_test_said (bytes_eq name (codes "set_prolog_flag")) nothing _ no_parts
      (by_test_said (bytes_eq name (codes "reexport")) (refused NotInProfile tree) (only (goal tree)) (start_good k tree good) (only_kept (goal tree) good))))

  three_said_kept : (name : List ℕ) (tree : Tree) → k.Good tree → Kept (three_said name tree)
  three_said_kept name tree good =
      by_test_said (bytes_eq name (codes "op")) nothing _ no_parts
      (by_test_said (bytes_eq name (codes "use_module")) (refused NotInProfile tree) (only (goal tree)) (start_good k tree good) (only_kept (goal tree) good))

  compound_kept : (user : Home) (first : Bool) (name : List ℕ) (args : Trees) (form : Form) (span : Span) → k.Good (compound name args form span)
      → Kept (shallow_said user first (compound name args form span))
  compound_kept user first name none form span good = only_kept (goal (compound name none form span)) good
  compound_kept user first name (with_more a none) form span good =
      one_said_kept user name a (compound name (with_more a none) form span) (first_good k name a none form span good) good
  compound_kept user first name (with_more a (with_more b none)) form span good =
      two_said_kept user first name a b (compound name (with_more a (with_more b none)) form span) (first_good k name a (with_more b none) form span good)
      (second_good k name a b none form span good) good
  compound_kept user first name (with_more a (with_more b (with_more c none))) form span good =
      three_said_kept name (compound name (with_more a (with_more b (with_more c none))) form span) good
  compound_kept user first name (with_more a (with_more b (with_more c (with_more d others)))) form span good =
      only_kept (goal (compound name (with_more a (with_more b (with_more c (with_more d others)))) form span)) good

  shallow_kept : (user : Home) (first : Bool) (tree : Tree) → k.Good tree → Kept (shallow_said user first tree)
  shallow_kept user first (compound name args form span) good = compound_kept user first name args form span good
  shallow_kept user first (atom name span) good =
      by_test_said (is_among (codes "else" ∷ codes "endif" ∷ []) name) (refused NotInProfile (atom name span)) (only (goal (atom name span))) (start_good k (atom name span) good)
      (only_kept (goal (atom name span)) good)
  shallow_kept user first (listed items span) good = loads_kept user.file Ensure (trees_in items) (k.items items span good)
  shallow_kept user first (tailed items tail span) good = start_good k (tailed items tail span) good
  shallow_kept user first tree good = only_kept (goal tree) good

  directive_kept : (user : Home) (first : Bool) (tree : Tree) → k.Good tree → Kept (directive_said user first tree)
  directive_kept user first (compound name (with_more left (with_more right none)) form span) good =
      by_test_said (bytes_eq name (codes ",")) (in_turn (directive_said user false left) (directive_said user false right)) _
      (turns IsKept (directive_said user false left) (directive_said user false right)
      (directive_kept user false left (first_good k name left (with_more right none) form span good))
      (directive_kept user false right (second_good k name left right none form span good)))
      (shallow_kept user first (compound name (with_more left (with_more right none)) form span) good)
  directive_kept user first (paren inner span) good = directive_kept user first inner (k.inner inner span good)
  directive_kept user first tree good = shallow_kept user first tree good

  -- clauses

  directive_at_good : (tree term : Tree) → directive_at tree ≡ Some term → k.Good tree → k.Good term
  directive_at_good (compound name (with_more argument none) form span) term is good = of_test (bytes_eq name (codes ":-") || bytes_eq name (codes "?-")) is
    where
      same_term : (a b : Tree) → Some a ≡ Some b → a ≡ b
      same_term a b same = cc

      of_test : (test : Bool) → (if test then Some argument else None) ≡ Some term → k.Good term
      of_test true same = subst k.Good (same_term argument term same) (first_good k name argument none form span good)
      of_test false same = let both : None ≡ Some term = same in absurd (cc)
  directive_at_good tree term is good = let both : None ≡ Some term = is in absurd (cc)

  clause_kept : (user : Home) (first : Bool) (tree : Tree) → k.Good tree → Kept (clause_said user first tree)
  clause_kept user first tree good = by_term (directive_of tree) refl
    where
      by_term : (found : Option Tree) → directive_of tree ≡ found → Kept (clause_said user first tree)
      by_term (Some term) is = rw (is, clause_said) (directive_kept user first term (directive_at_good (inside tree) term is (inside_good k tree good)))
      by_term None is = rw (is, clause_said) (headed_kept (clause_head user.module_ tree) tree (clause_head_kept user.module_ tree good))

  trees_kept : (user : Home) (trees : List Tree) → All k.Good trees → Kept (trees_said user trees)
  trees_kept user [] all = no_parts
  trees_kept user (tree ∷ trees) all =
      turns IsKept (clause_said user true tree) (each_said (clause_said user false) trees) (clause_kept user true tree (all 0 tree (omega arith)))
      (each_kept IsKept (clause_said user false) (λ t good. clause_kept user false t good) trees (λ i x below. all (suc i) x (omega (arith, below))))

  pub file_kept : (user : List ℕ) (trees : List Tree) → All k.Good trees → Kept (file_said user trees)
  file_kept user trees all = trees_kept (home user (module_of trees)) trees all
