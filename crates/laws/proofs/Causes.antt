-- What directives and heads are refused for, and that none but the first declares a module.
use Rattle.std.proofs.Common.{◌≡◌, ◌⊎◌, inl, inr, ℕ, Bool, true, false, ◌&&◌, List, [], ◌∷◌, Option, Some, None, Result, Ok, Err, codes, refl, if◌then◌else◌, map}
use Rattle.std.specs.Prelude.{All}
use Rattle.std.specs.Str.{bytes_eq}
use Rattle.std.proofs.lemmas.List.Elements.{All-nil, All-cons, All-append}
use Rattle.prolog_terms.specs.declared.term.Span.{Span}
use Rattle.prolog_terms.specs.declared.term.Form.{Form}
use Rattle.prolog_terms.specs.Tree.{Tree, Trees, atom, compound, listed, tailed, paren, more as with_more, none}
use Rattle.prolog_terms.specs.Views.{start_of, trees_in, Binary, binary, Named, name_and_arity, atom_name}
use Rattle.clause_text.specs.Lists.{written_items}
use Rattle.clause_text.specs.Items.{directive_of}
use Rattle.clause_text.specs.declared.cause.Cause.TheVariants.{LateModule, BadIndicator, ControlHead, BadHead, NotInProfile}
use Rattle.module_table.specs.declared.indicator.Indicator.{Indicator}
use Rattle.module_table.specs.declared.load.LoadKind.{LoadKind}
use Rattle.module_table.specs.declared.load.LoadKind.TheVariants.{UseAll, UseSome, Ensure}
use Rattle.module_table.specs.Metas.{Declaration, takes_of}
use Rattle.module_table.specs.Said.{Said, Part, Declares, declares, loads, defines, goal, Refusal, refused, in_turn, each_said, nothing, only, takes, marks}
use Rattle.module_table.specs.Heads.{is_among, control_names, headless_names, head_named, plain_head, behind_modules, Owned, owned_by, head, grammar_head}
use Rattle.module_table.specs.Indicators.{indicator, one_indicator, indicators, list_of, listed_indicators}
use Rattle.module_table.specs.declared.dynamic.Standing.{Standing}
use Rattle.module_table.specs.declared.dynamic.Standing.TheVariants.{Whole, Joint, Item}
use Rattle.module_table.specs.declared.mark.Property.{Property}
use Rattle.module_table.specs.declared.mark.Property.TheVariants.{Dynamic, Multifile}
use Rattle.module_table.specs.Dynamic.{owned, marked, bare_said, is_joint, is_whole, dynamic_at, each_dynamic, dynamic_said}
use Rattle.module_table.specs.Loading.{is_system, file_of, load_said, loads_said, use_all_said}
use Rattle.module_table.specs.Directives.{Home, some_said, use_some_said, is_operator, item_exports, exports_of, exports, declared_said, module_name, module_said, silent_names, outside_names, one_said, two_said, three_said, shallow_said, directive_said, meta_said}
use Rattle.module_table.specs.Facts.{with_added, head_with, clause_head, headed, clause_said}
use Rattle.laws.specs.Causes.{is_fact_cause}

-- this holds of what is told, or the cause of the refusal is one of facts
abbrev pub Holds : {A : Type 0} → (A → Type 0) → Result A Refusal → Type 0
Holds P (Ok x) = P x
Holds P (Err refusal) = is_fact_cause refusal.cause ≡ true

-- the part declares no module
abbrev pub IsPlain : Part → Type 0
IsPlain (declares own) = ⊥
IsPlain (loads own) = Unit {0}
IsPlain (defines own) = Unit {0}
IsPlain (takes own) = Unit {0}
IsPlain (marks own) = Unit {0}
IsPlain (goal tree) = Unit {0}

abbrev pub Plain : Said → Type 0
Plain said = Holds (All IsPlain) said

-- whatever is told
abbrev pub Any : {A : Type 0} → Result A Refusal → Type 0
Any told = Holds (λ x. Unit {0}) told

-- no part declares a module, or one alone does
abbrev pub AtMostOne : Bool → List Part → Type 0
AtMostOne first parts = All IsPlain parts ⊎ ((first ≡ true) × ((own : Declares) × (parts ≡ declares own ∷ [])))

abbrev pub One : Bool → Said → Type 0
One first said = Holds (AtMostOne first) said

-- a test, two in turn, and each of some trees

by_test : {A : Type 0} (P : A → Type 0) (test : Bool) (a b : Result A Refusal) → Holds P a → Holds P b → Holds P (if test then a else b)
by_test P true a b first second = first
by_test P false a b first second = second

pub by_said : (test : Bool) (a b : Said) → Plain a → Plain b → Plain (if test then a else b)
by_said test a b first second = by_test (All IsPlain) test a b first second

by_any : {A : Type 0} (test : Bool) (a b : Result A Refusal) → Any a → Any b → Any (if test then a else b)
by_any test a b first second = by_test (λ x. Unit {0}) test a b first second

by_one : (first test : Bool) (a b : Said) → One first a → One first b → One first (if test then a else b)
by_one first test a b one two = by_test (AtMostOne first) test a b one two

plain_one : (first : Bool) (said : Said) → Plain said → One first said
plain_one first (Ok parts) plain = inl plain
plain_one first (Err refusal) plain = plain

pub one_plain : (said : Said) → One false said → Plain said
one_plain (Ok parts) (inl plain) = plain
one_plain (Ok parts) (inr one) = let both : false ≡ true = one.0 in absurd (cc)
one_plain (Err refusal) one = one

pub turns : (a b : Said) → Plain a → Plain b → Plain (in_turn a b)
turns (Ok xs) (Ok ys) first second = All-append IsPlain xs ys first second
turns (Ok xs) (Err refusal) first second = second
turns (Err refusal) b first second = first

any_turns : {A : Type 0} (a b : Result (List A) Refusal) → Any a → Any b → Any (in_turn a b)
any_turns (Ok xs) (Ok ys) first second = tt
any_turns (Ok xs) (Err refusal) first second = second
any_turns (Err refusal) b first second = first

any_each : {A : Type 0} (says : Tree → Result (List A) Refusal) → ((tree : Tree) → Any (says tree)) → (trees : List Tree) → Any (each_said says trees)
any_each says one [] = tt
any_each says one (tree ∷ trees) = any_turns (says tree) (each_said says trees) (one tree) (any_each says one trees)

plain_each : (says : Tree → Said) → ((tree : Tree) → Plain (says tree)) → (trees : List Tree) → Plain (each_said says trees)
plain_each says one [] = All-nil IsPlain
plain_each says one (tree ∷ trees) = turns (says tree) (each_said says trees) (one tree) (plain_each says one trees)

pub only_plain : (part : Part) → IsPlain part → Plain (only part)
only_plain part plain = All-cons IsPlain part [] plain (All-nil IsPlain)

pub no_parts : Plain nothing
no_parts = All-nil IsPlain

-- heads

plain_any : (tree : Tree) → Any (plain_head tree)
plain_any tree = by_name (name_and_arity tree)
  where
    by_name : (found : Option Named) → Any (head_named tree found)
    by_name (Some named) =
        by_any (is_among (control_names named.arity) named.name) (refused ControlHead tree) _ refl
        (by_any (is_among (headless_names named.arity) named.name) (refused BadHead tree) (Ok (record { name = named.name; arity = named.arity })) refl tt)
    by_name None = refl

owned_any : (owner : List ℕ) (told : Result Named Refusal) → Any told → Any (owned_by owner told)
owned_any owner (Ok named) any = tt
owned_any owner (Err refusal) any = any

head_any : (owner : List ℕ) (tree : Tree) → Any (head owner tree)
head_any owner tree = let behind = behind_modules owner tree in owned_any behind.module_ (plain_head behind.tree) (plain_any behind.tree)

added_any : (n : ℕ) (told : Result Owned Refusal) → Any told → Any (with_added n told)
added_any n (Ok named) any = tt
added_any n (Err refusal) any = any

pub clause_head_any : (owner : List ℕ) (tree : Tree) → Any (clause_head owner tree)
clause_head_any owner tree = by_pair (binary tree)
  where
    by_pair : (found : Option Binary) → Any (head_with owner tree found)
    by_pair (Some pair) =
        by_any (bytes_eq pair.name (codes ":-")) (head owner pair.left) _ (head_any owner pair.left)
        (by_any (bytes_eq pair.name (codes "-->")) (with_added 2 (head owner (grammar_head pair.left))) (head owner tree)
        (added_any 2 (head owner (grammar_head pair.left)) (head_any owner (grammar_head pair.left))) (head_any owner tree))
    by_pair None = head_any owner tree

pub headed_plain : (told : Result Owned Refusal) (tree : Tree) → Any told → Plain (headed told tree)
headed_plain (Ok named) tree any = only_plain (defines (record { module_ = named.module_; name = named.name; arity = named.arity; clause = Some tree })) tt
headed_plain (Err refusal) tree any = any

-- indicators

one_any : (tree : Tree) → Any (one_indicator tree)
one_any tree = by_option (indicator tree) refl
  where
    by_option : (found : Option Indicator) → indicator tree ≡ found → Any (one_indicator tree)
    by_option (Some i) is = rw (is, one_indicator) tt
    by_option None is = rw (is, one_indicator) refl

indicators_any : (trees : List Tree) → Any (indicators trees)
indicators_any trees = any_each one_indicator one_any trees

pub listed_any : (tree : Tree) → Any (listed_indicators tree)
listed_any tree = by_list (list_of tree) refl
  where
    by_list : (found : Option (List Tree)) → list_of tree ≡ found → Any (listed_indicators tree)
    by_list (Some items) is = rw (is, listed_indicators) (indicators_any items)
    by_list None is = rw (is, listed_indicators) refl

-- loads

load_plain : (user : List ℕ) (kind : LoadKind) (items : List Indicator) (tree : Tree) → Plain (load_said user kind items tree)
load_plain user kind items tree = by_system (is_system tree) refl
  where
    by_file : (found : Option (List ℕ)) → is_system tree ≡ false → file_of user tree ≡ found → Plain (load_said user kind items tree)
    by_file (Some file) plain is = rw (plain, is, load_said) (only_plain (loads (record { file = file; kind = kind; items = items; from = start_of tree })) tt)
    by_file None plain is = rw (plain, is, load_said) refl

    by_system : (test : Bool) → is_system tree ≡ test → Plain (load_said user kind items tree)
    by_system true is = rw (is, load_said) no_parts
    by_system false is = by_file (file_of user tree) is refl

pub loads_plain : (user : List ℕ) (kind : LoadKind) (trees : List Tree) → Plain (loads_said user kind trees)
loads_plain user kind trees = plain_each (load_said user kind []) (λ tree. load_plain user kind [] tree) trees

use_all_plain : (user : List ℕ) (tree : Tree) → Plain (use_all_said user tree)
use_all_plain user tree = by_list (written_items tree) refl
  where
    by_list : (found : Option (List Tree)) → written_items tree ≡ found → Plain (use_all_said user tree)
    by_list (Some trees) is = rw (is, use_all_said) (loads_plain user UseAll trees)
    by_list None is = rw (is, use_all_said) (load_plain user UseAll [] tree)

-- directives

bare_plain : (property : Property) (owner : List ℕ) (tree : Tree) → Plain (bare_said property owner tree)
bare_plain property owner tree = by_owned (owned owner tree) refl
  where
    by_owned : (found : Option Owned) → owned owner tree ≡ found → Plain (bare_said property owner tree)
    by_owned (Some own) is = rw (is, bare_said) (only_plain (marked property own) tt)
    by_owned None is = rw (is, bare_said) refl

inner_plain : (property : Property) (found : Option (List ℕ)) (right tree : Tree) → ((inner : List ℕ) → Plain (dynamic_at property Whole inner right))
    → Plain (elim found [ Some inner ↦ dynamic_at property Whole inner right | None ↦ refused BadIndicator tree ])
inner_plain property (Some inner) right tree all = all inner
inner_plain property None right tree all = refl

mutual
  dynamic_plain : (property : Property) (at : Standing) (owner : List ℕ) (tree : Tree) → Plain (dynamic_at property at owner tree)
  dynamic_plain property at owner (compound own (with_more left (with_more right none)) form span) =
      let tree = compound own (with_more left (with_more right none)) form span in
      by_said (is_joint at && bytes_eq own (codes ",")) (in_turn (dynamic_at property Joint owner left) (dynamic_at property Joint owner right)) _
      (turns (dynamic_at property Joint owner left) (dynamic_at property Joint owner right) (dynamic_plain property Joint owner left) (dynamic_plain property Joint owner right))
      (by_said (bytes_eq own (codes ":")) _ (bare_said property owner tree) (inner_plain property (atom_name left) right tree (λ inner. dynamic_plain property Whole inner right)) (bare_plain property owner tree))
  dynamic_plain property at owner (listed items span) = by_said (is_whole at) (each_dynamic property owner items) (refused BadIndicator (listed items span)) (each_dynamic_plain property owner items) refl
  dynamic_plain property at owner (atom own span) = by_said (is_whole at && bytes_eq own (codes "[]")) nothing (refused BadIndicator (atom own span)) no_parts refl
  dynamic_plain property at owner (paren inner span) = dynamic_plain property at owner inner
  dynamic_plain property at owner tree = refl

  each_dynamic_plain : (property : Property) (owner : List ℕ) (trees : Trees) → Plain (each_dynamic property owner trees)
  each_dynamic_plain property owner none = no_parts
  each_dynamic_plain property owner (with_more tree trees) =
      turns (dynamic_at property Item owner tree) (each_dynamic property owner trees) (dynamic_plain property Item owner tree) (each_dynamic_plain property owner trees)

all_taken : (ts : List Declaration) → All IsPlain (map takes ts)
all_taken [] = All-nil IsPlain
all_taken (t ∷ ts) = All-cons IsPlain (takes t) (map takes ts) tt (all_taken ts)

pub some_plain : (user : List ℕ) (file : Tree) (told : Result (List Indicator) Refusal) → Any told → Plain (some_said user file told)
some_plain user file (Ok items) any = load_plain user UseSome items file
some_plain user file (Err refusal) any = turns (load_said user UseSome [] file) (Err refusal) (load_plain user UseSome [] file) any

item_any : (item : Tree) → Any (item_exports item)
item_any item = by_any (is_operator item) (Ok []) (one_indicator item) tt (one_any item)

exports_any : (list : Tree) → Any (exports list)
exports_any list = by_list (list_of list)
  where
    by_list : (found : Option (List Tree)) → Any (exports_of list found)
    by_list (Some items) = any_each item_exports item_any items
    by_list None = refl

module_one : (name list : Tree) (from : ℕ) → One true (module_said name list from)
module_one name list from = by_name (module_name name) refl
  where
    of_exports : (own : List ℕ) (told : Result (List Indicator) Refusal) → Any told → One true (declared_said own from told)
    of_exports own (Ok exports) any = inr (refl, (record { name = own; from = from; exports = exports }, refl))
    of_exports own (Err refusal) any = any

    by_name : (found : Option (List ℕ)) → module_name name ≡ found → One true (module_said name list from)
    by_name (Some own) is = rw (is, module_said) (of_exports own (exports list) (exports_any list))
    by_name None is = rw (is, module_said) refl

pub one_said_plain : (user : Home) (name : List ℕ) (argument tree : Tree) → Plain (one_said user name argument tree)
one_said_plain user name argument tree =
    by_said (bytes_eq name (codes "use_module")) (use_all_said user.file argument) _ (use_all_plain user.file argument)
    (by_said (is_among (codes "ensure_loaded" ∷ codes "consult" ∷ []) name) (load_said user.file Ensure [] argument) _ (load_plain user.file Ensure [] argument)
    (by_said (bytes_eq name (codes "dynamic")) (dynamic_said Dynamic user.module_ argument) _ (dynamic_plain Dynamic Whole user.module_ argument)
    (by_said (bytes_eq name (codes "multifile")) (dynamic_said Multifile user.module_ argument) _ (dynamic_plain Multifile Whole user.module_ argument)
    (by_said (bytes_eq name (codes "meta_predicate")) (meta_said user.module_ argument) _ (all_taken (takes_of user.module_ argument))
    (by_said (is_among silent_names name) nothing _ no_parts
    (by_said (is_among outside_names name) (refused NotInProfile tree) (only (goal tree)) refl (only_plain (goal tree) tt)))))))

late_or_first : (first : Bool) (left right tree : Tree) → One first (if first then module_said left right (start_of tree) else refused LateModule tree)
late_or_first true left right tree = module_one left right (start_of tree)
late_or_first false left right tree = refl

two_said_one : (user : Home) (first : Bool) (name : List ℕ) (left right tree : Tree) → One first (two_said user first name left right tree)
two_said_one user first name left right tree =
    by_one first (bytes_eq name (codes "module")) _ _ (late_or_first first left right tree)
    (plain_one first _
    (by_said (bytes_eq name (codes "use_module")) (use_some_said user.file left right) _ (some_plain user.file left (listed_indicators right) (listed_any right))
    (by_said (bytes_eq name (codes "set_prolog_flag")) nothing _ no_parts
    (by_said (bytes_eq name (codes "reexport")) (refused NotInProfile tree) (only (goal tree)) refl (only_plain (goal tree) tt)))))

pub three_said_plain : (name : List ℕ) (tree : Tree) → Plain (three_said name tree)
three_said_plain name tree =
    by_said (bytes_eq name (codes "op")) nothing _ no_parts
    (by_said (bytes_eq name (codes "use_module")) (refused NotInProfile tree) (only (goal tree)) refl (only_plain (goal tree) tt))

compound_one : (user : Home) (first : Bool) (name : List ℕ) (args : Trees) (form : Form) (span : Span) → One first (shallow_said user first (compound name args form span))
compound_one user first name none form span = inl (only_plain (goal (compound name none form span)) tt)
compound_one user first name (with_more a none) form span =
    plain_one first (one_said user name a (compound name (with_more a none) form span)) (one_said_plain user name a (compound name (with_more a none) form span))
compound_one user first name (with_more a (with_more b none)) form span = two_said_one user first name a b (compound name (with_more a (with_more b none)) form span)
compound_one user first name (with_more a (with_more b (with_more c none))) form span =
    plain_one first (three_said name (compound name (with_more a (with_more b (with_more c none))) form span))
    (three_said_plain name (compound name (with_more a (with_more b (with_more c none))) form span))
compound_one user first name (with_more a (with_more b (with_more c (with_more d others)))) form span =
    inl (only_plain (goal (compound name (with_more a (with_more b (with_more c (with_more d others)))) form span)) tt)

shallow_one : (user : Home) (first : Bool) (tree : Tree) → One first (shallow_said user first tree)
shallow_one user first (compound name args form span) = compound_one user first name args form span
shallow_one user first (atom name span) =
    plain_one first _
    (by_said (is_among (codes "else" ∷ codes "endif" ∷ []) name) (refused NotInProfile (atom name span)) (only (goal (atom name span))) refl (only_plain (goal (atom name span)) tt))
shallow_one user first (listed items span) = plain_one first (loads_said user.file Ensure (trees_in items)) (loads_plain user.file Ensure (trees_in items))
shallow_one user first (tailed items tail span) = refl
shallow_one user first tree = inl (only_plain (goal tree) tt)

pub directive_one : (user : Home) (first : Bool) (tree : Tree) → One first (directive_said user first tree)
directive_one user first (compound name (with_more left (with_more right none)) form span) =
    by_one first (bytes_eq name (codes ",")) (in_turn (directive_said user false left) (directive_said user false right)) _
    (plain_one first (in_turn (directive_said user false left) (directive_said user false right))
    (turns (directive_said user false left) (directive_said user false right) (one_plain (directive_said user false left) (directive_one user false left))
    (one_plain (directive_said user false right) (directive_one user false right))))
    (shallow_one user first (compound name (with_more left (with_more right none)) form span))
directive_one user first (paren inner span) = directive_one user first inner
directive_one user first tree = shallow_one user first tree

-- clauses

pub clause_one : (user : Home) (first : Bool) (tree : Tree) → One first (clause_said user first tree)
clause_one user first tree = by_term (directive_of tree) refl
  where
    by_term : (found : Option Tree) → directive_of tree ≡ found → One first (clause_said user first tree)
    by_term (Some term) is = rw (is, clause_said) (directive_one user first term)
    by_term None is = rw (is, clause_said) (plain_one first (headed (clause_head user.module_ tree) tree) (headed_plain (clause_head user.module_ tree) tree (clause_head_any user.module_ tree)))

pub later_plain : (user : Home) (tree : Tree) → Plain (clause_said user false tree)
later_plain user tree = one_plain (clause_said user false tree) (clause_one user false tree)

pub later_all_plain : (user : Home) (trees : List Tree) → Plain (each_said (clause_said user false) trees)
later_all_plain user trees = plain_each (clause_said user false) (later_plain user) trees
