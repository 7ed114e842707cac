-- Heads have no more arguments than stand within their clause.
use Rattle.std.proofs.Common.{◌≡◌, ℕ, ◌+◌, ◌≤◌, Bool, true, false, List, Option, Some, None, Result, Ok, Err, codes, refl, arith, if◌then◌else◌, ap, sym, ◌∙◌}
use Rattle.std.specs.Str.{bytes_eq}
use Rattle.prolog_terms.specs.Tree.{Tree, compound, paren, more, none}
use Rattle.prolog_terms.specs.Views.{inside, start_of, Binary, binary_at, binary, sides_of, Named, name_and_arity, atom_name}
use Rattle.prolog_terms.specs.Weight.{weight}
use Rattle.prolog_terms.proofs.ViewLemmas.{inside_weight, sides_weight, arity_weight, of_sides, of_none}
use Rattle.clause_text.specs.declared.cause.Cause.{Cause}
use Rattle.clause_text.specs.declared.cause.Cause.TheVariants.{ControlHead, BadHead}
use Rattle.module_table.specs.Said.{Refusal, IsWhy}
use Rattle.module_table.specs.declared.said.FactFault.{FactFault}
use Rattle.module_table.specs.declared.said.FactFault.TheVariants.{At, NoMemory}
use Rattle.module_table.specs.Heads.{is_among, control_names, headless_names, head_named, plain_head, within, behind_modules, Owned, owned_by, head, is_pushback, before_pushback, grammar_head}
use Rattle.module_table.specs.Facts.{with_added, head_with, clause_head}

abbrev told : Named → Result Named Refusal
told named = Ok named

ok_named : (own named : Named) → told own ≡ told named → own ≡ named
ok_named own named is = cc

abbrev told_owned : Owned → Result Owned Refusal
told_owned own = Ok own

ok_owned : (own other : Owned) → told_owned own ≡ told_owned other → own ≡ other
ok_owned own other is = cc

pub why_added : (said : Result Owned Refusal) (fault : FactFault) → IsWhy said fault → IsWhy (with_added 2 said) fault
why_added said (At cause offset) why = ap (with_added 2) why
why_added said NoMemory why = tt

pub why_owned : (owner : List ℕ) (said : Result Named Refusal) (fault : FactFault) → IsWhy said fault → IsWhy (owned_by owner said) fault
why_owned owner said (At cause offset) why = ap (owned_by owner) why
why_owned owner said NoMemory why = tt

pub grammar_said : (owner : List ℕ) (tree : Tree) (pair : Binary) → binary tree ≡ Some pair → bytes_eq pair.name (codes ":-") ≡ false → bytes_eq pair.name (codes "-->") ≡ true
    → with_added 2 (head owner (grammar_head pair.left)) ≡ clause_head owner tree
grammar_said owner tree pair is rule grammar =
    let here : with_added 2 (head owner (grammar_head pair.left)) ≡ head_with owner tree (Some pair) = rw (rule, grammar) refl in
    here ∙ ap (head_with owner tree) (sym is)

-- two arguments weigh less than their term

pair_at_weight : (tree : Tree) (pair : Binary) → binary_at tree ≡ Some pair → weight pair.left + weight pair.right + 2 ≤ weight tree
pair_at_weight (compound name (more left (more right none)) form span) pair is =
    let same : record { name = name; left = left; right = right } ≡ pair = (let both : Some _ ≡ Some pair = is in cc) in
    omega (arith, ap (λ (p : Binary). weight p.left) same, ap (λ (p : Binary). weight p.right) same)
pair_at_weight tree pair is = let both : None ≡ Some pair = is in absurd (cc)

pub pair_weight : (tree : Tree) (pair : Binary) → binary tree ≡ Some pair → weight pair.left + weight pair.right + 2 ≤ weight tree
pair_weight tree pair is = omega (arith, pair_at_weight (inside tree) pair is, inside_weight tree)

pub grammar_weight : (tree : Tree) → weight (grammar_head tree) ≤ weight tree
grammar_weight tree = by_sides (sides_of (codes ",") tree) refl
  where
    chosen : (pushback : Bool) (left : Tree) → weight left ≤ weight tree → weight (if pushback then left else tree) ≤ weight tree
    chosen true left less = less
    chosen false left less = omega arith

    by_sides : (found : Option (Tree × Tree)) → sides_of (codes ",") tree ≡ found → weight (before_pushback tree found) ≤ weight tree
    by_sides (Some (left, right)) is = chosen (is_pushback right) left (omega (arith, sides_weight (codes ",") tree left right is))
    by_sides None is = omega arith

-- the arguments of a head

named_is : (control headless : Bool) (x y : Refusal) (own named : Named) → (if control then Err x else if headless then Err y else Ok own) ≡ Ok named → named.arity ≤ own.arity
named_is true headless x y own named is = let both : Err x ≡ Ok named = is in absurd (cc)
named_is false true x y own named is = let both : Err y ≡ Ok named = is in absurd (cc)
named_is false false x y own named is = let same = ok_named own named is in omega (arith, ap (λ (p : Named). p.arity) same)

abbrev fault_at : Cause → Tree → Refusal
fault_at cause tree = record { cause = cause; offset = start_of tree }

plain_small : (tree : Tree) (named : Named) → plain_head tree ≡ Ok named → named.arity ≤ weight tree
plain_small tree named is = by_name (name_and_arity tree) refl is
  where
    by_name : (found : Option Named) → name_and_arity tree ≡ found → head_named tree found ≡ Ok named → named.arity ≤ weight tree
    by_name (Some own) found same =
        omega (
          arith,
          arity_weight tree own found,
          named_is (is_among (control_names own.arity) own.name) (is_among (headless_names own.arity) own.name) (fault_at ControlHead tree) (fault_at BadHead tree) own named same,
        )
    by_name None found same = let both : Err (fault_at BadHead tree) ≡ Ok named = same in absurd (cc)

-- what stands behind the names of modules weighs no more

of_test : (owner : List ℕ) (tree right : Tree) (test : Bool) (found : Option (List ℕ)) → ((own : List ℕ) → weight (behind_modules own right).tree ≤ weight tree)
    → weight (if test then elim found [ Some own ↦ behind_modules own right | None ↦ within owner tree ] else within owner tree).tree ≤ weight tree
of_test owner tree right true (Some own) all = all own
of_test owner tree right true None all = omega arith
of_test owner tree right false found all = omega arith

behind_weight : (owner : List ℕ) (tree : Tree) → weight (behind_modules owner tree).tree ≤ weight tree
behind_weight owner (compound name (more left (more right none)) form span) =
    of_test owner (compound name (more left (more right none)) form span) right (bytes_eq name (codes ":")) (atom_name left) (λ own. omega (arith, behind_weight own right))
behind_weight owner (paren inner span) = omega (arith, behind_weight owner inner)
behind_weight owner tree = omega arith

owned_small : (n : ℕ) (owner : List ℕ) (told : Result Named Refusal) (own : Owned) → ((named : Named) → told ≡ Ok named → named.arity ≤ n) → owned_by owner told ≡ Ok own
    → own.arity ≤ n
owned_small n owner (Ok named) own below is =
    let same = ok_owned (record { module_ = owner; name = named.name; arity = named.arity }) own is in
    omega (arith, below named refl, ap (λ (p : Owned). p.arity) same)
owned_small n owner (Err refusal) own below is = let both : Err refusal ≡ Ok own = is in absurd (cc)

pub head_small : (owner : List ℕ) (tree : Tree) (own : Owned) → head owner tree ≡ Ok own → own.arity ≤ weight tree
head_small owner tree own is =
    let behind = behind_modules owner tree in
    omega (
      arith,
      behind_weight owner tree,
      owned_small (weight behind.tree) behind.module_ (plain_head behind.tree) own (λ named told. plain_small behind.tree named told) is,
    )

added_small : (n : ℕ) (told : Result Owned Refusal) (named : Owned) → ((own : Owned) → told ≡ Ok own → own.arity ≤ n) → with_added 2 told ≡ Ok named → named.arity ≤ n + 2
added_small n (Ok own) named below is =
    let same = ok_owned (record { module_ = own.module_; name = own.name; arity = own.arity + 2 }) named is in
    omega (arith, below own refl, ap (λ (p : Owned). p.arity) same)
added_small n (Err refusal) named below is = let both : Err refusal ≡ Ok named = is in absurd (cc)

pub clause_small : (owner : List ℕ) (tree : Tree) (named : Owned) → clause_head owner tree ≡ Ok named → named.arity ≤ weight tree
clause_small owner tree named is = by_pair (binary tree) refl is
  where
    chosen : (rule grammar : Bool) (pair : Binary) → weight pair.left + weight pair.right + 2 ≤ weight tree
        → (if rule then head owner pair.left else if grammar then with_added 2 (head owner (grammar_head pair.left)) else head owner tree) ≡ Ok named → named.arity ≤ weight tree
    chosen true grammar pair less same = omega (arith, less, head_small owner pair.left named same)
    chosen false true pair less same =
        omega (
          arith,
          less,
          grammar_weight pair.left,
          added_small (weight (grammar_head pair.left)) (head owner (grammar_head pair.left)) named (λ own told. head_small owner (grammar_head pair.left) own told) same,
        )
    chosen false false pair less same = head_small owner tree named same

    by_pair : (found : Option Binary) → binary tree ≡ found → head_with owner tree found ≡ Ok named → named.arity ≤ weight tree
    by_pair (Some pair) found same = chosen (bytes_eq pair.name (codes ":-")) (bytes_eq pair.name (codes "-->")) pair (pair_weight tree pair found) same
    by_pair None found same = head_small owner tree named same

-- what stands behind the names of modules, by the sides of a colon

behind_colon : (owner : List ℕ) (tree l r : Tree) → sides_of (codes ":") tree ≡ Some (l, r)
    → behind_modules owner tree ≡ elim (atom_name l) [ Some own ↦ behind_modules own r | None ↦ within owner (inside tree) ]
behind_colon owner (compound name (more left (more right none)) form span) l r is =
    let tree = compound name (more left (more right none)) form span in
    of_sides (λ a b. elim (atom_name a) [ Some own ↦ behind_modules own b | None ↦ within owner tree ]) (within owner tree) (bytes_eq name (codes ":")) left right l r is
behind_colon owner (paren inner span) l r is = behind_colon owner inner l r is
behind_colon owner tree l r is = let both : None ≡ Some (l, r) = is in absurd (cc)

pub behind_some : (owner : List ℕ) (tree l r : Tree) (own : List ℕ) → sides_of (codes ":") tree ≡ Some (l, r) → atom_name l ≡ Some own
    → behind_modules owner tree ≡ behind_modules own r
behind_some owner tree l r own is named =
    behind_colon owner tree l r is ∙ ap (λ found. elim found [ Some inner ↦ behind_modules inner r | None ↦ within owner (inside tree) ]) named

pub behind_nameless : (owner : List ℕ) (tree l r : Tree) → sides_of (codes ":") tree ≡ Some (l, r) → atom_name l ≡ None
    → behind_modules owner tree ≡ within owner (inside tree)
behind_nameless owner tree l r is named =
    behind_colon owner tree l r is ∙ ap (λ found. elim found [ Some inner ↦ behind_modules inner r | None ↦ within owner (inside tree) ]) named

pub behind_none : (owner : List ℕ) (tree : Tree) → sides_of (codes ":") tree ≡ None → behind_modules owner tree ≡ within owner (inside tree)
behind_none owner (compound name (more left (more right none)) form span) is =
    let tree = compound name (more left (more right none)) form span in
    of_none (λ a b. elim (atom_name a) [ Some own ↦ behind_modules own b | None ↦ within owner tree ]) (within owner tree) (bytes_eq name (codes ":")) left right is
behind_none owner (paren inner span) is = behind_none owner inner is
behind_none owner tree is = refl
