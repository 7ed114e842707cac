-- The module of a file is the one that its clauses are read for.
use Rattle.std.proofs.Common.{◌≡◌, ℕ, Bool, true, false, List, [], ◌∷◌, Option, Some, None, Result, Ok, Err, codes, refl, ap, sym, ◌∙◌, subst, if◌then◌else◌}
use Rattle.std.specs.List.{filter_map}
use Rattle.std.specs.Str.{bytes_eq}
use Rattle.std.proofs.lemmas.Slice.Eq.{bytes_eq-Decides}
use Rattle.prolog_terms.specs.Tree.{Tree, variable, constant, atom, compound, listed, tailed, curly, paren, more as with_more, none}
use Rattle.prolog_terms.specs.Views.{start_of, trees_in, sides_of, atom_name}
use Rattle.clause_text.specs.Items.{directive_of}
use Rattle.clause_text.specs.declared.cause.Cause.TheVariants.{NotInProfile}
use Rattle.module_table.specs.declared.indicator.Indicator.{Indicator}
use Rattle.module_table.specs.declared.load.LoadKind.TheVariants.{Ensure}
use Rattle.module_table.specs.Said.{Said, Declares, goal, Refusal, refused, in_turn, each_said, nothing, only}
use Rattle.module_table.specs.Kinds.{declared_part, first_of, IsModule}
use Rattle.module_table.specs.Heads.{is_among}
use Rattle.module_table.specs.Indicators.{listed_indicators}
use Rattle.module_table.specs.Loading.{loads_said}
use Rattle.module_table.specs.Directives.{Home, home, use_some_said, exports, declared_said, module_name, module_said, one_said, three_said, directive_said}
use Rattle.module_table.specs.Facts.{Facts, AreFacts, clause_head, headed, clause_said, named_module, module_by, module_of}
use Rattle.laws.specs.Turns.{module_in, first_module}
use Rattle.laws.proofs.Turns.{both_say}
use Rattle.laws.proofs.Causes.{Plain, by_said, turns, only_plain, no_parts, some_plain, listed_any, loads_plain, one_said_plain, three_said_plain, headed_plain, clause_head_any, directive_one, one_plain}
use Rattle.laws.proofs.Modules.{none_declared, module_kept}

abbrev name_or_user : Option Declares → List ℕ
name_or_user (Some own) = own.name
name_or_user None = codes "user"

-- where it says parts, they declare that module, or none where it is `user`
abbrev OwnIs : List ℕ → Said → Type 0
OwnIs name (Ok parts) = name_or_user (first_of (filter_map declared_part parts)) ≡ name
OwnIs name (Err refusal) = Unit {0}

plain_own : (said : Said) → Plain said → OwnIs (codes "user") said
plain_own (Ok parts) plain = ap (λ ds. name_or_user (first_of ds)) (none_declared parts plain)
plain_own (Err refusal) plain = tt

pick : (test : Bool) (a b : Said) (sides : Option (Tree × Tree)) → OwnIs (named_module sides) a → OwnIs (codes "user") b
    → OwnIs (named_module (if test then sides else None)) (if test then a else b)
pick true a b sides first second = first
pick false a b sides first second = second

by_bool : (name : List ℕ) (test : Bool) (a b : Said) → (test ≡ true → OwnIs name a) → OwnIs name b → OwnIs name (if test then a else b)
by_bool name true a b first second = first refl
by_bool name false a b first second = second

-- `module(M, L)`

declared_own : (name : List ℕ) (from : ℕ) (told : Result (List Indicator) Refusal) → OwnIs name (declared_said name from told)
declared_own name from (Ok exports) = refl
declared_own name from (Err refusal) = tt

abbrev unless_user : Bool → List ℕ → Option (List ℕ)
unless_user test name = if test then None else Some name

module_own : (left right : Tree) (from : ℕ) → OwnIs (named_module (Some (left, right))) (module_said left right from)
module_own left right from = by_name (atom_name left) refl
  where
    by_test : (name : List ℕ) (test : Bool) → module_name left ≡ unless_user test name → OwnIs name (module_said left right from)
    by_test name true is = rw (is, module_said) tt
    by_test name false is = rw (is, module_said) (declared_own name from (exports right))

    by_name : (found : Option (List ℕ)) → atom_name left ≡ found → OwnIs (named_module (Some (left, right))) (module_said left right from)
    by_name (Some name) is = rw (is, named_module) (by_test name (bytes_eq name (codes "user")) (rw (is, module_name) refl))
    by_name None is =
        let none_named : module_name left ≡ None = rw (is, module_name) refl in
        rw (none_named, module_said) tt

module _ (user : Home) where
  -- a comma is no `module(M, L)`
  comma_own : (name : List ℕ) (left right : Tree) → bytes_eq name (codes ",") ≡ true
      → OwnIs (named_module (if bytes_eq name (codes "module") then Some (left, right) else None)) (in_turn (directive_said user false left) (directive_said user false right))
  comma_own name left right comma =
      let is : name ≡ codes "," = (bytes_eq-Decides name (codes ",")).0 comma in
      let none_named : (if bytes_eq name (codes "module") then Some (left, right) else None) ≡ None =
      ap (λ n. if bytes_eq n (codes "module") then Some (left, right) else None) is in
      let said = in_turn (directive_said user false left) (directive_said user false right) in
      subst (λ sides. OwnIs (named_module sides) said) (sym none_named)
      (plain_own said (turns (directive_said user false left) (directive_said user false right)
      (one_plain (directive_said user false left) (directive_one user false left)) (one_plain (directive_said user false right) (directive_one user false right))))

  directive_own : (tree : Tree) → OwnIs (named_module (sides_of (codes "module") tree)) (directive_said user true tree)
  directive_own (compound name (with_more left (with_more right none)) form span) =
      let tree = compound name (with_more left (with_more right none)) form span in
      by_bool (named_module (sides_of (codes "module") tree)) (bytes_eq name (codes ",")) (in_turn (directive_said user false left) (directive_said user false right)) _
      (comma_own name left right)
      (pick (bytes_eq name (codes "module")) _ _ (Some (left, right)) (module_own left right (start_of tree))
      (plain_own _
      (by_said (bytes_eq name (codes "use_module")) (use_some_said user.file left right) _ (some_plain user.file left (listed_indicators right) (listed_any right))
      (by_said (bytes_eq name (codes "set_prolog_flag")) nothing _ no_parts
      (by_said (bytes_eq name (codes "reexport")) (refused NotInProfile tree) (only (goal tree)) refl (only_plain (goal tree) tt))))))
  directive_own (compound name none form span) = refl
  directive_own (compound name (with_more a none) form span) =
      let tree = compound name (with_more a none) form span in plain_own (one_said user name a tree) (one_said_plain user name a tree)
  directive_own (compound name (with_more a (with_more b (with_more c none))) form span) =
      let tree = compound name (with_more a (with_more b (with_more c none))) form span in plain_own (three_said name tree) (three_said_plain name tree)
  directive_own (compound name (with_more a (with_more b (with_more c (with_more d others)))) form span) = refl
  directive_own (atom name span) =
      plain_own _
      (by_said (is_among (codes "else" ∷ codes "endif" ∷ []) name) (refused NotInProfile (atom name span)) (only (goal (atom name span))) refl (only_plain (goal (atom name span)) tt))
  directive_own (listed items span) = plain_own (loads_said user.file Ensure (trees_in items)) (loads_plain user.file Ensure (trees_in items))
  directive_own (tailed items tail span) = tt
  directive_own (variable span) = refl
  directive_own (constant kind minus value span) = refl
  directive_own (curly inner span) = refl
  directive_own (paren inner span) = directive_own inner

  clause_own : (tree : Tree) → OwnIs (module_by tree) (clause_said user true tree)
  clause_own tree = by_term (directive_of tree) refl
    where
      by_term : (found : Option Tree) → directive_of tree ≡ found → OwnIs (module_by tree) (clause_said user true tree)
      by_term (Some term) is = rw (is, clause_said, module_by) (directive_own term)
      by_term None is =
          rw (is, clause_said, module_by)
          (plain_own (headed (clause_head user.module_ tree) tree) (headed_plain (clause_head user.module_ tree) tree (clause_head_any user.module_ tree)))

named_by : (own : Option Declares) (name : List ℕ) (declared : Bool) (from : ℕ) (exported : List Indicator) → IsModule own name declared from exported → name ≡ name_or_user own
named_by (Some own) name declared from exported is = is.0
named_by None name declared from exported is = is.0

-- the module of the facts is the one for which heads and directives without a module are read
pub own_module : (user : List ℕ) (trees : List Tree) (facts : Facts) → AreFacts user trees facts → facts.module_ ≡ module_of trees
own_module user [] facts are = (module_kept user [] facts are).0
own_module file (tree ∷ trees) facts are =
    let user = home file (module_by tree) in
    let both = both_say (clause_said user true tree) (each_said (clause_said user false) trees) are.parts are.said in
    let own : name_or_user (module_in (clause_said user true tree)) ≡ module_by tree =
    ap (λ said. name_or_user (module_in said)) both.says ∙ subst (OwnIs (module_by tree)) both.says (clause_own user tree) in
    named_by (first_module file (tree ∷ trees)) facts.module_ facts.is_module facts.module_from facts.exports (module_kept file (tree ∷ trees) facts are) ∙ own
