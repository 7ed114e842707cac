-- What the clauses of a file say, one more.
use Rattle.std.proofs.Common.{◌≡◌, Some, None, Bool, true, false, List, [], ◌∷◌, ◌++◌, Ok, refl, ap, sym, ◌∙◌, subst}
use Rattle.prolog_terms.specs.Tree.{Tree}
use Rattle.clause_text.specs.Items.{directive_of}
use Rattle.module_table.specs.declared.said.FactFault.{FactFault}
use Rattle.module_table.specs.Said.{Part, in_turn, each_said, IsWhy}
use Rattle.module_table.specs.Directives.{Home, directive_said}
use Rattle.module_table.specs.Facts.{clause_head, headed, clause_said, trees_said}
use Rattle.module_table.proofs.SaidLemmas.{more_none, in_turn_none, in_turn_assoc, each_append, stops_first, stops_second}

-- what a directive says, its clause says
pub directive_clause : (user : Home) (first : Bool) (tree term : Tree) → directive_of tree ≡ Some term → directive_said user first term ≡ clause_said user first tree
directive_clause user first tree term is =
    sym (ap (λ found. elim found [ Some own ↦ directive_said user first own | None ↦ headed (clause_head user.module_ tree) tree ]) is)

-- first tells whether there is none yet
abbrev pub IsFirst : Bool → List Tree → Type 0
IsFirst first [] = first ≡ true
IsFirst first (tree ∷ trees) = first ≡ false

pub none_first : IsFirst true []
none_first = refl

pub more_first : (trees : List Tree) (tree : Tree) → IsFirst false (trees ++ tree ∷ [])
more_first [] tree = refl
more_first (other ∷ trees) tree = refl

module _ (user : Home) where
  -- one clause more, and those behind it
  pub file_more : (first : Bool) (before : List Tree) (tree : Tree) (behind : List Tree) → IsFirst first before
      → trees_said user (before ++ tree ∷ behind) ≡ in_turn (in_turn (trees_said user before) (clause_said user first tree)) (each_said (clause_said user false) behind)
  file_more first [] tree behind is =
      ap (λ s. in_turn s (each_said (clause_said user false) behind)) (sym (more_none (clause_said user first tree) ∙ ap (λ f. clause_said user f tree) is))
  file_more first (other ∷ before) tree behind is =
      let says = clause_said user false in
      let head = clause_said user true other in
      ap (in_turn head) (each_append says before (tree ∷ behind))
      ∙ (sym (in_turn_assoc head (each_said says before) (in_turn (says tree) (each_said says behind)))
      ∙ (sym (in_turn_assoc (in_turn head (each_said says before)) (says tree) (each_said says behind))
      ∙ ap (λ f. in_turn (in_turn (in_turn head (each_said says before)) (clause_said user f tree)) (each_said says behind)) (sym is)))

  pub file_one : (first : Bool) (before : List Tree) (tree : Tree) → IsFirst first before
      → trees_said user (before ++ tree ∷ []) ≡ in_turn (trees_said user before) (clause_said user first tree)
  file_one first before tree is = file_more first before tree [] is ∙ in_turn_none (in_turn (trees_said user before) (clause_said user first tree))

  pub file_stops : (first : Bool) (before : List Tree) (tree : Tree) (behind : List Tree) (parts : List Part) (fault : FactFault) → IsFirst first before
      → trees_said user before ≡ Ok parts → IsWhy (clause_said user first tree) fault → IsWhy (trees_said user (before ++ tree ∷ behind)) fault
  file_stops first before tree behind parts fault is said why =
      subst (λ s. IsWhy s fault) (sym (file_more first before tree behind is))
      (stops_first (in_turn (trees_said user before) (clause_said user first tree)) (each_said (clause_said user false) behind) fault
      (stops_second [] parts (trees_said user before) (clause_said user first tree) fault (more_none (trees_said user before) ∙ said) why))
