-- What directives say that commas join or brackets enclose.
use Rattle.std.proofs.Common.{◌≡◌, Bool, true, false, ◌++◌, [], ◌∷◌, codes, refl, sym, ◌∙◌, if◌then◌else◌}
use Rattle.std.specs.Str.{bytes_eq}
use Rattle.prolog_terms.specs.Tree.{Tree, variable, constant, atom, compound, listed, tailed, curly, paren, more as with_more, none}
use Rattle.prolog_terms.specs.Views.{inside, joined}
use Rattle.module_table.specs.Said.{Said, in_turn, each_said}
use Rattle.module_table.specs.Directives.{Home, shallow_said, directive_said}
use Rattle.module_table.proofs.SaidLemmas.{each_append, in_turn_none}

pub said_inside : (user : Home) (first : Bool) (tree : Tree) → directive_said user first tree ≡ directive_said user first (inside tree)
said_inside user first (variable span) = refl
said_inside user first (constant kind minus value span) = refl
said_inside user first (atom name span) = refl
said_inside user first (compound name args form span) = refl
said_inside user first (listed items span) = refl
said_inside user first (tailed items tail span) = refl
said_inside user first (curly inner span) = refl
said_inside user first (paren inner span) = said_inside user first inner

abbrev says : Home → Tree → Said
says user tree = directive_said user false tree

-- a term that is no comma is one
alone : (user : Home) (tree : Tree) → says user tree ≡ each_said (directive_said user false) (tree ∷ [])
alone user tree = sym (in_turn_none (says user tree))

by_comma : (user : Home) (tree left right : Tree) (test : Bool) (shallow : Said) → says user tree ≡ (if test then in_turn (says user left) (says user right) else shallow)
    → says user left ≡ each_said (directive_said user false) (joined left) → says user right ≡ each_said (directive_said user false) (joined right)
    → says user tree ≡ each_said (directive_said user false) (if test then joined left ++ joined right else tree ∷ [])
by_comma user tree left right true shallow is one other =
    is ∙ ((λ i. in_turn (one i) (other i)) ∙ sym (each_append (directive_said user false) (joined left) (joined right)))
by_comma user tree left right false shallow is one other = alone user tree

pub said_joined : (user : Home) (tree : Tree) → directive_said user false tree ≡ each_said (directive_said user false) (joined tree)
said_joined user (compound name (with_more left (with_more right none)) form span) =
    by_comma user (compound name (with_more left (with_more right none)) form span) left right (bytes_eq name (codes ","))
    (shallow_said user false (compound name (with_more left (with_more right none)) form span)) refl (said_joined user left) (said_joined user right)
said_joined user (paren inner span) = said_joined user inner
said_joined user tree = alone user tree
