-- What is said of terms that commas and slashes join, by their sides.
use Rattle.std.proofs.Common.{◌≡◌, ℕ, Bool, false, List, Some, None, codes, refl}
use Rattle.std.specs.Str.{bytes_eq}
use Rattle.prolog_terms.specs.Tree.{Tree, atom, compound, paren, more as with_more, none}
use Rattle.prolog_terms.specs.Views.{inside, sides_of, atom_name}
use Rattle.prolog_terms.proofs.ViewLemmas.{of_sides, of_none}
use Rattle.module_table.specs.Said.{in_turn}
use Rattle.module_table.specs.Loading.{both_texts, path_text}
use Rattle.module_table.specs.Directives.{Home, shallow_said, directive_said}

-- commas

pub directive_sides : (user : Home) (first : Bool) (tree l r : Tree) → sides_of (codes ",") tree ≡ Some (l, r)
    → directive_said user first tree ≡ in_turn (directive_said user false l) (directive_said user false r)
directive_sides user first (compound name (with_more left (with_more right none)) form span) l r is =
    of_sides (λ a b. in_turn (directive_said user false a) (directive_said user false b))
    (shallow_said user first (compound name (with_more left (with_more right none)) form span)) (bytes_eq name (codes ",")) left right l r is
directive_sides user first (paren inner span) l r is = directive_sides user first inner l r is
directive_sides user first tree l r is = let none : None ≡ Some (l, r) = is in absurd (cc)

pub directive_alone : (user : Home) (first : Bool) (tree : Tree) → sides_of (codes ",") tree ≡ None → directive_said user first tree ≡ shallow_said user first (inside tree)
directive_alone user first (compound name (with_more left (with_more right none)) form span) is =
    of_none (λ a b. in_turn (directive_said user false a) (directive_said user false b))
    (shallow_said user first (compound name (with_more left (with_more right none)) form span)) (bytes_eq name (codes ",")) left right is
directive_alone user first (paren inner span) is = directive_alone user first inner is
directive_alone user first tree is = refl

-- slashes

pub path_sides : (tree l r : Tree) → sides_of (codes "/") tree ≡ Some (l, r) → path_text tree ≡ both_texts (path_text l) (path_text r)
path_sides (compound name (with_more left (with_more right none)) form span) l r is =
    of_sides (λ a b. both_texts (path_text a) (path_text b)) None (bytes_eq name (codes "/")) left right l r is
path_sides (paren inner span) l r is = path_sides inner l r is
path_sides tree l r is = let none : None ≡ Some (l, r) = is in absurd (cc)

pub path_alone : (tree : Tree) → atom_name tree ≡ None → sides_of (codes "/") tree ≡ None → path_text tree ≡ None
path_alone (compound name (with_more left (with_more right none)) form span) atomic is =
    of_none (λ a b. both_texts (path_text a) (path_text b)) None (bytes_eq name (codes "/")) left right is
path_alone (paren inner span) atomic is = path_alone inner atomic is
path_alone (atom name span) atomic is = let none : Some name ≡ None = atomic in absurd (cc)
path_alone tree atomic is = refl

pub path_atom : (tree : Tree) (name : List ℕ) → atom_name tree ≡ Some name → path_text tree ≡ Some name
path_atom (paren inner span) name is = path_atom inner name is
path_atom (atom own span) name is = is
path_atom tree name is = let none : None ≡ Some name = is in absurd (cc)
