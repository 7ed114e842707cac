-- Whether lists of items have some.
use Rattle.std.proofs.Common.{◌≡◌, List, [], ◌∷◌, ◌++◌, Option, Some, None, true, false, filter_map, option_to_list, is_some, map, refl}
use Rattle.std.specs.List.{list_any}
use Rattle.prolog_terms.specs.declared.term.Term.{Term}
use Rattle.prolog_terms.specs.Tree.{Tree}
use Rattle.prolog_terms.specs.Terms.{tree_of}
use Rattle.clause_text.specs.Items.{Item, has_some}

-- of two lists one behind the other
pub some_first : (items others : List Item) → has_some items ≡ true → true ≡ has_some (items ++ others)
some_first [] others some = let both : false ≡ true = some in cc
some_first (item ∷ items) others some = refl

pub some_behind : (items others : List Item) → has_some items ≡ false → has_some others ≡ has_some (items ++ others)
some_behind [] others none = refl
some_behind (item ∷ items) others none = let both : true ≡ false = none in cc

pub some_alone : (item : Option Item) → is_some item ≡ has_some (option_to_list item)
some_alone None = refl
some_alone (Some item) = refl

-- of terms, where one of them is an item
pub some_listed : (of : Tree → Option Item) (terms : List Term) → list_any (λ term. is_some (of (tree_of term))) terms ≡ has_some (filter_map of (map tree_of terms))
some_listed of [] = refl
some_listed of (term ∷ terms) = first (of (tree_of term)) refl (some_listed of terms)
  where
    first : (said : Option Item) → of (tree_of term) ≡ said → list_any (λ term. is_some (of (tree_of term))) terms ≡ has_some (filter_map of (map tree_of terms))
        → list_any (λ term. is_some (of (tree_of term))) (term ∷ terms) ≡ has_some (filter_map of (map tree_of (term ∷ terms)))
    first None says more = rw says more
    first (Some item) says more = rw says refl
